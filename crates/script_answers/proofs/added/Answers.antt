-- `added` meets its contract: the number alone, or the handle behind a 0.
use borrow.Author.Tests.{eq-eqb, ne_eqb}
use Rattle.script_answers.specs.Answer.{added_text}
use Rattle.script_fields.proofs.Laws.{then, fields}
use Rattle.script_answers.proofs.added.Goals as goal

pub returns-then-refusal-ne0 : goal.returns-then-refusal-ne0
unfolding added_text
returns-then-refusal-ne0 c = rw (ne_eqb _ _ c.if-refusal-ne0.true) (rw c.from.ensures at c.numbered.ensures)

pub returns : goal.returns
unfolding added_text
returns c = rw (eq-eqb _ _ c.if-refusal-ne0.false) (then c.put.ensures (then (fields (cc) c.fields.ensures) c.put-2.ensures))
