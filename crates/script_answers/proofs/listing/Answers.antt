-- `listing` meets its contract: two numbers, the entries, the sum, the newline. The loop's invariant: the entries gone over are written.
use Rattle.script_fields.specs.Write.{field_text}
use Rattle.script_answers.specs.Answer.{listing_text}
use Rattle.script_fields.proofs.Laws.{wrote_none, then, one_more, all_fields, fields}
use Rattle.script_answers.proofs.listing.Goals as goal

pub loop-b-init : goal.loop-b-init
loop-b-init c = wrote_none

pub loop-b-preserved : goal.loop-b-preserved
loop-b-preserved c = one_more field_text _ _ c.loop-b-test.true c.loop-b.invariant (rw c.from-in-loop-b.ensures at c.field.ensures)

pub returns : goal.returns
unfolding listing_text
returns c = then c.put.ensures (then (fields (cc) c.fields.ensures)
    (then (all_fields _ _ c.loop-b-test.false c.loop-b.invariant) (then (rw c.sum.ensures at c.field-2.ensures) c.put-2.ensures)))
