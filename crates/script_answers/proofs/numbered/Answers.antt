-- `numbered` meets its contract: the letter, the number, the newline.
use Rattle.script_fields.proofs.Laws.{then}
use Rattle.script_answers.proofs.numbered.Goals as goal

pub returns : goal.returns
returns c = then c.put.ensures (then c.field.ensures c.put-2.ensures)
