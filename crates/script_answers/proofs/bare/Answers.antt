-- `bare` meets its contract: two bytes, one after the other.
use Rattle.script_fields.proofs.Laws.{then}
use Rattle.script_answers.proofs.bare.Goals as goal

pub returns : goal.returns
returns c = then c.put.ensures c.put-2.ensures
