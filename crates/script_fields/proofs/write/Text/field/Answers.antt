-- `field` meets its contract: a space, and the digits.
use Rattle.script_fields.proofs.Laws.{then}
use Rattle.script_fields.proofs.write.Text.field.Goals as goal

pub returns : goal.returns
returns c = then c.put.ensures c.number.ensures
