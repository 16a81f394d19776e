-- `fields` meets its contract. The loop's invariant: what was gone over is written.
use Rattle.script_fields.specs.Write.{field_text}
use Rattle.script_fields.proofs.Laws.{wrote_none, one_more, all_fields}
use Rattle.script_fields.proofs.write.Text.fields.Goals as goal

pub loop-n-init : goal.loop-n-init
loop-n-init c = wrote_none

pub loop-n-preserved : goal.loop-n-preserved
loop-n-preserved c = one_more field_text _ _ c.loop-n-test.true c.loop-n.invariant c.field.ensures

pub returns : goal.returns
returns c = all_fields _ _ c.loop-n-test.false c.loop-n.invariant
