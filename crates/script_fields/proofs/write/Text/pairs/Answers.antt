-- `pairs` meets its contract. The loop's invariant: what was gone over is written.
use Rattle.script_fields.specs.Write.{hex_pair, hex_text}
use Rattle.script_fields.proofs.Laws.{wrote_none, then, one_more, whole_list}
use Rattle.script_fields.proofs.write.Text.pairs.Goals as goal

pub loop-b-init : goal.loop-b-init
loop-b-init c = wrote_none

pub loop-b-preserved : goal.loop-b-preserved
loop-b-preserved c = one_more hex_pair _ _ c.loop-b-test.true c.loop-b.invariant (rw (← c.hex.ensures, ← c.hex-in-loop-b.ensures) (then c.put.ensures c.put-in-loop-b.ensures))

pub returns : goal.returns
unfolding hex_text
returns c = whole_list hex_pair _ _ c.loop-b-test.false c.loop-b.invariant
