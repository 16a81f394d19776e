-- `pairs` meets its contract. The loop's invariant: what was gone over is written.
use lib.ListN.{take}
use Rattle.std.specs.List.{flat_map}
use Rattle.script_fields.specs.Write.{Wrote, hex_pair}
use Rattle.script_fields.proofs.write.Text.pairs.Given as goal

abbrev pub invariant-loop-b : goal.invariant-loop-b
invariant-loop-b l = Wrote (flat_map hex_pair (take l.b-index l.list)) l.initial.self l.self
