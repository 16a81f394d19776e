-- `fields` meets its contract. The loop's invariant: what was gone over is written.
use lib.ListN.{take}
use Rattle.std.specs.List.{flat_map}
use Rattle.script_fields.specs.Write.{Wrote, field_text}
use Rattle.script_fields.proofs.write.Text.fields.Given as goal

abbrev pub invariant-loop-n : goal.invariant-loop-n
invariant-loop-n l = Wrote (flat_map field_text (take l.n-index l.list)) l.initial.self l.self
