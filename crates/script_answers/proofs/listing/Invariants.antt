-- `listing` meets its contract. The loop's invariant: the entries gone over are written.
use lib.ListN.{take}
use Rattle.std.specs.List.{flat_map}
use Rattle.script_fields.specs.Write.{Wrote, field_text}
use Rattle.script_answers.proofs.listing.Given as goal

abbrev pub invariant-loop-b : goal.invariant-loop-b
invariant-loop-b l = Wrote (flat_map field_text (take l.b-index l.listed)) l.initial.text l.text
