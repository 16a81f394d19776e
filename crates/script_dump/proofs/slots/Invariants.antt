-- `slots` meets its contract. The loop's invariant: the slots gone over are written.
use Rattle.script_fields.specs.Write.{Wrote}
use Rattle.script_dump.specs.Dump.{slots_from}
use Rattle.script_dump.proofs.slots.Given as goal

abbrev pub invariant-loop-i : goal.invariant-loop-i
invariant-loop-i l = Wrote (slots_from l.i l.marks l.all 0) l.initial.text l.text
