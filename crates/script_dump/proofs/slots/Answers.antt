-- `slots` meets its contract. The loop's invariant: the slots gone over are written.
use Rattle.script_dump.specs.Dump.{slot_if, slots_from}
use Rattle.script_fields.proofs.Laws.{wrote_none, then}
use Rattle.script_dump.proofs.Laws.{slots_more}
use Rattle.script_dump.proofs.slots.Goals.{then-marks-i, else-marks-i}
use Rattle.script_dump.proofs.slots.Goals as goal

pub loop-i-init : goal.loop-i-init
unfolding slots_from
loop-i-init c = wrote_none

pub loop-i-preserved : goal.loop-i-preserved
unfolding slot_if
loop-i-preserved c =
    rw (slots_more c.loop-i.i c.args.marks.now c.args.all.now)
    (then c.loop-i.invariant
    (elim c.if-marks-i.branch [
      | then-marks-i w ↦ rw (w.if-marks-i.true, w.text-is) w.slot.ensures
      | else-marks-i w ↦ rw (w.if-marks-i.false, w.text-is) wrote_none
    ]))
