-- The loop's invariant is `Going`: what is left to visit gives what all visits give.
use Prim.Native.Nat.{◌-◌}
use Rattle.peripheral_set.specs.Marks.{slots, or_slots}
use Rattle.master.specs.Turn.{sweep_from}
use Rattle.master.proofs.Sweep.{Going}
use Rattle.master.proofs.unit.DpMaster.transmit_telegram.Given as goal

abbrev pub invariant-loop-next : goal.invariant-loop-next
invariant-loop-next l =
    let m = l.initial.self in
    let i = or_slots l.initial.next in
    Going l.u.max_retry_limit l.marks (sweep_from (slots - i) l.u.max_retry_limit l.marks i l.initial.seen m.peripherals) m l.self l.seen l.next

abbrev pub decreases-loop-next : goal.decreases-loop-next
decreases-loop-next l = slots - or_slots l.next
