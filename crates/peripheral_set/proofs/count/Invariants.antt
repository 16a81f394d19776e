-- `count` meets its contract. The loop's invariant: what was counted and what is left to list are the whole listing.
use Rattle.std.proofs.Common.{◌≡◌, length, ◌+◌, ◌-◌, ◌≤◌}
use Rattle.peripheral_set.specs.Marks.{slots, listed_from, listed}
use Rattle.peripheral_set.proofs.count.Given as goal

abbrev pub invariant-loop-mark : goal.invariant-loop-mark
invariant-loop-mark l = (l.n ≤ l.mark-index) × (l.n + length (listed_from (slots - l.mark-index) l.marks l.mark-index) ≡ length (listed l.marks))
