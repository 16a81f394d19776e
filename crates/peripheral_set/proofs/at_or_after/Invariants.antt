-- `at_or_after` meets its contract. The loop's invariant: what is left to search, from the place where the next eight begin, gives the whole answer.
-- It begins behind the place, which is empty; eight empty marks are passed by the law of slots that are passed together.
use mathlib.Core.Path.{◌≡◌}
use Rattle.peripheral_set.specs.Marks.{at_or_after}
use Rattle.peripheral_set.proofs.at_or_after.Given as goal

abbrev pub invariant-loop-at : goal.invariant-loop-at
invariant-loop-at l = (l.from ≡ l.at) × (at_or_after l.marks l.at ≡ at_or_after l.marks l.place)
