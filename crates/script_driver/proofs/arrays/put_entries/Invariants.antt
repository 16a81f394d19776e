-- `put_entries` meets its contract. The loop's invariant: what is left to list leads to the whole listing.
use mathlib.Core.Path.{◌≡◌}
use lib.ListN.{drop}
use Rattle.peripheral_set.specs.Marks.{listed}
use Rattle.script_driver.specs.Arrays.{put_entries}
use Rattle.script_driver.proofs.arrays.put_entries.Given as goal

abbrev pub invariant-loop-k : goal.invariant-loop-k
invariant-loop-k l = put_entries l.unit (drop l.k (listed l.unit.occupied)) l.k l.list ≡ put_entries l.unit (listed l.unit.occupied) 0 l.initial.list
