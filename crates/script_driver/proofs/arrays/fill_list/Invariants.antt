-- `fill_list` meets its contract. The loop's invariant: so many bytes from the front are as the rule says, and the others are as they were.
use mathlib.Core.Path.{◌≡◌}
use mathlib.Core.List.{◌++◌}
use lib.ListN.{drop}
use Rattle.script_driver.specs.Arrays.{entry_byte, tabulated}
use Rattle.script_driver.proofs.arrays.fill_list.Given as goal

abbrev pub invariant-loop-i : goal.invariant-loop-i
invariant-loop-i l = l.list ≡ tabulated (entry_byte l.b) l.i ++ drop l.i l.initial.list
