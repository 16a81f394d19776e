-- `fill_list` meets its contract. The loop's invariant: so many bytes from the front are as the rule says, and the others are as they were.
use mathlib.Core.Path.{ap, ◌∙◌}
use mathlib.Core.List.{List, ◌++◌}
use Prim.Native.Nat.{ℕ}
use lib.ListN.{drop, set}
use Rattle.script_driver.specs.Arrays.{entry_byte, tabulated}
use Rattle.script_driver.proofs.Laws.{up_to_none, up_to_more}
use Rattle.script_driver.proofs.arrays.fill_list.Goals as goal

pub loop-i-init : goal.loop-i-init
loop-i-init c = up_to_none _ _

pub loop-i-preserved : goal.loop-i-preserved
loop-i-preserved c = let f = entry_byte c.args.b in
    let i = c.loop-i.i in
    ap (λ (l : List ℕ). set l i c.entry_byte.result) c.loop-i.invariant
    ∙ ap (set (tabulated f i ++ drop i c.args.list.now) i) c.entry_byte.ensures
    ∙ up_to_more f i c.args.list.now c.loop-i-test.true
