-- `next_after` meets its contract: past the last number there is no slot.
use mathlib.Core.Path.{sym, ap, ◌∙◌}
use mathlib.Core.Bool.{true}
use Prim.Native.Nat.{◌+◌}
use native.Mathlib.Omega.{arith}
use Rattle.peripheral_set.specs.Marks.{slots, slot_or_none}
use Rattle.peripheral_set.proofs.Laws.{search_none}
use Rattle.peripheral_set.proofs.next_after.Goals as goal

pub returns-in_err-checked_add : goal.returns-in_err-checked_add
returns-in_err-checked_add c =
    let past = c.in_err-checked_add.ensures {u = tt} in
    c.from_residual.ensures ∙ sym (ap slot_or_none (search_none slots true slots c.args.marks.now (c.args.place + 1) (omega arith)))
