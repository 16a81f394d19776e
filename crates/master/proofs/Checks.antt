-- An add or a reset that is not refused has passed every row of its table.
-- The idea: the rows of an add are two lists, one before its ranges have a place and one after, and each row is passed by where it stands.
use mathlib.Core.Path.{◌≡◌, refl, sym, ◌∙◌}
use mathlib.Core.Bool.{Bool, false}
use mathlib.Core.List.{List}
use Prim.Native.Nat.{ℕ, ◌+◌, ◌≤◌}
use lib.Dec.{eqb}
use borrow.Author.Tests.{eqb-true, leb-true, not-false}
use Rattle.parts.proofs.Laws.{by_test}
use Rattle.refusals.specs.Table.{or_else}
use Rattle.refusals.proofs.Laws.{passed, both}
use Rattle.fdl.specs.declared.parameters.Parameters.{Parameters}
use Rattle.peripheral.specs.declared.record.Peripheral.{Peripheral}
use Rattle.peripheral_set.specs.declared.PeripheralHandle.{PeripheralHandle}
use Rattle.peripheral_set.specs.Marks.{first_empty, handle_refusal}
use Rattle.addresses.specs.Addresses.{elsewhere}
use Rattle.cycle.specs.declared.refusal.Lengths.{Lengths}
use Rattle.cycle.specs.Refusal.{address_refusal, add_rows, add_refusal}
use Rattle.master.specs.declared.unit.DpMaster.{DpMaster}
use Rattle.master.specs.declared.add.Addition.{Addition}
use Rattle.master.specs.Pools.{Pools, pool_lengths}
use Rattle.master.specs.Add.{newcomer, is_shared, room_rows, room_refusal, refusal_of}
use Rattle.master.specs.Handle.{reset_rows, reset_refusal}

-- ---- the ranges of an add

module _ (u : Parameters) (p : Peripheral) (z : room_refusal u p ≡ 0) where
  pub setup-room : p.ranges.setup + (p.options.user_parameters + p.options.config) ≤ u.setup_pool
  unfolding room_refusal
  setup-room = leb-true _ _ (not-false _ (passed (room_rows u p) refl z 0))

  pub input-room : p.ranges.inputs + p.ranges.input_len ≤ u.input_pool
  unfolding room_refusal
  input-room = leb-true _ _ (not-false _ (passed (room_rows u p) refl z 1))

  pub output_room : p.ranges.outputs + p.ranges.output_len ≤ u.output_pool
  unfolding room_refusal
  output_room = leb-true _ _ (not-false _ (passed (room_rows u p) refl z 2))

  pub diag_room : p.ranges.diag + p.ranges.diag_room ≤ u.diag_pool
  unfolding room_refusal
  diag_room = leb-true _ _ (not-false _ (passed (room_rows u p) refl z 3))

-- ---- the whole add

or_first : (n rest : ℕ) → or_else n rest ≡ 0 → n ≡ 0
unfolding or_else
or_first n rest e = by_test (eqb n 0) (λ t. eqb-true n 0 t) (λ t. rw t at e)

module _ (m : DpMaster) (a : Addition) (l : Lengths) (pools : Pools) where
  -- before its ranges have a place, and then by them
  pub in_two : refusal_of m a l pools ≡ or_else (add_refusal m.parameters (pool_lengths pools) (first_empty m.occupied) a.address (is_shared m a) l) (room_refusal m.parameters (newcomer m a l))
  unfolding refusal_of add_refusal room_refusal
  in_two = both (add_rows m.parameters (pool_lengths pools) (first_empty m.occupied) a.address (is_shared m a) l) (room_rows m.parameters (newcomer m a l)) refl

  module _ (z : refusal_of m a l pools ≡ 0) where
    pub add_passed : add_refusal m.parameters (pool_lengths pools) (first_empty m.occupied) a.address (is_shared m a) l ≡ 0
    add_passed = or_first _ (room_refusal m.parameters (newcomer m a l)) (sym in_two ∙ z)

    pub room_passed : room_refusal m.parameters (newcomer m a l) ≡ 0
    unfolding or_else
    room_passed = rw add_passed at (sym in_two ∙ z)

-- ---- a reset

module _ (u : Parameters) (marks : List Bool) (all : List Peripheral) (h : PeripheralHandle) (address : ℕ) (z : reset_refusal u marks all h address ≡ 0) where
  pub reset-handle : handle_refusal h marks ≡ 0
  reset-handle = rw (passed (reset_rows u marks all h address) refl z 0) refl

  pub reset-address : address_refusal u address ≡ 0
  unfolding address_refusal
  reset-address = rw (passed (reset_rows u marks all h address) refl z 1) refl

  pub reset_shared : elsewhere marks all h.slot address ≡ false
  reset_shared = passed (reset_rows u marks all h address) refl z 2
