-- The laws of refusals and of the state that the proofs here and in the crates above cite.
-- The idea: a refusal that is 0 has passed every row, and a row that does not apply is the fact that it tests.
use mathlib.Core.Path.{◌≡◌, refl, sym}
use mathlib.Core.Bool.{Bool, true, false, not, false≢true, cond}
use mathlib.Mathlib.Data.Bool.Basic.{or-eq-false-eq-eq-false-and-eq-false as neither}
use Prim.Native.Nat.{ℕ, ◌≤◌, ◌<◌}
use lib.Dec.{ltb, eqb}
use borrow.Author.Tests.{ltb-true, ltb-false, leb-false, eqb-true, not-true, not-false, eq-eqb, ne_eqb}
use Rattle.parts.proofs.Laws.{by_test, and_left, and_right}
use Rattle.std.specs.Prelude.{Err}
use Rattle.refusals.specs.declared.Refusal.{Refusal}
use Rattle.refusals.specs.Table.{refusal_number, outcome}
use Rattle.refusals.proofs.Laws.{passed, passed_from, told}
use Rattle.fdl.specs.declared.parameters.Parameters.{Parameters}
use Rattle.fdl.specs.declared.telegram.Telegram.{Telegram}
use Rattle.peripheral_set.specs.Marks.{slots, slot_or_none, or_slots}
use Rattle.peripheral_set.proofs.Laws.{slot_some, slot_none}
use Rattle.cycle.specs.declared.state.DpMasterState.{DpMasterState}
use Rattle.cycle.specs.declared.refusal.Lent.{Lent}
use Rattle.cycle.specs.declared.refusal.Lengths.{Lengths}
use Rattle.cycle.specs.State.{is_open, closed, answered, closed_for}
use Rattle.cycle.specs.Refusal.{turn_rows, turn_refusal, reply_rows, reply_refusal, address_refusal, length_rows, length_refusal, add_rows, add_refusal}

-- ---- the lengths of an add

module _ (l : Lengths) (z : length_refusal l ≡ 0) where
  pub user-fits : l.user ≤ 237
  unfolding length_refusal
  user-fits = ltb-false _ _ (passed (length_rows l) refl z 0)

  pub config-fits : l.config ≤ 244
  unfolding length_refusal
  config-fits = ltb-false _ _ (passed (length_rows l) refl z 1)

  pub inputs-fit : l.inputs ≤ 244
  unfolding length_refusal
  inputs-fit = ltb-false _ _ (passed (length_rows l) refl z 2)

  pub outputs-fit : l.outputs ≤ 244
  unfolding length_refusal
  outputs-fit = ltb-false _ _ (passed (length_rows l) refl z 3)

  pub room_fits : l.room ≤ 238
  unfolding length_refusal
  room_fits = ltb-false _ _ (passed (length_rows l) refl z 4)

-- ---- an add that has passed its rows

module _ (u : Parameters) (lent : Lent) (slot address : ℕ) (elsewhere : Bool) (l : Lengths) (z : add_refusal u lent slot address elsewhere l ≡ 0) where
  pub lent_inputs : lent.inputs ≡ u.input_pool
  unfolding add_refusal
  lent_inputs = eqb-true _ _ (not-false _ (passed (add_rows u lent slot address elsewhere l) refl z 1))

  pub add-slot : slot < slots
  unfolding add_refusal
  add-slot = leb-false slots slot (passed (add_rows u lent slot address elsewhere l) refl z 4)

  pub add-address : address_refusal u address ≡ 0
  unfolding add_refusal address_refusal
  add-address = rw (passed (add_rows u lent slot address elsewhere l) refl z 5) refl

  pub add_shared : elsewhere ≡ false
  unfolding add_refusal
  add_shared = passed (add_rows u lent slot address elsewhere l) refl z 6

  pub add_lengths : length_refusal l ≡ 0
  unfolding add_refusal length_refusal
  add_lengths = passed_from (add_rows u lent slot address elsewhere l) refl z 7

-- ---- a turn and a reply that have passed theirs

pub turn_not_early : (u : Parameters) (s : DpMasterState) (time setup outputs payload : ℕ) → turn_refusal u s time setup outputs payload ≡ 0 → s.last_turn ≤ time
unfolding turn_refusal
turn_not_early u s time setup outputs payload z = ltb-false time s.last_turn (passed (turn_rows u s time setup outputs payload) refl z 3)

module _ (u : Parameters) (s : DpMasterState) (asked address : ℕ) (t : Telegram) (payload inputs diags : ℕ) (z : reply_refusal u s asked address t payload inputs diags ≡ 0) where
  pub reply-inputs : inputs ≡ u.input_pool
  unfolding reply_refusal
  reply-inputs = eqb-true _ _ (not-false _ (passed (reply_rows u s asked address t payload inputs diags) refl z 0))

  pub reply-diags : diags ≡ u.diag_pool
  unfolding reply_refusal
  reply-diags = eqb-true _ _ (not-false _ (passed (reply_rows u s asked address t payload inputs diags) refl z 1))

  is-open : is_open s ≡ true
  unfolding reply_refusal
  is-open = not-false _ ((neither (not (is_open s)) (not (eqb address asked))).0 (passed (reply_rows u s asked address t payload inputs diags) refl z 2)).0

  pub reply_open : eqb s.open_kind 0 ≡ false
  reply_open = not-true _ (and_left (not (eqb s.open_kind 0)) (ltb s.open_slot slots) is-open)

  pub reply-slot : s.open_slot < slots
  reply-slot = ltb-true _ _ (and_right (not (eqb s.open_kind 0)) (ltb s.open_slot slots) is-open)

-- ---- what a refusal tells

pub turn-told : (u : Parameters) (s : DpMasterState) (time setup outputs payload : ℕ) {e : Refusal} → outcome (turn_refusal u s time setup outputs payload) ≡ Err e
    → (refusal_number e ≡ turn_refusal u s time setup outputs payload) × (turn_refusal u s time setup outputs payload ≡ 0 → ⊥)
unfolding turn_refusal
turn-told u s time setup outputs payload p = told (turn_rows u s time setup outputs payload) refl p

pub reply-told : (u : Parameters) (s : DpMasterState) (asked address : ℕ) (t : Telegram) (payload inputs diags : ℕ) {e : Refusal} → outcome (reply_refusal u s asked address t payload inputs diags) ≡ Err e
    → (refusal_number e ≡ reply_refusal u s asked address t payload inputs diags) × (reply_refusal u s asked address t payload inputs diags ≡ 0 → ⊥)
unfolding reply_refusal
reply-told u s asked address t payload inputs diags p = told (reply_rows u s asked address t payload inputs diags) refl p

pub add-told : (u : Parameters) (lent : Lent) (slot address : ℕ) (elsewhere : Bool) (l : Lengths) {e : Refusal} → outcome (add_refusal u lent slot address elsewhere l) ≡ Err e
    → (refusal_number e ≡ add_refusal u lent slot address elsewhere l) × (add_refusal u lent slot address elsewhere l ≡ 0 → ⊥)
unfolding add_refusal
add-told u lent slot address elsewhere l p = told (add_rows u lent slot address elsewhere l) refl p

-- ---- a closed request

module _ (slot : ℕ) (s : DpMasterState) where
  pub closed_here : s.open_slot ≡ slot → closed s ≡ closed_for slot s
  closed_here e = by_eq (eqb s.open_slot slot) (eq-eqb _ _ e)
    where
      by_eq : (b : Bool) → b ≡ true → closed s ≡ cond b (closed s) s
      by_eq true q = refl
      by_eq false q = absurd (false≢true q)

  pub closed_other : (s.open_slot ≡ slot → ⊥) → s ≡ closed_for slot s
  closed_other d = by_ne (eqb s.open_slot slot) (ne_eqb _ _ d)
    where
      by_ne : (b : Bool) → b ≡ false → s ≡ cond b (closed s) s
      by_ne true q = absurd (false≢true (sym q))
      by_ne false q = refl

-- ---- the next slot, as an Option

pub answered_at : (n : ℕ) (s : DpMasterState) → answered (or_slots (slot_or_none n)) s ≡ answered n s
answered_at n s = by_test (ltb n slots) (λ l. rw (slot_some n (ltb-true n slots l)) refl) (λ l. rw (slot_none n (ltb-false n slots l), l) refl)
