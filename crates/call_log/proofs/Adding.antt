-- An accepted add keeps what holds of unit and log.
-- The idea: the new range is beside all others, since the unit is valid, and is zeroed; and no request is open at the new slot.
use mathlib.Core.Path.{◌≡◌, refl, sym, ap, ◌∙◌, subst}
use mathlib.Core.Bool.{true, false, false≢true}
use mathlib.Core.List.{List}
use mathlib.Core.Option.{none}
use Prim.Native.Nat.{ℕ, ◌+◌, ◌≤◌, ◌<◌}
use native.Mathlib.Omega.{arith}
use lib.ListN.{length, get_or, set, length-replicate}
use lib.Seq.{get_or-set_same, get_or-set_other}
use lib.Dec.{eqb}
use borrow.Author.Tests.{not-true, not-false}
use Rattle.parts.specs.Parts.{part, room_for, zeros}
use Rattle.parts.proofs.Laws.{by_test, inside_yes, room_yes, part-put, part-put_other, length-put}
use Rattle.peripheral.specs.declared.record.Peripheral.{Peripheral}
use Rattle.peripheral.specs.Record.{blank, input_image}
use Rattle.peripheral_set.specs.Marks.{slots, first_empty}
use Rattle.peripheral_set.proofs.Laws.{search_found, search_first}
use Rattle.cycle.specs.declared.refusal.Lent.{Lent}
use Rattle.cycle.proofs.Laws.{lent_inputs, add-slot}
use Rattle.master.proofs.Checks.{input-room, add_passed, room_passed}
use Rattle.master.specs.declared.add.Addition.{Addition}
use Rattle.master.specs.Pools.{pool_lengths, lend, back, lend_all}
use Rattle.master.specs.Add.{newcomer, is_shared, cleared, lengths_of, user_of, config_of}
use Rattle.valid.specs.Valid.{Valid, Beside, balance, occupied}
use Rattle.valid.proofs.Balances.{open_there}
use Rattle.call_log.specs.Calls.{World, add, added, add_step, add_number}
use Rattle.call_log.specs.Notes.{was_added}
use Rattle.call_log.specs.Entries.{says, Entry, Frame, slot_log, FirstEmpty}
use Rattle.call_log.proofs.Lives.{joins}
use Rattle.call_log.proofs.Lent.{lent_same, lent_back}
use Rattle.call_log.proofs.Units.{open_at, inputs_lent, Inv, InvAt, none_open, not_open, at_set}

-- so many zeros put into a range of the pool
cleared-part : (at n : ℕ) (pool : List ℕ) → at + n ≤ length pool → part at n (cleared at n pool) ≡ zeros n
cleared-part at n pool h =
    let z : length (zeros n) ≡ n = length-replicate n 0 in
    let r : room_for at n (zeros n) pool ≡ true = room_yes at n (zeros n) pool (omega arith) (inside_yes at n pool h) in
    (rw z at (part-put at n (zeros n) pool)) ∙ rw r refl

module _ (w : World) (l : List Entry) (i : Inv w l) (a : Addition) (user config : List ℕ) (lent : Lent) (z : add_number a user config lent w ≡ 0) where
  abbrev t : ℕ
  t = first_empty w.unit.occupied

  -- the new balance, and what was lent of the inputs
  abbrev fresh : Peripheral
  fresh = newcomer w.unit a (lengths_of a user config)

  abbrev lent_pool : List ℕ
  lent_pool = lend lent.inputs w.pools.inputs

  abbrev pool : List ℕ
  pool = cleared fresh.ranges.inputs fresh.ranges.input_len lent_pool

  below : t < slots
  below =
      add-slot w.unit.parameters (pool_lengths (lend_all lent w.pools)) t a.address (is_shared w.unit a) (lengths_of a user config)
      (add_passed w.unit a (lengths_of a user config) (lend_all lent w.pools) z)

  in_table : t < length w.unit.peripherals
  in_table = omega (arith, below, i.valid.table)

  was_empty : get_or w.unit.occupied t false ≡ false
  was_empty = not-true _ (search_found slots false w.unit.occupied slots 0 below)

  pub first-empty : FirstEmpty l (first_empty w.unit.occupied)
  first-empty =
      record {
        slot = below;
        empty = rw (← i.frame_is, was_empty) tt;
        before = λ s h. rw (← i.frame_is, not-false (get_or w.unit.occupied s false) (search_first slots false w.unit.occupied slots 0 s (omega arith) (omega (arith, below)) h)) tt;
      }

  pool-length : length lent_pool ≡ w.unit.parameters.input_pool
  pool-length =
      lent_inputs w.unit.parameters (pool_lengths (lend_all lent w.pools)) t a.address (is_shared w.unit a) (lengths_of a user config)
      (add_passed w.unit a (lengths_of a user config) (lend_all lent w.pools) z)

  range-fits : fresh.ranges.inputs + fresh.ranges.input_len ≤ length lent_pool
  range-fits = rw pool-length (input-room w.unit.parameters fresh (room_passed w.unit a (lengths_of a user config) (lend_all lent w.pools) z))

  old : (s : ℕ) → get_or (set w.unit.occupied t true) s false ≡ true → (s ≡ t → ⊥) → occupied w.unit s
  old s u d = sym (get_or-set_other w.unit.occupied t s true false d) ∙ u

  -- the inputs afterwards, as they are lent
  inputs-after : lend w.unit.parameters.input_pool (back lent.inputs pool w.pools.inputs) ≡ pool
  inputs-after =
      lent_back lent.inputs w.unit.parameters.input_pool w.pools.inputs pool-length _
      (length-put fresh.ranges.inputs fresh.ranges.input_len (zeros fresh.ranges.input_len) lent_pool)

  -- the new range is beside every other: a matter of `Valid` alone
  beside : (n : ℕ) → Valid (add_step true n fresh (user_of a user) (config_of a config) lent w).world.unit → (s : ℕ) → get_or (set w.unit.occupied t true) s false ≡ true → (s ≡ t → ⊥)
      → Beside (balance w.unit s).ranges.inputs (balance w.unit s).ranges.input_len fresh.ranges.inputs fresh.ranges.input_len
  beside n v s u d =
      let here : get_or (set w.unit.occupied t true) t false ≡ true = get_or-set_same w.unit.occupied t true false (omega (arith, below, i.valid.marks)) in
      rw (get_or-set_other w.unit.peripherals t s fresh blank d, get_or-set_same w.unit.peripherals t fresh blank in_table) at (v.apart s t u here d).inputs

  other_image : (s : ℕ) → occupied w.unit s → Beside (balance w.unit s).ranges.inputs (balance w.unit s).ranges.input_len fresh.ranges.inputs fresh.ranges.input_len
      → input_image (balance w.unit s) pool ≡ input_image (balance w.unit s) (inputs_lent w)
  other_image s o b =
      let q = balance w.unit s in
      part-put_other fresh.ranges.inputs fresh.ranges.input_len (zeros fresh.ranges.input_len) lent_pool q.ranges.inputs q.ranges.input_len b
      ∙ rw (lent_same lent.inputs w.unit.parameters.input_pool w.pools.inputs pool-length) refl

  not_new : eqb w.unit.state.open_kind 0 ≡ false → w.unit.state.open_slot ≡ t → ⊥
  not_new k e =
      false≢true (sym was_empty ∙ subst (λ (s : ℕ). get_or w.unit.occupied s false ≡ true) e (open_there w.unit i.valid k).there)

  none_yet : open_at w.unit.state t ≡ none
  none_yet =
      by_test (eqb w.unit.state.open_kind 0) (λ k. rw k (none_open (eqb t w.unit.state.open_slot))) (λ k. not_open w.unit.state t (λ e. not_new k (sym e)))

  pub inv_add : (n : ℕ) → let o = add_step true n (newcomer w.unit a (lengths_of a user config)) (user_of a user) (config_of a config) lent w in Valid o.world.unit → InvAt (add a user config lent) o.answer o.world l
  inv_add n v =
      record {
        valid = v;
        frame_is = ap (λ (f : Frame). (says (add a user config lent) (added n (record { slot = t; address = a.address }))).frame none f) i.frame_is;
        aimed = i.aimed;
        lives = λ s u.
            rw inputs-after
            (at_set _ w.unit.state w.unit.peripherals pool (λ s. slot_log s l) t _ (was_added a) in_table
            (rw (none_yet, cleared-part fresh.ranges.inputs fresh.ranges.input_len lent_pool range-fits) (joins a user config w.unit (slot_log t l))) s
            (λ d. rw (other_image s (old s u d) (beside n v s u d)) (i.lives s (old s u d))));
      }
