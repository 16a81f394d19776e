-- Creation gives a valid unit, and entering a state, a wish and a reset keep it so.
-- The idea: each of them replaces the state, or one balance by one with the same ranges.
use mathlib.Core.Path.{◌≡◌, refl, sym, ◌∙◌}
use mathlib.Core.Bool.{Bool, true, false, not, false≢true, cond}
use mathlib.Core.Logic.{inl, inr, ⊎_elim}
use Prim.Native.Nat.{ℕ, ◌≤◌, ◌<◌}
use native.Mathlib.Omega.{arith}
use lib.ListN.{get_or, set, replicate, length-replicate, get_or-replicate, get_or-eq_default}
use lib.Seq.{get_or-set_same, get_or-set_other}
use lib.Dec.{eqb, ltb}
use borrow.Author.Tests.{eqb-true, eqb-false, ltb-true, ltb-false, lt-ltb}
use Rattle.parts.proofs.Laws.{by_test, and_left, and_right}
use Rattle.fdl.specs.declared.parameters.Parameters.{Parameters}
use Rattle.fdl.specs.Params.{creation_refusal, in_force, lowest}
use Rattle.station.specs.State.{state_of}
use Rattle.station.specs.Record.{new_station, due_is}
use Rattle.peripheral.specs.declared.record.Peripheral.{Peripheral}
use Rattle.peripheral.specs.Record.{blank, reset_of, station_is}
use Rattle.peripheral_set.specs.declared.PeripheralHandle.{PeripheralHandle}
use Rattle.peripheral_set.specs.Marks.{slots, is_occupied, handle_refusal}
use Rattle.addresses.specs.Addresses.{elsewhere}
use Rattle.cycle.specs.declared.state.OperatingState.{OperatingState}
use Rattle.cycle.specs.declared.state.OperatingState.TheVariants.{Stop, Clear, Operate}
use Rattle.cycle.specs.Seen.{index_of}
use Rattle.cycle.specs.State.{operating_number, entered, closed, closed_for}
use Rattle.cycle.specs.Refusal.{address_refusal}
use Rattle.master.specs.declared.unit.DpMaster.{DpMaster}
use Rattle.master.specs.Unit.{empty_unit, created_of, state_is, balances_are}
use Rattle.master.specs.Handle.{reset_refusal, reset_done, wish_done}
use Rattle.master.proofs.Checks.{reset-handle, reset-address, reset_shared}
use Rattle.valid.specs.Valid.{InForce, Standing, Valid, occupied}
use Rattle.valid.proofs.Stations.{sound_new, sound-due, fits-due}
use Rattle.valid.proofs.Balances.{next_same, next_station, valid_kept, valid_set, valid_moved, nobody_else, marked_below, standing_kept}

-- ---- creation

same_of {ℓ} : {A : Type ℓ} (n : ℕ) (a : A) (i : ℕ) → get_or (replicate n a) i a ≡ a
same_of n a i =
    by_test (ltb i n) (λ e. get_or-replicate n i a a (ltb-true i n e))
    (λ e. get_or-eq_default (replicate n a) a (simp length-replicate (ltb-false i n e)))

valid_empty : (u : Parameters) → InForce u → Valid (empty_unit u)
unfolding empty_unit
valid_empty u h =
    record {
      parameters = h;
      marks = length-replicate slots false;
      table = length-replicate slots blank;
      within = record { setup = omega arith; inputs = omega arith; outputs = omega arith; diags = omega arith };
      sound = λ i o. absurd (false≢true (sym (same_of slots false i) ∙ o));
      address = λ i o. absurd (false≢true (sym (same_of slots false i) ∙ o));
      differ = λ i j o. absurd (false≢true (sym (same_of slots false i) ∙ o));
      placed = λ i o. absurd (false≢true (sym (same_of slots false i) ∙ o));
      apart = λ i j o. absurd (false≢true (sym (same_of slots false i) ∙ o));
      used = λ i o. absurd (false≢true (sym (same_of slots false i) ∙ o));
      empty = λ i e. same_of slots blank i;
      standing = record { operating = omega arith; place = omega arith; times = omega arith; request = inl (record { slot = refl; kind = refl }) };
    }

held_held : (u : Parameters) → creation_refusal u ≡ 0 → InForce (in_force u)
unfolding creation_refusal in_force
held_held u r = record { range = r; first = λ e. rw e refl; second = λ e. rw e refl }

lowest_held : InForce lowest
unfolding creation_refusal lowest
lowest_held = record { range = refl; first = λ e. refl; second = λ e. refl }

-- a refused creation too
pub created_valid : (u : Parameters) → Valid (created_of u).master
unfolding created_of
created_valid u =
    let n = creation_refusal u in by_test (eqb n 0) (λ r. rw r (valid_empty (in_force u) (held_held u (eqb-true n 0 r)))) (λ r. rw r (valid_empty lowest lowest_held))

-- ---- entering a state

mode-number : (o : OperatingState) → operating_number o ≤ 2
mode-number Stop = omega arith
mode-number Clear = omega arith
mode-number Operate = omega arith

pub enter_valid : (m : DpMaster) (o : OperatingState) → Valid m → Valid (state_is (entered o m.state) m)
enter_valid m o v =
    let g = v.standing in
    valid_kept m v m.peripherals (entered o m.state) (λ i. next_same m.parameters (get_or m.occupied i false) (get_or m.peripherals i blank)) (λ i. refl) v.table
    (record {
      operating = mode-number o;
      place = g.place;
      times = omega arith;
      request = ⊎_elim (λ c. inl (record { slot = c.slot; kind = c.kind })) (λ r. inr (record { place = r.place; going = r.going; there = r.there; fit = r.fit })) g.request;
    })

-- ---- a handle that is not refused

module _ (m : DpMaster) (h : PeripheralHandle) where
  is_there : (b : Bool) → ◌≡◌ {A = ℕ} (cond (not b) 4 0) 0 → b ≡ true
  is_there true e = refl
  is_there false e = absurd (omega arith)

  pub handle_below : handle_refusal h m.occupied ≡ 0 → h.slot < slots
  handle_below z = ltb-true h.slot slots (and_left _ (get_or m.occupied h.slot false) (is_there (is_occupied m.occupied h.slot) z))

  pub handle-there : handle_refusal h m.occupied ≡ 0 → occupied m h.slot
  handle-there z = and_right (ltb h.slot slots) (get_or m.occupied h.slot false) (is_there (is_occupied m.occupied h.slot) z)

  pub index_is : handle_refusal h m.occupied ≡ 0 → index_of h.slot ≡ h.slot
  index_is z = rw (lt-ltb h.slot slots (handle_below z)) refl

-- ---- a wish for a diagnosis

wish-changed : (m : DpMaster) (k : ℕ) → Valid m → occupied m k
    → let p = get_or m.peripherals k blank in Valid (balances_are (set m.peripherals k (station_is (due_is true p.station) p)) m)
wish-changed m k v o =
    let ps = m.peripherals in
    let p = get_or ps k blank in
    let t = m.state.open_slot in
    let q : Peripheral = station_is (due_is true p.station) p in
    valid_set m v k q m.state o (next_station m.parameters (get_or m.occupied k false) p (due_is true p.station) o (λ g. sound-due g true))
    (standing_kept m m.used m.occupied (set ps k q) v.standing
    (λ r f. (
      r,
      by_test (eqb t k)
          (λ e. let w : t ≡ k = eqb-true t k e in rw (w, get_or-set_same ps k q blank (omega (arith, v.table, marked_below m v k o))) (fits-due m.state.open_kind p.station.diag_needed (state_of p.station.state) (rw w at f)))
          (λ e. rw (get_or-set_other ps k t q blank (eqb-false t k e)) f),
    )))
    refl

pub wish_valid : (m : DpMaster) (h : PeripheralHandle) → Valid m → Valid (wish_done m h).master
unfolding wish_done
wish_valid m h v =
    by_test (eqb (handle_refusal h m.occupied) 0)
    (λ e. let z = eqb-true (handle_refusal h m.occupied) 0 e in rw (e, index_is m h z) (wish-changed m h.slot v (handle-there m h z)))
    (λ e. rw e v)

-- ---- a reset

-- b: the open request is that slot's, and is closed; otherwise it is another's, and stays
reset-standing : (m : DpMaster) (k : ℕ) (q : Peripheral) (b : Bool) → eqb m.state.open_slot k ≡ b → Standing m
    → let s = m.state in Standing (state_is (cond b (closed s) s) (balances_are (set m.peripherals k q) m))
reset-standing m k q true e g = record { operating = g.operating; place = g.place; times = g.times; request = inl (record { slot = refl; kind = refl }) }
reset-standing m k q false e g =
    let t = m.state.open_slot in
    standing_kept m m.used m.occupied (set m.peripherals k q) g (λ o f. (o, rw (get_or-set_other m.peripherals k t q blank (eqb-false t k e)) f))

reset-changed : (m : DpMaster) (k address : ℕ) → Valid m → occupied m k → address_refusal m.parameters address ≡ 0 → elsewhere m.occupied m.peripherals k address ≡ false
    → Valid (state_is (closed_for k m.state) (balances_are (set m.peripherals k (reset_of (get_or m.peripherals k blank) address)) m))
reset-changed m k address v o a s =
    let p = get_or m.peripherals k blank in
    valid_moved m v k (reset_of p address) (closed_for k m.state) o
    (next_station m.parameters (get_or m.occupied k false) p (new_station address) o (λ g. sound_new address m.parameters.max_retry_limit p.ranges.diag_room))
    (reset-standing m k (reset_of p address) (eqb m.state.open_slot k) refl v.standing)
    a
    (nobody_else m v k address s)

pub reset_valid : (m : DpMaster) (h : PeripheralHandle) (address : ℕ) → Valid m → Valid (reset_done m h address).master
unfolding reset_done
reset_valid m h address v =
    let all = m.peripherals in
    by_test (eqb (reset_refusal m.parameters m.occupied all h address) 0)
    (λ e.
    let n = eqb-true (reset_refusal m.parameters m.occupied all h address) 0 e in
    let z = reset-handle m.parameters m.occupied all h address n in
    rw (e, index_is m h z) (reset-changed m h.slot address v (handle-there m h z) (reset-address m.parameters m.occupied all h address n) (reset_shared m.parameters m.occupied all h address n)))
    (λ e. rw e v)
