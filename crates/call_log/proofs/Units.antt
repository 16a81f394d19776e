-- The unit, its pools and the log: what holds of them together is kept by each accepted call.
-- The idea: one invariant a slot (it lives, Lives.antt) and one a unit (frame, open request); a call writes one slot, or visits them all.
use mathlib.Core.Path.{◌≡◌, refl, sym, ap, ◌∙◌}
use mathlib.Core.Bool.{Bool, true, false, false≢true, cond}
use mathlib.Core.List.{List, ◌∷◌}
use mathlib.Core.Option.{Option, none, some}
use Prim.Native.Nat.{ℕ, ◌<◌}
use native.Mathlib.Omega.{arith}
use lib.ListN.{length, get_or, set}
use lib.Seq.{get_or-set_same, get_or-set_other}
use lib.Dec.{eqb}
use borrow.Author.Tests.{eqb-true, eqb-false, ne_eqb}
use Rattle.parts.proofs.Laws.{by_test}
use Rattle.payloads.specs.declared.request.Request.{Request}
use Rattle.payloads.specs.Request.{request_numbered}
use Rattle.station.specs.Record.{due_is}
use Rattle.peripheral.specs.declared.record.Peripheral.{Peripheral}
use Rattle.peripheral.specs.Record.{blank, reset_of, station_is, input_image}
use Rattle.peripheral_set.specs.declared.PeripheralHandle.{PeripheralHandle}
use Rattle.peripheral_set.specs.Marks.{handle_refusal}
use Rattle.cycle.specs.declared.state.DpMasterState.{DpMasterState}
use Rattle.cycle.specs.declared.state.OperatingState.{OperatingState}
use Rattle.cycle.specs.declared.state.OperatingState.TheVariants.{Stop, Clear, Operate}
use Rattle.cycle.specs.State.{operating_number, operating_of, entered, closed}
use Rattle.master.specs.declared.unit.DpMaster.{DpMaster}
use Rattle.master.specs.Unit.{state_is, balances_are}
use Rattle.master.specs.Handle.{reset_refusal, reset_done, wish_done}
use Rattle.master.proofs.Checks.{reset-handle}
use Rattle.valid.specs.Valid.{Valid, occupied}
use Rattle.valid.proofs.Balances.{marked_below}
use Rattle.valid.proofs.Calls.{handle-there, index_is}
use Rattle.master.specs.Pools.{lend}
use Rattle.call_log.specs.Calls.{World, Call, enter, reset, wish, write, hand, Answer, unit_is, done_step}
use Rattle.call_log.specs.Notes.{Note, readdressed, wished, note_if}
use Rattle.call_log.specs.Entries.{says, Entry, Frame, target, slot_log, frame_of}
use Rattle.call_log.specs.Promises.{frame_in}
use Rattle.call_log.proofs.Lives.{Slot, slot_of, Lives, moves, wishes}

-- the open request of a slot; kind 0 is none
abbrev pub open_at : DpMasterState → ℕ → Option Request
open_at st s = cond (eqb s st.open_slot) (cond (eqb st.open_kind 0) none (some (request_numbered st.open_kind))) none

abbrev pub slot_in : DpMasterState → List Peripheral → List ℕ → ℕ → Slot
slot_in st ps pool s = slot_of (open_at st s) (get_or ps s blank) (input_image (get_or ps s blank) pool)

-- slot s of a unit with this limit, state, balances and pool of inputs lives with these notes
abbrev pub LivesAt : ℕ → DpMasterState → List Peripheral → List ℕ → ℕ → List Note → Type 0
LivesAt limit st ps pool s n = Lives limit (slot_in st ps pool s) n

abbrev pub inputs_lent : World → List ℕ
inputs_lent w = lend w.unit.parameters.input_pool w.pools.inputs

abbrev pub slot_at : World → ℕ → Slot
slot_at w s = slot_in w.unit.state w.unit.peripherals (inputs_lent w) s

-- the open request is that of the newest turn; each occupied slot lives
pub record Inv (w : World) (l : List Entry) : Type 0 where
  pub valid : Valid w.unit
  pub frame_is : frame_in w.unit ≡ frame_of l
  pub aimed : eqb w.unit.state.open_kind 0 ≡ false → target l ≡ some w.unit.state.open_slot
  pub lives : (s : ℕ) → occupied w.unit s → Lives w.unit.parameters.max_retry_limit (slot_at w s) (slot_log s l)

-- after a call that was accepted, with its answer
abbrev pub InvAt : Call → Answer → World → List Entry → Type 0
InvAt c x w l = Inv w (record { call = c; answer = x } ∷ l)

-- ---- open requests

-- with none open, no slot has one
pub none_open : (b : Bool) → ◌≡◌ {A = Option Request} (cond b none none) none
none_open true = refl
none_open false = refl

-- another slot than the open one has none
pub not_open : (st : DpMasterState) (s : ℕ) → (s ≡ st.open_slot → ⊥) → open_at st s ≡ none
not_open st s d = rw (ne_eqb s st.open_slot d) refl

-- ---- one slot is written and noted, the others are as they were

pub at_set : (limit : ℕ) (st : DpMasterState) (ps : List Peripheral) (pool : List ℕ) (l : ℕ → List Note) (t : ℕ) (q : Peripheral) (x : Note) → t < length ps
    → Lives limit (slot_of (open_at st t) q (input_image q pool)) (x ∷ l t) → (s : ℕ) → ((s ≡ t → ⊥) → LivesAt limit st ps pool s (l s)) → LivesAt limit st (set ps t q) pool s (note_if (eqb s t) x (l s))
at_set limit st ps pool l t q x h own s other =
    by_test (eqb s t)
    (λ e. let z : s ≡ t = eqb-true s t e in rw (e, z, get_or-set_same ps t q blank h) own)
    (λ e. let z : s ≡ t → ⊥ = eqb-false s t e in rw (e, get_or-set_other ps t s q blank z) (other z))

-- ---- calls that leave balances and inputs

module _ (w : World) (l : List Entry) (i : Inv w l) where
  mode-number : (o : OperatingState) → operating_of (operating_number o) ≡ o
  mode-number Stop = refl
  mode-number Clear = refl
  mode-number Operate = refl

  pub inv_enter : (o : OperatingState) (x : Answer) → Valid (state_is (entered o w.unit.state) w.unit) → InvAt (enter o) x (unit_is (state_is (entered o w.unit.state) w.unit) w) l
  inv_enter o x v =
      record {
        valid = v;
        frame_is = rw (mode-number o) (ap (λ (f : Frame). (says (enter o) x).frame none f) i.frame_is);
        aimed = i.aimed;
        lives = i.lives;
      }

  pub inv_write : (h : PeripheralHandle) (bytes : List ℕ) (nq : ℕ) (x : Answer) (outputs : List ℕ)
      → InvAt (write h bytes nq) x (record { unit = w.unit; pools = record { setup = w.pools.setup; inputs = w.pools.inputs; outputs = outputs; diags = w.pools.diags } }) l
  inv_write h bytes nq x outputs =
      record { valid = i.valid; frame_is = i.frame_is; aimed = i.aimed; lives = i.lives }

  pub inv_hand : (h : PeripheralHandle) (bytes : List ℕ) (nq : ℕ) (x : Answer) (outputs : List ℕ)
      → InvAt (hand h bytes nq) x (record { unit = w.unit; pools = record { setup = w.pools.setup; inputs = w.pools.inputs; outputs = outputs; diags = w.pools.diags } }) l
  inv_hand h bytes nq x outputs =
      record { valid = i.valid; frame_is = i.frame_is; aimed = i.aimed; lives = i.lives }

  -- ---- a wish and a reset, at an occupied slot

  pub in_table : (s : ℕ) → occupied w.unit s → s < length w.unit.peripherals
  in_table s o = omega (arith, marked_below w.unit i.valid s o, i.valid.table)

  wish-at : (h : PeripheralHandle) (x : Answer) → occupied w.unit h.slot
      → let p = get_or w.unit.peripherals h.slot blank in
      let m : DpMaster = balances_are (set w.unit.peripherals h.slot (station_is (due_is true p.station) p)) w.unit in
      Valid m → InvAt (wish h) x (unit_is m w) l
  wish-at h x o v =
      record {
        valid = v;
        frame_is = i.frame_is;
        aimed = i.aimed;
        lives = λ s u. at_set _ w.unit.state w.unit.peripherals (inputs_lent w) (λ s. slot_log s l) h.slot _ wished (in_table h.slot o) (wishes (i.lives h.slot o)) s (λ d. i.lives s u);
      }

  -- b: the open request is that slot's, and is closed
  closed_at : (t : ℕ) (b : Bool) → DpMasterState
  closed_at t b = cond b (closed w.unit.state) w.unit.state

  closed_here : (t : ℕ) (b : Bool) → eqb w.unit.state.open_slot t ≡ b → open_at (closed_at t b) t ≡ none
  unfolding closed_at
  closed_here t true e = none_open (eqb t 0)
  closed_here t false e = not_open w.unit.state t (λ z. eqb-false w.unit.state.open_slot t e (sym z))

  closed_other : (t : ℕ) (b : Bool) (s : ℕ) → eqb w.unit.state.open_slot t ≡ b → (s ≡ t → ⊥) → open_at (closed_at t b) s ≡ open_at w.unit.state s
  unfolding closed_at
  closed_other t true s e d = none_open (eqb s 0) ∙ sym (not_open w.unit.state s (λ z. d (z ∙ eqb-true w.unit.state.open_slot t e)))
  closed_other t false s e d = refl

  closed-frame : (t : ℕ) (b : Bool) → frame_in (state_is (closed_at t b) w.unit) ≡ frame_in w.unit
  unfolding closed_at
  closed-frame t true = refl
  closed-frame t false = refl

  closed_aimed : (t : ℕ) (b : Bool) → eqb (closed_at t b).open_kind 0 ≡ false → target l ≡ some (closed_at t b).open_slot
  unfolding closed_at
  closed_aimed t true k = absurd (false≢true (sym k))
  closed_aimed t false k = i.aimed k

  reset-at : (h : PeripheralHandle) (address : ℕ) (x : Answer) (b : Bool) → eqb w.unit.state.open_slot h.slot ≡ b → occupied w.unit h.slot
      → let s = w.unit.state in
      let m : DpMaster = state_is (cond b (closed s) s) (balances_are (set w.unit.peripherals h.slot (reset_of (get_or w.unit.peripherals h.slot blank) address)) w.unit) in
      Valid m → InvAt (reset h address) x (unit_is m w) l
  unfolding closed_at
  reset-at h address x b e o v =
      let t = h.slot in
      record {
        valid = v;
        frame_is = closed-frame t b ∙ i.frame_is;
        aimed = closed_aimed t b;
        lives = λ s u.
            at_set _ (closed_at t b) w.unit.peripherals (inputs_lent w) (λ s. slot_log s l) t _ readdressed (in_table t o) (rw (closed_here t b e) (moves (i.lives t o) address)) s (λ d. rw (closed_other t b s e d) (i.lives s u));
      }

  pub inv_wish : (h : PeripheralHandle) → eqb (wish_done w.unit h).refusal 0 ≡ true → Valid (wish_done w.unit h).master → InvAt (wish h) (done_step (wish_done w.unit h) w).answer (done_step (wish_done w.unit h) w).world l
  unfolding wish_done
  inv_wish h e v =
      let z = eqb-true (handle_refusal h w.unit.occupied) 0 e in
      rw (e, index_is w.unit h z) (wish-at h _ (handle-there w.unit h z) (rw (e, index_is w.unit h z) at v))

  pub inv_reset : (h : PeripheralHandle) (address : ℕ) → eqb (reset_done w.unit h address).refusal 0 ≡ true → Valid (reset_done w.unit h address).master
      → InvAt (reset h address) (done_step (reset_done w.unit h address) w).answer (done_step (reset_done w.unit h address) w).world l
  unfolding reset_done
  inv_reset h address e v =
      let n = eqb-true (reset_refusal w.unit.parameters w.unit.occupied w.unit.peripherals h address) 0 e in
      let z = reset-handle w.unit.parameters w.unit.occupied w.unit.peripherals h address n in
      rw (e, index_is w.unit h z) (reset-at h address _ (eqb w.unit.state.open_slot h.slot) refl (handle-there w.unit h z) (rw (e, index_is w.unit h z) at v))
