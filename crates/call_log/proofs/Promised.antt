-- The promises, proved: over every creation, every contents of the pools and every list of calls.
-- The idea: the invariant holds of a fresh unit and an empty log, each accepted call keeps it, and a refused one changes nothing.
use mathlib.Core.Path.{◌≡◌, refl, sym, ap, ◌∙◌, subst}
use mathlib.Core.Bool.{Bool, true, false, not, ◌&&◌, false≢true, cond}
use mathlib.Core.Logic.{◌↔◌}
use mathlib.Core.List.{List, [], ◌∷◌}
use mathlib.Core.Option.{some, none-ne-some}
use Prim.Native.Nat.{ℕ}
use native.Mathlib.Omega.{arith}
use lib.ListN.{length, get_or, replicate, length-replicate, get_or-replicate, get_or-eq_default}
use lib.Dec.{T, eqb, ltb, leb}
use lib.Pow.{pow_pos}
use borrow.Author.Tests.{eqb-true, ltb-true, ltb-false, lt-ltb}
use Rattle.parts.proofs.Laws.{by_test, and_right, and_false}
use Rattle.fdl.specs.declared.parameters.Parameters.{Parameters}
use Rattle.fdl.specs.Params.{creation_refusal, in_force, lowest}
use Rattle.peripheral_set.specs.Marks.{slots, is_occupied}
use Rattle.answers.specs.Turn.{refused_turn}
use Rattle.master.specs.Unit.{empty_unit, created_of}
use Rattle.master.specs.Add.{user_of, config_of, lengths_of, newcomer}
use Rattle.master.specs.Turn.{step_at, swept_by}
use Rattle.master.specs.Receive.{reply_at}
use Rattle.master.proofs.Bits.{zero_bit}
use Rattle.valid.specs.Valid.{Valid, balance, occupied}
use Rattle.access.specs.Lookup.{found_in, input_number, inputs_seen}
use Rattle.master.specs.declared.unit.DpMaster.{DpMaster}
use Rattle.valid.proofs.Balances.{marked_below}
use Rattle.peripheral_set.specs.declared.PeripheralHandle.{PeripheralHandle}
use Rattle.master.specs.Pools.{Pools, lend}
use Rattle.call_log.specs.Calls.{World, Call, add, enter, turn, reply, reset, wish, write, hand, accepted, add_step, turn_step, reply_step, add_number, turn_number, reply_number, turn_payload_at, step}
use Rattle.call_log.specs.Notes.{turn_of, slot_asked, reported_offline}
use Rattle.call_log.specs.Entries.{Entry, slot_log, Frame, frame_of, occupied_in, Moved, reached}
use Rattle.call_log.specs.Words.{due_of, image_of, asks_data}
use Rattle.call_log.specs.Run.{run}
use Rattle.call_log.specs.Promises.{ImageTold, FrameTold, AskedTold, ReachedTold, Masked, MaskTold, FirstTold, NextTold, NeverOverlap, AddressesDiffer}
use Rattle.call_log.proofs.Wording.{is_true, ready, wording, due_wording}
use Rattle.call_log.proofs.Steps.{turn-accepted, reply-accepted, refused_same, valid_step, always_valid}
use Rattle.call_log.proofs.Lives.{Lives}
use Rattle.call_log.proofs.Stations.{image_is}
use Rattle.call_log.proofs.Units.{slot_at, Inv, InvAt, inv_enter, inv_write, inv_hand, inv_wish, inv_reset}
use Rattle.call_log.proofs.Lent.{lent_same}
use Rattle.call_log.proofs.Adding.{first-empty, inv_add}
use Rattle.call_log.proofs.Replying.{reply_moves, inv_reply}
use Rattle.call_log.proofs.Turning.{inv_turn, asked-reached, asked-step, mask_bits, mask_event}

-- ---- a fresh unit

pub no_mark : (n i : ℕ) → get_or (replicate n false) i false ≡ false
no_mark n i =
    by_test (ltb i n) (λ e. get_or-replicate n i false false (ltb-true i n e))
    (λ e. get_or-eq_default (replicate n false) false (simp length-replicate (ltb-false i n e)))

inv_empty : (u : Parameters) (pools : Pools) → Valid (empty_unit u) → Inv (record { unit = empty_unit u; pools = pools }) []
unfolding empty_unit
inv_empty u pools v =
    record {
      valid = v;
      frame_is = refl;
      aimed = λ e. absurd (false≢true (sym e));
      lives = λ s o. absurd (false≢true (sym (no_mark slots s) ∙ o));
    }

inv_fresh : (u : Parameters) (pools : Pools) → Valid (created_of u).master → Inv (record { unit = (created_of u).master; pools = pools }) []
unfolding created_of
inv_fresh u pools v = by_test (eqb (creation_refusal u) 0) (λ e. rw e (inv_empty (in_force u) pools (rw e at v))) (λ e. rw e (inv_empty lowest pools (rw e at v)))

-- ---- an accepted call

module _ (w : World) (l : List Entry) (i : Inv w l) where
  add_kept : (a : _) (user config : List ℕ) (lent : _) (b : Bool) → b ≡ true → eqb (add_number a user config lent w) 0 ≡ b
      → let o = add_step b (add_number a user config lent w) (newcomer w.unit a (lengths_of a user config)) (user_of a user) (config_of a config) lent w in Valid o.world.unit → InvAt (add a user config lent) o.answer o.world l
  add_kept a user config lent true t e v = inv_add w l i a user config lent (eqb-true (add_number a user config lent w) 0 e) (add_number a user config lent w) v
  add_kept a user config lent false t e v = absurd (false≢true t)

  turn_kept : (time : ℕ) (high : Bool) (ns nq : ℕ) (buf : List ℕ) (b : Bool) → b ≡ true
      → let o = turn_step b (turn_number time ns nq buf w) (step_at time high w.unit) (swept_by (step_at time high w.unit) w.unit) (turn_payload_at time high ns nq w) time buf w in
      Valid o.world.unit → InvAt (turn time high ns nq buf) o.answer o.world l
  turn_kept time high ns nq buf true t v = inv_turn w l i (turn_payload_at time high ns nq w) buf time high ns nq _ v
  turn_kept time high ns nq buf false t v = absurd (false≢true t)

  reply_kept : (address : ℕ) (t : _) (payload : List ℕ) (ni nd : ℕ) (b : Bool) → b ≡ true → eqb (reply_number address t payload ni nd w) 0 ≡ b
      → let o = reply_step b (reply_number address t payload ni nd w) (reply_at t w.unit payload (lend ni w.pools.inputs) (lend nd w.pools.diags)) t payload ni nd w in
      Valid o.world.unit → InvAt (reply address t payload ni nd) o.answer o.world l
  reply_kept address t payload ni nd true q e v = inv_reply w l i address t payload ni nd (eqb-true (reply_number address t payload ni nd w) 0 e) (reply_number address t payload ni nd w) v
  reply_kept address t payload ni nd false q e v = absurd (false≢true q)

  kept : (c : Call) → accepted (step w c).answer ≡ true → Valid (step w c).world.unit → InvAt c (step w c).answer (step w c).world l
  unfolding step
  kept (add a user config lent) e v = add_kept a user config lent (eqb (add_number a user config lent w) 0) e refl v
  kept (enter o) e v = inv_enter w l i o _ v
  kept (turn time high ns nq buf) e v =
      turn_kept time high ns nq buf (eqb (turn_number time ns nq buf w) 0)
      (sym (turn-accepted (eqb (turn_number time ns nq buf w) 0) (turn_number time ns nq buf w) (step_at time high w.unit) (swept_by (step_at time high w.unit) w.unit) (turn_payload_at time high ns nq w) time buf w refl) ∙ e) v
  kept (reply address t payload ni nd) e v =
      reply_kept address t payload ni nd (eqb (reply_number address t payload ni nd w) 0)
      (sym (reply-accepted (eqb (reply_number address t payload ni nd w) 0) (reply_number address t payload ni nd w) (reply_at t w.unit payload (lend ni w.pools.inputs) (lend nd w.pools.diags)) t payload ni nd w refl) ∙ e) refl v
  kept (reset h address) e v = inv_reset w l i h address e v
  kept (wish h) e v = inv_wish w l i h e v
  kept (write h bytes nq) e v = inv_write w l i h bytes nq _ _
  kept (hand h bytes nq) e v = inv_hand w l i h bytes nq _ _

  -- any call
  any_call : (c : Call) (b : Bool) → accepted (step w c).answer ≡ b → Inv (step w c).world (cond b (record { call = c; answer = (step w c).answer } ∷ l) l)
  any_call c true e = kept c e (valid_step w c i.valid)
  any_call c false e = subst (λ (x : World). Inv x l) (sym (refused_same w c e)) i

pub inv_run : (u : Parameters) (pools : Pools) (cs : List Call) → Inv (run u pools cs).world (run u pools cs).log
inv_run u pools [] = inv_fresh u pools (always_valid u pools [])
inv_run u pools (c ∷ cs) = any_call (run u pools cs).world (run u pools cs).log (inv_run u pools cs) c (accepted (step (run u pools cs).world c).answer) refl

-- ---- what the log says is occupied is so

there : (w : World) (l : List Entry) (i : Inv w l) (s : ℕ) → T (occupied_in l s) → occupied w.unit s
there w l i s h = is_true _ (rw (← i.frame_is) at h)

-- every slot that the log says is occupied lives
pub lives_run : (u : Parameters) (pools : Pools) (cs : List Call) (s : ℕ) → T (occupied_in (run u pools cs).log s) → let w = (run u pools cs).world in
    Lives w.unit.parameters.max_retry_limit (slot_at w s) (slot_log s (run u pools cs).log)
lives_run u pools cs s h = let i = inv_run u pools cs in i.lives s (there (run u pools cs).world (run u pools cs).log i s h)

-- ---- the promises

pub image_told : ImageTold
image_told u pools cs s h = image_is (lives_run u pools cs s h)

pub frame_told : FrameTold
frame_told u pools cs = (inv_run u pools cs).frame_is

-- the balance of a handle whose slot is occupied
found-there : (m : DpMaster) → Valid m → (h : PeripheralHandle) → occupied m h.slot → found_in m h ≡ balance m h.slot
unfolding found_in
found-there m v h o = let b = lt-ltb h.slot slots (marked_below m v h.slot o) in rw (b, o) refl

-- what `pi_i` hands out where its number is 0
both_hold : (a b : Bool) → ◌≡◌ {A = ℕ} (cond (not a) 2 (cond (not b) 4 0)) 0 → (a ≡ true) × (b ≡ true)
both_hold true true e = (refl, refl)
both_hold true false e = absurd (omega arith)
both_hold false b e = absurd (omega arith)

pub read_by : (w : World) (l : List Entry) → Inv w l → (h : PeripheralHandle) (n : ℕ) → let lent = lend n w.pools.inputs in
    input_number w.unit h lent ≡ 0 → (inputs_seen w.unit h lent).bytes ≡ image_of (slot_log h.slot l)
read_by w l i h n z =
    let lent = lend n w.pools.inputs in
    let q = both_hold (eqb (length lent) w.unit.parameters.input_pool) (is_occupied w.unit.occupied h.slot) z in
    let o = and_right (ltb h.slot slots) (get_or w.unit.occupied h.slot false) q.1 in
    rw (z, found-there w.unit i.valid h o, lent_same n w.unit.parameters.input_pool w.pools.inputs (eqb-true (length lent) w.unit.parameters.input_pool q.0)) (image_is (i.lives h.slot o))

pub never_overlap : NeverOverlap
never_overlap u pools cs s t h k d =
    let i = inv_run u pools cs in
    i.valid.apart s t (there (run u pools cs).world (run u pools cs).log i s h) (there (run u pools cs).world (run u pools cs).log i t k) d

pub addresses_differ : AddressesDiffer
addresses_differ u pools cs s t h k d =
    let i = inv_run u pools cs in
    i.valid.differ s t (there (run u pools cs).world (run u pools cs).log i s h) (there (run u pools cs).world (run u pools cs).log i t k) d

-- a refused turn reaches nobody
refused_reaches : (l : List Entry) (n s : ℕ) → reached l (refused_turn n) s ≡ false
refused_reaches l n s = and_false (occupied_in l s && leb (frame_of l).place.slot s) false refl

-- asked, of any unit and log for which the invariant holds
module _ (w : World) (l : List Entry) (i : Inv w l) (time : ℕ) (high : Bool) (ns nq : ℕ) (buf : List ℕ) (s : ℕ) where
  asked_by : (b : Bool) → let a = turn_of (turn_step b (turn_number time ns nq buf w) (step_at time high w.unit) (swept_by (step_at time high w.unit) w.unit) (turn_payload_at time high ns nq w) time buf w).answer in
      T (reached l a s) → T (not (reported_offline s a)) → asks_data s a.transmission ≡ (not (due_of (slot_log s l)) && ready (slot_log s l))
  asked_by true r t = asked-step w l i (step_at time high w.unit) (turn_payload_at time high ns nq w) buf s r t
  asked_by false r t = absurd (rw (refused_reaches l (turn_number time ns nq buf w) s) at r)

split : (a d r : Bool) → a ≡ (not d && r) → T a ↔ ((T d → ⊥) × T r)
split a true true e = (λ h. absurd (rw e at h), λ h. absurd (h.0 tt))
split a true false e = (λ h. absurd (rw e at h), λ h. absurd h.1)
split a false true e = (λ h. (λ z. z, tt), λ h. rw e tt)
split a false false e = (λ h. absurd (rw e at h), λ h. absurd h.1)

pub asked_told : AskedTold
unfolding step
asked_told u pools cs time high ns nq buf s r t =
    let w = (run u pools cs).world in
    let n = slot_log s (run u pools cs).log in
    let e = split _ (due_of n) (ready n) (asked_by w (run u pools cs).log (inv_run u pools cs) time high ns nq buf s (eqb (turn_number time ns nq buf w) 0) r t) in
    (λ h. (λ q. (e.0 h).0 ((due_wording n).1 q), (wording n).0 (e.0 h).1), λ h. e.1 (λ q. h.0 ((due_wording n).0 q), (wording n).1 h.1))

-- the mask, of any unit and log for which the invariant holds
module _ (w : World) (l : List Entry) (i : Inv w l) (time : ℕ) (high : Bool) (ns nq : ℕ) (buf : List ℕ) where
  mask_by : (b : Bool) → Masked l w.unit (turn_of (turn_step b (turn_number time ns nq buf w) (step_at time high w.unit) (swept_by (step_at time high w.unit) w.unit) (turn_payload_at time high ns nq w) time buf w).answer)
  mask_by true =
      record {
        bits = mask_bits w l i (step_at time high w.unit) (turn_payload_at time high ns nq w) buf;
        said = mask_event w l i (step_at time high w.unit) (turn_payload_at time high ns nq w) buf;
      }
  mask_by false =
      record {
        bits = λ s. (rw (zero_bit s) refl) ∙ sym (ap (λ (b : Bool). b && ltb w.unit.parameters.max_retry_limit (balance w.unit s).station.retry_count) (refused_reaches l (turn_number time ns nq buf w) s));
        said = record { above = pow_pos slots; event = refl; own = λ t. absurd t; lowest = λ t. absurd t; address = λ t. absurd t };
      }

-- a turn that asks a slot reaches it
module _ (w : World) (l : List Entry) (i : Inv w l) (time : ℕ) (high : Bool) (ns nq : ℕ) (buf : List ℕ) (s : ℕ) where
  reached_by : (b : Bool) → let o = turn_step b (turn_number time ns nq buf w) (step_at time high w.unit) (swept_by (step_at time high w.unit) w.unit) (turn_payload_at time high ns nq w) time buf w in
      Valid o.world.unit → slot_asked (turn_of o.answer).transmission ≡ some s → reached l (turn_of o.answer) s ≡ true
  reached_by true v q = asked-reached w l i (step_at time high w.unit) (turn_payload_at time high ns nq w) buf time s v q
  reached_by false v q = absurd (none-ne-some s q)

pub reached_told : ReachedTold
unfolding step
reached_told u pools cs time high ns nq buf s q =
    let w = (run u pools cs).world in
    let i = inv_run u pools cs in
    rw (reached_by w (run u pools cs).log i time high ns nq buf s (eqb (turn_number time ns nq buf w) 0) (valid_step w (turn time high ns nq buf) i.valid) q) tt

pub mask_told : MaskTold
unfolding step
mask_told u pools cs time high ns nq buf =
    let w = (run u pools cs).world in
    mask_by w (run u pools cs).log (inv_run u pools cs) time high ns nq buf (eqb (turn_number time ns nq buf w) 0)

-- ---- the first empty slot, and the next occupied one

pub first_told : FirstTold
unfolding step
first_told u pools cs a user config lent e =
    let w = (run u pools cs).world in
    rw e (first-empty w (run u pools cs).log (inv_run u pools cs) a user config lent (eqb-true (add_number a user config lent w) 0 e))

-- the number of an accepted reply
pub reply_done : (w : World) (address : ℕ) (t : _) (payload : List ℕ) (ni nd : ℕ) → accepted (step w (reply address t payload ni nd)).answer ≡ true → reply_number address t payload ni nd w ≡ 0
unfolding step
reply_done w address t payload ni nd e =
    let n = reply_number address t payload ni nd w in
    eqb-true n 0 (sym (reply-accepted (eqb n 0) n (reply_at t w.unit payload (lend ni w.pools.inputs) (lend nd w.pools.diags)) t payload ni nd w refl) ∙ e)

pub next_told : NextTold
next_told u pools cs address t payload ni nd e =
    let w = (run u pools cs).world in
    let l = (run u pools cs).log in
    let i = inv_run u pools cs in
    let j = kept w l i (reply address t payload ni nd) e (valid_step w (reply address t payload ni nd) i.valid) in
    subst (Moved l) (sym (ap (λ (f : Frame). f.place) j.frame_is)) (reply_moves w l i address t payload ni nd (reply_done w address t payload ni nd e))
