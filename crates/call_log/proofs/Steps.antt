-- Refused calls leave no trace, and a unit is `Valid` after any calls.
-- The idea: where a call is refused every field of what it leaves is the old one; and each call's contract holds of what `step` leaves, so the laws of `valid` apply.
use mathlib.Core.Path.{◌≡◌, refl, sym, ap, ◌∙◌}
use mathlib.Core.Bool.{Bool, true, false, false≢true, cond}
use mathlib.Core.List.{List, [], ◌∷◌}
use Prim.Native.Nat.{ℕ}
use lib.ListN.{take-append-drop}
use lib.Dec.{eqb}
use Rattle.fdl.specs.declared.parameters.Parameters.{Parameters}
use Rattle.fdl.specs.declared.telegram.Telegram.{Telegram}
use Rattle.peripheral.specs.declared.record.Peripheral.{Peripheral}
use Rattle.peripheral.specs.declared.response.Reply.{Reply}
use Rattle.cycle.specs.declared.refusal.Lent.{Lent}
use Rattle.cycle.specs.declared.state.Step.{Step}
use Rattle.master.specs.declared.unit.DpMaster.{DpMaster}
use Rattle.peripheral.specs.Record.{reset_of, station_is}
use Rattle.station.specs.Record.{due_is}
use Rattle.peripheral_set.specs.declared.PeripheralHandle.{PeripheralHandle}
use Rattle.peripheral_set.specs.Marks.{handle_refusal}
use Rattle.cycle.specs.State.{closed_for}
use Rattle.master.specs.Unit.{state_is, balance_at}
use Rattle.master.specs.Add.{user_of, config_of, lengths_of, newcomer}
use Rattle.answers.specs.Turn.{refused_turn}
use Rattle.master.specs.Turn.{Swept, step_at, swept_by, turn_answer}
use Rattle.master.specs.Receive.{reply_at}
use Rattle.master.specs.Handle.{reset_refusal, balance_is, done_by, reset_done, wish_done}
use Rattle.access.specs.Lookup.{found_in}
use Rattle.valid.specs.Valid.{Valid}
use Rattle.valid.proofs.Calls.{created_valid, enter_valid, wish_valid, reset_valid}
use Rattle.valid.proofs.Turning.{turn_valid}
use Rattle.valid.proofs.Replying.{reply_valid}
use Rattle.valid.proofs.Adding.{add_valid}
use Rattle.master.specs.Pools.{Pools, lend, back, lend_all}
use Rattle.call_log.specs.Calls.{World, Call, add, enter, turn, reply, reset, wish, write, hand, turned, refusal, accepted, Outcome, add_step, turn_step, reply_step, done_step, write_step, add_number, turn_number, reply_number, write_number, hand_number, turn_payload_at, step}
use Rattle.call_log.specs.Run.{Run, after, run, accepted_of}
use Rattle.call_log.specs.Promises.{RefusedSame, BufferSame, NoTrace, AlwaysValid}

-- ---- refused calls

-- a part that comes back as it was lent
pub back_same : (n : ℕ) (pool : List ℕ) → back n (lend n pool) pool ≡ pool
back_same n pool = take-append-drop n pool

-- a turn's answer and a reply's have 0 where they are not refused
pub turn-accepted : (ok : Bool) (n : ℕ) (step : Step) (s : Swept) (payload : List ℕ) (time : ℕ) (buf : List ℕ) (w : World) → eqb n 0 ≡ ok
    → accepted (turn_step ok n step s payload time buf w).answer ≡ ok
unfolding turn_answer
turn-accepted true n step s payload time buf w e = refl
turn-accepted false n step s payload time buf w e = e

pub reply-accepted : (ok : Bool) (n : ℕ) (is : Reply) (t : Telegram) (payload : List ℕ) (ni nd : ℕ) (w : World) → eqb n 0 ≡ ok
    → accepted (reply_step ok n is t payload ni nd w).answer ≡ ok
reply-accepted true n is t payload ni nd w e = refl
reply-accepted false n is t payload ni nd w e = e

add_same : (ok : Bool) (n : ℕ) (p : Peripheral) (user config : List ℕ) (lent : Lent) (w : World) → ok ≡ false → (add_step ok n p user config lent w).world ≡ w
add_same true n p user config lent w e = absurd (false≢true (sym e))
add_same false n p user config lent w e =
    rw (back_same lent.setup w.pools.setup, back_same lent.inputs w.pools.inputs, back_same lent.outputs w.pools.outputs, back_same lent.diags w.pools.diags) refl

reply_same : (ok : Bool) (n : ℕ) (is : Reply) (t : Telegram) (payload : List ℕ) (ni nd : ℕ) (w : World) → eqb n 0 ≡ ok → accepted (reply_step ok n is t payload ni nd w).answer ≡ false
    → (reply_step ok n is t payload ni nd w).world ≡ w
reply_same true n is t payload ni nd w o e = absurd (false≢true (sym e))
reply_same false n is t payload ni nd w o e = rw (back_same ni w.pools.inputs, back_same nd w.pools.diags) refl

write_same : (ok : Bool) (n : ℕ) (p : Peripheral) (bytes : List ℕ) (nq : ℕ) (w : World) → ok ≡ false → (write_step ok n p bytes nq w).world ≡ w
write_same true n p bytes nq w e = absurd (false≢true (sym e))
write_same false n p bytes nq w e =
    ap (λ (q : List ℕ). record { unit = w.unit; pools = record { setup = w.pools.setup; inputs = w.pools.inputs; outputs = q; diags = w.pools.diags } }) (back_same nq w.pools.outputs)

turn_same : (ok : Bool) (n : ℕ) (step : Step) (s : Swept) (payload : List ℕ) (time : ℕ) (buf : List ℕ) (w : World) → eqb n 0 ≡ ok
    → accepted (turn_step ok n step s payload time buf w).answer ≡ false → (turn_step ok n step s payload time buf w).world ≡ w
unfolding turn_answer
turn_same true n step s payload time buf w o e = absurd (false≢true (sym e))
turn_same false n step s payload time buf w o e = refl

done_same : (n : ℕ) (changed : DpMaster) (w : World) → eqb n 0 ≡ false → (done_step (done_by n changed w.unit) w).world ≡ w
done_same n changed w e = rw e refl

reset_same : (w : World) (h : PeripheralHandle) (address : ℕ) → eqb (reset_done w.unit h address).refusal 0 ≡ false → (done_step (reset_done w.unit h address) w).world ≡ w
unfolding reset_done
reset_same w h address e =
    done_same (reset_refusal w.unit.parameters w.unit.occupied w.unit.peripherals h address)
    (state_is (closed_for h.slot w.unit.state) (balance_is h.slot (reset_of (balance_at w.unit.peripherals h.slot) address) w.unit)) w e

wish_same : (w : World) (h : PeripheralHandle) → eqb (wish_done w.unit h).refusal 0 ≡ false → (done_step (wish_done w.unit h) w).world ≡ w
unfolding wish_done
wish_same w h e =
    done_same (handle_refusal h w.unit.occupied)
    (balance_is h.slot (station_is (due_is true (balance_at w.unit.peripherals h.slot).station) (balance_at w.unit.peripherals h.slot)) w.unit) w e

pub refused_same : RefusedSame
unfolding step
refused_same w (add a user config lent) e =
    add_same (eqb (add_number a user config lent w) 0) (add_number a user config lent w) (newcomer w.unit a (lengths_of a user config)) (user_of a user) (config_of a config) lent w e
refused_same w (enter o) e = absurd (false≢true (sym e))
refused_same w (turn time high ns nq buf) e =
    turn_same (eqb (turn_number time ns nq buf w) 0) (turn_number time ns nq buf w) (step_at time high w.unit) (swept_by (step_at time high w.unit) w.unit)
    (turn_payload_at time high ns nq w) time buf w refl e
refused_same w (reply address t payload ni nd) e =
    reply_same (eqb (reply_number address t payload ni nd w) 0) (reply_number address t payload ni nd w)
    (reply_at t w.unit payload (lend ni w.pools.inputs) (lend nd w.pools.diags)) t payload ni nd w refl e
refused_same w (reset h address) e = reset_same w h address e
refused_same w (wish h) e = wish_same w h e
refused_same w (write h bytes nq) e = write_same (eqb (write_number h bytes nq w) 0) (write_number h bytes nq w) (found_in w.unit h) bytes nq w e
refused_same w (hand h bytes nq) e = write_same (eqb (hand_number h nq w) 0) (hand_number h nq w) (found_in w.unit h) bytes nq w e

pub buffer_same : BufferSame
unfolding step
buffer_same w time high ns nq buf e =
    by_buffer (eqb (turn_number time ns nq buf w) 0) (turn_number time ns nq buf w) (step_at time high w.unit) (swept_by (step_at time high w.unit) w.unit)
    (turn_payload_at time high ns nq w) refl e
  where
    by_buffer : (ok : Bool) (n : ℕ) (step : Step) (s : Swept) (payload : List ℕ) → eqb n 0 ≡ ok → accepted (turn_step ok n step s payload time buf w).answer ≡ false
        → (turn_step ok n step s payload time buf w).answer ≡ turned (refused_turn (refusal (turn_step ok n step s payload time buf w).answer)) buf
    by_buffer true n step s payload o e = absurd (false≢true (sym (e) ∙ turn-accepted true n step s payload time buf w o))
    by_buffer false n step s payload o e = refl

-- a run goes on as if a refused call had not come
left_out : (b : Bool) (c : Call) (o : Outcome) (r : Run) → accepted o.answer ≡ b → b ≡ false → o.world ≡ r.world → after c o r.log ≡ r
left_out true c o r e f q = absurd (false≢true (sym f))
left_out false c o r e f q =
    ap (λ (b : Bool). record { world = o.world; log = cond b (record { call = c; answer = o.answer } ∷ r.log) r.log }) e
    ∙ ap (λ (w : World). record { world = w; log = r.log }) q

one_more : (u : Parameters) (pools : Pools) (c : Call) (cs ds : List Call) (b : Bool) → accepted (step (run u pools cs).world c).answer ≡ b → run u pools ds ≡ run u pools cs
    → run u pools (cond b (c ∷ ds) ds) ≡ run u pools (c ∷ cs)
one_more u pools c cs ds true e h = ap (λ (r : Run). after c (step r.world c) r.log) h
one_more u pools c cs ds false e h = h ∙ sym (left_out _ c (step (run u pools cs).world c) (run u pools cs) refl e (refused_same (run u pools cs).world c e))

pub no_trace : NoTrace
no_trace u pools [] = refl
no_trace u pools (c ∷ cs) = one_more u pools c cs (accepted_of u pools cs) (accepted (step (run u pools cs).world c).answer) refl (no_trace u pools cs)

-- ---- Valid

pub valid_step : (w : World) (c : Call) → Valid w.unit → Valid (step w c).world.unit
unfolding step
valid_step w (add a user config lent) v =
    add_valid w.unit a user config (lend_all lent w.pools) _ (record { refusal = _; handle = _; master = _ }) (record { refusal = refl; handle = refl; after = refl; written = refl }) v
valid_step w (enter o) v = enter_valid w.unit o v
valid_step w (turn time high ns nq buf) v =
    turn_valid w.unit time high (lend ns w.pools.setup) (lend nq w.pools.outputs) buf _ (record { master = _; answer = _ }) (record { after = refl; answer = refl; bytes = refl }) v
valid_step w (reply address t payload ni nd) v =
    reply_valid w.unit address t payload (lend ni w.pools.inputs) (lend nd w.pools.diags) _ _ (record { master = _; answer = _ }) (record { after = refl; answer = refl; input_pool = refl; diag_pool = refl }) v
valid_step w (reset h address) v = reset_valid w.unit h address v
valid_step w (wish h) v = wish_valid w.unit h v
valid_step w (write h bytes nq) v = v
valid_step w (hand h bytes nq) v = v

pub always_valid : AlwaysValid
always_valid u pools [] = created_valid u
always_valid u pools (c ∷ cs) = valid_step (run u pools cs).world c (always_valid u pools cs)
