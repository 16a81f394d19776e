-- The frame bit of a balance is what its notes say: First since its last fall, then Low and High in turn, by each reply that cycles it.
-- The idea: each row of the reply's table cycles the bit exactly when the note says so, or puts it to First where it is a fall; one more cycling is one step of the bit.
-- What a turn sends carries the bit of the balance that it goes to.
use mathlib.Core.Path.{◌≡◌, refl, sym, ◌∙◌}
use Prim.Native.Nat.{ℕ, ◌+◌, ◌%◌}
use native.Mathlib.Omega.{arith}
use mathlib.Core.Bool.{Bool, true, false, cond}
use mathlib.Core.List.{List}
use lib.Dec.{eqb}
use borrow.Author.Tests.{eqb-true, eqb-false, eq-eqb, ne_eqb}
use Rattle.parts.proofs.Laws.{by_test}
use mathlib.Core.Option.{some, none-ne-some, some-injective}
use Rattle.std.specs.Prelude.{Option as CodeOption, Some, None}
use Rattle.fdl.specs.Bits.{cycled, bit_number, bit_of}
use Rattle.fdl.specs.declared.telegram.FrameCountBit.{FrameCountBit}
use Rattle.fdl.specs.declared.telegram.FrameCountBit.TheVariants.{First, Low, High, Inactive}
use Rattle.fdl.specs.declared.telegram.Telegram.{Telegram}
use Rattle.payloads.specs.declared.request.Request.{Request}
use Rattle.station.specs.declared.record.Station.{Station}
use Rattle.station.specs.declared.heard.Heard.{Heard}
use Rattle.station.specs.Record.{with_diagnosis}
use Rattle.cycle.specs.declared.seen.Sent.{Sent}
use Rattle.cycle.specs.declared.state.Step.{Step}
use Rattle.cycle.specs.declared.state.Step.TheVariants.{Halt, Control, Back, Visits}
use Rattle.cycle.specs.State.{after_turn}
use Rattle.answers.specs.Turn.{transmission_of}
use Rattle.master.specs.Unit.{state_is, balances_are}
use Rattle.master.specs.Turn.{step_at, swept_by, asked_in, turn_answer}
use Rattle.valid.specs.Valid.{Valid}
use Rattle.call_log.specs.Calls.{World, turn, turn_number, turn_step, turn_payload_at, step}
use Rattle.call_log.specs.Notes.{Note, is_error, turn_of, slot_asked}
use Rattle.call_log.specs.Entries.{Entry, slot_log}
use Rattle.call_log.specs.Run.{run}
use Rattle.call_log.specs.Words.{cycles, bit_after, cyclings, frame_bit}
use Rattle.call_log.specs.Promises.{BitTold, bit_sent, SentBitTold}
use Rattle.station.proofs.Rows.{comes_online, stays_offline, param_confirmed, param_unconfirmed, config_confirmed, config_unconfirmed, param_error, config_error, param_wanted, not_ready, is_configured, unvalidated, diagnosed, undiagnosed, data_stored, data_unused, data_denied}
use Rattle.call_log.proofs.Lives.{Slot, RowOf, SlotFact, always, last-asked}
use Rattle.call_log.proofs.Units.{Inv}
use Rattle.call_log.proofs.Turning.{sent_there, asked_is}
use Rattle.call_log.proofs.Steps.{valid_step, always_valid}
use Rattle.call_log.proofs.Promised.{inv_run}
use Rattle.call_log.proofs.SlotFacts.{fact_holds}

back : (b : FrameCountBit) → bit_of (bit_number b) ≡ b
back First = refl
back Low = refl
back High = refl
back Inactive = refl

bit_row : (s : Station) (t : Telegram) (payload : List ℕ) (n : ℕ) {k : Request} {h : Heard} → RowOf s t payload n k h
    → bit_of h.station.fcb ≡ cond (is_error h.event) First (cond (cycles (some k) t payload) (cycled (bit_of s.fcb)) (bit_of s.fcb))
unfolding with_diagnosis
bit_row s t payload n (comes_online x e) = rw e (back _)
bit_row s t payload n (stays_offline x e) = rw e refl
bit_row s t payload n (param_confirmed x e) = rw e (back _)
bit_row s t payload n (param_unconfirmed x e) = rw e refl
bit_row s t payload n (config_confirmed x e) = rw e (back _)
bit_row s t payload n (config_unconfirmed x e) = rw e refl
bit_row s t payload n (param_error x e a) = refl
bit_row s t payload n (config_error x e a b) = refl
bit_row s t payload n (param_wanted x e a b c) = rw e (back _)
bit_row s t payload n (not_ready x e a b c d) = rw e (back _)
bit_row s t payload n (is_configured x e a b c d) = rw e (back _)
bit_row s t payload n (unvalidated x e) = rw e refl
bit_row s t payload n (diagnosed x e) = rw e (back _)
bit_row s t payload n (undiagnosed x e) = rw e refl
bit_row s t payload n (data_stored j x e f) = back _
bit_row s t payload n (data_unused j x e f) = back _
bit_row s t payload n (data_denied x e f) = back _

-- ---- one cycling more

bit-next : (n : ℕ) → bit_after (n + 1) ≡ cycled (bit_after n)
bit-next n =
    let more : eqb (n + 1) 0 ≡ false = ne_eqb (n + 1) 0 (λ z. omega (arith, z)) in
    by_test (eqb n 0) (λ e. let z : n ≡ 0 = eqb-true n 0 e in rw z refl)
    (λ e. by_test (eqb (n % 2) 1)
    (λ o. let even : eqb ((n + 1) % 2) 1 ≡ false = ne_eqb ((n + 1) % 2) 1 (λ z. omega (arith, z, eqb-true (n % 2) 1 o)) in rw (more, e, o, even) refl)
    (λ o. let odd : eqb ((n + 1) % 2) 1 ≡ true = eq-eqb ((n + 1) % 2) 1 (odd_after n (eqb-false (n % 2) 1 o)) in rw (more, e, o, odd) refl))
  where
    odd_after : (k : ℕ) → (k % 2 ≡ 1 → ⊥) → (k + 1) % 2 ≡ 1
    odd_after k h = omega arith

counted : (fell cycles : Bool) (n : ℕ) → cond fell First (cond cycles (cycled (bit_after n)) (bit_after n)) ≡ bit_after (cond fell 0 (cond cycles (n + 1) n))
counted true cycles n = refl
counted false true n = sym (bit-next n)
counted false false n = refl

bit_fact : (limit : ℕ) → SlotFact limit (λ (x : Slot) (l : List Note). bit_of x.balance.station.fcb ≡ frame_bit l)
bit_fact limit =
    record {
      on_added = λ a user config used l. refl;
      on_reset = λ v i a. refl;
      on_wish = λ v i. i;
      on_sent = λ v i q e. i;
      on_fell = λ v i e. refl;
      on_skipped = λ v i e. i;
      on_rest = λ v i. i;
      on_reply = λ {x} {l} v i q t payload n h o r. rw (last-asked v o) ((rw i at (bit_row x.balance.station t payload n r)) ∙ counted (is_error h.event) (cycles (some q) t payload) (cyclings l));
    }

pub bit_told : BitTold
bit_told = fact_holds (λ limit x l. bit_of x.balance.station.fcb ≡ frame_bit l) bit_fact

-- ---- on the wire

module _ (w : World) (l : List Entry) (i : Inv w l) (time s : ℕ) where
  sent_step : (step : Step) (sent : CodeOption Sent) → (swept_by step w.unit).seen.sent ≡ sent → Valid (state_is (after_turn step sent time w.unit.state) (balances_are (swept_by step w.unit).balances w.unit))
      → let a = transmission_of step sent (asked_in (swept_by step w.unit)) w.unit.parameters in slot_asked a ≡ some s → bit_sent a ≡ frame_bit (slot_log s l)
  sent_step Halt sent e v q = absurd (none-ne-some s q)
  sent_step Control sent e v q = absurd (none-ne-some s q)
  sent_step Back sent e v q = absurd (none-ne-some s q)
  sent_step Visits None e v q = absurd (none-ne-some s q)
  sent_step Visits (Some x) e v q =
      let o = sent_there w l i _ time x.slot x.kind v in
      rw (asked_is w l i x.slot x.kind e o, ← some-injective x.slot s q) (always (bit_fact _) (i.lives x.slot o))

  sent_turn : (high : Bool) (ns nq : ℕ) (buf : List ℕ) (b : Bool)
      → let o = turn_step b (turn_number time ns nq buf w) (step_at time high w.unit) (swept_by (step_at time high w.unit) w.unit) (turn_payload_at time high ns nq w) time buf w in
      Valid o.world.unit → let a = turn_of o.answer in slot_asked a.transmission ≡ some s → bit_sent a.transmission ≡ frame_bit (slot_log s l)
  unfolding turn_answer
  sent_turn high ns nq buf true v q = sent_step (step_at time high w.unit) _ refl v q
  sent_turn high ns nq buf false v q = absurd (none-ne-some s q)

pub sent_bit_told : SentBitTold
unfolding step
sent_bit_told u pools cs time high ns nq buf s q =
    let w = (run u pools cs).world in
    sent_turn w (run u pools cs).log (inv_run u pools cs) time s high ns nq buf (eqb (turn_number time ns nq buf w) 0) (valid_step w (turn time high ns nq buf) (always_valid u pools cs)) q
