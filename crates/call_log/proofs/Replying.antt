-- An accepted reply keeps what holds of unit and log.
-- The idea: it is from the slot that the newest turn asked; its balance hears it, its image is written where DataExchanged is reported, and no other changes.
use mathlib.Core.Path.{◌≡◌, refl, sym, ap, ◌∙◌}
use mathlib.Core.Bool.{Bool, true, false, not, false≢true, cond}
use mathlib.Core.List.{List}
use mathlib.Core.Option.{some, none}
use Prim.Native.Nat.{ℕ, ◌+◌, ◌-◌, ◌≤◌, ◌<◌}
use native.Mathlib.Omega.{arith}
use lib.ListN.{length, set}
use lib.Dec.{T, eqb, ltb}
use borrow.Author.Tests.{eq-eqb, ltb-true, ltb-false, lt-ltb}
use Rattle.parts.proofs.Laws.{by_test}
use Rattle.fdl.specs.Status.{carried}
use Rattle.fdl.specs.declared.telegram.Telegram.{Telegram}
use Rattle.station.specs.declared.state.PeripheralEvent.{PeripheralEvent}
use Rattle.station.specs.Heard.{is_exchanged}
use Rattle.peripheral.specs.declared.record.Peripheral.{Peripheral}
use Rattle.peripheral.specs.Record.{input_image}
use Rattle.peripheral.specs.Response.{reply_of, inputs_of}
use Rattle.peripheral.proofs.Laws.{inputs_kept, inputs-length, inputs_other, exchanged-image}
use Rattle.peripheral_set.specs.Marks.{slots, next_after}
use Rattle.peripheral_set.proofs.Laws.{search_found, search_first, search-from}
use Rattle.cycle.specs.declared.state.DpMasterState.{DpMasterState}
use Rattle.cycle.specs.Seen.{index_of}
use Rattle.cycle.specs.State.{answered}
use Rattle.cycle.proofs.Laws.{reply_open, reply-inputs}
use Rattle.answers.specs.declared.reply_answer.ReplyAnswer.{ReplyAnswer}
use Rattle.master.specs.declared.unit.DpMaster.{DpMaster}
use Rattle.master.specs.Unit.{state_is, balances_are}
use Rattle.master.specs.Receive.{open_balance, open_request, reply_at}
use Rattle.valid.specs.Valid.{Valid, balance, occupied}
use Rattle.valid.proofs.Balances.{marked_below, open_there}
use Rattle.master.specs.Pools.{lend, back}
use Rattle.call_log.specs.Calls.{World, reply, replied, reply_step, reply_number}
use Rattle.call_log.specs.Notes.{got}
use Rattle.call_log.specs.Entries.{Entry, target, Place, slot_log, place_next, place_replied, frame_of, occupied_in, Moved}
use Rattle.call_log.specs.Promises.{frame_in}
use Rattle.call_log.proofs.Lives.{rests, replies}
use Rattle.call_log.proofs.Lent.{lent_same, lent_back}
use Rattle.call_log.proofs.Units.{open_at, LivesAt, Inv, InvAt, none_open, at_set}

closes : (next : ℕ) (s : DpMasterState) → eqb (answered next s).open_kind 0 ≡ true
closes next s = by_test (ltb next slots) (λ e. rw e refl) (λ e. rw e refl)

closed : (s next : ℕ) (st : DpMasterState) → open_at (answered next st) s ≡ none
closed s next st = by_test (ltb next slots) (λ e. rw e (none_open (eqb s 0))) (λ e. rw e (none_open (eqb s 0)))

place_is : (next : ℕ) (s : DpMasterState) → ◌≡◌ {A = Place} (record { slot = (answered next s).slot; past = (answered next s).completed }) (place_next next)
place_is next s = by_test (ltb next slots) (λ e. rw e refl) (λ e. rw e refl)

mode-is : (next : ℕ) (s : DpMasterState) → (answered next s).operating ≡ s.operating
mode-is next s = by_test (ltb next slots) (λ e. rw e refl) (λ e. rw e refl)

-- the next occupied slot, none between
next_place : (l : List Entry) (t : ℕ) → target l ≡ some t → t < slots → Moved l (place_next (next_after (frame_of l).marks t))
next_place l t e h = by_test (ltb next slots) (λ c. rw c (found (ltb-true next slots c))) (λ c. rw c (past (ltb-false next slots c)))
  where
    marks : List Bool
    marks = (frame_of l).marks

    next : ℕ
    next = next_after marks t

    empty : (s : ℕ) → t < s → s < slots → s < next → T (not (occupied_in l s))
    empty s a b c = rw (search_first slots true marks (slots - (t + 1)) (t + 1) s (omega arith) (omega arith) c) tt

    later : t < next
    later = omega (arith, search-from slots true marks (slots - (t + 1)) (t + 1) (omega arith))

    found : next < slots → Moved l (record { slot = next; past = false })
    found c =
        record {
          slot = t;
          newest = e;
          next = λ p. (later, rw (search_found slots true marks (slots - (t + 1)) (t + 1) c) tt);
          between = λ s a b. empty s a (omega arith) b;
        }

    past : slots ≤ next → Moved l (record { slot = 0; past = true })
    past c = record { slot = t; newest = e; next = λ p. absurd (false≢true (sym p)); between = λ s a b. empty s a b (omega arith) }

module _ (w : World) (l : List Entry) (i : Inv w l) (address : ℕ) (r : Telegram) (payload : List ℕ) (ni nd : ℕ) (z : reply_number address r payload ni nd w ≡ 0) where
  x : ℕ
  x = w.unit.state.open_slot

  p : Peripheral
  p = balance w.unit w.unit.state.open_slot

  pool : List ℕ
  pool = lend ni w.pools.inputs

  pub is_open : eqb w.unit.state.open_kind 0 ≡ false
  is_open = reply_open w.unit.parameters w.unit.state (open_balance w.unit).station.address address r (length payload) (length (lend ni w.pools.inputs)) (length (lend nd w.pools.diags)) z

  pub pool-length : length (lend ni w.pools.inputs) ≡ w.unit.parameters.input_pool
  pool-length = reply-inputs w.unit.parameters w.unit.state (open_balance w.unit).station.address address r (length payload) (length (lend ni w.pools.inputs)) (length (lend nd w.pools.diags)) z

  pub there : occupied w.unit w.unit.state.open_slot
  there = (open_there w.unit i.valid is_open).there

  below : w.unit.state.open_slot < slots
  below = marked_below w.unit i.valid w.unit.state.open_slot there

  pub reply_moves : Moved l (place_replied (frame_of l).marks (target l) (frame_of l).place)
  reply_moves = let k = i.aimed is_open in rw k (next_place l w.unit.state.open_slot k below)

  pub index_is : index_of w.unit.state.open_slot ≡ w.unit.state.open_slot
  index_is = rw (lt-ltb w.unit.state.open_slot slots below) refl

  -- the inputs as they are lent before and after
  event : PeripheralEvent
  event = (reply_of (open_request w.unit) r p payload (length pool) (length (lend nd w.pools.diags))).event

  image_here : input_image p (inputs_of event (carried r payload) p pool) ≡ cond (is_exchanged event) (carried r payload) (input_image p pool)
  unfolding event
  image_here =
      by_test (is_exchanged event) (λ e. exchanged-image r p payload pool (lend nd w.pools.diags) (open_request w.unit) e ∙ rw e refl)
      (λ e. ap (input_image p) (inputs_kept event (carried r payload) p pool e) ∙ rw e refl)

  image-there : (s : ℕ) → occupied w.unit s → (s ≡ x → ⊥) → input_image (balance w.unit s) (inputs_of event (carried r payload) p pool) ≡ input_image (balance w.unit s) pool
  unfolding p x
  image-there s o d = inputs_other event (carried r payload) p pool (balance w.unit s).ranges.inputs (balance w.unit s).ranges.input_len (i.valid.apart s x o there d).inputs

  pub seen : (s : ℕ) → occupied w.unit s → LivesAt w.unit.parameters.max_retry_limit w.unit.state w.unit.peripherals (lend ni w.pools.inputs) s (slot_log s l)
  seen s o = rw (lent_same ni w.unit.parameters.input_pool w.pools.inputs pool-length) (i.lives s o)

  inputs-after : lend w.unit.parameters.input_pool (back ni (inputs_of event (carried r payload) p pool) w.pools.inputs) ≡ inputs_of event (carried r payload) p pool
  unfolding pool
  inputs-after = lent_back ni w.unit.parameters.input_pool w.pools.inputs pool-length _ (inputs-length event (carried r payload) p pool)

  -- its request is open
  pub asked_here : open_at w.unit.state w.unit.state.open_slot ≡ some (open_request w.unit)
  asked_here = rw (eq-eqb w.unit.state.open_slot w.unit.state.open_slot refl, is_open) refl

  -- the reply at that slot
  inv_at : (a : ReplyAnswer) (diags : List ℕ) (next : ℕ) → a.event ≡ event → next ≡ next_after w.unit.occupied x
      → let m : DpMaster = state_is (answered next w.unit.state) (balances_are (set w.unit.peripherals x (reply_of (open_request w.unit) r p payload (length pool) (length (lend nd w.pools.diags))).peripheral) w.unit) in
      Valid m
      → InvAt (reply address r payload ni nd) (replied a) (record { unit = m; pools = record { setup = w.pools.setup; inputs = back ni (inputs_of event (carried r payload) p pool) w.pools.inputs; outputs = w.pools.outputs; diags = diags } }) l
  unfolding event x p pool
  inv_at a diags next ea en v =
      let k = i.aimed is_open in
      record {
        valid = v;
        frame_is = rw (mode-is next w.unit.state, k, ← i.frame_is, en) (ap (λ (q : Place). record { mode = (frame_in w.unit).mode; marks = w.unit.occupied; place = q }) (rw en at (place_is next w.unit.state)));
        aimed = λ c. absurd (false≢true (sym c ∙ closes next w.unit.state));
        lives = λ s u.
            rw (k, ea, inputs-after)
            (at_set _ (answered next w.unit.state) w.unit.peripherals (inputs_of event (carried r payload) p pool) (λ s. slot_log s l) x _ (got r payload event) (omega (arith, below, i.valid.table))
            (rw (closed x next w.unit.state, image_here) (replies (seen x there) asked_here r payload (length pool) (length (lend nd w.pools.diags)))) s
            (λ d. rw (closed s next w.unit.state, image-there s u d) (rests (seen s u))));
      }

  pub inv_reply : (n : ℕ) → let o = reply_step true n (reply_at r w.unit payload (lend ni w.pools.inputs) (lend nd w.pools.diags)) r payload ni nd w in
      Valid o.world.unit → InvAt (reply address r payload ni nd) o.answer o.world l
  unfolding reply_at event x p pool
  inv_reply n v = rw index_is (inv_at _ _ (next_after w.unit.occupied x) refl refl (rw index_is at v))
