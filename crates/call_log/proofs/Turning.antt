-- An accepted turn keeps what holds of unit and log, and asks for data exactly when the notes say so.
-- The idea: each slot's notes gain what its own visit did; the mask, the event and what was sent are the three ways in which a turn's answer says it.
use mathlib.Core.Path.{◌≡◌, refl, sym, ap, ◌∙◌, subst}
use mathlib.Core.Bool.{Bool, true, false, not, ◌&&◌, ◌||◌, false≢true, cond}
use mathlib.Core.Logic.{⊎_elim}
use mathlib.Core.List.{List, ◌∷◌}
use mathlib.Core.Option.{Option, none, some, none-ne-some, some-injective}
use Rattle.std.specs.Prelude.{Option as CodeOption, Some, None}
use Prim.Native.Nat.{ℕ, ◌≤◌, ◌-◌, ◌<◌}
use native.Mathlib.Omega.{arith}
use lib.ListN.{get_or}
use lib.Dec.{T, eqb, leb, ltb}
use borrow.Author.Tests.{eqb-true, eq-eqb, lt-ltb, ne_eqb, lt-leb}
use Rattle.parts.proofs.Laws.{by_test, and_false}
use Rattle.fdl.specs.declared.parameters.Parameters.{Parameters}
use Rattle.payloads.specs.declared.request.Request.{Request}
use Rattle.payloads.specs.declared.request.Request.TheVariants.{Diagnosis, Parameters as ParameterRequest, Configuration, Data}
use Rattle.station.specs.declared.visit.Visited.{Visited}
use Rattle.station.specs.declared.visit.Visited.TheVariants.{Sends, Drops, Skips}
use Rattle.station.specs.declared.state.PeripheralEvent.TheVariants.{NoEvent, Offline as WentOffline}
use Rattle.station.specs.Visit.{visited_of}
use Rattle.station.proofs.Visits.{drops, action_drops, sends_data}
use Rattle.peripheral.specs.declared.record.Peripheral.{Peripheral}
use Rattle.peripheral.specs.Record.{blank, station_is, input_image}
use Rattle.peripheral.specs.Visit.{visit_action, visited_by}
use Rattle.peripheral_set.specs.Marks.{slots}
use Rattle.cycle.specs.declared.seen.Seen.{Seen}
use Rattle.cycle.specs.declared.seen.Sent.{Sent}
use Rattle.cycle.specs.declared.state.DpMasterState.{DpMasterState}
use Rattle.cycle.specs.declared.state.OperatingState.{OperatingState}
use Rattle.cycle.specs.declared.state.OperatingState.TheVariants.{Stop, Clear, Operate}
use Rattle.cycle.specs.declared.state.Step.{Step}
use Rattle.cycle.specs.declared.state.Step.TheVariants.{Halt, Control, Back, Visits}
use Rattle.cycle.specs.Seen.{nothing_seen, idle, first_index}
use Rattle.master.specs.Unit.{state_is, balances_are}
use Rattle.master.proofs.Bits.{bit, zero_bit}
use Rattle.valid.proofs.Balances.{marked_below}
use Rattle.call_log.specs.Notes.{slot_asked, Note, went_offline, asked, is_offline, bit_set, reported_offline, note_asked}
use Rattle.call_log.specs.Entries.{up_to, reached, Entry, Place, target, slot_log, place_turned}
use Rattle.call_log.specs.Words.{is_kind, due_of, asks_data}
use Rattle.call_log.specs.Promises.{MaskEvent}
use Rattle.payloads.specs.Request.{kind_number}
use Rattle.call_log.proofs.Visits.{sent_to, kind_sent, went_to, Swung, all_visits, Lowest, Firsts, all_first, empty-bit}
use Rattle.cycle.specs.State.{timed, closed, operating_of, control_due, step_of, start_of, after_visits, after_turn}
use Rattle.answers.specs.Turn.{transmission_of, visits_transmit, completes_of, offline_event, handle_of}
use Rattle.master.specs.Turn.{sweep_from, step_at, swept_by, unit_turned, asked_in, turn_answer}
use Rattle.valid.specs.Valid.{Valid, balance, occupied}
use Rattle.call_log.specs.Calls.{World, turn, turned, unit_is, step}
use Rattle.call_log.proofs.Wording.{is_true, ready}
use Rattle.call_log.proofs.Lives.{visit_note, kind_of, slot_of, Lives, lives_visited, rests}
use Rattle.call_log.proofs.Stations.{told, asked-when}
use Rattle.call_log.proofs.Units.{open_at, LivesAt, inputs_lent, none_open, Inv, InvAt}

-- ---- what an answer says of slot s

-- what the event says of the mask
module _ (seen : Seen) (f : Firsts slots seen) where
  not_empty : Lowest slots seen → eqb seen.mask 0 ≡ false
  not_empty k = ne_eqb seen.mask 0 (λ e. let z : bit k.first seen.mask ≡ 0 = rw e (zero_bit k.first) in omega (arith, k.own))

  fell : T (is_offline (offline_event seen.first)) → Lowest slots seen
  fell t = ⊎_elim (λ e. absurd (rw e.0 at t)) (λ k. k) f.either

  event_is : offline_event seen.first ≡ cond (eqb seen.mask 0) NoEvent WentOffline
  event_is = ⊎_elim (λ e. rw (e.0, e.1) refl) (λ k. rw (k.is, not_empty k) refl) f.either

  event-own : (address : ℕ) → T (is_offline (offline_event seen.first)) → T (bit_set (handle_of seen.first address).slot seen.mask)
  event-own address t = let k = fell t in rw (k.is, k.own) tt

  event-lowest : (address : ℕ) → T (is_offline (offline_event seen.first)) → (s : ℕ) → s < (handle_of seen.first address).slot → T (not (bit_set s seen.mask))
  event-lowest address t s h = let k = fell t in rw (k.lower s (rw k.is at h)) tt

  -- by event or mask bit is by mask bit: the event's slot is in the mask
  reported_is : (address s : ℕ) → ((is_offline (offline_event seen.first) && eqb s (handle_of seen.first address).slot) || bit_set s seen.mask) ≡ bit_set s seen.mask
  reported_is address s =
      ⊎_elim (λ e. rw e.0 refl)
      (λ k.
      rw k.is
      (by_test (eqb s k.first)
      (λ q. let z : s ≡ k.first = eqb-true s k.first q in rw (q, z, k.own) refl)
      (λ q. rw q refl)))
      f.either

-- a visit keeps the address
address_kept : (b : Bool) (v : Visited) (p : Peripheral) → (cond b (station_is (visited_of v p.station) p) p).station.address ≡ p.station.address
address_kept false v p = refl
address_kept true (Sends k) p = refl
address_kept true Drops p = refl
address_kept true Skips p = refl

one_or_none : (b : Bool) → eqb (cond b 1 0) 1 ≡ b
one_or_none true = refl
one_or_none false = refl

-- the note of a request that went to it, or none
abbrev note_kind : Option Request → List Note → List Note
note_kind none l = l
note_kind (some k) l = asked k ∷ l

visits_noted : (sent : CodeOption Sent) (p : Peripheral) (u : Parameters) (s : ℕ) (l : List Note) → note_asked s (visits_transmit sent p u) l ≡ note_kind (kind_sent s sent) l
visits_noted None p u s l = refl
visits_noted (Some x) p u s l = by_test (eqb s x.slot) (λ e. rw e refl) (λ e. rw e refl)

visits_went : (sent : CodeOption Sent) (p : Peripheral) (u : Parameters) (s : ℕ) → up_to s (idle sent) (visits_transmit sent p u) ≡ went_to s sent
visits_went None p u s = refl
visits_went (Some x) p u s = refl

visits_asked : (sent : CodeOption Sent) (p : Peripheral) (u : Parameters) (s : ℕ) → asks_data s (visits_transmit sent p u) ≡ is_kind Data (kind_sent s sent)
visits_asked None p u s = refl
visits_asked (Some x) p u s = by_test (eqb s x.slot) (λ e. rw e refl) (λ e. rw e refl)

-- ---- the place

place-turned : (o : OperatingState) (due past : Bool) (sent : CodeOption Sent) (p : Peripheral) (u : Parameters) (time : ℕ) (s : DpMasterState)
    → ◌≡◌ {A = Place} (record { slot = (after_turn (step_of o due past) sent time s).slot; past = (after_turn (step_of o due past) sent time s).completed })
    (place_turned o (completes_of (step_of o due past) sent) (transmission_of (step_of o due past) sent p u) (record { slot = s.slot; past = s.completed }))
place-turned Stop due past sent p u time s = refl
place-turned Clear true past sent p u time s = refl
place-turned Clear false true sent p u time s = refl
place-turned Clear false false None p u time s = refl
place-turned Clear false false (Some x) p u time s = refl
place-turned Operate true past sent p u time s = refl
place-turned Operate false true sent p u time s = refl
place-turned Operate false false None p u time s = refl
place-turned Operate false false (Some x) p u time s = refl

mode-kept : (step : Step) (sent : CodeOption Sent) (time : ℕ) (s : DpMasterState) → (after_turn step sent time s).operating ≡ s.operating
mode-kept Halt sent time s = refl
mode-kept Control sent time s = refl
mode-kept Back sent time s = refl
mode-kept Visits None time s = refl
mode-kept Visits (Some x) time s = refl

-- ---- one slot

note_is : (v : Visited) (l : List Note) → cond (drops v) (went_offline ∷ l) (note_kind (kind_of v) l) ≡ visit_note v l
note_is (Sends k) l = refl
note_is Drops l = refl
note_is Skips l = refl

-- visited or passed
lives_by : (limit : ℕ) (p q : Peripheral) (pool : List ℕ) (l : List Note) (k o : Option Request) (b : Bool) → q ≡ cond b (visited_by limit p) p → o ≡ cond b (kind_of (visit_action limit p)) none
    → Lives limit (slot_of k p (input_image p pool)) l → Lives limit (slot_of o q (input_image q pool)) (cond (b && drops (visit_action limit p)) (went_offline ∷ l) (note_kind (cond b (kind_of (visit_action limit p)) none) l))
lives_by limit p q pool l k o true e z i = rw (e, z, note_is (visit_action limit p) l) (lives_visited i)
lives_by limit p q pool l k o false e z i = rw (e, z) (rests i)

-- a visit that sent
sent_is : (v : Visited) (p : Peripheral) (k : Request) (b : Bool) → cond b (kind_of v) none ≡ some k → cond b (station_is (visited_of v p.station) p) p ≡ station_is (visited_of (Sends k) p.station) p
sent_is (Sends q) p k true e = ap (λ (r : Request). station_is (visited_of (Sends r) p.station) p) (some-injective q k e)
sent_is Drops p k true e = absurd (none-ne-some k e)
sent_is Skips p k true e = absurd (none-ne-some k e)
sent_is v p k false e = absurd (none-ne-some k e)

-- the request that is open afterwards
sent_open : (sent : CodeOption Sent) (time : ℕ) (st : DpMasterState) (s : ℕ) → open_at (after_visits sent (closed (timed time st))) s ≡ kind_sent s sent
sent_open None time st s = none_open (eqb s 0)
sent_open (Some x) time st s = by_kind x.kind
  where
    by_kind : (k : Request) → open_at (after_visits (sent_to x.slot k) (closed (timed time st))) s ≡ kind_sent s (sent_to x.slot k)
    by_kind Diagnosis = refl
    by_kind ParameterRequest = refl
    by_kind Configuration = refl
    by_kind Data = refl

-- ---- the turn

module _ (w : World) (l : List Entry) (i : Inv w l) where
  swung : (step : Step) (s : ℕ) → occupied w.unit s → Swung w.unit.parameters.max_retry_limit (start_of step w.unit.state) s (balance w.unit s) (swept_by step w.unit)
  unfolding swept_by
  swung step s o =
      let h = marked_below w.unit i.valid s o in
      all_visits w.unit.parameters.max_retry_limit w.unit.occupied (start_of step w.unit.state) s w.unit.peripherals h (omega (arith, i.valid.table)) o

  starts : (step : Step) → start_of step w.unit.state ≤ slots
  starts Halt = omega arith
  starts Control = omega arith
  starts Back = omega arith
  starts Visits = omega (arith, i.valid.standing.place)

  firsts : (step : Step) → Firsts slots (swept_by step w.unit).seen
  unfolding swept_by
  firsts step = all_first w.unit.parameters.max_retry_limit w.unit.occupied (start_of step w.unit.state) w.unit.peripherals (starts step)

  -- steps 1 to 3 send to nobody
  steps_noted : (step : Step) (p : Peripheral) (u : Parameters) (s : ℕ) (n : List Note)
      → note_asked s (transmission_of step (swept_by step w.unit).seen.sent p u) n ≡ note_kind (kind_sent s (swept_by step w.unit).seen.sent) n
  unfolding swept_by sweep_from
  steps_noted Halt p u s n = refl
  steps_noted Control p u s n = refl
  steps_noted Back p u s n = refl
  steps_noted Visits p u s n = visits_noted (swept_by Visits w.unit).seen.sent p u s n

  module _ (step : Step) (payload buf : List ℕ) where
    reported : (s : ℕ) (o : occupied w.unit s) → reported_offline s (turn_answer step (swept_by step w.unit) w.unit payload buf) ≡ ((swung step s o).visited && drops (visit_action w.unit.parameters.max_retry_limit (balance w.unit s)))
    unfolding turn_answer
    reported s o =
        let x = swept_by step w.unit in
        reported_is x.seen (firsts step) (get_or x.balances (first_index x.seen.first) blank).station.address s
        ∙ (rw (swung step s o).mask (one_or_none ((swung step s o).visited && drops (visit_action w.unit.parameters.max_retry_limit (balance w.unit s)))))

    sent_noted : (s : ℕ) (o : occupied w.unit s) (n : List Note)
        → note_asked s (turn_answer step (swept_by step w.unit) w.unit payload buf).transmission n ≡ note_kind (cond (swung step s o).visited (kind_of (visit_action w.unit.parameters.max_retry_limit (balance w.unit s))) none) n
    unfolding turn_answer
    sent_noted s o n = steps_noted step (asked_in (swept_by step w.unit)) w.unit.parameters s n ∙ ap (λ (k : Option Request). note_kind k n) (swung step s o).kind

    -- the notes of a slot after the turn
    notes_are : (s : ℕ) (o : occupied w.unit s) (n : List Note)
        → cond (reported_offline s (turn_answer step (swept_by step w.unit) w.unit payload buf)) (went_offline ∷ n) (note_asked s (turn_answer step (swept_by step w.unit) w.unit payload buf).transmission n)
        ≡ cond ((swung step s o).visited && drops (visit_action w.unit.parameters.max_retry_limit (balance w.unit s))) (went_offline ∷ n) (note_kind (cond (swung step s o).visited (kind_of (visit_action w.unit.parameters.max_retry_limit (balance w.unit s))) none) n)
    notes_are s o n = rw (reported s o) (ap (λ (y : List Note). cond ((swung step s o).visited && drops (visit_action w.unit.parameters.max_retry_limit (balance w.unit s))) (went_offline ∷ n) y) (sent_noted s o n))

  steps_open : (step : Step) (time s : ℕ) → open_at (after_turn step (swept_by step w.unit).seen.sent time w.unit.state) s ≡ kind_sent s (swept_by step w.unit).seen.sent
  unfolding swept_by sweep_from
  steps_open Halt time s = none_open (eqb s 0)
  steps_open Control time s = none_open (eqb s 0)
  steps_open Back time s = none_open (eqb s 0)
  steps_open Visits time s = sent_open (swept_by Visits w.unit).seen.sent time w.unit.state s

  kind_here : (t : ℕ) (k : Request) (sent : CodeOption Sent) (r : Option Request) → sent ≡ sent_to t k → kind_sent t sent ≡ r → some k ≡ r
  kind_here t k sent r e q = sym (subst (λ (y : CodeOption Sent). kind_sent t y ≡ some k) (sym e) (rw (eq-eqb t t refl) refl)) ∙ q

  module _ (payload buf : List ℕ) (time : ℕ) (high : Bool) (ns nq : ℕ) (out : List ℕ) where
    entry : Step → Entry
    entry step = record { call = turn time high ns nq buf; answer = turned (turn_answer step (swept_by step w.unit) w.unit payload buf) out }

    target_open : (t : ℕ) (k : Request) → (swept_by Visits w.unit).seen.sent ≡ sent_to t k → target (entry Visits ∷ l) ≡ some t
    unfolding entry turn_answer
    target_open t k e = rw e refl

    aimed_turn : (step : Step) (sent : CodeOption Sent) → (swept_by step w.unit).seen.sent ≡ sent → let st = after_turn step sent time w.unit.state in
        eqb st.open_kind 0 ≡ false → target (entry step ∷ l) ≡ some st.open_slot
    aimed_turn Halt sent e c = absurd (false≢true (sym c))
    aimed_turn Control sent e c = absurd (false≢true (sym c))
    aimed_turn Back sent e c = absurd (false≢true (sym c))
    aimed_turn Visits None e c = absurd (false≢true (sym c))
    aimed_turn Visits (Some x) e c = target_open x.slot x.kind e

    pub inv_turn : let step = step_at time high w.unit in
        Valid (unit_turned step (swept_by step w.unit) time w.unit)
        → InvAt (turn time high ns nq buf) (turned (turn_answer step (swept_by step w.unit) w.unit payload buf) out) (unit_is (unit_turned step (swept_by step w.unit) time w.unit) w) l
    unfolding entry turn_answer
    inv_turn v =
        let step = step_at time high w.unit in
        let x = swept_by step w.unit in
        record {
          valid = v;
          frame_is =
              rw (← i.frame_is, mode-kept step x.seen.sent time w.unit.state)
              (ap (λ (q : Place). record { mode = operating_of w.unit.state.operating; marks = w.unit.occupied; place = q })
              (place-turned (operating_of w.unit.state.operating) (control_due time high w.unit.parameters.slot_time w.unit.state) w.unit.state.completed x.seen.sent (asked_in x) w.unit.parameters time w.unit.state));
          aimed = aimed_turn step x.seen.sent refl;
          lives = λ s u.
              subst (LivesAt w.unit.parameters.max_retry_limit (after_turn step x.seen.sent time w.unit.state) x.balances (inputs_lent w) s) (sym (notes_are step payload buf s u (slot_log s l)))
              (lives_by w.unit.parameters.max_retry_limit (balance w.unit s) (get_or x.balances s blank) (inputs_lent w) (slot_log s l) (open_at w.unit.state s) _ (swung step s u).visited (swung step s u).balance
              (steps_open step time s ∙ (swung step s u).kind) (i.lives s u));
        }

  -- ---- reached is visited

  -- steps 1 to 3 visit nobody
  nobody : (step : Step) (s : ℕ) (o : occupied w.unit s) → leb (start_of step w.unit.state) s ≡ false → (swung step s o).visited ≡ false
  nobody step s o e = sym (swung step s o).went ∙ rw e refl

  went_far : (step : Step) (s : ℕ) (o : occupied w.unit s) → let y = swept_by step w.unit in
      (leb w.unit.state.slot s && up_to s (completes_of step y.seen.sent) (transmission_of step y.seen.sent (asked_in y) w.unit.parameters)) ≡ (swung step s o).visited
  went_far Halt s o = and_false (leb w.unit.state.slot s) false refl ∙ sym (nobody Halt s o (lt-leb slots s (marked_below w.unit i.valid s o)))
  went_far Control s o = and_false (leb w.unit.state.slot s) false refl ∙ sym (nobody Control s o (lt-leb slots s (marked_below w.unit i.valid s o)))
  went_far Back s o = and_false (leb w.unit.state.slot s) false refl ∙ sym (nobody Back s o (lt-leb slots s (marked_below w.unit i.valid s o)))
  went_far Visits s o =
      let y = swept_by Visits w.unit in
      ap (λ (b : Bool). leb w.unit.state.slot s && b) (visits_went y.seen.sent (asked_in y) w.unit.parameters s) ∙ (swung Visits s o).went

  module _ (step : Step) (payload buf : List ℕ) where
    reached_visited : (s : ℕ) (o : occupied w.unit s) → reached l (turn_answer step (swept_by step w.unit) w.unit payload buf) s ≡ (swung step s o).visited
    unfolding turn_answer
    reached_visited s o = rw (← i.frame_is, o) (went_far step s o)

    reached-empty : (s : ℕ) → get_or w.unit.occupied s false ≡ false → reached l (turn_answer step (swept_by step w.unit) w.unit payload buf) s ≡ false
    reached-empty s e = rw (← i.frame_is, e) refl

    -- the slot that a turn asks is reached
    reached-asked : (s : ℕ) (k : Request) (o : occupied w.unit s) → (swept_by step w.unit).seen.sent ≡ sent_to s k → reached l (turn_answer step (swept_by step w.unit) w.unit payload buf) s ≡ true
    reached-asked s k o e = reached_visited s o ∙ sends (swung step s o).visited _ (kind_here s k (swept_by step w.unit).seen.sent _ e (swung step s o).kind)
      where
        sends : (b : Bool) (r : Option Request) → some k ≡ cond b r none → b ≡ true
        sends true r q = refl
        sends false r q = absurd (none-ne-some k (sym q))

  is-kind : (k : Request) → kind_number k ≡ 0 → ⊥
  is-kind Diagnosis e = omega arith
  is-kind ParameterRequest e = omega arith
  is-kind Configuration e = omega arith
  is-kind Data e = omega arith

  -- the slot that is asked is occupied
  pub sent_there : (ps : List Peripheral) (time t : ℕ) (k : Request) → Valid (state_is (after_turn Visits (sent_to t k) time w.unit.state) (balances_are ps w.unit)) → occupied w.unit t
  sent_there ps time t k v = ⊎_elim (λ c. absurd (is-kind k c.kind)) (λ o. o.there) v.standing.request

  pub asked-reached : (step : Step) (payload buf : List ℕ) (time s : ℕ) → Valid (unit_turned step (swept_by step w.unit) time w.unit) → let a = turn_answer step (swept_by step w.unit) w.unit payload buf in
      slot_asked a.transmission ≡ some s → reached l a s ≡ true
  unfolding turn_answer
  asked-reached Halt payload buf time s v q = absurd (none-ne-some s q)
  asked-reached Control payload buf time s v q = absurd (none-ne-some s q)
  asked-reached Back payload buf time s v q = absurd (none-ne-some s q)
  asked-reached Visits payload buf time s v q = by_sent (swept_by Visits w.unit).seen.sent refl q v
    where
      by_sent : (sent : CodeOption Sent) → (swept_by Visits w.unit).seen.sent ≡ sent → slot_asked (visits_transmit sent (asked_in (swept_by Visits w.unit)) w.unit.parameters) ≡ some s
          → Valid (state_is (after_turn Visits sent time w.unit.state) (balances_are (swept_by Visits w.unit).balances w.unit)) → reached l (turn_answer Visits (swept_by Visits w.unit) w.unit payload buf) s ≡ true
      by_sent None e q v = absurd (none-ne-some s q)
      by_sent (Some x) e q v =
          let z : x.slot ≡ s = cc in
          reached-asked Visits payload buf s x.kind (subst (occupied w.unit) z (sent_there _ time x.slot x.kind v)) (e ∙ ap (λ (t : ℕ). sent_to t x.kind) z)

  -- ---- the balance that is asked: after its own visit, which sent

  pub asked_is : (t : ℕ) (k : Request) → let x = swept_by Visits w.unit in
      x.seen.sent ≡ sent_to t k → occupied w.unit t → asked_in x ≡ station_is (visited_of (Sends k) (balance w.unit t).station) (balance w.unit t)
  asked_is t k e o =
      let x = swept_by Visits w.unit in
      let y = swung Visits t o in
      let v = visit_action w.unit.parameters.max_retry_limit (balance w.unit t) in
      rw (e, lt-ltb t slots (marked_below w.unit i.valid t o)) (y.balance ∙ sent_is v (balance w.unit t) k y.visited (sym (rw (e, eq-eqb t t refl) at y.kind)))

  -- ---- asked for data

  wants_is : (v : Visited) → is_kind Data (kind_of v) ≡ sends_data v
  wants_is (Sends Diagnosis) = refl
  wants_is (Sends ParameterRequest) = refl
  wants_is (Sends Configuration) = refl
  wants_is (Sends Data) = refl
  wants_is Drops = refl
  wants_is Skips = refl

  not_fell : (b f r : Bool) → b ≡ true → r ≡ (b && f) → T (not r) → f ≡ false
  not_fell true true r eb e t = absurd (rw e at t)
  not_fell true false r eb e t = refl
  not_fell false f r eb e t = absurd (false≢true eb)

  pub asked-step : (step : Step) (payload buf : List ℕ) (s : ℕ) → let a = turn_answer step (swept_by step w.unit) w.unit payload buf in
      T (reached l a s) → T (not (reported_offline s a)) → asks_data s a.transmission ≡ (not (due_of (slot_log s l)) && ready (slot_log s l))
  unfolding turn_answer
  asked-step step payload buf s r t = by_test (get_or w.unit.occupied s false) (λ o. at step o (is_true (swung step s o).visited (rw (reached_visited step payload buf s o) at r)) t) (λ e. absurd (rw (reached-empty step payload buf s e) at r))
    where
      at : (st : Step) (o : occupied w.unit s) → (swung st s o).visited ≡ true → let a = turn_answer st (swept_by st w.unit) w.unit payload buf in
          T (not (reported_offline s a)) → asks_data s a.transmission ≡ (not (due_of (slot_log s l)) && ready (slot_log s l))
      at Halt o vis t = absurd (false≢true (sym (nobody Halt s o (lt-leb slots s (marked_below w.unit i.valid s o))) ∙ vis))
      at Control o vis t = absurd (false≢true (sym (nobody Control s o (lt-leb slots s (marked_below w.unit i.valid s o))) ∙ vis))
      at Back o vis t = absurd (false≢true (sym (nobody Back s o (lt-leb slots s (marked_below w.unit i.valid s o))) ∙ vis))
      at Visits o vis t =
          let p = balance w.unit s in
          let y = swept_by Visits w.unit in
          let x = swung Visits s o in
          let v = visit_action w.unit.parameters.max_retry_limit p in
          let up : drops v ≡ false = not_fell x.visited (drops v) _ vis (reported Visits payload buf s o) t in
          visits_asked y.seen.sent (asked_in y) w.unit.parameters s ∙ ap (is_kind Data) (rw vis at x.kind) ∙ wants_is v
          ∙ asked-when w.unit.parameters.max_retry_limit p.options.has_user_parameters p.options.has_config p.station (slot_log s l) (told (i.lives s o)) up

  -- ---- the mask

  bit-empty : (step : Step) (s : ℕ) → get_or w.unit.occupied s false ≡ false → bit_set s (swept_by step w.unit).seen.mask ≡ false
  unfolding swept_by
  bit-empty step s e =
      let from = start_of step w.unit.state in
      rw (empty-bit w.unit.parameters.max_retry_limit w.unit.occupied s (slots - from) from nothing_seen w.unit.peripherals e ∙ zero_bit s) refl

  bit-there : (step : Step) (s : ℕ) (o : occupied w.unit s) → let p = balance w.unit s in
      bit_set s (swept_by step w.unit).seen.mask ≡ ((swung step s o).visited && ltb w.unit.parameters.max_retry_limit p.station.retry_count)
  bit-there step s o =
      let p = balance w.unit s in
      rw ((swung step s o).mask, ← action_drops p.options.has_user_parameters p.options.has_config p.station w.unit.parameters.max_retry_limit) (one_or_none _)

  module _ (step : Step) (payload buf : List ℕ) where
    pub mask_bits : (s : ℕ) → let a = turn_answer step (swept_by step w.unit) w.unit payload buf in
        bit_set s a.offline ≡ (reached l a s && ltb w.unit.parameters.max_retry_limit (balance w.unit s).station.retry_count)
    unfolding turn_answer
    mask_bits s =
        by_test (get_or w.unit.occupied s false) (λ o. rw (reached_visited step payload buf s o) (bit-there step s o)) (λ e. rw (reached-empty step payload buf s e) (bit-empty step s e))

    there : (s : ℕ) → bit s (swept_by step w.unit).seen.mask ≡ 1 → occupied w.unit s
    there s b = by_test (get_or w.unit.occupied s false) (λ o. o) (λ e. absurd (false≢true (sym (bit-empty step s e) ∙ eq-eqb _ 1 b)))

    address-before : (s : ℕ) → occupied w.unit s → (get_or (swept_by step w.unit).balances s blank).station.address ≡ (balance w.unit s).station.address
    address-before s o =
        ap (λ (q : Peripheral). q.station.address) (swung step s o).balance ∙ address_kept (swung step s o).visited (visit_action w.unit.parameters.max_retry_limit (balance w.unit s)) (balance w.unit s)

    -- the mask above the slots, and the event
    pub mask_event : let a = turn_answer step (swept_by step w.unit) w.unit payload buf in MaskEvent w.unit a
    unfolding turn_answer
    mask_event =
        let x = swept_by step w.unit in
        let f = firsts step in
        let address : ℕ = (get_or x.balances (first_index x.seen.first) blank).station.address in
        record {
          above = f.within;
          event = event_is x.seen f;
          own = event-own x.seen f address;
          lowest = event-lowest x.seen f address;
          address = λ t.
              let k = fell x.seen f t in
              rw (k.is, lt-ltb k.first slots k.below) (address-before k.first (there k.first k.own));
        }
