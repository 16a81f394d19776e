-- A turn keeps a unit valid.
-- The idea: each visit leaves its balance sound with the same ranges and address, and what is sent goes to an occupied slot and fits its balance.
use mathlib.Core.Path.{◌≡◌, refl, sym, ap, ◌∙◌, subst}
use mathlib.Core.Bool.{Bool, true, false, false≢true}
use mathlib.Core.Logic.{inl, inr}
use mathlib.Core.List.{List}
use Rattle.std.specs.Prelude.{Option, Some, None}
use Prim.Native.Nat.{ℕ, zero, suc, ◌+◌, ◌-◌, ◌≤◌, ◌<◌}
use native.Mathlib.Omega.{arith}
use lib.ListN.{length, get_or, set, length-set}
use lib.Seq.{get_or-set_same}
use lib.Dec.{T, eqb}
use borrow.Author.Tests.{eqb-true}
use Rattle.parts.proofs.Laws.{by_test}
use Rattle.fdl.specs.declared.parameters.Parameters.{Parameters}
use Rattle.payloads.specs.Request.{kind_number}
use Rattle.station.specs.declared.record.Station.{Station}
use Rattle.station.specs.declared.visit.Visited.{Visited}
use Rattle.station.specs.declared.visit.Visited.TheVariants.{Sends, Drops, Skips}
use Rattle.station.specs.State.{state_of}
use Rattle.station.specs.Visit.{visited_of}
use Rattle.station.proofs.Visits.{visit_keeps}
use Rattle.peripheral.specs.declared.record.Peripheral.{Peripheral}
use Rattle.peripheral.specs.Record.{blank, station_is}
use Rattle.peripheral.specs.Visit.{visit_action, visited_by}
use Rattle.peripheral_set.specs.Marks.{slots}
use Rattle.cycle.specs.declared.seen.Seen.{Seen}
use Rattle.cycle.specs.declared.seen.Sent.{Sent}
use Rattle.cycle.specs.declared.state.Step.{Step}
use Rattle.cycle.specs.declared.state.Step.TheVariants.{Halt, Control, Back, Visits}
use Rattle.cycle.specs.Seen.{nothing_seen, seen_by, idle}
use Rattle.cycle.specs.State.{after_turn, start_of}
use Rattle.cycle.specs.Refusal.{turn_refusal}
use Rattle.cycle.proofs.Laws.{turn_not_early}
use Rattle.master.specs.declared.unit.DpMaster.{DpMaster}
use Rattle.master.specs.Unit.{state_is, balances_are}
use Rattle.master.specs.Turn.{Turn, Swept, sweep_from, step_at, swept_by, unit_turned, Turned}
use Rattle.master.proofs.Sweep.{sweep_skip, sweep_visit, sweep_stopped, sweep_none}
use Rattle.valid.specs.Valid.{Fits, Standing, Valid}
use Rattle.valid.proofs.Stations.{sound_visit, sends_fit, action_fits}
use Rattle.valid.proofs.Balances.{Next, next_same, next-next, next_station, GoneOn, on_set, SameNames, same_set, valid_kept, marked_in, marked_below}

-- ---- the visits

visited_next : (u : Parameters) (there : Bool) (p : Peripheral) → there ≡ true → Next u there p (visited_by u.max_retry_limit p)
visited_next u there p o =
    next_station u there p (visited_of (visit_action u.max_retry_limit p) p.station) o (λ g. sound_visit g p.options.has_user_parameters p.options.has_config)

visited_same : (limit : ℕ) (p : Peripheral) → (visited_by limit p).station.address ≡ p.station.address
visited_same limit p = ap (λ (s : Station). s.address) (visit_keeps (visit_action limit p) p.station)

-- what was sent went to an occupied slot, and fits its balance
abbrev SentTo : List Bool → List Peripheral → Option Sent → Type 0
SentTo marks ps None = ◌≡◌ {A = ℕ} 0 0
SentTo marks ps (Some sent) = (get_or marks sent.slot false ≡ true) × Fits (get_or ps sent.slot blank).station (kind_number sent.kind)

module _ (marks : List Bool) where
  idle_sent : (ps : List Peripheral) (sent : Option Sent) → idle sent ≡ true → SentTo marks ps sent
  idle_sent ps None e = refl
  idle_sent ps (Some sent) e = absurd (false≢true e)

  visit_sent : (w : Visited) (i : ℕ) (seen : Seen) (ps : List Peripheral) → let p = get_or ps i blank in
      get_or marks i false ≡ true → i < length ps → idle seen.sent ≡ true → T (sends_fit (state_of p.station.state) p.station.diag_needed w)
      → SentTo marks (set ps i (station_is (visited_of w p.station) p)) (seen_by i w seen).sent
  visit_sent (Sends k) i seen ps o h e f = (o, rw (get_or-set_same ps i (station_is (visited_of (Sends k) (get_or ps i blank).station) (get_or ps i blank)) blank h) f)
  visit_sent Drops i seen ps o h e f = idle_sent (set ps i (station_is (visited_of Drops (get_or ps i blank).station) (get_or ps i blank))) seen.sent e
  visit_sent Skips i seen ps o h e f = idle_sent (set ps i (station_is (visited_of Skips (get_or ps i blank).station) (get_or ps i blank))) seen.sent e

-- what all visits leave
record Went (u : Parameters) (marks : List Bool) (ps : List Peripheral) (w : Swept) : Type 0 where
  on : GoneOn u marks ps w.balances
  names : SameNames ps w.balances
  size : length w.balances ≡ length ps
  to : SentTo marks w.balances w.seen.sent

module _ (u : Parameters) (marks : List Bool) where
  stay : (seen : Seen) (ps : List Peripheral) → SentTo marks ps seen.sent → Went u marks ps (record { seen = seen; balances = ps })
  stay seen ps h = record { on = λ j. next_same u (get_or marks j false) (get_or ps j blank); names = λ j. refl; size = refl; to = h }

  sweep_went : (n i : ℕ) (seen : Seen) (ps : List Peripheral) → length ps ≡ length marks → SentTo marks ps seen.sent → Went u marks ps (sweep_from n u.max_retry_limit marks i seen ps)
  sweep_went zero i seen ps l h = rw (sweep_none u.max_retry_limit marks i seen ps) (stay seen ps h)
  sweep_went (suc n) i seen ps l h =
      let limit = u.max_retry_limit in
      let p = get_or ps i blank in
      let w = visit_action limit p in
      let q = visited_by limit p in
      by_test (idle seen.sent)
      (λ f.
      by_test (get_or marks i false)
      (λ e.
      let b : i < length ps = omega (arith, l, marked_in marks i e) in
      let r = sweep_went n (i + 1) (seen_by i w seen) (set ps i q) (simp length-set l)
      (visit_sent marks w i seen ps e b f (action_fits p.options.has_user_parameters p.options.has_config p.station limit)) in
      rw (sweep_visit limit marks n i seen ps e f)
      (record {
        on = λ j. next-next u (get_or marks j false) _ _ _ (on_set u marks ps i q b (visited_next u (get_or marks i false) p e) j) (r.on j);
        names = λ j. r.names j ∙ same_set ps i q b (visited_same limit p) j;
        size = r.size ∙ length-set ps i q;
        to = r.to;
      }))
      (λ e. rw (sweep_skip limit marks n i seen ps e) (sweep_went n (i + 1) seen ps l h)))
      (λ f. rw (sweep_stopped limit marks (suc n) i seen ps f) (stay seen ps h))

-- ---- the state

module _ (m : DpMaster) (v : Valid m) (time : ℕ) (l : m.state.last_turn ≤ time) where
  standing-after : (step : Step) (sent : Option Sent) (ps : List Peripheral) → SentTo m.occupied ps sent → Standing (state_is (after_turn step sent time m.state) (balances_are ps m))
  standing-after Halt sent ps h = record { operating = v.standing.operating; place = v.standing.place; times = omega (arith, v.standing.times); request = inl (record { slot = refl; kind = refl }) }
  standing-after Control sent ps h = record { operating = v.standing.operating; place = v.standing.place; times = omega arith; request = inl (record { slot = refl; kind = refl }) }
  standing-after Back sent ps h = record { operating = v.standing.operating; place = omega arith; times = omega (arith, v.standing.times); request = inl (record { slot = refl; kind = refl }) }
  standing-after Visits None ps h = record { operating = v.standing.operating; place = omega arith; times = omega (arith, v.standing.times); request = inl (record { slot = refl; kind = refl }) }
  standing-after Visits (Some sent) ps h =
      record {
        operating = v.standing.operating;
        place = marked_below m v sent.slot h.0;
        times = omega (arith, v.standing.times);
        request = inr (record { place = refl; going = refl; there = h.0; fit = h.1 });
      }

  taken-turn : (step : Step) → Valid (unit_turned step (swept_by step m) time m)
  unfolding swept_by
  taken-turn step =
      let from = start_of step m.state in
      let w = sweep_went m.parameters m.occupied (slots - from) from nothing_seen m.peripherals (v.table ∙ sym v.marks) refl in
      valid_kept m v (swept_by step m).balances (after_turn step (swept_by step m).seen.sent time m.state) w.on w.names (w.size ∙ v.table)
      (standing-after step (swept_by step m).seen.sent (swept_by step m).balances w.to)

pub turn_valid : (m : DpMaster) (time : ℕ) (high : Bool) (setup outputs buf out : List ℕ) (r : Turn) → Turned m time high setup outputs buf out r → Valid m → Valid r.master
turn_valid m time high setup outputs buf out r c v =
    let n = turn_refusal m.parameters m.state time (length setup) (length outputs) (length buf) in
    by_test (eqb n 0)
    (λ e. subst Valid (sym (c.after ∙ rw e refl)) (taken-turn m v time (turn_not_early m.parameters m.state time (length setup) (length outputs) (length buf) (eqb-true n 0 e)) (step_at time high m)))
    (λ e. subst Valid (sym (c.after ∙ rw e refl)) v)
