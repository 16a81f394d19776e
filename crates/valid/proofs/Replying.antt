-- A reply keeps a unit valid.
-- The idea: an accepted reply has its request open at an occupied slot, and puts back a balance with the same ranges.
use mathlib.Core.Path.{◌≡◌, refl, sym, ◌∙◌, subst}
use mathlib.Core.Bool.{true, false, ◌&&◌}
use mathlib.Core.Logic.{inl}
use mathlib.Core.List.{List}
use Prim.Native.Nat.{ℕ, ◌+◌, ◌≤◌}
use native.Mathlib.Omega.{arith}
use lib.ListN.{length, get_or, set}
use lib.Dec.{eqb, ltb, leb}
use borrow.Author.Tests.{eqb-true, ltb-true, lt-ltb, leb-true}
use Rattle.parts.proofs.Laws.{by_test, and_left, and_right}
use Rattle.fdl.specs.declared.telegram.Telegram.{Telegram}
use Rattle.payloads.specs.Diagnosis.{taken, flag, diagnosis_of}
use Rattle.station.specs.Record.{with_diagnosis}
use Rattle.payloads.specs.declared.request.Request.{Request}
use Rattle.station.specs.Visit.{judged_as}
use Rattle.peripheral.specs.declared.record.Peripheral.{Peripheral}
use Rattle.peripheral.specs.Record.{blank, station_is}
use Rattle.peripheral.specs.Response.{part_fits, payload_stored, station_diagnosed, fits_image, answer_to, reply_of}
use Rattle.peripheral.proofs.Laws.{answer_heard}
use Rattle.peripheral_set.specs.Marks.{slots, next_after}
use Rattle.cycle.specs.Seen.{index_of}
use Rattle.cycle.specs.State.{answered}
use Rattle.cycle.specs.Refusal.{reply_refusal}
use Rattle.cycle.proofs.Laws.{reply_open, reply-slot}
use Rattle.master.specs.declared.unit.DpMaster.{DpMaster}
use Rattle.master.specs.Unit.{state_is, balances_are}
use Rattle.master.specs.Receive.{Answered, open_balance, open_request, reply_at, unit_replied, Received}
use Rattle.valid.specs.Valid.{Sound, Standing, Valid, occupied}
use Rattle.valid.proofs.Stations.{sound_took, sound_steady, address_steady, heard_keeps}
use Rattle.valid.proofs.Balances.{next_station, valid_set, open_there}

-- what is stored fits its room
stored-fits : (p : Peripheral) (payload : List ℕ) (diags : ℕ) → p.station.diag_len ≤ p.ranges.diag_room → payload_stored p payload diags ≤ p.ranges.diag_room
unfolding part_fits
stored-fits p payload diags h =
    let room = p.ranges.diag_room in
    let a = flag 0x0008 (diagnosis_of payload).flags in
    let b = leb (length payload) (room + 6) in
    let c = leb (p.ranges.diag + room) diags in
    by_test (a && (b && c))
    (λ e. let l : length payload ≤ room + 6 = leb-true (length payload) (room + 6) (and_left b c (and_right a (b && c) e)) in rw e (omega (arith, l)))
    (λ e. rw e h)

-- the state after an accepted reply
next-standing : (m : DpMaster) (next : ℕ) (ps : List Peripheral) → Standing m → Standing (state_is (answered next m.state) (balances_are ps m))
next-standing m next ps g =
    by_test (ltb next slots)
    (λ e. rw e (record { operating = g.operating; place = ltb-true next slots e; times = g.times; request = inl (record { slot = refl; kind = refl }) }))
    (λ e. rw e (record { operating = g.operating; place = omega arith; times = g.times; request = inl (record { slot = refl; kind = refl }) }))

taken_held : (payload : List ℕ) → (diagnosis_of payload).held ≡ true
unfolding diagnosis_of
taken_held payload = refl

module _ (m : DpMaster) (t : Telegram) (payload inputs diags : List ℕ) (v : Valid m) where
  put_back : (k next : ℕ) (asked : Request) → occupied m k
      → Valid (state_is (answered next m.state) (balances_are (set m.peripherals k (reply_of asked t (get_or m.peripherals k blank) payload (length inputs) (length diags)).peripheral) m))
  unfolding station_diagnosed with_diagnosis
  put_back k next asked o =
      let p = get_or m.peripherals k blank in
      let limit = m.parameters.max_retry_limit in
      let room = p.ranges.diag_room in
      let took = taken t (length payload) in
      let fits = fits_image t p (length payload) (length inputs) in
      let q = station_diagnosed p payload (length diags) in
      let h = answer_to (judged_as asked p.station) t p payload (length inputs) (length diags) in
      let is = sym (answer_heard (judged_as asked p.station) t p payload (length inputs) (length diags)) in
      let same : h.station.address ≡ p.station.address = subst (λ r. r.station.address ≡ p.station.address) is (heard_keeps _ (address_steady p.station.address) q p.station refl refl t took fits asked) in
      let stored = payload_stored p payload (length diags) in
      valid_set m v k (station_is h.station p) (answered next m.state) o
      (next_station m.parameters (get_or m.occupied k false) p h.station o
      (λ g.
      subst (λ r. Sound limit room r.station) is
      (heard_keeps (Sound limit room) (sound_steady limit room) q p.station (sound_took g (diagnosis_of payload) stored (taken_held payload) (stored-fits p payload (length diags) g.stored)) g t took fits asked)))
      (next-standing m next _ v.standing)
      same

  module _ (asked address : ℕ) (z : reply_refusal m.parameters m.state asked address t (length payload) (length inputs) (length diags) ≡ 0) where
    there : occupied m m.state.open_slot
    there = (open_there m v (reply_open m.parameters m.state asked address t (length payload) (length inputs) (length diags) z)).there

    index_is : index_of m.state.open_slot ≡ m.state.open_slot
    index_is = rw (lt-ltb m.state.open_slot slots (reply-slot m.parameters m.state asked address t (length payload) (length inputs) (length diags) z)) refl

    accepted : Valid (unit_replied m (reply_at t m payload inputs diags))
    unfolding reply_at
    accepted = rw index_is (put_back m.state.open_slot (next_after m.occupied m.state.open_slot) (open_request m) there)

pub reply_valid : (m : DpMaster) (address : ℕ) (t : Telegram) (payload inputs diags out_inputs out_diags : List ℕ) (r : Answered) → Received m address t payload inputs diags out_inputs out_diags r → Valid m → Valid r.master
reply_valid m address t payload inputs diags out_inputs out_diags r c v =
    let n = reply_refusal m.parameters m.state (open_balance m).station.address address t (length payload) (length inputs) (length diags) in
    by_test (eqb n 0)
    (λ e. subst Valid (sym (c.after ∙ rw e refl)) (accepted m t payload inputs diags v (open_balance m).station.address address (eqb-true n 0 e)))
    (λ e. subst Valid (sym (c.after ∙ rw e refl)) v)
