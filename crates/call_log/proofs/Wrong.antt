-- Each of the five wrong units is told from the promised one at a named input, by computation; which of them demand 3 admits, and which break a promise.
-- The idea: read one number off both outcomes; where the numbers differ the outcomes do. Over an empty log no slot is occupied, so nothing is said of any.
use mathlib.Core.Path.{◌≡◌, refl, sym, ap, ◌∙◌}
use mathlib.Core.Bool.{true, false, false≢true}
use mathlib.Core.List.{List, [], ◌∷◌}
use Prim.Native.Nat.{ℕ}
use native.Mathlib.Omega.{arith}
use lib.Dec.{T}
use Rattle.parts.specs.Parts.{zeros, inside, part, splice, room_for, put_in}
use Rattle.fdl.specs.declared.parameters.Parameters.{Parameters}
use Rattle.fdl.specs.Params.{creation_refusal, in_force}
use Rattle.payloads.specs.Diagnosis.{diagnosis_of}
use Rattle.payloads.specs.Payload.{param_head, control_payload}
use Rattle.station.specs.Record.{with_diagnosis}
use Rattle.station.specs.Visit.{action_of}
use Rattle.station.specs.Heard.{by_flags}
use Rattle.peripheral.specs.Visit.{payload_of}
use Rattle.peripheral.specs.Response.{part_fits, station_diagnosed, fits_image, answer_to, keeps_of, diagnosis_answer, diagnosis_keeps}
use Rattle.peripheral_set.specs.Marks.{slots, search_from}
use Rattle.addresses.specs.Addresses.{elsewhere_from}
use Rattle.cycle.specs.State.{control_due}
use Rattle.cycle.specs.Refusal.{turn_refusal, reply_refusal}
use Rattle.answers.specs.declared.turn.TurnAnswer.{TurnAnswer}
use Rattle.answers.specs.declared.turn.Transmission.{Transmission}
use Rattle.answers.specs.declared.turn.Transmission.TheVariants.{Nothing, Control, Request}
use Rattle.master.specs.Unit.{empty_unit, created_of, balance_at}
use Rattle.master.specs.Add.{refusal_of}
use Rattle.master.specs.Turn.{sweep_from, swept_by, turn_payload, turn_answer}
use Rattle.master.specs.Receive.{reply_at}
use Rattle.master.specs.Pools.{Pools}
use Rattle.call_log.specs.Calls.{World, Call, add, enter, turn, reply, reset, wish, write, hand, Outcome, refusal, accepted, step}
use Rattle.call_log.specs.Notes.{turn_of}
use Rattle.call_log.specs.Entries.{slot_log, occupied_in, reached}
use Rattle.call_log.specs.Run.{run_by}
use Rattle.call_log.specs.Promises.{ImageAt, ImageBy, AskedAt, AskedBy, MaskBy}
use Rattle.call_log.specs.Bench.{bench, bench_pools, turn_at, diagnosis_reply, diagnosis_answered, started, started_bench, asked_bench}
use Rattle.call_log.specs.Wrong.{plain, refuses_all, same_answer, does_nothing, runs_all, invents_mask}
use Rattle.call_log.proofs.Wording.{wording}
use Rattle.call_log.proofs.Promised.{no_mark}

-- what a turn sends: 0 nothing, 1 the global control, 2 a request
abbrev sends : Transmission → ℕ
sends Nothing = 0
sends (Control header) = 1
sends (Request slot k header) = 2

-- two outcomes of which one number differs
apart : (f : Outcome → ℕ) (x y : Outcome) (a b : ℕ) → f x ≡ a → f y ≡ b → (a ≡ b → ⊥) → x ≡ y → ⊥
apart f x y a b p q d e = d (sym p ∙ ap f e ∙ q)

-- refusing everything: the first turn of a bench is done
pub refuses-all : refuses_all started_bench (turn_at 0) ≡ step started_bench (turn_at 0) → ⊥
unfolding step creation_refusal in_force created_of empty_unit refusal_of elsewhere_from search_from turn_refusal control_due action_of swept_by sweep_from turn_payload turn_answer control_payload payload_of param_head inside part splice room_for put_in reply_refusal reply_at answer_to keeps_of diagnosis_answer diagnosis_keeps station_diagnosed part_fits fits_image diagnosis_of with_diagnosis by_flags
refuses-all = apart (λ o. refusal o.answer) (refuses_all started_bench (turn_at 0)) (step started_bench (turn_at 0)) 2 0 refl refl (λ e. omega arith)

-- the same answer each time: the first turn in Operate sends the global control
pub same-answer : same_answer started_bench (turn_at 0) ≡ step started_bench (turn_at 0) → ⊥
unfolding step creation_refusal in_force created_of empty_unit refusal_of elsewhere_from search_from turn_refusal control_due action_of swept_by sweep_from turn_payload turn_answer control_payload payload_of param_head inside part splice room_for put_in reply_refusal reply_at answer_to keeps_of diagnosis_answer diagnosis_keeps station_diagnosed part_fits fits_image diagnosis_of with_diagnosis by_flags
same-answer = apart (λ o. sends (turn_of o.answer).transmission) (same_answer started_bench (turn_at 0)) (step started_bench (turn_at 0)) 0 1 refl refl (λ e. omega arith)

-- doing nothing: a turn records its time
pub does-nothing : does_nothing started_bench (turn_at 5) ≡ step started_bench (turn_at 5) → ⊥
unfolding step creation_refusal in_force created_of empty_unit refusal_of elsewhere_from search_from turn_refusal control_due action_of swept_by sweep_from turn_payload turn_answer control_payload payload_of param_head inside part splice room_for put_in reply_refusal reply_at answer_to keeps_of diagnosis_answer diagnosis_keeps station_diagnosed part_fits fits_image diagnosis_of with_diagnosis by_flags
does-nothing = apart (λ o. o.world.unit.state.last_turn) (does_nothing started_bench (turn_at 5)) (step started_bench (turn_at 5)) 0 5 refl refl (λ e. omega arith)

-- running all states at the first reply: a diagnosis taken in Offline gives WaitForParam
pub runs-all : runs_all asked_bench diagnosis_reply ≡ step asked_bench diagnosis_reply → ⊥
unfolding step creation_refusal in_force created_of empty_unit refusal_of elsewhere_from search_from turn_refusal control_due action_of swept_by sweep_from turn_payload turn_answer control_payload payload_of param_head inside part splice room_for put_in reply_refusal reply_at answer_to keeps_of diagnosis_answer diagnosis_keeps station_diagnosed part_fits fits_image diagnosis_of with_diagnosis by_flags
runs-all = apart (λ o. (balance_at o.world.unit.peripherals 0).station.state) (runs_all asked_bench diagnosis_reply) (step asked_bench diagnosis_reply) 5 1 refl refl (λ e. omega arith)

-- an invented Offline mask: nobody was visited
pub invents-mask : invents_mask started_bench (turn_at 0) ≡ step started_bench (turn_at 0) → ⊥
unfolding step creation_refusal in_force created_of empty_unit refusal_of elsewhere_from search_from turn_refusal control_due action_of swept_by sweep_from turn_payload turn_answer control_payload payload_of param_head inside part splice room_for put_in reply_refusal reply_at answer_to keeps_of diagnosis_answer diagnosis_keeps station_diagnosed part_fits fits_image diagnosis_of with_diagnosis by_flags
invents-mask = apart (λ o. (turn_of o.answer).offline) (invents_mask started_bench (turn_at 0)) (step started_bench (turn_at 0)) 4 0 refl refl (λ e. omega arith)

-- the fourth breaks demand 3: it asks for data where no parameters were acknowledged
pub runs_all_breaks : AskedBy runs_all → ⊥
unfolding step creation_refusal in_force created_of empty_unit refusal_of elsewhere_from search_from turn_refusal control_due action_of swept_by sweep_from turn_payload turn_answer control_payload payload_of param_head inside part splice room_for put_in reply_refusal reply_at answer_to keeps_of diagnosis_answer diagnosis_keeps station_diagnosed part_fits fits_image diagnosis_of with_diagnosis by_flags
runs_all_breaks told =
    let both = (told bench bench_pools diagnosis_answered 3 false 4 2 (zeros 244) 0 tt tt).0 tt in
    (wording (slot_log 0 (run_by runs_all bench bench_pools diagnosis_answered).log)).1 both.1

-- the fifth breaks the mask: bit 2 is set, and nobody was reached
pub invents_mask_breaks : MaskBy invents_mask → ⊥
unfolding step creation_refusal in_force created_of empty_unit refusal_of elsewhere_from search_from turn_refusal control_due action_of swept_by sweep_from turn_payload turn_answer control_payload payload_of param_head inside part splice room_for put_in reply_refusal reply_at answer_to keeps_of diagnosis_answer diagnosis_keeps station_diagnosed part_fits fits_image diagnosis_of with_diagnosis by_flags
invents_mask_breaks told = false≢true (sym ((told bench bench_pools started 0 false 4 2 (zeros 244)).bits 2))

-- ---- over an empty log demand 3 admits every unit

nobody : (s : ℕ) → T (occupied_in [] s) → ⊥
nobody s h = rw (no_mark slots s) at h

nobody_reached : (a : TurnAnswer) (s : ℕ) → T (reached [] a s) → ⊥
nobody_reached a s h = rw (no_mark slots s) at h

pub empty_admits : (f : World → Call → Outcome) (u : Parameters) (pools : Pools) (cs : List Call) → (run_by f u pools cs).log ≡ [] → ImageAt f u pools cs × AskedAt f u pools cs
empty_admits f u pools cs e = (λ s h. absurd (nobody s (rw e at h)), λ time high ns nq buf s r t. absurd (nobody_reached (turn_of (f (run_by f u pools cs).world (turn time high ns nq buf)).answer) s (rw e at r)))

-- the first has no other log, and the second enters every call
plain-number : (n h : ℕ) (c : Call) → refusal (plain n h c) ≡ n
plain-number n h (add a user config lent) = refl
plain-number n h (enter o) = refl
plain-number n h (turn time high ns nq buf) = refl
plain-number n h (reply address t payload ni nd) = refl
plain-number n h (reset x address) = refl
plain-number n h (wish x) = refl
plain-number n h (write x bytes nq) = refl
plain-number n h (hand x bytes nq) = refl

no_log : (u : Parameters) (pools : Pools) (cs : List Call) → (run_by refuses_all u pools cs).log ≡ []
no_log u pools [] = refl
no_log u pools (c ∷ cs) = rw (plain-number 2 255 c) (no_log u pools cs)

pub same_answer_done : (w : World) (c : Call) → accepted (same_answer w c).answer ≡ true
same_answer_done w c = rw (plain-number 0 0 c) refl

pub refuses_all_admitted : ImageBy refuses_all × AskedBy refuses_all
refuses_all_admitted = (λ u pools cs. (empty_admits refuses_all u pools cs (no_log u pools cs)).0, λ u pools cs. (empty_admits refuses_all u pools cs (no_log u pools cs)).1)
