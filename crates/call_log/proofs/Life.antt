-- The lives, computed: their answers are those of the tables, and at their end the pools hold what was sent.
-- The idea: every definition computes, so each table is equal to what the definitions say by computation alone.
use mathlib.Core.Path.{◌≡◌, refl}
use Prim.Native.Nat.{ℕ}
use mathlib.Core.List.{[], ◌∷◌}
use lib.Dec.{T}
use Rattle.parts.specs.Parts.{inside, part, splice, room_for, put_in}
use Rattle.fdl.specs.Params.{creation_refusal, in_force}
use Rattle.payloads.specs.Diagnosis.{diagnosis_of}
use Rattle.payloads.specs.Payload.{param_head, control_payload}
use Rattle.station.specs.Record.{with_diagnosis}
use Rattle.station.specs.Visit.{action_of}
use Rattle.station.specs.Heard.{by_flags}
use Rattle.peripheral.specs.Visit.{payload_of}
use Rattle.peripheral.specs.Response.{part_fits, station_diagnosed, fits_image, answer_to, keeps_of, diagnosis_answer, diagnosis_keeps}
use Rattle.peripheral_set.specs.Marks.{slots, search_from}
use Rattle.addresses.specs.Addresses.{elsewhere_from}
use Rattle.cycle.specs.State.{control_due}
use Rattle.cycle.specs.Refusal.{turn_refusal, reply_refusal}
use Rattle.master.specs.Turn.{sweep_from, swept_by, turn_payload, turn_answer}
use Rattle.master.specs.Receive.{reply_at}
use Rattle.master.specs.Unit.{empty_unit, created_of}
use Rattle.master.specs.Add.{refusal_of}
use Rattle.master.specs.Handle.{reset_done, wish_done}
use Rattle.access.specs.Lookup.{found_in, write_refusal}
use Rattle.master.specs.Pools.{Pools}
use Rattle.call_log.specs.Calls.{step}
use Rattle.call_log.specs.Notes.{turn_of}
use Rattle.call_log.specs.Entries.{reached}
use Rattle.call_log.specs.Words.{asks_data}
use Rattle.call_log.specs.Run.{run}
use Rattle.call_log.specs.Promises.{image_in}
use Rattle.call_log.specs.Bench.{bench, bench_pools, turn_at, configured, exchanged, answers_to, after_all, small_bench, no_pools}
use Rattle.call_log.specs.SecondLife.{pair_bench, pair_pools, calls_of, answers_of, offline_together, set_up_errors, wished_while_open}
use Rattle.call_log.specs.Life.{first_half, second_half, first_answers, second_answers, two_balances, two_answers}

pub first-half : answers_to (run bench bench_pools []).world first_half ≡ first_answers
unfolding step creation_refusal in_force created_of empty_unit refusal_of elsewhere_from search_from turn_refusal control_due action_of swept_by sweep_from turn_payload turn_answer control_payload payload_of param_head inside part splice room_for put_in reply_refusal reply_at answer_to keeps_of diagnosis_answer diagnosis_keeps station_diagnosed part_fits fits_image diagnosis_of with_diagnosis by_flags reset_done wish_done found_in write_refusal
first-half = refl

pub second-half : answers_to (after_all (run bench bench_pools []).world first_half) second_half ≡ second_answers
unfolding step creation_refusal in_force created_of empty_unit refusal_of elsewhere_from search_from turn_refusal control_due action_of swept_by sweep_from turn_payload turn_answer control_payload payload_of param_head inside part splice room_for put_in reply_refusal reply_at answer_to keeps_of diagnosis_answer diagnosis_keeps station_diagnosed part_fits fits_image diagnosis_of with_diagnosis by_flags reset_done wish_done found_in write_refusal
second-half = refl

pub two_lives : answers_to (run small_bench no_pools []).world two_balances ≡ two_answers
unfolding step creation_refusal in_force created_of empty_unit refusal_of elsewhere_from search_from turn_refusal control_due action_of swept_by sweep_from turn_payload turn_answer control_payload payload_of param_head inside part splice room_for put_in reply_refusal reply_at answer_to keeps_of diagnosis_answer diagnosis_keeps station_diagnosed part_fits fits_image diagnosis_of with_diagnosis by_flags reset_done wish_done found_in write_refusal
two_lives = refl

-- the second life, in three parts
pub second_together : answers_to (run pair_bench pair_pools []).world (calls_of offline_together) ≡ answers_of offline_together
unfolding step creation_refusal in_force created_of empty_unit refusal_of elsewhere_from search_from turn_refusal control_due action_of swept_by sweep_from turn_payload turn_answer control_payload payload_of param_head inside part splice room_for put_in reply_refusal reply_at answer_to keeps_of diagnosis_answer diagnosis_keeps station_diagnosed part_fits fits_image diagnosis_of with_diagnosis by_flags reset_done wish_done found_in write_refusal
second_together = refl

pub second_errors : answers_to (after_all (run pair_bench pair_pools []).world (calls_of offline_together)) (calls_of set_up_errors) ≡ answers_of set_up_errors
unfolding step creation_refusal in_force created_of empty_unit refusal_of elsewhere_from search_from turn_refusal control_due action_of swept_by sweep_from turn_payload turn_answer control_payload payload_of param_head inside part splice room_for put_in reply_refusal reply_at answer_to keeps_of diagnosis_answer diagnosis_keeps station_diagnosed part_fits fits_image diagnosis_of with_diagnosis by_flags reset_done wish_done found_in write_refusal
second_errors = refl

pub second_wishes : answers_to (after_all (after_all (run pair_bench pair_pools []).world (calls_of offline_together)) (calls_of set_up_errors)) (calls_of wished_while_open) ≡ answers_of wished_while_open
unfolding step creation_refusal in_force created_of empty_unit refusal_of elsewhere_from search_from turn_refusal control_due action_of swept_by sweep_from turn_payload turn_answer control_payload payload_of param_head inside part splice room_for put_in reply_refusal reply_at answer_to keeps_of diagnosis_answer diagnosis_keeps station_diagnosed part_fits fits_image diagnosis_of with_diagnosis by_flags reset_done wish_done found_in write_refusal
second_wishes = refl

-- there are 32 slots
pub thirty_two : ◌≡◌ {A = ℕ} slots 32
thirty_two = refl

-- what stands in the pools at the end
pub pools-then : ◌≡◌ {A = Pools} (after_all (after_all (run bench bench_pools []).world first_half) second_half).pools
    (record { setup = 0 ∷ 1 ∷ 2 ∷ 0x31 ∷ []; inputs = 11 ∷ 22 ∷ []; outputs = 9 ∷ 6 ∷ []; diags = 0xAA ∷ 0xBB ∷ 0 ∷ 0 ∷ 0 ∷ 0 ∷ 0 ∷ 0 ∷ [] })
unfolding step creation_refusal in_force created_of empty_unit refusal_of elsewhere_from search_from turn_refusal control_due action_of swept_by sweep_from turn_payload turn_answer control_payload payload_of param_head inside part splice room_for put_in reply_refusal reply_at answer_to keeps_of diagnosis_answer diagnosis_keeps station_diagnosed part_fits fits_image diagnosis_of with_diagnosis by_flags reset_done wish_done found_in write_refusal
pools-then = refl

-- and at the end of the second: the weight that came while a diagnosis was due is kept
pub second-pools : ◌≡◌ {A = Pools} (after_all (after_all (after_all (run pair_bench pair_pools []).world (calls_of offline_together)) (calls_of set_up_errors)) (calls_of wished_while_open)).pools
    (record { setup = 0xA1 ∷ 0xA2 ∷ 0x31 ∷ 0x10 ∷ []; inputs = 11 ∷ 22 ∷ 0 ∷ []; outputs = 0 ∷ 0 ∷ []; diags = [] })
unfolding step creation_refusal in_force created_of empty_unit refusal_of elsewhere_from search_from turn_refusal control_due action_of swept_by sweep_from turn_payload turn_answer control_payload payload_of param_head inside part splice room_for put_in reply_refusal reply_at answer_to keeps_of diagnosis_answer diagnosis_keeps station_diagnosed part_fits fits_image diagnosis_of with_diagnosis by_flags reset_done wish_done found_in write_refusal
second-pools = refl

-- what is promised happens: a balance is reached and asked for data, and its image is what it sent
pub life_asked : let a = turn_of (step (run bench bench_pools configured).world (turn_at 9)).answer in T (reached (run bench bench_pools configured).log a 0) × T (asks_data 0 a.transmission)
unfolding step creation_refusal in_force created_of empty_unit refusal_of elsewhere_from search_from turn_refusal control_due action_of swept_by sweep_from turn_payload turn_answer control_payload payload_of param_head inside part splice room_for put_in reply_refusal reply_at answer_to keeps_of diagnosis_answer diagnosis_keeps station_diagnosed part_fits fits_image diagnosis_of with_diagnosis by_flags reset_done wish_done found_in write_refusal
life_asked = (tt, tt)

pub life_exchanged : image_in (run bench bench_pools exchanged).world 0 ≡ 11 ∷ 22 ∷ []
unfolding step creation_refusal in_force created_of empty_unit refusal_of elsewhere_from search_from turn_refusal control_due action_of swept_by sweep_from turn_payload turn_answer control_payload payload_of param_head inside part splice room_for put_in reply_refusal reply_at answer_to keeps_of diagnosis_answer diagnosis_keeps station_diagnosed part_fits fits_image diagnosis_of with_diagnosis by_flags reset_done wish_done found_in write_refusal
life_exchanged = refl
