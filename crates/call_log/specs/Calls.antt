-- The calls that can change a unit or its pools, what each answers, and `step`: what a call does, by the right-hand sides of the contracts and nothing else.
-- From 01, "The unit and its sizes", "Refusal numbers", "One turn", "One visit and one reply".
use Rattle.std.specs.Prelude.{ℕ, Bool, cond, List, length, eqb}
use Rattle.parts.specs.Parts.{put_in}
use Rattle.fdl.specs.Status.{carried}
use Rattle.fdl.specs.declared.telegram.Telegram.{Telegram}
use Rattle.peripheral.specs.declared.record.Peripheral.{Peripheral}
use Rattle.peripheral.specs.declared.response.Reply.{Reply}
use Rattle.peripheral.specs.Response.{inputs_of, diags_of, diagnosis_taken}
use Rattle.peripheral_set.specs.declared.PeripheralHandle.{PeripheralHandle}
use Rattle.peripheral_set.specs.Marks.{no_handle, first_empty}
use Rattle.cycle.specs.declared.refusal.Lent.{Lent}
use Rattle.cycle.specs.declared.state.OperatingState.{OperatingState}
use Rattle.cycle.specs.declared.state.Step.{Step}
use Rattle.cycle.specs.Refusal.{turn_refusal, reply_refusal}
use Rattle.cycle.specs.State.{entered}
use Rattle.answers.specs.declared.turn.TurnAnswer.{TurnAnswer}
use Rattle.answers.specs.declared.reply_answer.ReplyAnswer.{ReplyAnswer}
use Rattle.answers.specs.Turn.{refused_turn}
use Rattle.answers.specs.ReplyAnswer.{refused_reply}
use Rattle.master.specs.declared.unit.DpMaster.{DpMaster}
use Rattle.master.specs.declared.add.Addition.{Addition}
use Rattle.master.specs.Unit.{Done, state_is}
use Rattle.master.specs.Pools.{Pools, lend, after_lent, lend_all, back_all}
use Rattle.master.specs.Add.{user_of, config_of, lengths_of, newcomer, unit_added, pools_after, refusal_of}
use Rattle.master.specs.Turn.{Swept, step_at, swept_by, unit_turned, turn_payload, turn_answer}
use Rattle.master.specs.Receive.{open_balance, open_request, reply_at, reply_answer, unit_replied}
use Rattle.master.specs.Handle.{reset_done, wish_done}
use Rattle.access.specs.Lookup.{found_in, output_number, write_refusal}

-- ---- the unit and its pools

-- the unit and the four arrays of the caller, of any length and with any contents
pub record World : Type 0 where
  pub unit : DpMaster
  pub pools : Pools

-- ---- calls and answers

pub data Call : Type 0 where
  -- what is added, user parameters, configuration, lent lengths
  add : Addition → List ℕ → List ℕ → Lent → Call
  -- `enter_state`
  enter : OperatingState → Call
  -- time, `high_prio_only`, lent lengths of the set-up and output pools, the payload buffer
  turn : ℕ → Bool → ℕ → ℕ → List ℕ → Call
  -- address, telegram, payload, lent lengths of the input and diagnosis pools
  reply : ℕ → Telegram → List ℕ → ℕ → ℕ → Call
  -- `reset_address`
  reset : PeripheralHandle → ℕ → Call
  -- `request_diagnostics`
  wish : PeripheralHandle → Call
  -- `write_outputs`, with the lent length of the output pool
  write : PeripheralHandle → List ℕ → ℕ → Call
  -- `pi_q_mut`, and the bytes that the caller then put into the part: any bytes, inside that output image
  hand : PeripheralHandle → List ℕ → ℕ → Call

pub data Answer : Type 0 where
  number : ℕ → Answer
  added : ℕ → PeripheralHandle → Answer
  -- with the payload buffer afterwards
  turned : TurnAnswer → List ℕ → Answer
  replied : ReplyAnswer → Answer

abbrev pub refusal : Answer → ℕ
refusal (number n) = n
refusal (added n h) = n
refusal (turned a buf) = a.refusal
refusal (replied a) = a.refusal

abbrev pub accepted : Answer → Bool
accepted a = eqb (refusal a) 0

pub record Outcome : Type 0 where
  pub world : World
  pub answer : Answer

-- ---- what each call does; ok: it is not refused, n is its number

-- p is the new balance
abbrev pub add_step : Bool → ℕ → Peripheral → List ℕ → List ℕ → Lent → World → Outcome
add_step ok n p user config lent w =
    record {
      world =
          record {
            unit = cond ok (unit_added w.unit p) w.unit;
            pools = back_all lent (cond ok (pools_after p user config (lend_all lent w.pools)) (lend_all lent w.pools)) w.pools;
          };
      answer = added n (cond ok (record { slot = first_empty w.unit.occupied; address = p.station.address }) no_handle);
    }

abbrev pub unit_is : DpMaster → World → World
unit_is m w = record { unit = m; pools = w.pools }

abbrev pub turn_step : Bool → ℕ → Step → Swept → List ℕ → ℕ → List ℕ → World → Outcome
turn_step ok n step s payload time buf w =
    record {
      world = unit_is (cond ok (unit_turned step s time w.unit) w.unit) w;
      answer = turned (cond ok (turn_answer step s w.unit payload buf) (refused_turn n)) (cond ok (put_in 0 (length payload) payload buf) buf);
    }

abbrev pub reply_step : Bool → ℕ → Reply → Telegram → List ℕ → ℕ → ℕ → World → Outcome
reply_step ok n is t payload ni nd w =
    record {
      world =
          record {
            unit = cond ok (unit_replied w.unit is) w.unit;
            pools =
                record {
                  setup = w.pools.setup;
                  inputs = after_lent ok ni (inputs_of is.event (carried t payload) (open_balance w.unit)) w.pools.inputs;
                  outputs = w.pools.outputs;
                  diags = after_lent ok nd (diags_of (diagnosis_taken (open_request w.unit) t (open_balance w.unit) (length payload)) (open_balance w.unit) payload) w.pools.diags;
                };
          };
      answer = replied (cond ok (reply_answer w.unit is) (refused_reply n));
    }

-- a call that answers a number and leaves the pools
abbrev pub done_step : Done → World → Outcome
done_step d w = record { world = unit_is d.master w; answer = number d.refusal }

abbrev pub outputs_are : List ℕ → World → World
outputs_are q w = record { unit = w.unit; pools = record { setup = w.pools.setup; inputs = w.pools.inputs; outputs = q; diags = w.pools.diags } }

-- bytes put into the output image of p
abbrev pub write_step : Bool → ℕ → Peripheral → List ℕ → ℕ → World → Outcome
write_step ok n p bytes nq w =
    record { world = outputs_are (after_lent ok nq (put_in p.ranges.outputs p.ranges.output_len bytes) w.pools.outputs) w; answer = number n }

-- ---- the refusals, over what is lent

abbrev pub add_number : Addition → List ℕ → List ℕ → Lent → World → ℕ
add_number a user config lent w = refusal_of w.unit a (lengths_of a user config) (lend_all lent w.pools)

abbrev pub turn_number : ℕ → ℕ → ℕ → List ℕ → World → ℕ
turn_number time ns nq buf w =
    turn_refusal w.unit.parameters w.unit.state time (length (lend ns w.pools.setup)) (length (lend nq w.pools.outputs)) (length buf)

abbrev pub reply_number : ℕ → Telegram → List ℕ → ℕ → ℕ → World → ℕ
reply_number address t payload ni nd w =
    reply_refusal w.unit.parameters w.unit.state (open_balance w.unit).station.address address t (length payload) (length (lend ni w.pools.inputs))
    (length (lend nd w.pools.diags))

abbrev pub write_number : PeripheralHandle → List ℕ → ℕ → World → ℕ
write_number h bytes nq w = write_refusal w.unit h bytes (lend nq w.pools.outputs)

abbrev pub hand_number : PeripheralHandle → ℕ → World → ℕ
hand_number h nq w = output_number w.unit h (lend nq w.pools.outputs)

-- ---- one call

abbrev pub turn_payload_at : ℕ → Bool → ℕ → ℕ → World → List ℕ
turn_payload_at time high ns nq w =
    turn_payload (step_at time high w.unit) (swept_by (step_at time high w.unit) w.unit) w.unit (lend ns w.pools.setup) (lend nq w.pools.outputs)

unfoldable pub step : World → Call → Outcome
step w (add a user config lent) =
    add_step (eqb (add_number a user config lent w) 0) (add_number a user config lent w) (newcomer w.unit a (lengths_of a user config)) (user_of a user) (config_of a config) lent w
step w (enter o) = record { world = unit_is (state_is (entered o w.unit.state) w.unit) w; answer = number 0 }
step w (turn time high ns nq buf) =
    turn_step (eqb (turn_number time ns nq buf w) 0) (turn_number time ns nq buf w) (step_at time high w.unit) (swept_by (step_at time high w.unit) w.unit)
    (turn_payload_at time high ns nq w) time buf w
step w (reply address t payload ni nd) =
    reply_step (eqb (reply_number address t payload ni nd w) 0) (reply_number address t payload ni nd w)
    (reply_at t w.unit payload (lend ni w.pools.inputs) (lend nd w.pools.diags)) t payload ni nd w
step w (reset h address) = done_step (reset_done w.unit h address) w
step w (wish h) = done_step (wish_done w.unit h) w
step w (write h bytes nq) = write_step (eqb (write_number h bytes nq w) 0) (write_number h bytes nq w) (found_in w.unit h) bytes nq w
step w (hand h bytes nq) = write_step (eqb (hand_number h nq w) 0) (hand_number h nq w) (found_in w.unit h) bytes nq w
