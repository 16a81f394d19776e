-- The bench of the trial runs: what stands on it at the start, and what a call on it leaves.
-- From 01, "Trial runs": the watchdog, Tsdr, ident and groups of the first, the slot time of the eighth, the outputs of the last two.
use Rattle.std.specs.Prelude.{◌≡◌, ℕ, true, false, List, [], ◌∷◌, replicate, None, Some, Result}
use Rattle.parts.specs.Parts.{zeros}
use Rattle.refusals.specs.declared.Refusal.{Refusal}
use Rattle.fdl.specs.declared.parameters.Parameters.{Parameters}
use Rattle.fdl.specs.declared.telegram.Telegram.{Telegram}
use Rattle.fdl.specs.declared.telegram.Telegram.TheVariants.{Data}
use Rattle.cycle.specs.declared.state.OperatingState.{OperatingState}
use Rattle.cycle.specs.declared.state.OperatingState.TheVariants.{Clear, Operate}
use Rattle.cycle.specs.State.{entered}
use Rattle.peripheral_set.specs.declared.PeripheralHandle.{PeripheralHandle}
use Rattle.answers.specs.declared.reply_answer.ReplyAnswer.{ReplyAnswer}
use Rattle.master.specs.declared.unit.DpMaster.{DpMaster}
use Rattle.master.specs.declared.add.Addition.{Addition}
use Rattle.master.specs.Unit.{Done, created_of, state_is}
use Rattle.master.specs.Pools.{pools_of}
use Rattle.master.specs.Add.{Adding, added_of}
use Rattle.master.specs.Turn.{Turned}
use Rattle.master.specs.Receive.{Received}
use Rattle.trial_runs.specs.declared.bench.Balance.{Balance}
use Rattle.trial_runs.specs.declared.bench.Bench.{Bench}
use Rattle.trial_runs.specs.declared.bench.Seen.{Seen}

-- all but the retry limit is the same in every trial
abbrev pub case_parameters : ℕ → Parameters
case_parameters limit =
    record {
      slot_time = 200;
      setup_pool = 512;
      input_pool = 8;
      output_pool = 8;
      diag_pool = 8;
      address = 2;
      max_retry_limit = limit;
      watchdog = true;
      watchdog_first = 2;
      watchdog_second = 5;
      min_tsdr_bits = 11;
    }

abbrev pub bench_created : ℕ → Done
bench_created limit = created_of (case_parameters limit)

-- the unit in an operating state
abbrev pub unit_in : OperatingState → DpMaster → DpMaster
unit_in o m = state_is (entered o m.state) m

-- what stands in the pool of output images at first
abbrev pub outputs_lent : List ℕ
outputs_lent = 1 ∷ 2 ∷ 3 ∷ 4 ∷ 5 ∷ 6 ∷ 7 ∷ 8 ∷ []

abbrev pub empty_bench : ℕ → Bench
empty_bench limit =
    record {
      unit = unit_in Operate (bench_created limit).master;
      setup = zeros 512;
      inputs = replicate 8 7;
      outputs = outputs_lent;
      diags = zeros 8;
    }

abbrev pub clear_bench : Bench → Bench
clear_bench b = record { unit = unit_in Clear b.unit; setup = b.setup; inputs = b.inputs; outputs = b.outputs; diags = b.diags }

-- a balance with ident 0x1234 and groups 0, user parameters and configuration
abbrev pub case_addition : Balance → Addition
case_addition b =
    record {
      address = b.address;
      options =
          record {
            ident_number = 0x1234;
            max_tsdr = 100;
            groups = 0;
            sync_mode = false;
            freeze_mode = false;
            fail_safe = b.fail_safe;
            has_user_parameters = true;
            user_parameters = 0;
            has_config = true;
            config = 0;
          };
      input_len = b.image;
      output_len = b.outputs;
      room = 0;
    }

-- the two telegrams with a payload
abbrev pub diagnosis_telegram : Telegram
diagnosis_telegram = Data (Some 62) (Some 60) 8

abbrev pub data_telegram : ℕ → Telegram
data_telegram status = Data None None status

-- an add, a turn and a reply do what their contracts say, on the pools of the bench
abbrev pub PlacedOn : Bench → Balance → List ℕ → List ℕ → Bench → Result PeripheralHandle Refusal → Type 0
PlacedOn b balance user config after r =
    Adding b.unit (case_addition balance) user config (pools_of b.setup b.inputs b.outputs b.diags) (pools_of after.setup after.inputs after.outputs after.diags)
    (added_of r after.unit)

pub record SeenOn (b : Bench) (time : ℕ) (after : Bench) (r : Seen) : Type 0 where
  pub call : Turned b.unit time false b.setup b.outputs (replicate 244 255) r.payload (record { master = after.unit; answer = r.answer })
  pub setup : after.setup ≡ b.setup
  pub inputs : after.inputs ≡ b.inputs
  pub outputs : after.outputs ≡ b.outputs
  pub diags : after.diags ≡ b.diags

pub record RepliedOn (b : Bench) (address : ℕ) (t : Telegram) (payload : List ℕ) (after : Bench) (r : ReplyAnswer) : Type 0 where
  pub call : Received b.unit address t payload b.inputs b.diags after.inputs after.diags (record { master = after.unit; answer = r })
  pub setup : after.setup ≡ b.setup
  pub outputs : after.outputs ≡ b.outputs
