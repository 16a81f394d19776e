-- A trial: a balance in some state, the calls that follow, and what each of them answers.
-- From 01, "Trial runs"; what a call does is `step` of the log, and nothing else.
use Rattle.std.specs.Prelude.{ℕ, ◌/◌, Bool, true, false, cond, List, [], ◌∷◌, ◌++◌, take, replicate}
use Rattle.parts.specs.Parts.{zeros}
use Rattle.fdl.specs.declared.parameters.Parameters.{Parameters}
use Rattle.fdl.specs.declared.telegram.Telegram.{Telegram}
use Rattle.payloads.specs.Request.{kind_number}
use Rattle.station.specs.declared.state.PeripheralState.{PeripheralState}
use Rattle.station.specs.State.{event_number}
use Rattle.station.specs.Record.{in_state, last_diagnosis}
use Rattle.peripheral.specs.declared.record.Peripheral.{Peripheral}
use Rattle.peripheral.specs.Record.{station_is, input_image}
use Rattle.cycle.specs.declared.state.OperatingState.TheVariants.{Operate}
use Rattle.answers.specs.declared.turn.Transmission.{Transmission}
use Rattle.answers.specs.declared.turn.Transmission.TheVariants.{Nothing, Control, Request}
use Rattle.master.specs.Unit.{balance_at}
use Rattle.master.specs.Handle.{balance_is}
use Rattle.master.specs.Pools.{Pools}
use Rattle.call_log.specs.Calls.{World, Call, add, enter, turn, reply, Answer, number, added, turned, replied, refusal, accepted, Outcome as Done, step}
use Rattle.call_log.specs.Run.{run}

-- ---- the bench of every trial: the watchdog, Tsdr, ident and groups of the first, the slot time of the eighth, the outputs of the last two

abbrev pub own : ℕ
own = 2

abbrev pub address : ℕ
address = 8

-- the pools are lent whole: 4 bytes of set-up data, one of input and two of output; there is no room for diagnosis
abbrev pub pools_are : List ℕ → List ℕ → List ℕ → Pools
pools_are setup inputs outputs = record { setup = setup; inputs = inputs; outputs = outputs; diags = [] }

abbrev pub trial_parameters : ℕ → Parameters
trial_parameters limit =
    record {
      slot_time = 200;
      setup_pool = 4;
      input_pool = 1;
      output_pool = 2;
      diag_pool = 0;
      address = own;
      max_retry_limit = limit;
      watchdog = true;
      watchdog_first = 2;
      watchdog_second = 5;
      min_tsdr_bits = 11;
    }

-- ---- its calls

-- the configuration of a balance with an input image of no byte or one and an output image of none or two: identifier bytes that add up
-- to them, 0x10 for one byte of input, 0x21 for two of output
abbrev pub config_for : ℕ → ℕ → List ℕ
config_for image outputs = take image (0x10 ∷ []) ++ take (outputs / 2) (0x21 ∷ [])

-- the balance, with these user parameters, images of so many bytes of input and output with the configuration for them, and its mark
abbrev pub add_trial : List ℕ → ℕ → ℕ → Bool → Call
add_trial user image outputs fail_safe =
    add
    (record {
      address = address;
      options =
          record {
            ident_number = 0x1234;
            max_tsdr = 0;
            groups = 0;
            sync_mode = false;
            freeze_mode = false;
            fail_safe = fail_safe;
            has_user_parameters = true;
            user_parameters = 0;
            has_config = true;
            config = 0;
          };
      input_len = image;
      output_len = outputs;
      room = 0;
    })
    user (config_for image outputs) (record { setup = 4; inputs = 1; outputs = 2; diags = 0 })

-- a turn at that time, with a payload buffer full of 0xFF, so that zeros that are written can be told from bytes that are kept
abbrev pub trial_turn : ℕ → Call
trial_turn time = turn time false 4 2 (replicate 244 0xFF)

-- a reply of the balance
abbrev pub answers : Telegram → List ℕ → Call
answers t payload = reply address t payload 1 0

-- ---- what goes in

-- retry limit; time of the last global control; user parameters; lengths of the input and the output image; whether the balance is marked
-- `fail_safe`; state that it is in; the calls
pub record Trial : Type 0 where
  pub limit : ℕ
  pub control : ℕ
  pub user : List ℕ
  pub image : ℕ
  pub outputs : ℕ
  pub fail_safe : Bool
  pub state : PeripheralState
  pub calls : List Call

-- the unit is created, the balance added, Operate entered, and the global control sent
abbrev pub prepared : Trial → World
prepared t =
    (run (trial_parameters t.limit) (pools_are (zeros 4) (zeros 1) (zeros 2))
    (trial_turn t.control ∷ enter Operate ∷ add_trial t.user t.image t.outputs t.fail_safe ∷ [])).world

abbrev pub balance_in : PeripheralState → Peripheral → Peripheral
balance_in s p = station_is (in_state s p.station) p

-- then the balance is put into its state, a 7 into the input pool, so that an image that is kept can be told from one of zeros, and the
-- outputs 01 02 into the output pool
abbrev pub started_in : PeripheralState → World → World
started_in s w =
    record {
      unit = balance_is 0 (balance_in s (balance_at w.unit.peripherals 0)) w.unit;
      pools = pools_are w.pools.setup (7 ∷ []) (0x01 ∷ 0x02 ∷ []);
    }

-- ---- what comes out

-- what the balance is after a reply, with the event that the reply reports
pub record Reading : Type 0 where
  pub event : ℕ
  pub state : ℕ
  pub count : ℕ
  pub bit : ℕ
  pub due : Bool
  pub flags : ℕ
  pub master : ℕ
  pub image : List ℕ

-- a refused call, or one that answers its number alone; a turn with its event, mask, kind of what it sent (5 is global control) and payload; a reply
pub data Reported : Type 0 where
  Number : ℕ → Reported
  Turned : ℕ → ℕ → ℕ → List ℕ → Reported
  Heard : Reading → Reported

abbrev pub sent_kind : Transmission → ℕ
sent_kind Nothing = 0
sent_kind (Control header) = 5
sent_kind (Request slot k header) = kind_number k

abbrev pub reading_of : ℕ → Peripheral → List ℕ → Reading
reading_of event p inputs =
    record {
      event = event;
      state = p.station.state;
      count = p.station.retry_count;
      bit = p.station.fcb;
      due = p.station.diag_needed;
      flags = (last_diagnosis p.station).flags;
      master = (last_diagnosis p.station).master_address;
      image = input_image p inputs;
    }

-- of an accepted call; the payload is what stands at the front of the buffer
abbrev pub done_of : Answer → World → Reported
done_of (number n) w = Number n
done_of (added n h) w = Number n
done_of (turned a buf) w = Turned (event_number a.event) a.offline (sent_kind a.transmission) (take a.len buf)
done_of (replied a) w = Heard (reading_of (event_number a.event) (balance_at w.unit.peripherals 0) w.pools.inputs)

abbrev pub outcome_of : Answer → World → Reported
outcome_of a w = cond (accepted a) (done_of a w) (Number (refusal a))

-- one call after the other, oldest first
abbrev pub outcomes_from : List Call → World → List Reported
outcomes_from [] w = []
outcomes_from (c ∷ calls) w = let done : Done = step w c in outcome_of done.answer done.world ∷ outcomes_from calls done.world

-- from the inputs of a trial to its outcomes
abbrev pub outcomes_of : Trial → List Reported
outcomes_of t = outcomes_from t.calls (started_in t.state (prepared t))
