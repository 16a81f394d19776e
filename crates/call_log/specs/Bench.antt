-- The benches of the tables in Life.antt and SecondLife.antt, the calls that they are made of, and the numbers that stand for an answer.
-- From 01, "The unit and its sizes" and "One turn".
use Rattle.std.specs.Prelude.{ℕ, Bool, true, false, cond, List, [], ◌∷◌, ◌++◌, take, Some, None}
use Rattle.parts.specs.Parts.{zeros}
use Rattle.fdl.specs.Bits.{bit_number, request_number}
use Rattle.fdl.specs.Sap.{sap_number}
use Rattle.fdl.specs.declared.parameters.Parameters.{Parameters}
use Rattle.fdl.specs.declared.telegram.DataTelegramHeader.{DataTelegramHeader}
use Rattle.fdl.specs.declared.telegram.Telegram.{Telegram}
use Rattle.fdl.specs.declared.telegram.Telegram.TheVariants.{ShortConfirmation, Data}
use Rattle.payloads.specs.Request.{kind_number}
use Rattle.station.specs.State.{event_number}
use Rattle.peripheral_set.specs.declared.PeripheralHandle.{PeripheralHandle}
use Rattle.cycle.specs.declared.state.OperatingState.TheVariants.{Operate}
use Rattle.answers.specs.declared.turn.Transmission.{Transmission}
use Rattle.answers.specs.declared.turn.Transmission.TheVariants.{Nothing, Control, Request}
use Rattle.master.specs.Pools.{Pools}
use Rattle.call_log.specs.Calls.{World, Call, add, enter, turn, reply, Answer, number, added, turned, replied, step}
use Rattle.call_log.specs.Run.{run}

-- ---- the bench

-- slot time 200, limit 1, address 2; pools of 4, 2, 2 and 8 bytes
abbrev pub bench : Parameters
bench =
    record {
      slot_time = 200;
      setup_pool = 4;
      input_pool = 2;
      output_pool = 2;
      diag_pool = 8;
      address = 2;
      max_retry_limit = 1;
      watchdog = false;
      watchdog_first = 0;
      watchdog_second = 0;
      min_tsdr_bits = 11;
    }

abbrev pub bench_pools : Pools
bench_pools = record { setup = zeros 4; inputs = zeros 2; outputs = zeros 2; diags = zeros 8 }

-- a balance at an address with three bytes of user parameters, one of configuration, images of 2 bytes, and so many bytes of the set-up pool lent
abbrev pub add_bench : ℕ → ℕ → Call
add_bench address lent =
    add
    (record {
      address = address;
      options =
          record {
            ident_number = 0x1234;
            max_tsdr = 0;
            groups = 0;
            sync_mode = false;
            freeze_mode = false;
            fail_safe = false;
            has_user_parameters = true;
            user_parameters = 0;
            has_config = true;
            config = 0;
          };
      input_len = 2;
      output_len = 2;
      room = 8;
    })
    (0 ∷ 1 ∷ 2 ∷ []) (0x31 ∷ []) (record { setup = lent; inputs = 2; outputs = 2; diags = 8 })

-- the balance of the bench
abbrev pub add_with : ℕ → Call
add_with lent = add_bench 7 lent

-- a turn at that time
abbrev pub turn_at : ℕ → Call
turn_at time = turn time false 4 2 (zeros 244)

-- its reply to a diagnosis request: 00 0C 00 02 12 34
abbrev pub diagnosis_reply : Call
diagnosis_reply = reply 7 (Data (Some 62) (Some 60) 0) (0 ∷ 0x0C ∷ 0 ∷ 2 ∷ 0x12 ∷ 0x34 ∷ []) 2 8

-- one balance, in Operate; newest first
abbrev pub started : List Call
started = enter Operate ∷ add_with 4 ∷ []

-- then the global control, and a diagnosis request
abbrev pub diagnosis_asked : List Call
diagnosis_asked = turn_at 1 ∷ turn_at 0 ∷ started

-- then its reply, and the turn that takes the place back
abbrev pub diagnosis_answered : List Call
diagnosis_answered = turn_at 2 ∷ diagnosis_reply ∷ diagnosis_asked

-- a whole life: diagnosis, parameters, configuration, a clean diagnosis; each answered, and the place taken back
abbrev pub acknowledgement : Call
acknowledgement = reply 7 ShortConfirmation [] 2 8

abbrev pub configured : List Call
configured =
    turn_at 8 ∷ diagnosis_reply ∷ turn_at 7 ∷ turn_at 6 ∷ acknowledgement ∷ turn_at 5 ∷ turn_at 4 ∷ acknowledgement ∷ turn_at 3 ∷ diagnosis_answered

-- then data is asked for, and 11 22 comes
abbrev pub exchanged : List Call
exchanged = reply 7 (Data None None 8) (11 ∷ 22 ∷ []) 2 8 ∷ turn_at 9 ∷ configured

-- the unit and the pools then
abbrev pub started_bench : World
started_bench = (run bench bench_pools started).world

abbrev pub asked_bench : World
asked_bench = (run bench bench_pools diagnosis_asked).world

-- ---- the numbers of an answer

abbrev pub as_number : Bool → ℕ
as_number b = cond b 1 0

abbrev pub header_numbers : DataTelegramHeader → List ℕ
header_numbers h = h.da ∷ h.sa ∷ sap_number h.dsap ∷ sap_number h.ssap ∷ bit_number h.fcb ∷ request_number h.req ∷ []

-- nothing; the global control's header; slot, kind and header of a request
abbrev pub sent_numbers : Transmission → List ℕ
sent_numbers Nothing = []
sent_numbers (Control h) = header_numbers h
sent_numbers (Request slot k h) = slot ∷ kind_number k ∷ header_numbers h

-- a number; with the handle of an add; of a turn also cycle-completed, mask, event and its slot, what was sent and its payload; of a reply cycle-completed, event, slot
abbrev pub numbers : Answer → List ℕ
numbers (number n) = n ∷ []
numbers (added n h) = n ∷ h.slot ∷ h.address ∷ []
numbers (turned a buf) =
    a.refusal ∷ as_number a.cycle_completed ∷ a.offline ∷ event_number a.event ∷ a.handle.slot ∷ (sent_numbers a.transmission ++ take a.len buf)
numbers (replied a) = a.refusal ∷ as_number a.cycle_completed ∷ event_number a.event ∷ a.handle.slot ∷ []

-- the answers to calls, oldest first, and the unit and pools after them
abbrev pub answers_to : World → List Call → List (List ℕ)
answers_to w [] = []
answers_to w (c ∷ cs) = numbers (step w c).answer ∷ answers_to (step w c).world cs

abbrev pub after_all : World → List Call → World
after_all w [] = w
after_all w (c ∷ cs) = after_all (step w c).world cs

abbrev pub handle_to : ℕ → PeripheralHandle
handle_to slot = record { slot = slot; address = 7 }

abbrev pub bench_reply : Telegram → List ℕ → Call
bench_reply t payload = reply 7 t payload 2 8

-- ---- two balances with no set-up data and no images, over empty pools

abbrev pub small_bench : Parameters
small_bench =
    record {
      slot_time = 200;
      setup_pool = 0;
      input_pool = 0;
      output_pool = 0;
      diag_pool = 0;
      address = 2;
      max_retry_limit = 1;
      watchdog = false;
      watchdog_first = 0;
      watchdog_second = 0;
      min_tsdr_bits = 11;
    }

abbrev pub no_pools : Pools
no_pools = record { setup = []; inputs = []; outputs = []; diags = [] }

abbrev pub add_at : ℕ → Call
add_at address =
    add
    (record {
      address = address;
      options =
          record {
            ident_number = 0;
            max_tsdr = 0;
            groups = 0;
            sync_mode = false;
            freeze_mode = false;
            fail_safe = false;
            has_user_parameters = false;
            user_parameters = 0;
            has_config = false;
            config = 0;
          };
      input_len = 0;
      output_len = 0;
      room = 0;
    })
    [] [] (record { setup = 0; inputs = 0; outputs = 0; diags = 0 })

abbrev pub small_turn : ℕ → Call
small_turn time = turn time false 0 0 (zeros 244)

abbrev pub small_reply : ℕ → Call
small_reply address = reply address (Data (Some 62) (Some 60) 0) (0 ∷ 0x0C ∷ 0 ∷ 2 ∷ 0x12 ∷ 0x34 ∷ []) 0 0
