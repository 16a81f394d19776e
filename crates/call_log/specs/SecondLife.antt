-- A second life, of two balances: a table of calls, oldest first, each with the numbers of its answer. What the first leaves out: status 3, ParameterError, ConfigError, 0x0100,
-- two Offline in one turn, and a wish while a data request is open. Each line is held to the definitions.
-- From 01, "One turn" and "One visit and one reply"; the reason from there stands above each line.
use Rattle.std.specs.Prelude.{ℕ, Bool, true, false, List, [], ◌∷◌, ◌++◌, Some, None}
use Rattle.parts.specs.Parts.{zeros}
use Rattle.fdl.specs.declared.parameters.Parameters.{Parameters}
use Rattle.fdl.specs.declared.telegram.Telegram.{Telegram}
use Rattle.fdl.specs.declared.telegram.Telegram.TheVariants.{ShortConfirmation, Data}
use Rattle.cycle.specs.declared.state.OperatingState.TheVariants.{Operate}
use Rattle.master.specs.Pools.{Pools}
use Rattle.call_log.specs.Calls.{Call, add, enter, turn, reply, wish}

-- ---- the bench: limit 1, address 2, watchdog 2 and 5; pools of 4, 3, 2 and 0 bytes

abbrev pub pair_bench : Parameters
pair_bench =
    record {
      slot_time = 200;
      setup_pool = 4;
      input_pool = 3;
      output_pool = 2;
      diag_pool = 0;
      address = 2;
      max_retry_limit = 1;
      watchdog = true;
      watchdog_first = 2;
      watchdog_second = 5;
      min_tsdr_bits = 11;
    }

abbrev pub pair_pools : Pools
pair_pools = record { setup = zeros 4; inputs = zeros 3; outputs = zeros 2; diags = [] }

abbrev pub add_pair : (address ident groups : ℕ) (sync : Bool) (inputs outputs : ℕ) (user config : List ℕ) → Call
add_pair address ident groups sync inputs outputs user config =
    add
    (record {
      address = address;
      options =
          record {
            ident_number = ident;
            max_tsdr = 0;
            groups = groups;
            sync_mode = sync;
            freeze_mode = false;
            fail_safe = false;
            has_user_parameters = true;
            user_parameters = 0;
            has_config = true;
            config = 0;
          };
      input_len = inputs;
      output_len = outputs;
      room = 0;
    })
    user config (record { setup = 4; inputs = 3; outputs = 2; diags = 0 })

-- at address 7, with configuration 0x31: two bytes in, two bytes out
abbrev pub add_first : Call
add_first = add_pair 7 0x1234 1 true 2 2 (0xA1 ∷ 0xA2 ∷ []) (0x31 ∷ [])

-- at address 8, with configuration 0x10: one byte in
abbrev pub add_second : Call
add_second = add_pair 8 0x5678 0 false 1 0 [] (0x10 ∷ [])

abbrev pub turn_to : ℕ → Call
turn_to time = turn time false 4 2 (zeros 244)

abbrev pub reply_from : ℕ → Telegram → List ℕ → Call
reply_from address t payload = reply address t payload 3 0

-- a diagnosis with these two bytes of flags
abbrev pub diagnosis_from : (address low high : ℕ) → Call
diagnosis_from address low high = reply_from address (Data (Some 62) (Some 60) 0) (low ∷ high ∷ 0 ∷ 2 ∷ 0x12 ∷ 0x34 ∷ [])

-- ---- the numbers of a turn, by 01's table of requests: done, no cycle completed, mask 0, no event, no slot; then what was sent

abbrev pub quiet_turn : List ℕ
quiet_turn = 0 ∷ 0 ∷ 0 ∷ 0 ∷ 255 ∷ []

abbrev pub diagnosis_to : (slot address bit : ℕ) → List ℕ
diagnosis_to slot address bit = quiet_turn ++ (slot ∷ 1 ∷ address ∷ 2 ∷ 60 ∷ 62 ∷ bit ∷ 12 ∷ [])

abbrev pub parameters_to : (slot address bit : ℕ) → List ℕ → List ℕ
parameters_to slot address bit payload = quiet_turn ++ (slot ∷ 2 ∷ address ∷ 2 ∷ 61 ∷ 62 ∷ bit ∷ 12 ∷ payload)

abbrev pub configuration_to : (slot address bit config : ℕ) → List ℕ
configuration_to slot address bit config = quiet_turn ++ (slot ∷ 3 ∷ address ∷ 2 ∷ 62 ∷ 62 ∷ bit ∷ 12 ∷ config ∷ [])

abbrev pub data_to : (slot address bit : ℕ) → List ℕ → List ℕ
data_to slot address bit payload = quiet_turn ++ (slot ∷ 4 ∷ address ∷ 2 ∷ 255 ∷ 255 ∷ bit ∷ 13 ∷ payload)

-- ---- a table: its calls, and its answers

abbrev pub calls_of : List (Call × List ℕ) → List Call
calls_of [] = []
calls_of (x ∷ l) = x.0 ∷ calls_of l

abbrev pub answers_of : List (Call × List ℕ) → List (List ℕ)
answers_of [] = []
answers_of (x ∷ l) = x.1 ∷ answers_of l

-- ---- two balances that answer their parameters wrongly: two Offline in one turn

abbrev pub offline_together : List (Call × List ℕ)
offline_together =
    -- adding takes the first empty slot
    (add_first, (0 ∷ 0 ∷ 7 ∷ []))
    -- and then the next
    ∷ (add_second, (0 ∷ 1 ∷ 8 ∷ []))
    -- setting the operating state is done
    ∷ (enter Operate, (0 ∷ []))
    -- no global control was sent since Operate was set: 00 00 to 0x7F, SDN low, the bit inactive
    ∷ (turn_to 0, (0 ∷ 0 ∷ 0 ∷ 0 ∷ 255 ∷ 127 ∷ 2 ∷ 58 ∷ 62 ∷ 0 ∷ 4 ∷ 0 ∷ 0 ∷ []))
    -- Offline with count 0: diagnosis request, the bit at First
    ∷ (turn_to 1, diagnosis_to 0 7 1)
    -- taken: WaitForParam, Online; the place moves to the next occupied slot
    ∷ (diagnosis_from 7 0x00 0x0C, (0 ∷ 0 ∷ 1 ∷ 0 ∷ []))
    -- the visits start there
    ∷ (turn_to 2, diagnosis_to 1 8 1)
    -- taken; with no slot after it the cycle is completed
    ∷ (diagnosis_from 8 0x00 0x0C, (0 ∷ 1 ∷ 1 ∷ 1 ∷ []))
    -- cycle completed earlier: nothing sent, place back to the first slot
    ∷ (turn_to 3, quiet_turn)
    -- WaitForParam: 0x80 with 0x20 sync and 0x08 watchdog, its factors, min Tsdr, ident, groups, user parameters; taking cycled the bit
    ∷ (turn_to 4, parameters_to 0 7 2 (0xA8 ∷ 2 ∷ 5 ∷ 11 ∷ 0x12 ∷ 0x34 ∷ 1 ∷ 0xA1 ∷ 0xA2 ∷ []))
    -- no short confirmation: no change, so count 1 and the same bit
    ∷ (reply_from 7 (Data None None 0) [], (0 ∷ 0 ∷ 0 ∷ 255 ∷ []))
    -- the second has no sync, no groups and user parameters of 0 bytes
    ∷ (turn_to 5, parameters_to 1 8 2 (0x88 ∷ 2 ∷ 5 ∷ 11 ∷ 0x56 ∷ 0x78 ∷ 0 ∷ []))
    -- no change here either
    ∷ (reply_from 8 (Data None None 0) [], (0 ∷ 1 ∷ 0 ∷ 255 ∷ []))
    -- place back
    ∷ (turn_to 6, quiet_turn)
    -- count 1 is not above the limit 1: sent again
    ∷ (turn_to 7, parameters_to 0 7 2 (0xA8 ∷ 2 ∷ 5 ∷ 11 ∷ 0x12 ∷ 0x34 ∷ 1 ∷ 0xA1 ∷ 0xA2 ∷ []))
    -- no change: count 2
    ∷ (reply_from 7 (Data None None 0) [], (0 ∷ 0 ∷ 0 ∷ 255 ∷ []))
    -- sent again
    ∷ (turn_to 8, parameters_to 1 8 2 (0x88 ∷ 2 ∷ 5 ∷ 11 ∷ 0x56 ∷ 0x78 ∷ 0 ∷ []))
    -- no change: count 2
    ∷ (reply_from 8 (Data None None 0) [], (0 ∷ 1 ∷ 0 ∷ 255 ∷ []))
    -- place back
    ∷ (turn_to 9, quiet_turn)
    -- both counts are above the limit: two Offline in one turn, the event is the first one's, the mask has both bits; past the last slot
    ∷ (turn_to 10, (0 ∷ 1 ∷ 3 ∷ 7 ∷ 0 ∷ []))
    ∷ []

-- ---- set-up with 0x0100 and ParameterError

abbrev pub set_up_errors : List (Call × List ℕ)
set_up_errors =
    -- Offline with count 0; the fall put the bit to First, of the one with the event
    (turn_to 11, diagnosis_to 0 7 1)
    -- taken: Online
    ∷ (diagnosis_from 7 0x00 0x0C, (0 ∷ 0 ∷ 1 ∷ 0 ∷ []))
    -- and of the second, which only the mask reported
    ∷ (turn_to 12, diagnosis_to 1 8 1)
    -- Online, cycle completed
    ∷ (diagnosis_from 8 0x00 0x0C, (0 ∷ 1 ∷ 1 ∷ 1 ∷ []))
    -- place back
    ∷ (turn_to 13, quiet_turn)
    -- WaitForParam, the bit cycled to Low
    ∷ (turn_to 14, parameters_to 0 7 2 (0xA8 ∷ 2 ∷ 5 ∷ 11 ∷ 0x12 ∷ 0x34 ∷ 1 ∷ 0xA1 ∷ 0xA2 ∷ []))
    -- a short confirmation: WaitForConfig
    ∷ (reply_from 7 ShortConfirmation [], (0 ∷ 0 ∷ 0 ∷ 255 ∷ []))
    -- the second likewise
    ∷ (turn_to 15, parameters_to 1 8 2 (0x88 ∷ 2 ∷ 5 ∷ 11 ∷ 0x56 ∷ 0x78 ∷ 0 ∷ []))
    -- WaitForConfig
    ∷ (reply_from 8 ShortConfirmation [], (0 ∷ 1 ∷ 0 ∷ 255 ∷ []))
    -- place back
    ∷ (turn_to 16, quiet_turn)
    -- configuration as stored; Low cycles to High
    ∷ (turn_to 17, configuration_to 0 7 3 0x31)
    -- a short confirmation: ValidateConfig
    ∷ (reply_from 7 ShortConfirmation [], (0 ∷ 0 ∷ 0 ∷ 255 ∷ []))
    -- the second likewise
    ∷ (turn_to 18, configuration_to 1 8 3 0x10)
    -- ValidateConfig
    ∷ (reply_from 8 ShortConfirmation [], (0 ∷ 1 ∷ 0 ∷ 255 ∷ []))
    -- place back
    ∷ (turn_to 19, quiet_turn)
    -- ValidateConfig: diagnosis; High cycles to Low
    ∷ (turn_to 20, diagnosis_to 0 7 2)
    -- flags 0x0100, low byte first, neither 0x0040 nor 0x0004: WaitForParam, no event
    ∷ (diagnosis_from 7 0x00 0x01, (0 ∷ 0 ∷ 0 ∷ 255 ∷ []))
    -- the second: diagnosis
    ∷ (turn_to 21, diagnosis_to 1 8 2)
    -- flags 0x0044: 0x0040 is looked at first: Offline, ParameterError
    ∷ (diagnosis_from 8 0x44 0x00, (0 ∷ 1 ∷ 4 ∷ 1 ∷ []))
    -- place back
    ∷ (turn_to 22, quiet_turn)
    -- WaitForParam: parameters again; 0x0100 is no fall, so the bit goes on
    ∷ (turn_to 23, parameters_to 0 7 3 (0xA8 ∷ 2 ∷ 5 ∷ 11 ∷ 0x12 ∷ 0x34 ∷ 1 ∷ 0xA1 ∷ 0xA2 ∷ []))
    -- WaitForConfig
    ∷ (reply_from 7 ShortConfirmation [], (0 ∷ 0 ∷ 0 ∷ 255 ∷ []))
    -- ParameterError left it Offline with count 0, and the bit at First after the cycling by the same reply: diagnosis, and no event of Offline
    ∷ (turn_to 24, diagnosis_to 1 8 1)
    -- Online
    ∷ (diagnosis_from 8 0x00 0x0C, (0 ∷ 1 ∷ 1 ∷ 1 ∷ []))
    -- place back
    ∷ (turn_to 25, quiet_turn)
    -- configuration
    ∷ (turn_to 26, configuration_to 0 7 2 0x31)
    -- ValidateConfig
    ∷ (reply_from 7 ShortConfirmation [], (0 ∷ 0 ∷ 0 ∷ 255 ∷ []))
    -- the second: parameters
    ∷ (turn_to 27, parameters_to 1 8 2 (0x88 ∷ 2 ∷ 5 ∷ 11 ∷ 0x56 ∷ 0x78 ∷ 0 ∷ []))
    -- WaitForConfig
    ∷ (reply_from 8 ShortConfirmation [], (0 ∷ 1 ∷ 0 ∷ 255 ∷ []))
    -- place back
    ∷ (turn_to 28, quiet_turn)
    -- diagnosis
    ∷ (turn_to 29, diagnosis_to 0 7 3)
    -- none of the four flags: PreDataExchange, Configured
    ∷ (diagnosis_from 7 0x00 0x0C, (0 ∷ 0 ∷ 2 ∷ 0 ∷ []))
    -- the second: configuration
    ∷ (turn_to 30, configuration_to 1 8 3 0x10)
    -- ValidateConfig
    ∷ (reply_from 8 ShortConfirmation [], (0 ∷ 1 ∷ 0 ∷ 255 ∷ []))
    -- place back
    ∷ (turn_to 31, quiet_turn)
    ∷ []

-- ---- exchange with status 3, ConfigError at the other, and wishes while data is asked for

abbrev pub wished_while_open : List (Call × List ℕ)
wished_while_open =
    -- data: no SAPs, SRD high, the output image as zeroed at adding
    (turn_to 32, data_to 0 7 2 (0 ∷ 0 ∷ []))
    -- status 3: ValidateConfig, count 0 and bit cycled, no event
    ∷ (reply_from 7 (Data None None 3) [], (0 ∷ 0 ∷ 0 ∷ 255 ∷ []))
    -- the second: diagnosis
    ∷ (turn_to 33, diagnosis_to 1 8 2)
    -- flags 0x0004 without 0x0040: Offline, ConfigError
    ∷ (diagnosis_from 8 0x04 0x00, (0 ∷ 1 ∷ 3 ∷ 1 ∷ []))
    -- place back
    ∷ (turn_to 34, quiet_turn)
    -- status 3 made it ValidateConfig: diagnosis; it is no fall, so the bit goes on
    ∷ (turn_to 35, diagnosis_to 0 7 3)
    -- Configured again
    ∷ (diagnosis_from 7 0x00 0x0C, (0 ∷ 0 ∷ 2 ∷ 0 ∷ []))
    -- the second is Offline with count 0, and the bit at First after ConfigError: diagnosis
    ∷ (turn_to 36, diagnosis_to 1 8 1)
    -- it was silent: Offline otherwise, so skipped with count 0; past the last slot
    ∷ (turn_to 37, (0 ∷ 1 ∷ 0 ∷ 0 ∷ 255 ∷ []))
    -- data
    ∷ (turn_to 38, data_to 0 7 2 (0 ∷ 0 ∷ []))
    -- a wish while the data request is open
    ∷ (wish (record { slot = 0; address = 7 }), (0 ∷ []))
    -- data was asked, whatever is due: status 0 and as long as the input image: stored, DataExchange, DataExchanged
    ∷ (reply_from 7 (Data None None 0) (11 ∷ 22 ∷ []), (0 ∷ 0 ∷ 5 ∷ 0 ∷ []))
    -- the second: count 0 again, diagnosis
    ∷ (turn_to 39, diagnosis_to 1 8 1)
    -- skipped
    ∷ (turn_to 40, (0 ∷ 1 ∷ 0 ∷ 0 ∷ 255 ∷ []))
    -- the wish waited for this visit: diagnosis; the reply to data cycled the bit
    ∷ (turn_to 41, diagnosis_to 0 7 3)
    -- taken: Diagnostics, due cleared
    ∷ (diagnosis_from 7 0x00 0x0C, (0 ∷ 0 ∷ 6 ∷ 0 ∷ []))
    -- the second: diagnosis
    ∷ (turn_to 42, diagnosis_to 1 8 1)
    -- skipped
    ∷ (turn_to 43, (0 ∷ 1 ∷ 0 ∷ 0 ∷ 255 ∷ []))
    -- none due: data; taking cycled the bit
    ∷ (turn_to 44, data_to 0 7 2 (0 ∷ 0 ∷ []))
    -- another wish while the data request is open
    ∷ (wish (record { slot = 0; address = 7 }), (0 ∷ []))
    -- a diagnosis in form, but data was asked: not as long as the input image, so no event and nothing held; the bit is cycled, the wish stays due
    ∷ (diagnosis_from 7 0x00 0x0C, (0 ∷ 0 ∷ 0 ∷ 255 ∷ []))
    -- the second: diagnosis
    ∷ (turn_to 45, diagnosis_to 1 8 1)
    -- skipped
    ∷ (turn_to 46, (0 ∷ 1 ∷ 0 ∷ 0 ∷ 255 ∷ []))
    -- diagnosis due
    ∷ (turn_to 47, diagnosis_to 0 7 3)
    -- taken, as the answer to a diagnosis request: Diagnostics
    ∷ (diagnosis_from 7 0x00 0x0C, (0 ∷ 0 ∷ 6 ∷ 0 ∷ []))
    ∷ []
