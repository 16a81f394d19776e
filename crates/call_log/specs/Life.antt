-- The life of one balance, and of two: their calls, and the numbers that their answers have. It shows that what is promised happens, and each line of the tables is held to the definitions.
-- From 01, "One turn", "One visit and one reply" and "Refusal numbers".
use Rattle.std.specs.Prelude.{ℕ, List, [], ◌∷◌, Some, None}
use Rattle.fdl.specs.declared.telegram.Telegram.TheVariants.{ShortConfirmation, Data}
use Rattle.cycle.specs.declared.state.OperatingState.TheVariants.{Stop, Clear, Operate}
use Rattle.call_log.specs.Calls.{Call, enter, reply, reset, wish, write, hand}
use Rattle.call_log.specs.Bench.{add_bench, add_with, turn_at, diagnosis_reply, acknowledgement, handle_to, bench_reply, add_at, small_turn, small_reply}

-- ---- one life in calls, oldest first

-- with an extended part of two bytes
abbrev pub extended_reply : Call
extended_reply = bench_reply (Data (Some 62) (Some 60) 0) (0x08 ∷ 0x0C ∷ 0 ∷ 2 ∷ 0x12 ∷ 0x34 ∷ 0xAA ∷ 0xBB ∷ [])

-- one that comes where parameters are to be acknowledged: it changes nothing
abbrev pub late_reply : Call
late_reply = bench_reply (Data (Some 62) (Some 60) 0) (0x08 ∷ 0x0C ∷ 0 ∷ 2 ∷ 0x12 ∷ 0x34 ∷ 0xCC ∷ [])

abbrev pub first_half : List Call
first_half =
    enter Operate
    ∷ add_with 3
    ∷ add_with 4
    ∷ add_with 4
    ∷ add_bench 8 4
    ∷ write (handle_to 0) (5 ∷ 6 ∷ []) 2
    ∷ write (handle_to 0) (5 ∷ []) 2
    ∷ hand (handle_to 0) (9 ∷ []) 2
    ∷ hand (handle_to 1) (9 ∷ []) 2
    ∷ hand (handle_to 0) (9 ∷ []) 1
    ∷ turn_at 0
    ∷ turn_at 1
    ∷ reply 8 ShortConfirmation [] 2 8
    ∷ bench_reply (Data None None 5) []
    ∷ extended_reply
    ∷ turn_at 2
    ∷ turn_at 1
    ∷ turn_at 3
    ∷ late_reply
    ∷ turn_at 3
    ∷ turn_at 3
    ∷ acknowledgement
    ∷ turn_at 4
    ∷ turn_at 5
    ∷ acknowledgement
    ∷ turn_at 6
    ∷ turn_at 7
    ∷ diagnosis_reply
    ∷ []

abbrev pub second_half : List Call
second_half =
    turn_at 8
    ∷ turn_at 9
    ∷ bench_reply (Data None None 10) (11 ∷ 22 ∷ [])
    ∷ turn_at 10
    ∷ turn_at 11
    ∷ diagnosis_reply
    ∷ turn_at 11
    ∷ turn_at 11
    ∷ bench_reply (Data None None 9) (33 ∷ 44 ∷ [])
    ∷ wish (handle_to 0)
    ∷ wish (handle_to 32)
    ∷ turn_at 12
    ∷ turn_at 13
    ∷ turn_at 14
    ∷ turn_at 15
    ∷ turn_at 15
    ∷ reset (handle_to 0) 2
    ∷ reset (handle_to 5) 2
    ∷ reset (handle_to 0) 9
    ∷ acknowledgement
    ∷ enter Clear
    ∷ turn_at 16
    ∷ enter Stop
    ∷ turn_at 17
    ∷ []

-- ---- and its answers

abbrev pub first_answers : List (List ℕ)
first_answers =
    (0 ∷ [])
    ∷ (2 ∷ 255 ∷ 255 ∷ [])
    ∷ (0 ∷ 0 ∷ 7 ∷ [])
    ∷ (6 ∷ 255 ∷ 255 ∷ [])
    ∷ (8 ∷ 255 ∷ 255 ∷ [])
    ∷ (0 ∷ [])
    ∷ (11 ∷ [])
    ∷ (0 ∷ [])
    ∷ (4 ∷ [])
    ∷ (2 ∷ [])
    ∷ (0 ∷ 0 ∷ 0 ∷ 0 ∷ 255 ∷ 127 ∷ 2 ∷ 58 ∷ 62 ∷ 0 ∷ 4 ∷ 0 ∷ 0 ∷ [])
    ∷ (0 ∷ 0 ∷ 0 ∷ 0 ∷ 255 ∷ 0 ∷ 1 ∷ 7 ∷ 2 ∷ 60 ∷ 62 ∷ 1 ∷ 12 ∷ [])
    ∷ (9 ∷ 0 ∷ 0 ∷ 255 ∷ [])
    ∷ (10 ∷ 0 ∷ 0 ∷ 255 ∷ [])
    ∷ (0 ∷ 1 ∷ 1 ∷ 0 ∷ [])
    ∷ (0 ∷ 0 ∷ 0 ∷ 0 ∷ 255 ∷ [])
    ∷ (3 ∷ 0 ∷ 0 ∷ 0 ∷ 255 ∷ [])
    ∷ (0 ∷ 0 ∷ 0 ∷ 0 ∷ 255 ∷ 0 ∷ 2 ∷ 7 ∷ 2 ∷ 61 ∷ 62 ∷ 2 ∷ 12 ∷ 0x80 ∷ 0 ∷ 0 ∷ 11 ∷ 0x12 ∷ 0x34 ∷ 0 ∷ 0 ∷ 1 ∷ 2 ∷ [])
    ∷ (0 ∷ 1 ∷ 0 ∷ 255 ∷ [])
    ∷ (0 ∷ 0 ∷ 0 ∷ 0 ∷ 255 ∷ [])
    ∷ (0 ∷ 0 ∷ 0 ∷ 0 ∷ 255 ∷ 0 ∷ 2 ∷ 7 ∷ 2 ∷ 61 ∷ 62 ∷ 2 ∷ 12 ∷ 0x80 ∷ 0 ∷ 0 ∷ 11 ∷ 0x12 ∷ 0x34 ∷ 0 ∷ 0 ∷ 1 ∷ 2 ∷ [])
    ∷ (0 ∷ 1 ∷ 0 ∷ 255 ∷ [])
    ∷ (0 ∷ 0 ∷ 0 ∷ 0 ∷ 255 ∷ [])
    ∷ (0 ∷ 0 ∷ 0 ∷ 0 ∷ 255 ∷ 0 ∷ 3 ∷ 7 ∷ 2 ∷ 62 ∷ 62 ∷ 3 ∷ 12 ∷ 0x31 ∷ [])
    ∷ (0 ∷ 1 ∷ 0 ∷ 255 ∷ [])
    ∷ (0 ∷ 0 ∷ 0 ∷ 0 ∷ 255 ∷ [])
    ∷ (0 ∷ 0 ∷ 0 ∷ 0 ∷ 255 ∷ 0 ∷ 1 ∷ 7 ∷ 2 ∷ 60 ∷ 62 ∷ 2 ∷ 12 ∷ [])
    ∷ (0 ∷ 1 ∷ 2 ∷ 0 ∷ [])
    ∷ []

abbrev pub second_answers : List (List ℕ)
second_answers =
    (0 ∷ 0 ∷ 0 ∷ 0 ∷ 255 ∷ [])
    ∷ (0 ∷ 0 ∷ 0 ∷ 0 ∷ 255 ∷ 0 ∷ 4 ∷ 7 ∷ 2 ∷ 255 ∷ 255 ∷ 3 ∷ 13 ∷ 9 ∷ 6 ∷ [])
    ∷ (0 ∷ 1 ∷ 5 ∷ 0 ∷ [])
    ∷ (0 ∷ 0 ∷ 0 ∷ 0 ∷ 255 ∷ [])
    ∷ (0 ∷ 0 ∷ 0 ∷ 0 ∷ 255 ∷ 0 ∷ 1 ∷ 7 ∷ 2 ∷ 60 ∷ 62 ∷ 2 ∷ 12 ∷ [])
    ∷ (0 ∷ 1 ∷ 6 ∷ 0 ∷ [])
    ∷ (0 ∷ 0 ∷ 0 ∷ 0 ∷ 255 ∷ [])
    ∷ (0 ∷ 0 ∷ 0 ∷ 0 ∷ 255 ∷ 0 ∷ 4 ∷ 7 ∷ 2 ∷ 255 ∷ 255 ∷ 3 ∷ 13 ∷ 9 ∷ 6 ∷ [])
    ∷ (0 ∷ 1 ∷ 0 ∷ 255 ∷ [])
    ∷ (0 ∷ [])
    ∷ (4 ∷ [])
    ∷ (0 ∷ 0 ∷ 0 ∷ 0 ∷ 255 ∷ [])
    ∷ (0 ∷ 0 ∷ 0 ∷ 0 ∷ 255 ∷ 0 ∷ 1 ∷ 7 ∷ 2 ∷ 60 ∷ 62 ∷ 2 ∷ 12 ∷ [])
    ∷ (0 ∷ 0 ∷ 0 ∷ 0 ∷ 255 ∷ 0 ∷ 1 ∷ 7 ∷ 2 ∷ 60 ∷ 62 ∷ 2 ∷ 12 ∷ [])
    ∷ (0 ∷ 1 ∷ 1 ∷ 7 ∷ 0 ∷ [])
    ∷ (0 ∷ 0 ∷ 0 ∷ 0 ∷ 255 ∷ 0 ∷ 1 ∷ 7 ∷ 2 ∷ 60 ∷ 62 ∷ 1 ∷ 12 ∷ [])
    ∷ (6 ∷ [])
    ∷ (4 ∷ [])
    ∷ (0 ∷ [])
    ∷ (9 ∷ 0 ∷ 0 ∷ 255 ∷ [])
    ∷ (0 ∷ [])
    ∷ (0 ∷ 0 ∷ 0 ∷ 0 ∷ 255 ∷ 127 ∷ 2 ∷ 58 ∷ 62 ∷ 0 ∷ 4 ∷ 2 ∷ 0 ∷ [])
    ∷ (0 ∷ [])
    ∷ (0 ∷ 0 ∷ 0 ∷ 0 ∷ 255 ∷ [])
    ∷ []

-- ---- two balances with no set-up data and no images; oldest first

abbrev pub two_balances : List Call
two_balances =
    add_at 7
    ∷ add_at 8
    ∷ add_at 2
    ∷ enter Operate
    ∷ small_turn 0
    ∷ small_turn 1
    ∷ small_reply 8
    ∷ small_reply 7
    ∷ small_turn 2
    ∷ small_reply 8
    ∷ small_turn 3
    ∷ small_turn 4
    ∷ reset (handle_to 0) 7
    ∷ reset (handle_to 1) 8
    ∷ small_turn 5
    ∷ small_turn 6
    ∷ small_turn 7
    ∷ small_turn 8
    ∷ small_turn 9
    ∷ []

-- the second is asked after the first has answered, and where the first, Offline and silent, is passed
abbrev pub two_answers : List (List ℕ)
two_answers =
    (0 ∷ 0 ∷ 7 ∷ [])
    ∷ (0 ∷ 1 ∷ 8 ∷ [])
    ∷ (6 ∷ 255 ∷ 255 ∷ [])
    ∷ (0 ∷ [])
    ∷ (0 ∷ 0 ∷ 0 ∷ 0 ∷ 255 ∷ 127 ∷ 2 ∷ 58 ∷ 62 ∷ 0 ∷ 4 ∷ 0 ∷ 0 ∷ [])
    ∷ (0 ∷ 0 ∷ 0 ∷ 0 ∷ 255 ∷ 0 ∷ 1 ∷ 7 ∷ 2 ∷ 60 ∷ 62 ∷ 1 ∷ 12 ∷ [])
    ∷ (9 ∷ 0 ∷ 0 ∷ 255 ∷ [])
    ∷ (0 ∷ 0 ∷ 1 ∷ 0 ∷ [])
    ∷ (0 ∷ 0 ∷ 0 ∷ 0 ∷ 255 ∷ 1 ∷ 1 ∷ 8 ∷ 2 ∷ 60 ∷ 62 ∷ 1 ∷ 12 ∷ [])
    ∷ (0 ∷ 1 ∷ 1 ∷ 1 ∷ [])
    ∷ (0 ∷ 0 ∷ 0 ∷ 0 ∷ 255 ∷ [])
    ∷ (0 ∷ 1 ∷ 0 ∷ 0 ∷ 255 ∷ [])
    ∷ (0 ∷ [])
    ∷ (0 ∷ [])
    ∷ (0 ∷ 0 ∷ 0 ∷ 0 ∷ 255 ∷ 0 ∷ 1 ∷ 7 ∷ 2 ∷ 60 ∷ 62 ∷ 1 ∷ 12 ∷ [])
    ∷ (0 ∷ 0 ∷ 0 ∷ 0 ∷ 255 ∷ 1 ∷ 1 ∷ 8 ∷ 2 ∷ 60 ∷ 62 ∷ 1 ∷ 12 ∷ [])
    ∷ (0 ∷ 1 ∷ 0 ∷ 0 ∷ 255 ∷ [])
    ∷ (0 ∷ 0 ∷ 0 ∷ 0 ∷ 255 ∷ 0 ∷ 1 ∷ 7 ∷ 2 ∷ 60 ∷ 62 ∷ 1 ∷ 12 ∷ [])
    ∷ (0 ∷ 0 ∷ 0 ∷ 0 ∷ 255 ∷ 1 ∷ 1 ∷ 8 ∷ 2 ∷ 60 ∷ 62 ∷ 1 ∷ 12 ∷ [])
    ∷ []
