-- The table of the trial runs marked P: the number of each, its inputs, and the outcomes that 01 names for it.
-- From 01, "Trial runs", 1 to 12, 17 and 18. States, bits and events of an outcome by the numbers of docs/SCRIPTS.md; a master of 255 is none.
use Rattle.std.specs.Prelude.{ℕ, true, false, List, [], ◌∷◌, Some, None}
use Rattle.fdl.specs.declared.telegram.Telegram.{Telegram}
use Rattle.fdl.specs.declared.telegram.Telegram.TheVariants.{ShortConfirmation, Data}
use Rattle.station.specs.declared.state.PeripheralState.TheVariants.{Offline, WaitForParam, ValidateConfig, PreDataExchange, DataExchange}
use Rattle.cycle.specs.declared.state.OperatingState.TheVariants.{Clear}
use Rattle.call_log.specs.Calls.{enter}
use Rattle.trial_table.specs.Trial.{trial_turn, answers, Trial, Reported, Number, Turned, Heard, outcomes_of}

pub record TrialRow : Type 0 where
  pub number : ℕ
  pub input : Trial
  pub expected : List Reported

-- a diagnosis reply
abbrev pub diagnosis : Telegram
diagnosis = Data (Some 62) (Some 60) 8

-- a data reply with a status
abbrev pub status : ℕ → Telegram
status n = Data None None n

-- the parameter bytes of every trial, before the user parameters
abbrev pub seven : List ℕ → List ℕ
seven user = 0x88 ∷ 0x02 ∷ 0x05 ∷ 0x0B ∷ 0x12 ∷ 0x34 ∷ 0x00 ∷ user

abbrev pub table : List TrialRow
table =
    -- payload 88 02 05 0B 12 34 00 00 01 02
    record {
      number = 1;
      input = record { limit = 1; control = 0; user = 0x00 ∷ 0x01 ∷ 0x02 ∷ []; image = 0; outputs = 0; fail_safe = false; state = WaitForParam; calls = trial_turn 1 ∷ [] };
      expected = Turned 0 0 2 (0x88 ∷ 0x02 ∷ 0x05 ∷ 0x0B ∷ 0x12 ∷ 0x34 ∷ 0x00 ∷ 0x00 ∷ 0x01 ∷ 0x02 ∷ []) ∷ [];
    }
    -- flags 0x0800, master 2, clean: in ValidateConfig it gives Configured and PreDataExchange
    ∷ record {
      number = 2;
      input = record { limit = 1; control = 0; user = []; image = 0; outputs = 0; fail_safe = false; state = ValidateConfig; calls = trial_turn 1 ∷ answers diagnosis (0x00 ∷ 0x0C ∷ 0x00 ∷ 0x02 ∷ 0x12 ∷ 0x34 ∷ []) ∷ [] };
      expected = Turned 0 0 1 [] ∷ Heard (record { event = 2; state = 4; count = 0; bit = 2; due = false; flags = 0x0800; master = 2; image = [] }) ∷ [];
    }
    -- flags 0x0102, no master; in ValidateConfig, WaitForParam
    ∷ record {
      number = 3;
      input = record { limit = 1; control = 0; user = []; image = 0; outputs = 0; fail_safe = false; state = ValidateConfig; calls = trial_turn 1 ∷ answers diagnosis (0x02 ∷ 0x05 ∷ 0x00 ∷ 0xFF ∷ 0x12 ∷ 0x34 ∷ []) ∷ [] };
      expected = Turned 0 0 1 [] ∷ Heard (record { event = 0; state = 1; count = 0; bit = 2; due = false; flags = 0x0102; master = 255; image = [] }) ∷ [];
    }
    -- 5 bytes: not taken; Offline, the count stays
    ∷ record {
      number = 4;
      input = record { limit = 1; control = 0; user = []; image = 0; outputs = 0; fail_safe = false; state = Offline; calls = trial_turn 1 ∷ answers diagnosis (0x00 ∷ 0x0C ∷ 0x00 ∷ 0x02 ∷ 0x12 ∷ []) ∷ [] };
      expected = Turned 0 0 1 [] ∷ Heard (record { event = 0; state = 0; count = 1; bit = 1; due = false; flags = 0; master = 255; image = [] }) ∷ [];
    }
    -- flags 0x0044: ParameterError
    ∷ record {
      number = 5;
      input = record { limit = 1; control = 0; user = []; image = 0; outputs = 0; fail_safe = false; state = ValidateConfig; calls = trial_turn 1 ∷ answers diagnosis (0x44 ∷ 0x00 ∷ 0x00 ∷ 0x02 ∷ 0x12 ∷ 0x34 ∷ []) ∷ [] };
      expected = Turned 0 0 1 [] ∷ Heard (record { event = 4; state = 0; count = 0; bit = 1; due = false; flags = 0x0044; master = 2; image = [] }) ∷ [];
    }
    -- status 10, wrong length: due, bit cycled, no event, image kept
    ∷ record {
      number = 6;
      input = record { limit = 1; control = 0; user = []; image = 1; outputs = 0; fail_safe = false; state = DataExchange; calls = trial_turn 1 ∷ answers (status 10) (1 ∷ 2 ∷ []) ∷ [] };
      expected = Turned 0 0 4 [] ∷ Heard (record { event = 0; state = 5; count = 0; bit = 2; due = true; flags = 0; master = 255; image = 7 ∷ [] }) ∷ [];
    }
    -- status 1, exchange: count 0, no event
    ∷ record {
      number = 7;
      input = record { limit = 1; control = 0; user = []; image = 1; outputs = 0; fail_safe = false; state = DataExchange; calls = trial_turn 1 ∷ answers (status 1) (1 ∷ []) ∷ [] };
      expected = Turned 0 0 4 [] ∷ Heard (record { event = 0; state = 5; count = 0; bit = 2; due = false; flags = 0; master = 255; image = 7 ∷ [] }) ∷ [];
    }
    -- slot time 200, global control at 1,000: at 10,999 not due, at 11,000 due
    ∷ record {
      number = 8;
      input = record { limit = 1; control = 1000; user = []; image = 0; outputs = 0; fail_safe = false; state = Offline; calls = trial_turn 10999 ∷ trial_turn 11000 ∷ [] };
      expected = Turned 0 0 1 [] ∷ Turned 0 0 5 (0x00 ∷ 0x00 ∷ []) ∷ [];
    }
    -- limit 1, silent in WaitForParam: sent, sent, Offline
    ∷ record {
      number = 9;
      input = record { limit = 1; control = 0; user = []; image = 0; outputs = 0; fail_safe = false; state = WaitForParam; calls = trial_turn 1 ∷ trial_turn 2 ∷ trial_turn 3 ∷ [] };
      expected = Turned 0 0 2 (seven []) ∷ Turned 0 0 2 (seven []) ∷ Turned 7 1 0 [] ∷ [];
    }
    -- limit 0, Offline and silent: sent, Offline event, sent
    ∷ record {
      number = 10;
      input = record { limit = 0; control = 0; user = []; image = 0; outputs = 0; fail_safe = false; state = Offline; calls = trial_turn 1 ∷ trial_turn 2 ∷ trial_turn 3 ∷ [] };
      expected = Turned 0 0 1 [] ∷ Turned 7 1 0 [] ∷ Turned 0 0 1 [] ∷ [];
    }
    -- image 0 bytes, short confirmation: DataExchanged
    ∷ record {
      number = 11;
      input = record { limit = 1; control = 0; user = []; image = 0; outputs = 0; fail_safe = false; state = PreDataExchange; calls = trial_turn 1 ∷ answers ShortConfirmation [] ∷ [] };
      expected = Turned 0 0 4 [] ∷ Heard (record { event = 5; state = 5; count = 0; bit = 2; due = false; flags = 0; master = 255; image = [] }) ∷ [];
    }
    -- image 1 byte: no event
    ∷ record {
      number = 12;
      input = record { limit = 1; control = 0; user = []; image = 1; outputs = 0; fail_safe = false; state = PreDataExchange; calls = trial_turn 1 ∷ answers ShortConfirmation [] ∷ [] };
      expected = Turned 0 0 4 [] ∷ Heard (record { event = 0; state = 4; count = 0; bit = 2; due = false; flags = 0; master = 255; image = 7 ∷ [] }) ∷ [];
    }
    -- Clear, fail_safe, outputs 01 02: data request, payload empty; the global control before it says Clear
    ∷ record {
      number = 17;
      input = record { limit = 1; control = 0; user = []; image = 0; outputs = 2; fail_safe = true; state = DataExchange; calls = enter Clear ∷ trial_turn 1 ∷ trial_turn 2 ∷ [] };
      expected = Number 0 ∷ Turned 0 0 5 (0x02 ∷ 0x00 ∷ []) ∷ Turned 0 0 4 [] ∷ [];
    }
    -- the same without fail_safe: payload 00 00
    ∷ record {
      number = 18;
      input = record { limit = 1; control = 0; user = []; image = 0; outputs = 2; fail_safe = false; state = DataExchange; calls = enter Clear ∷ trial_turn 1 ∷ trial_turn 2 ∷ [] };
      expected = Number 0 ∷ Turned 0 0 5 (0x02 ∷ 0x00 ∷ []) ∷ Turned 0 0 4 (0x00 ∷ 0x00 ∷ []) ∷ [];
    }
    ∷ []

-- ---- what is claimed of it: trial by trial its number and its outcomes

pub record Line : Type 0 where
  pub number : ℕ
  pub outcomes : List Reported

abbrev pub line_of : TrialRow → Line
line_of r = record { number = r.number; outcomes = outcomes_of r.input }

-- the numbers of the trials marked P
abbrev pub marked : List ℕ
marked = 1 ∷ 2 ∷ 3 ∷ 4 ∷ 5 ∷ 6 ∷ 7 ∷ 8 ∷ 9 ∷ 10 ∷ 11 ∷ 12 ∷ 17 ∷ 18 ∷ []

-- with each number what its row expects, in that order; a number without a row expects nothing
abbrev pub expected_in : List ℕ → List TrialRow → List Line
expected_in [] rows = []
expected_in (n ∷ ns) [] = record { number = n; outcomes = [] } ∷ expected_in ns []
expected_in (n ∷ ns) (r ∷ rows) = record { number = n; outcomes = r.expected } ∷ expected_in ns rows
