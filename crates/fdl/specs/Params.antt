-- The parameters of a unit: their ranges, what a record holds of them, and the lowest values.
-- From 01, "The unit and its sizes" (ranges) and "Refusal numbers" (No. 1, and what a refused creation returns).
use Rattle.std.specs.Prelude.{ℕ, false, cond, List, [], ◌∷◌}
use Rattle.refusals.specs.Table.{Row, max_address, max_retries, max_slot_time, max_pool, parameter_row, first_of}
use Rattle.fdl.specs.declared.parameters.Parameters.{Parameters}

-- a row for each parameter that has a limit; min Tsdr and the watchdog factors are bytes, of which each is in range
abbrev pub creation_rows : Parameters → List Row
creation_rows p =
    parameter_row 0 max_address p.address
    ∷ parameter_row 0 max_retries p.max_retry_limit
    ∷ parameter_row 1 max_slot_time p.slot_time
    ∷ parameter_row 0 max_pool p.setup_pool
    ∷ parameter_row 0 max_pool p.input_pool
    ∷ parameter_row 0 max_pool p.output_pool
    ∷ parameter_row 0 max_pool p.diag_pool
    ∷ []

unfoldable pub creation_refusal : Parameters → ℕ
creation_refusal p = first_of (creation_rows p)

-- what a unit created with p holds: with the watchdog off the factors are 0 (DECISIONS 9)
unfoldable pub in_force : Parameters → Parameters
in_force p =
    record {
      slot_time = p.slot_time;
      setup_pool = p.setup_pool;
      input_pool = p.input_pool;
      output_pool = p.output_pool;
      diag_pool = p.diag_pool;
      address = p.address;
      max_retry_limit = p.max_retry_limit;
      watchdog = p.watchdog;
      watchdog_first = cond p.watchdog p.watchdog_first 0;
      watchdog_second = cond p.watchdog p.watchdog_second 0;
      min_tsdr_bits = p.min_tsdr_bits;
    }

-- all at their lowest: watchdog off, slot time 1, all else 0
unfoldable pub lowest : Parameters
lowest =
    record {
      slot_time = 1;
      setup_pool = 0;
      input_pool = 0;
      output_pool = 0;
      diag_pool = 0;
      address = 0;
      max_retry_limit = 0;
      watchdog = false;
      watchdog_first = 0;
      watchdog_second = 0;
      min_tsdr_bits = 0;
    }
