-- The lines that make and prepare what a driver holds: N, L, P and F. From docs/SCRIPTS.md, "Calls", with the limits of "Fields".
use Rattle.std.specs.Prelude.{ℕ, Option, List, [], ◌∷◌, slice_index}
use Rattle.fdl.specs.declared.parameters.Parameters.{Parameters}
use Rattle.script_lines.specs.declared.Lent.{Lent}
use Rattle.script_lines.specs.declared.Call.{Call}
use Rattle.script_lines.specs.declared.Call.TheVariants.{New, Lend, FillPools, FillPayload}
use Rattle.script_fields.specs.Read.{Field, number_at}
use Rattle.script_lines.specs.Fields.{numbers_at, read_as, flagged}

-- ---- N own retry slot wd f1 f2 tsdr ps pi pq pd

abbrev pub new_fields : List ℕ → ℕ → Option (Field (List ℕ))
new_fields s at = numbers_at (255 ∷ 255 ∷ 4294967295 ∷ 1 ∷ 255 ∷ 255 ∷ 255 ∷ 65535 ∷ 65535 ∷ 65535 ∷ 65535 ∷ []) s at

abbrev pub parameters_of : List ℕ → Parameters
parameters_of v =
    record {
      address = slice_index v 0;
      max_retry_limit = slice_index v 1;
      slot_time = slice_index v 2;
      watchdog = flagged (slice_index v 3);
      watchdog_first = slice_index v 4;
      watchdog_second = slice_index v 5;
      min_tsdr_bits = slice_index v 6;
      setup_pool = slice_index v 7;
      input_pool = slice_index v 8;
      output_pool = slice_index v 9;
      diag_pool = slice_index v 10;
    }

unfoldable pub parameters_at : List ℕ → ℕ → Option (Field Parameters)
parameters_at s at = read_as parameters_of (new_fields s at)

abbrev pub new_call : List ℕ → ℕ → Option (Field Call)
new_call s at = read_as New (parameters_at s at)

-- ---- L ps pi pq pd payload list

abbrev pub lend_fields : List ℕ → ℕ → Option (Field (List ℕ))
lend_fields s at = numbers_at (16400 ∷ 16400 ∷ 16400 ∷ 16400 ∷ 300 ∷ 40 ∷ []) s at

abbrev pub lent_of : List ℕ → Lent
lent_of v =
    record {
      setup = slice_index v 0;
      inputs = slice_index v 1;
      outputs = slice_index v 2;
      diags = slice_index v 3;
      payload = slice_index v 4;
      list = slice_index v 5;
    }

unfoldable pub lent_at : List ℕ → ℕ → Option (Field Lent)
lent_at s at = read_as lent_of (lend_fields s at)

abbrev pub lend_call : List ℕ → ℕ → Option (Field Call)
lend_call s at = read_as Lend (lent_at s at)

-- ---- P byte, F byte

abbrev pub pools_call : List ℕ → ℕ → Option (Field Call)
pools_call s at = read_as FillPools (number_at 255 s at)

abbrev pub payload_call : List ℕ → ℕ → Option (Field Call)
payload_call s at = read_as FillPayload (number_at 255 s at)
