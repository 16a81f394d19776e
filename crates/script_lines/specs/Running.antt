-- The lines of operation: S, T and R. From docs/SCRIPTS.md, "Calls", with the limits of "Fields".
use Rattle.std.specs.Prelude.{ℕ, Bool, ◌&&◌, Option, Some, None, List, [], ◌∷◌, slice_index, ◌==◌, if◌then◌else◌}
use Rattle.std.specs.Option.{option_map_or}
use Rattle.fdl.specs.declared.telegram.Telegram.{Telegram}
use Rattle.fdl.specs.declared.telegram.Telegram.TheVariants.{ShortConfirmation, Data, Token, Request}
use Rattle.fdl.specs.Sap.{sap_of}
use Rattle.cycle.specs.State.{operating_of}
use Rattle.script_lines.specs.declared.Call.{Call}
use Rattle.script_lines.specs.declared.Call.TheVariants.{State, Turn, Reply}
use Rattle.script_fields.specs.Read.{◌>>=◌, Field, number_at, flag_at, bytes_at, pairs_at}
use Rattle.script_lines.specs.Fields.{numbers_at, read_as}

-- ---- S state, T now hp

abbrev pub state_call : List ℕ → ℕ → Option (Field Call)
state_call s at = read_as (λ n. State (operating_of n)) (number_at 2 s at)

abbrev pub turn_call : List ℕ → ℕ → Option (Field Call)
turn_call s at = do
  time ← number_at 18446744073709551615 s at
  read_as (Turn time.value) (flag_at s time.next)

-- ---- R addr kind dsap ssap status payload

abbrev pub reply_fields : List ℕ → ℕ → Option (Field (List ℕ))
reply_fields s at = numbers_at (255 ∷ 3 ∷ 255 ∷ 255 ∷ 255 ∷ []) s at

-- the fields of kinds 0 and 2: `255 255 0 -`
abbrev pub is_bare : ℕ → ℕ → ℕ → ℕ → Bool
is_bare dsap ssap status len = dsap == 255 && (ssap == 255 && (status == 0 && len == 0))

-- kind 0 short confirmation, 1 data, 2 token, 3 request telegram
unfoldable pub telegram_read : ℕ → ℕ → ℕ → ℕ → ℕ → Option Telegram
telegram_read kind dsap ssap status len =
    if kind == 0 then (if is_bare dsap ssap status len then Some ShortConfirmation else None)
    else (if kind == 1 then Some (Data (sap_of dsap) (sap_of ssap) status)
    else (if kind == 2 then (if is_bare dsap ssap status len then Some Token else None)
    else Some Request))

abbrev pub telegram_of : List ℕ → ℕ → Option Telegram
telegram_of v len = telegram_read (slice_index v 1) (slice_index v 2) (slice_index v 3) (slice_index v 4) len

unfoldable pub reply_call : List ℕ → ℕ → Option (Field Call)
reply_call s at = do
  f ← reply_fields s at
  len ← bytes_at s f.next
  telegram ← telegram_of f.value len.value
  Some (record { value = Reply (slice_index f.value 0) telegram len.value; next = len.next })

-- the payload of an R
unfoldable pub reply_bytes : List ℕ → ℕ → List ℕ
reply_bytes s at = option_map_or (λ f. pairs_at s f.next) (reply_fields s at) []
