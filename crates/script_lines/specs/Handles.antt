-- The lines that name a handle: X, Q, W, I, O and G. From docs/SCRIPTS.md, "Calls", with the limits of "Fields".
use Rattle.std.specs.Prelude.{ℕ, Option, List, [], ◌∷◌, slice_index}
use Rattle.std.specs.Option.{option_map_or}
use Rattle.peripheral_set.specs.declared.PeripheralHandle.{PeripheralHandle}
use Rattle.script_lines.specs.declared.Call.{Call}
use Rattle.script_lines.specs.declared.Call.TheVariants.{Reset, Wish, Write, Inputs, Outputs, Diagnosis}
use Rattle.script_fields.specs.Read.{◌>>=◌, Field, number_at, bytes_at, pairs_at}
use Rattle.script_lines.specs.Fields.{numbers_at, read_as}

-- ---- X slot addr new, Q slot addr, W slot addr BYTES, I, O and G slot addr

abbrev pub handle_fields : List ℕ → ℕ → Option (Field (List ℕ))
handle_fields s at = numbers_at (255 ∷ 255 ∷ []) s at

abbrev pub handle_of : List ℕ → PeripheralHandle
handle_of v = record { slot = slice_index v 0; address = slice_index v 1 }

unfoldable pub handle_at : List ℕ → ℕ → Option (Field PeripheralHandle)
handle_at s at = read_as handle_of (handle_fields s at)

abbrev pub reset_call : List ℕ → ℕ → Option (Field Call)
reset_call s at = do
  h ← handle_at s at
  read_as (Reset h.value) (number_at 255 s h.next)

abbrev pub write_call : List ℕ → ℕ → Option (Field Call)
write_call s at = do
  h ← handle_at s at
  read_as (Write h.value) (bytes_at s h.next)

-- the bytes of a W
abbrev pub write_bytes : List ℕ → ℕ → List ℕ
write_bytes s at = option_map_or (λ h. pairs_at s h.next) (handle_at s at) []

abbrev pub wish_call : List ℕ → ℕ → Option (Field Call)
wish_call s at = read_as Wish (handle_at s at)

abbrev pub inputs_call : List ℕ → ℕ → Option (Field Call)
inputs_call s at = read_as Inputs (handle_at s at)

abbrev pub outputs_call : List ℕ → ℕ → Option (Field Call)
outputs_call s at = read_as Outputs (handle_at s at)

abbrev pub diagnosis_call : List ℕ → ℕ → Option (Field Call)
diagnosis_call s at = read_as Diagnosis (handle_at s at)
