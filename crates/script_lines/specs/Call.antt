-- A line to a call, by its letter. From docs/SCRIPTS.md, "Calls".
use Rattle.std.specs.Prelude.{◌≡◌, ℕ, Option, Some, None, List, [], slice_index, ◌==◌, if◌then◌else◌}
use Rattle.script_lines.specs.declared.Call.{Call}
use Rattle.script_lines.specs.declared.Call.TheVariants.{Listing, Dump, Payload}
use Rattle.script_fields.specs.Read.{Field, front}
use Rattle.script_lines.specs.Fields.{behind, if_ends}
use Rattle.script_lines.specs.Making.{new_call, lend_call, pools_call, payload_call}
use Rattle.script_lines.specs.Adding.{add_call, user_bytes, config_bytes}
use Rattle.script_lines.specs.Running.{state_call, turn_call, reply_call, reply_bytes}
use Rattle.script_lines.specs.Handles.{reset_call, write_call, write_bytes, wish_call, inputs_call, outputs_call, diagnosis_call}

-- ---- H, D, B: the letter alone

abbrev pub alone_call : Call → ℕ → Option (Field Call)
alone_call call at = Some (record { value = call; next = at })

-- ---- any line

-- by the letter: the call, and the place behind its fields
unfoldable pub fields_for : ℕ → List ℕ → ℕ → Option (Field Call)
fields_for letter s at =
    if letter == 0x4E then new_call s at
    else (if letter == 0x4C then lend_call s at
    else (if letter == 0x50 then pools_call s at
    else (if letter == 0x46 then payload_call s at
    else (if letter == 0x41 then add_call s at
    else (if letter == 0x53 then state_call s at
    else (if letter == 0x54 then turn_call s at
    else (if letter == 0x52 then reply_call s at
    else (if letter == 0x58 then reset_call s at
    else (if letter == 0x51 then wish_call s at
    else (if letter == 0x57 then write_call s at
    else (if letter == 0x49 then inputs_call s at
    else (if letter == 0x4F then outputs_call s at
    else (if letter == 0x47 then diagnosis_call s at
    else (if letter == 0x48 then alone_call Listing at
    else (if letter == 0x44 then alone_call Dump at
    else (if letter == 0x42 then alone_call Payload at else None))))))))))))))))

-- a line that is no call in any way is none
abbrev pub call_for : ℕ → List ℕ → Option Call
call_for letter s = if_ends s (fields_for letter s behind)

-- the bytes that a line puts into the first array: user parameters, payload, or outputs
unfoldable pub first_for : ℕ → List ℕ → ℕ → List ℕ
first_for letter s at =
    if letter == 0x41 then user_bytes s at
    else (if letter == 0x52 then reply_bytes s at
    else (if letter == 0x57 then write_bytes s at else []))

-- and into the second: the configuration
unfoldable pub second_for : ℕ → List ℕ → ℕ → List ℕ
second_for letter s at = if letter == 0x41 then config_bytes s at else []

-- the call, and the two arrays, by a letter
pub record ReadFor (letter : ℕ) (s a b a' b' : List ℕ) (r : Option Call) : Type 0 where
  pub answer : r ≡ call_for letter s
  pub first : a' ≡ front (first_for letter s behind) a
  pub second : b' ≡ front (second_for letter s behind) b

-- the letter is the first byte of a line, if there is one
abbrev pub CallRead : List ℕ → List ℕ → List ℕ → List ℕ → List ℕ → Option Call → Type 0
CallRead s a b a' b' r = ReadFor (slice_index s 0) s a b a' b' r
