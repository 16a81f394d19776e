-- The fields of an answer as bytes, and how they come into a buffer. From docs/SCRIPTS.md, "Fields" and "Answers" (checksum).
use Rattle.std.specs.Int.{from_bool}
use Rattle.std.specs.List.{fold, flat_map}
use Rattle.std.specs.Prelude.{◌≡◌, ℕ, zero, suc, ◌+◌, ◌*◌, ◌/◌, ◌%◌, Bool, cond, List, [], ◌∷◌, ◌++◌, length, set, ltb}
use Rattle.script_fields.specs.declared.write.Text.{Text}

-- ---- an output buffer

-- its bytes, and the place behind the last one that was written
pub record Out : Type 0 where
  pub at : ℕ
  pub bytes : List ℕ

abbrev pub standing : ℕ → List ℕ → Out
standing at bytes = record { at = at; bytes = bytes }

-- one byte more; what has no room is left out
unfoldable pub put : ℕ → Out → Out
put b o = cond (ltb o.at (length o.bytes)) (standing (o.at + 1) (set o.bytes o.at b)) o

-- some bytes more
unfoldable pub written : List ℕ → Out → Out
written [] o = o
written (b ∷ w) o = written w (put b o)

-- the same lent buffer with other bytes, and another place
abbrev pub with_out : Text → Out → Text
with_out t o = record { out = record t.out { now = o.bytes }; at = o.at }

-- what a function promises that writes w behind the place of old; the buffer stays the same one
pub record Wrote (w : List ℕ) (old new : Text) : Type 0 where
  pub text : new ≡ with_out old (written w (standing old.at old.out.now))

-- ---- what is written

-- the last decimal digit
abbrev pub digit_of : ℕ → ℕ
digit_of n = 48 + n % 10

-- decimal digits, no leading zeros, for a number of at most so many digits
unfoldable pub decimal_in : ℕ → ℕ → List ℕ
decimal_in zero n = []
decimal_in (suc k) n = cond (ltb n 10) (digit_of n ∷ []) (decimal_in k (n / 10) ++ (digit_of n ∷ []))

-- a number: the largest, below 2^64, has 20 digits
abbrev pub decimal : ℕ → List ℕ
decimal n = decimal_in 20 n

-- a flag: 1 where it is set, else 0
abbrev pub flag_number : Bool → ℕ
flag_number b = from_bool b

-- a number after a space
abbrev pub field_text : ℕ → List ℕ
field_text n = 32 ∷ decimal n

-- numbers, each after a space
unfoldable pub fields_text : List ℕ → List ℕ
fields_text l = flat_map field_text l

-- a lower-case hex digit
abbrev pub hex_digit : ℕ → ℕ
hex_digit d = cond (ltb d 10) (48 + d) (87 + d)

-- two hex digits a byte
abbrev pub hex_pair : ℕ → List ℕ
hex_pair b = hex_digit (b / 16) ∷ hex_digit (b % 16) ∷ []

-- nothing between
unfoldable pub hex_text : List ℕ → List ℕ
hex_text l = flat_map hex_pair l

-- BYTES: no bytes at all is `-`
abbrev pub bytes_text : List ℕ → List ℕ
bytes_text [] = 45 ∷ []
bytes_text (b ∷ l) = hex_text (b ∷ l)

-- the end of a line
abbrev pub newline : List ℕ
newline = 10 ∷ []

-- ---- the checksum

-- one byte more
abbrev pub sum_step : ℕ → ℕ → ℕ
sum_step h b = (h * 256 + b) % 1000000007

abbrev pub sum_from : ℕ → List ℕ → ℕ
sum_from h l = fold sum_step h l

-- h = 1; for each byte h = (h * 256 + byte) mod 1000000007
abbrev pub sum_of : List ℕ → ℕ
sum_of l = sum_from 1 l
