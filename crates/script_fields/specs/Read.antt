-- The fields of a line, read from a place on. From docs/SCRIPTS.md, "Fields": each after exactly one space.
-- Where a line is wrong, nothing is read: None.
use Rattle.std.specs.Prelude.{ℕ, zero, suc, ◌+◌, ◌-◌, ◌*◌, ◌≡◌, Bool, ◌&&◌, Option, Some, None, is_some, option_and_then, unwrap_or, List, [], ◌∷◌, length, drop, slice_index, nat_lt, nat_le, ◌==◌, if◌then◌else◌}
use Rattle.std.specs.Option.{option_map_or}
use Rattle.std.proofs.lemmas.List.Edits.{sets}

-- a step that may find the line wrong, and the next one
infixl 10 ◌>>=◌
abbrev pub ◌>>=◌ : {A B : Type 0} → Option A → (A → Option B) → Option B
o >>= f = option_and_then f o

-- what was read, and the place behind it
pub record Field (A : Type 0) : Type 0 where
  pub value : A
  pub next : ℕ

-- what a reader answered, with the place where it stands then
abbrev pub with_place : {A : Type 0} → Option A → ℕ → Option (Field A)
with_place None at = None
with_place (Some value) at = Some (record { value = value; next = at })

-- ---- places

-- the byte b stands at a place of s
unfoldable pub has_at : List ℕ → ℕ → ℕ → Bool
has_at s at b = nat_lt at (length s) && (slice_index s at == b)

-- the place behind exactly one space
unfoldable pub space_at : List ℕ → ℕ → Option ℕ
space_at s at = if has_at s at 32 then Some (at + 1) else None

-- where a reader stands that found a field wrong: behind the space, if there is one
abbrev pub behind_space : List ℕ → ℕ → ℕ
behind_space s at = unwrap_or (space_at s at) at

-- the line ends there
abbrev pub ends_at : List ℕ → ℕ → Bool
ends_at s at = at == length s

-- ---- numbers

abbrev pub found : ℕ → ℕ → Option (Field ℕ)
found value at = Some (record { value = value; next = at })

abbrev pub is_digit : ℕ → Bool
is_digit b = nat_le 48 b && nat_le b 57

-- a number of at most limit, with one digit more
abbrev pub with_digit : ℕ → ℕ → ℕ → Option ℕ
with_digit limit value digit = if nat_le (value * 10 + digit) limit then Some (value * 10 + digit) else None

-- the digits that l begins with, behind digits worth value; at is the place of l in its line. Above the limit all is wrong
unfoldable pub digits_from : ℕ → ℕ → ℕ → List ℕ → Option (Field ℕ)
digits_from limit value at [] = found value at
digits_from limit value at (b ∷ l) =
    if is_digit b then option_and_then (λ more. digits_from limit more (at + 1) l) (with_digit limit value (b - 48))
    else found value at

-- decimal digits at a place, no leading zeros: behind a 0 the number ends
unfoldable pub number_from : ℕ → List ℕ → ℕ → Option (Field ℕ)
number_from limit s at =
    if has_at s at 48 then found 0 (at + 1)
    else (if is_digit (slice_index s at) then digits_from limit 0 at (drop at s) else None)

-- a number of at most limit after a space
unfoldable pub number_at : ℕ → List ℕ → ℕ → Option (Field ℕ)
number_at limit s at = do
  first ← space_at s at
  number_from limit s first

-- the same as a flag
abbrev pub flag_at : List ℕ → ℕ → Option (Field Bool)
flag_at s at = do
  n ← number_at 1 s at
  Some (record { value = n.value == 1; next = n.next })

-- ---- bytes

-- the most bytes of a field
abbrev pub most : ℕ
most = 255

-- what a lower-case hex digit is worth
abbrev pub hex_worth : ℕ → Option ℕ
hex_worth b =
    if is_digit b then Some (b - 48)
    else (if nat_le 97 b && nat_le b 102 then Some (b - 87) else None)

-- the byte whose two hex digits l begins with
abbrev pub pair_of : List ℕ → Option ℕ
pair_of [] = None
pair_of (a ∷ []) = None
pair_of (a ∷ b ∷ l) = do
  high ← hex_worth a
  low ← hex_worth b
  Some (high * 16 + low)

-- l begins with two hex digits
abbrev pub is_pair : List ℕ → Bool
is_pair l = is_some (pair_of l)

-- the bytes that l begins with, two hex digits each, and at most so many
unfoldable pub pairs_of : ℕ → List ℕ → List ℕ
pairs_of zero l = []
pairs_of (suc k) l = option_map_or (λ b. b ∷ pairs_of k (drop 2 l)) (pair_of l) []

-- the bytes of a field that begins at a place; none where it is `-`
unfoldable pub pairs_from : List ℕ → ℕ → List ℕ
pairs_from s at = if has_at s at 45 then [] else pairs_of most (drop at s)

-- the bytes of a field after a space
unfoldable pub pairs_at : List ℕ → ℕ → List ℕ
pairs_at s at = option_map_or (pairs_from s) (space_at s at) []

abbrev pub some_bytes : ℕ → ℕ → Option (Field ℕ)
some_bytes len at = Some (record { value = len; next = at })

-- the same field, of which n bytes were read: `-`, or two digits a byte
unfoldable pub bytes_from : List ℕ → ℕ → ℕ → Option (Field ℕ)
bytes_from s at n =
    if has_at s at 45 then some_bytes 0 (at + 1)
    else (if nat_lt 0 n then some_bytes n (at + 2 * n) else None)

-- how many bytes a field after a space has
unfoldable pub bytes_at : List ℕ → ℕ → Option (Field ℕ)
bytes_at s at = do
  first ← space_at s at
  bytes_from s first (length (pairs_from s first))

-- an array with some bytes at its front
abbrev pub front : List ℕ → List ℕ → List ℕ
front new old = sets old 0 new

-- what a reader of bytes promises: the answer, and what stands in the lent array then
pub record BytesRead (s : List ℕ) (at : ℕ) (old out : List ℕ) (r : Option (Field ℕ)) : Type 0 where
  pub answer : r ≡ bytes_at s at
  pub bytes : out ≡ front (pairs_at s at) old

-- SETUP that begins at a place: `x` is absent, and all else as BYTES
unfoldable pub setup_from : List ℕ → ℕ → Option (Field (Option ℕ))
setup_from s at =
    if has_at s at 120 then Some (record { value = None; next = at + 1 })
    else (do
      n ← bytes_from s at (length (pairs_from s at))
      Some (record { value = Some n.value; next = n.next }))

-- SETUP after a space
unfoldable pub setup_at : List ℕ → ℕ → Option (Field (Option ℕ))
setup_at s at = do
  first ← space_at s at
  setup_from s first

-- the bytes of set-up data that begins at a place, and after a space
unfoldable pub setup_bytes_from : List ℕ → ℕ → List ℕ
setup_bytes_from s at = if has_at s at 120 then [] else pairs_from s at

unfoldable pub setup_bytes : List ℕ → ℕ → List ℕ
setup_bytes s at = option_map_or (setup_bytes_from s) (space_at s at) []

pub record SetupRead (s : List ℕ) (at : ℕ) (old out : List ℕ) (r : Option (Field (Option ℕ))) : Type 0 where
  pub answer : r ≡ setup_at s at
  pub bytes : out ≡ front (setup_bytes s at) old
