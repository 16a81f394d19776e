-- The fields of a line, each with its limit, and where a line ends. From docs/SCRIPTS.md, "Fields".
use Rattle.std.specs.Prelude.{ℕ, Bool, Option, Some, List, [], ◌∷◌, ◌==◌, if◌then◌else◌, None}
use Rattle.script_lines.specs.declared.Call.{Call}
use Rattle.script_fields.specs.Read.{◌>>=◌, Field, ends_at, number_at}

-- what stands behind the letter
abbrev pub behind : ℕ
behind = 1

-- numbers, each at most its limit
abbrev pub numbers_at : List ℕ → List ℕ → ℕ → Option (Field (List ℕ))
numbers_at [] s at = Some (record { value = []; next = at })
numbers_at (limit ∷ limits) s at = do
  n ← number_at limit s at
  rest ← numbers_at limits s n.next
  Some (record { value = n.value ∷ rest.value; next = rest.next })

-- what fields are read as
abbrev pub read_as : {A B : Type 0} → (A → B) → Option (Field A) → Option (Field B)
read_as f fields = do
  r ← fields
  Some (record { value = f r.value; next = r.next })

-- a call, where the line ends behind its fields
abbrev pub if_ends : List ℕ → Option (Field Call) → Option Call
if_ends s call = do
  c ← call
  if ends_at s c.next then Some c.value else None

abbrev pub flagged : ℕ → Bool
flagged n = n == 1
