-- What a line holds at a place, and what stops a reader there. From docs/SCRIPTS.md, "Fields".
use Rattle.std.specs.Prelude.{◌≡◌, ℕ, zero, suc, ◌*◌, Bool, true, false, cond, List, [], ◌∷◌, ◌++◌, drop, ltb}
use Rattle.script_fields.specs.Read.{is_digit}

-- from the place at on, the line s has a space, the text w, and then rest
abbrev pub Holds : List ℕ → ℕ → List ℕ → List ℕ → Type 0
Holds s at w rest = drop at s ≡ 32 ∷ (w ++ rest)

-- no digit follows
abbrev pub no_digit : List ℕ → Bool
no_digit [] = true
no_digit (b ∷ l) = cond (is_digit b) false true

-- each is a byte
abbrev pub all_bytes : List ℕ → Bool
all_bytes [] = true
all_bytes (b ∷ l) = cond (ltb b 256) (all_bytes l) false

-- ten times itself so often
abbrev pub tens : ℕ → ℕ
tens zero = 1
tens (suc k) = tens k * 10
