-- What stands at a place of a line, from what the line holds there.
use mathlib.Core.Path.{◌≡◌, sym, ap, ◌∙◌}
use mathlib.Core.List.{List, ◌∷◌, ◌++◌}
use Prim.Native.Nat.{ℕ, ◌+◌, ◌-◌, ◌<◌}
use native.Mathlib.Omega.{arith}
use lib.ListN.{length, get_or, drop, length-drop}
use lib.Seq.{drop-drop, get_or-drop}
use lib.Dec.{eqb}
use borrow.Author.Tests.{lt-ltb}
use Rattle.std.specs.Prelude.{Some}
use Rattle.script_fields.specs.Read.{has_at, space_at}
use Rattle.script_field_laws.specs.Text.{Holds}

module _ (s : List ℕ) (at b : ℕ) (l : List ℕ) (h : drop at s ≡ b ∷ l) where
  pub there : at < length s
  there = let e : length s - at ≡ length (b ∷ l) = sym (length-drop at s) ∙ ap length h in omega arith

  pub byte_there : get_or s at 0 ≡ b
  byte_there =
      let z : at + 0 ≡ at = omega arith in
      sym (ap (λ (k : ℕ). get_or s k 0) z) ∙ sym (get_or-drop at s 0 0) ∙ ap (λ (x : List ℕ). get_or x 0 0) h

  pub has_there : (k : ℕ) → has_at s at k ≡ eqb b k
  unfolding has_at
  has_there k = rw (lt-ltb at (length s) there, byte_there)

  pub behind_it : drop (at + 1) s ≡ l
  behind_it = sym (drop-drop 1 at s) ∙ ap (drop 1) h

-- the space is passed
pub space_there : (s : List ℕ) (at : ℕ) (w rest : List ℕ) → Holds s at w rest → space_at s at ≡ Some (at + 1)
unfolding space_at
space_there s at w rest h = rw (has_there s at 32 (w ++ rest) h)
