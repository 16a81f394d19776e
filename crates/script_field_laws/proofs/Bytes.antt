-- Bytes that were written are read back: `bytes_back`, and what stands in the array then, `array_back`.
-- The idea: a byte is its two digits, and each digit is worth what it was made of.
use mathlib.Core.Path.{◌≡◌, refl, ap, ◌∙◌, subst}
use mathlib.Core.Bool.{Bool, true, false, false≢true, cond}
use mathlib.Core.List.{List, [], ◌∷◌, ◌++◌}
use Prim.Native.Nat.{ℕ, zero, suc, ◌+◌, ◌*◌, ◌/◌, ◌%◌, ◌≤◌, ◌<◌}
use native.Mathlib.Omega.{arith}
use lib.ListN.{length}
use lib.Dec.{ltb, eqb}
use borrow.Author.Tests.{lt-ltb, le-leb, lt-leb, ltb-true, ltb-false, ne_eqb}
use Rattle.parts.proofs.Laws.{by_test}
use Rattle.std.specs.Prelude.{Option, Some, None, is_some}
use Rattle.script_fields.specs.Write.{hex_digit, hex_text, bytes_text}
use Rattle.script_fields.specs.Read.{has_at, most, hex_worth, pair_of, is_pair, pairs_of, pairs_from, pairs_at, some_bytes, bytes_from, bytes_at}
use Rattle.script_field_laws.specs.Text.{Holds, all_bytes}
use Rattle.script_field_laws.proofs.Places.{has_there, behind_it, space_there}

low_digit : (d : ℕ) → d < 10 → hex_worth (48 + d) ≡ Some d
low_digit d h = rw (le-leb 48 (48 + d) (omega arith), le-leb (48 + d) 57 (omega arith)) (ap Some (omega arith))

high_digit : (d : ℕ) → 10 ≤ d → d < 16 → hex_worth (87 + d) ≡ Some d
high_digit d h k =
    rw (le-leb 48 (87 + d) (omega arith), lt-leb (87 + d) 57 (omega arith), le-leb 97 (87 + d) (omega arith), le-leb (87 + d) 102 (omega arith)) (ap Some (omega arith))

-- a digit is worth what it was made of, and is no `-`
worth_back : (d : ℕ) → d < 16 → hex_worth (hex_digit d) ≡ Some d
worth_back d h = by_test (ltb d 10) (λ t. rw t (low_digit d (ltb-true d 10 t))) (λ t. rw t (high_digit d (ltb-false d 10 t) h))

no_dash : (d : ℕ) → eqb (hex_digit d) 45 ≡ false
no_dash d = by_test (ltb d 10) (λ t. rw t (ne_eqb (48 + d) 45 (λ e. omega arith))) (λ t. rw t (ne_eqb (87 + d) 45 (λ e. omega arith)))

all_bytes-first : (b : ℕ) (l : List ℕ) → all_bytes (b ∷ l) ≡ true → b < 256
all_bytes-first b l e = by_test (ltb b 256) (λ t. ltb-true b 256 t) (λ t. absurd (false≢true (subst (λ (x : Bool). cond x (all_bytes l) false ≡ true) t e)))

all_bytes_rest : (b : ℕ) (l : List ℕ) → all_bytes (b ∷ l) ≡ true → all_bytes l ≡ true
all_bytes_rest b l e = subst (λ (x : Bool). cond x (all_bytes l) false ≡ true) (lt-ltb b 256 (all_bytes-first b l e)) e

-- two digits are a pair
pair_back : (b : ℕ) (l : List ℕ) → b < 256 → pair_of (hex_digit (b / 16) ∷ hex_digit (b % 16) ∷ l) ≡ Some b
pair_back b l h = rw (worth_back (b / 16) (omega arith), worth_back (b % 16) (omega arith)) (ap Some (omega arith))

no_pair : (o : Option ℕ) → is_some o ≡ false → o ≡ None
no_pair None e = refl
no_pair (Some x) e = cc

-- as many bytes as were written are read, where no pair follows them
pub pairs_back : (k : ℕ) (l rest : List ℕ) → all_bytes l ≡ true → length l ≤ k → is_pair rest ≡ false → pairs_of k (hex_text l ++ rest) ≡ l
unfolding hex_text pairs_of
pairs_back zero [] rest a n e = refl
pairs_back zero (b ∷ l) rest a n e = absurd (omega arith)
pairs_back (suc k) [] rest a n e = rw (no_pair (pair_of rest) e)
pairs_back (suc k) (b ∷ l) rest a n e =
    rw (pair_back b (hex_text l ++ rest) (all_bytes-first b l a))
    (ap (λ (x : List ℕ). b ∷ x) (pairs_back k l rest (all_bytes_rest b l a) (omega arith) e))

hex_length : (l : List ℕ) → length (hex_text l) ≡ 2 * length l
unfolding hex_text
hex_length [] = refl
hex_length (b ∷ l) = let e = hex_length l in omega arith

-- the bytes behind the space
bytes_there : (s : List ℕ) (at : ℕ) (l rest : List ℕ) → all_bytes l ≡ true → length l ≤ most → is_pair rest ≡ false → Holds s at (bytes_text l) rest
    → pairs_from s (at + 1) ≡ l
unfolding pairs_from hex_text
bytes_there s at [] rest a n e q = rw (has_there s (at + 1) 45 rest (behind_it s at 32 (45 ∷ rest) q))
bytes_there s at (b ∷ l) rest a n e q =
    let t = behind_it s at 32 (hex_text (b ∷ l) ++ rest) q in
    let z : has_at s (at + 1) 45 ≡ false = has_there s (at + 1) (hex_digit (b / 16)) ((hex_digit (b % 16) ∷ hex_text l) ++ rest) t 45 ∙ no_dash (b / 16) in
    rw (z, t) (pairs_back most (b ∷ l) rest a n e)

-- the array gets the bytes that were written
pub array_back : (s : List ℕ) (at : ℕ) (l rest : List ℕ) → all_bytes l ≡ true → length l ≤ most → is_pair rest ≡ false → Holds s at (bytes_text l) rest
    → pairs_at s at ≡ l
unfolding pairs_at
array_back s at l rest a n e q = rw (space_there s at (bytes_text l) rest q) (bytes_there s at l rest a n e q)

-- and the field says how many there are, and where the line goes on
pub bytes_back : (s : List ℕ) (at : ℕ) (l rest : List ℕ) → all_bytes l ≡ true → length l ≤ most → is_pair rest ≡ false → Holds s at (bytes_text l) rest
    → bytes_at s at ≡ some_bytes (length l) (at + 1 + length (bytes_text l))
unfolding bytes_at bytes_from hex_text
bytes_back s at [] rest a n e q =
    rw (space_there s at (45 ∷ []) rest q, has_there s (at + 1) 45 rest (behind_it s at 32 (45 ∷ rest) q))
bytes_back s at (b ∷ l) rest a n e q =
    let t = behind_it s at 32 (hex_text (b ∷ l) ++ rest) q in
    let z : has_at s (at + 1) 45 ≡ false = has_there s (at + 1) (hex_digit (b / 16)) ((hex_digit (b % 16) ∷ hex_text l) ++ rest) t 45 ∙ no_dash (b / 16) in
    let p : 0 < length (b ∷ l) = omega arith in
    let w : at + 1 + 2 * length (b ∷ l) ≡ at + 1 + length (hex_text (b ∷ l)) = omega (arith, hex_length (b ∷ l)) in
    rw (space_there s at (hex_text (b ∷ l)) rest q, bytes_there s at (b ∷ l) rest a n e q, z, lt-ltb 0 (length (b ∷ l)) p)
    (ap (λ (x : ℕ). some_bytes (length (b ∷ l)) x) w)
