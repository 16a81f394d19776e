-- The laws of the readers that their proofs cite: what pairs of hex digits give, and how much of the line they take.
-- The idea: a loop's invariant says that what is left to read gives the whole, so each law is one step of a definition.
use mathlib.Core.Path.{◌≡◌, refl, sym, ap, ◌∙◌, subst}
use mathlib.Core.Bool.{true, false}
use mathlib.Core.List.{List, [], ◌∷◌}
use Prim.Native.Nat.{ℕ, zero, suc, ◌+◌, ◌-◌, ◌*◌, ◌≤◌, ◌<◌}
use native.Mathlib.Numerals.{add-one}
use native.Mathlib.Omega.{arith}
use lib.ListN.{length, get_or, take, drop, set, length-drop}
use lib.Seq.{sets, take-length}
use Rattle.std.specs.Prelude.{Option, Some, None}
use Rattle.std.specs.Option.{option_map_or}
use Rattle.script_fields.specs.Read.{found, is_digit, with_digit, digits_from, most, pair_of, pairs_of}
use Rattle.script_fields.proofs.Laws.{next_of, none_left}

-- ---- digits

module _ (limit value at i : ℕ) (l : List ℕ) where
  pub digits_end : length l ≤ i → digits_from limit value at (drop i l) ≡ found value at
  unfolding digits_from
  digits_end h = rw (none_left l i h)

  pub digits_stop : i < length l → is_digit (get_or l i 0) ≡ false → digits_from limit value at (drop i l) ≡ found value at
  unfolding digits_from
  digits_stop h d = rw (next_of l i h, d)

  pub digits_over : i < length l → is_digit (get_or l i 0) ≡ true → None ≡ with_digit limit value (get_or l i 0 - 48) → digits_from limit value at (drop i l) ≡ None
  unfolding digits_from
  digits_over h d e = rw (next_of l i h, d, ← e)

  pub digits_more : (more next : ℕ) → next ≡ at + 1 → i < length l → is_digit (get_or l i 0) ≡ true → Some more ≡ with_digit limit value (get_or l i 0 - 48)
      → digits_from limit more next (drop (i + 1) l) ≡ digits_from limit value at (drop i l)
  unfolding digits_from
  digits_more more next q h d e = rw (next_of l i h, d, ← e, q)

-- ---- bytes

pub pairs_stop : (k : ℕ) (l : List ℕ) → pair_of l ≡ None → pairs_of k l ≡ []
unfolding pairs_of
pairs_stop zero l e = refl
pairs_stop (suc k) l e = rw e

pub pairs_next : (k b : ℕ) (l : List ℕ) → pair_of l ≡ Some b → pairs_of (suc k) l ≡ b ∷ pairs_of k (drop 2 l)
unfolding pairs_of
pairs_next k b l e = rw e

pub pairs_none : (l : List ℕ) → pairs_of 0 l ≡ []
unfolding pairs_of
pairs_none l = refl

pub all_left : (l : List ℕ) → take (length l - 2) (drop 2 l) ≡ drop 2 l
all_left l = ap (λ (n : ℕ). take n (drop 2 l)) (sym (length-drop 2 l)) ∙ take-length (drop 2 l)

-- a loop that reads pairs into an array: n stand there, and what is left gives the whole, of which there are count bytes, and whole is the array then
pub record Pairing (rest : List ℕ) (count : ℕ) (whole out : List ℕ) (n : ℕ) : Type 0 where
  pub few : n ≤ most
  pub size : n + length (pairs_of (most - n) rest) ≡ count
  pub array : sets out n (pairs_of (most - n) rest) ≡ whole

module _ (rest : List ℕ) (count : ℕ) (whole out : List ℕ) (n : ℕ) (p : Pairing rest count whole out n) where
  -- nothing is left
  pairing_ends : pairs_of (most - n) rest ≡ [] → (n ≡ count) × (out ≡ whole)
  pairing_ends e = (
    let z : n + 0 ≡ count = subst (λ (l : List ℕ). n + length l ≡ count) e p.size in omega arith,
    subst (λ (l : List ℕ). sets out n l ≡ whole) e p.array,
  )

  pub pairing_stops : None ≡ pair_of rest → (n ≡ count) × (out ≡ whole)
  pairing_stops e = pairing_ends (pairs_stop (most - n) rest (sym e))

  pub pairing_full : most ≤ n → (n ≡ count) × (out ≡ whole)
  pairing_full h =
      let z : most - n ≡ 0 = omega arith in pairing_ends (ap (λ (k : ℕ). pairs_of k rest) z ∙ pairs_none rest)

  -- one more byte
  pub pairing_goes_on : (b : ℕ) → n < most → Some b ≡ pair_of rest → Pairing (take (length rest - 2) (drop 2 rest)) count whole (set out n b) (n + 1)
  pairing_goes_on b h e =
      let k : most - n ≡ suc (most - (n + 1)) = omega arith in
      let q : pairs_of (most - n) rest ≡ b ∷ pairs_of (most - (n + 1)) (drop 2 rest) =
      ap (λ (j : ℕ). pairs_of j rest) k ∙ pairs_next (most - (n + 1)) b rest (sym e) in
      rw (all_left rest)
      (record {
        few = omega arith;
        size =
            let z : n + suc (length (pairs_of (most - (n + 1)) (drop 2 rest))) ≡ count = subst (λ (l : List ℕ). n + length l ≡ count) q p.size in omega arith;
        array =
            subst (λ (m : ℕ). sets (set out n b) m (pairs_of (most - (n + 1)) (drop 2 rest)) ≡ whole) (sym (add-one n))
            (subst (λ (l : List ℕ). sets out n l ≡ whole) q p.array);
      })

-- the pairs lie in the line, and there are not too many
pub pairs_within : (k : ℕ) (l : List ℕ) → 2 * length (pairs_of k l) ≤ length l
unfolding pairs_of
pairs_within zero l = omega arith
pairs_within (suc k) [] = omega arith
pairs_within (suc k) (a ∷ []) = omega arith
pairs_within (suc k) (a ∷ b ∷ l) = by_pair (pair_of (a ∷ b ∷ l)) k l (pairs_within k l)
  where
    by_pair : (o : Option ℕ) (k : ℕ) (l : List ℕ) → 2 * length (pairs_of k l) ≤ length l
        → 2 * length (option_map_or (λ (x : ℕ). x ∷ pairs_of k l) o []) ≤ suc (suc (length l))
    by_pair None k l h = omega arith
    by_pair (Some x) k l h = omega arith

pub pairs_few : (k : ℕ) (l : List ℕ) → length (pairs_of k l) ≤ k
unfolding pairs_of
pairs_few zero l = omega arith
pairs_few (suc k) l = by_pair (pair_of l) k (drop 2 l) (pairs_few k (drop 2 l))
  where
    by_pair : (o : Option ℕ) (k : ℕ) (l : List ℕ) → length (pairs_of k l) ≤ k
        → length (option_map_or (λ (x : ℕ). x ∷ pairs_of k l) o []) ≤ suc k
    by_pair None k l h = omega arith
    by_pair (Some x) k l h = omega arith
