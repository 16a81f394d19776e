-- A number that was written is read back: `number-back`.
-- The idea: the digits of n are those of n / 10 and then the last one, so the reader, having read those of n / 10, stands at n / 10, and one digit more makes it n.
use mathlib.Core.Path.{◌≡◌, refl, sym, ap, ◌∙◌, subst}
use mathlib.Core.Bool.{Bool, true, false, false≢true, cond}
use mathlib.Core.List.{List, [], ◌∷◌, ◌++◌, append_assoc}
use Prim.Native.Nat.{ℕ, zero, suc, ◌+◌, ◌-◌, ◌*◌, ◌/◌, ◌%◌, ◌≤◌, ◌<◌}
use native.Mathlib.Omega.{arith}
use lib.ListN.{length, get_or, drop, length-append, get_or-append}
use lib.Dec.{ltb, eqb}
use borrow.Author.Tests.{le-leb, ltb-true, ltb-false, ne_eqb}
use Rattle.parts.proofs.Laws.{by_test}
use Rattle.script_fields.specs.Write.{digit_of, decimal_in, decimal}
use Rattle.script_fields.specs.Read.{has_at, found, is_digit, digits_from, number_from, number_at}
use Rattle.script_field_laws.specs.Text.{Holds, no_digit, tens}
use Rattle.script_field_laws.proofs.Places.{has_there, byte_there, behind_it, space_there}

digit-of : (n : ℕ) → is_digit (digit_of n) ≡ true
digit-of n = rw (le-leb 48 (48 + n % 10) (omega arith), le-leb (48 + n % 10) 57 (omega arith))

-- one digit is read
one_digit : (limit value at d : ℕ) (rest : List ℕ) → is_digit d ≡ true → value * 10 + (d - 48) ≤ limit
    → digits_from limit value at (d ∷ rest) ≡ digits_from limit (value * 10 + (d - 48)) (at + 1) rest
unfolding digits_from
one_digit limit value at d rest i h = rw (i, le-leb (value * 10 + (d - 48)) limit h)

-- the last digit of n behind those of n / 10
last_digit : (limit at n : ℕ) (rest : List ℕ) → n ≤ limit → digits_from limit (n / 10) at (digit_of n ∷ rest) ≡ digits_from limit n (at + 1) rest
last_digit limit at n rest h =
    let e : n / 10 * 10 + (48 + n % 10 - 48) ≡ n = omega arith in
    one_digit limit (n / 10) at (digit_of n) rest (digit-of n) (omega arith)
    ∙ ap (λ (v : ℕ). digits_from limit v (at + 1) rest) e

-- the digits of n are read from a value of 0
all_digits : (k limit at n : ℕ) (rest : List ℕ) → n < tens k → n ≤ limit
    → digits_from limit 0 at (decimal_in k n ++ rest) ≡ digits_from limit n (at + length (decimal_in k n)) rest
unfolding decimal_in
all_digits zero limit at n rest b h =
    let z : 0 ≡ n = omega arith in
    let a : at ≡ at + 0 = omega arith in
    ap (λ (v : ℕ). digits_from limit v at rest) z ∙ ap (λ (p : ℕ). digits_from limit n p rest) a
all_digits (suc k) limit at n rest b h =
    by_test (ltb n 10)
    (λ t.
    let z : 0 ≡ n / 10 = omega (arith, ltb-true n 10 t) in
    rw t (ap (λ (v : ℕ). digits_from limit v at (digit_of n ∷ rest)) z ∙ last_digit limit at n rest h))
    (λ t.
    let q = decimal_in k (n / 10) in
    let p : at + length q + 1 ≡ at + length (q ++ (digit_of n ∷ [])) = omega (arith, length-append q (digit_of n ∷ [])) in
    rw t
    (ap (digits_from limit 0 at) (append_assoc q (digit_of n ∷ []) rest)
    ∙ all_digits k limit at (n / 10) (digit_of n ∷ rest) (omega arith) (omega arith)
    ∙ last_digit limit (at + length q) n rest h
    ∙ ap (λ (x : ℕ). digits_from limit n x rest) p))

-- no digit follows: the number ends
digits_end : (limit value at : ℕ) (rest : List ℕ) → no_digit rest ≡ true → digits_from limit value at rest ≡ found value at
unfolding digits_from
digits_end limit value at [] e = refl
digits_end limit value at (b ∷ l) e = by_test (is_digit b) (λ d. absurd (let z : false ≡ true = subst (λ (x : Bool). cond x false true ≡ true) d e in false≢true z)) (λ d. rw d)

-- the first digit: 0 alone for 0, and else another digit
first_digit : (k n : ℕ) → n < tens k → 0 < n → (is_digit (get_or (decimal_in k n) 0 0) ≡ true) × (eqb (get_or (decimal_in k n) 0 0) 48 ≡ false) × (0 < length (decimal_in k n))
unfolding decimal_in
first_digit zero n b p = absurd (omega arith)
first_digit (suc k) n b p =
    by_test (ltb n 10)
    (λ t. rw t (digit-of n, ne_eqb (48 + n % 10) 48 (λ e. omega (arith, ltb-true n 10 t)), omega arith))
    (λ t.
    let q = decimal_in k (n / 10) in
    let f = first_digit k (n / 10) (omega arith) (omega (arith, ltb-false n 10 t)) in
    let g : get_or (q ++ (digit_of n ∷ [])) 0 0 ≡ get_or q 0 0 = get_or-append q (digit_of n ∷ []) 0 0 f.2 in
    rw t (ap is_digit g ∙ f.0, ap (λ (x : ℕ). eqb x 48) g ∙ f.1, omega (arith, length-append q (digit_of n ∷ []))))

-- the first byte of what is written, and the rest of it
split : (w rest : List ℕ) → 0 < length w → (b : ℕ) × (l : List ℕ) × (w ++ rest ≡ b ∷ l) × (get_or w 0 0 ≡ b)
split [] rest p = absurd (omega arith)
split (x ∷ w) rest p = (x, w ++ rest, refl, refl)

zero_digits : (k : ℕ) → decimal_in (suc k) 0 ≡ 48 ∷ []
unfolding decimal_in
zero_digits k = refl

-- what stands behind the space is read as n
number-from : (limit : ℕ) (s : List ℕ) (at n : ℕ) (rest : List ℕ) → n < tens 20 → n ≤ limit → no_digit rest ≡ true → drop at s ≡ decimal n ++ rest
    → number_from limit s at ≡ found n (at + length (decimal n))
unfolding number_from
number-from limit s at zero rest b h e q =
    let d : drop at s ≡ 48 ∷ rest = q ∙ ap (λ (w : List ℕ). w ++ rest) (zero_digits 19) in
    let l : length (decimal 0) ≡ 1 = ap length (zero_digits 19) in
    rw (has_there s at 48 rest d, l)
number-from limit s at (suc m) rest b h e q =
    let n = suc m in
    let f = first_digit 20 n b (omega arith) in
    let p = split (decimal n) rest f.2 in
    let d : drop at s ≡ p.0 ∷ p.1 = q ∙ p.2 in
    let z : has_at s at 48 ≡ false = has_there s at p.0 p.1 d 48 ∙ ap (λ (x : ℕ). eqb x 48) (sym p.3) ∙ f.1 in
    let i : is_digit (get_or s at 0) ≡ true = ap is_digit (byte_there s at p.0 p.1 d ∙ sym p.3) ∙ f.0 in
    rw (z, i, q) (all_digits 20 limit at n rest b h ∙ digits_end limit n (at + length (decimal n)) rest e)

-- a number of at most the limit that was written after a space, with no digit behind it, is read back
pub number-back : (limit : ℕ) (s : List ℕ) (at n : ℕ) (rest : List ℕ) → n < 18446744073709551616 → n ≤ limit → no_digit rest ≡ true → Holds s at (decimal n) rest
    → number_at limit s at ≡ found n (at + 1 + length (decimal n))
unfolding number_at
number-back limit s at n rest b h e q =
    rw (space_there s at (decimal n) rest q)
    (number-from limit s (at + 1) n rest (omega arith) h e (behind_it s at 32 (decimal n ++ rest) q))
