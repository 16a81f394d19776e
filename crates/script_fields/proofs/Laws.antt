-- The laws of reading and writing that the proofs here cite.
-- The idea: where a loop reads, what is left to do gives the whole; where it writes, what was gone over is written. So each law is one step of a definition, at any place of a list.
use mathlib.Core.Path.{◌≡◌, refl, sym, ap, ◌∙◌, subst}
use mathlib.Core.Bool.{true, false}
use mathlib.Core.List.{List, [], ◌∷◌, ◌++◌}
use Prim.Native.Nat.{ℕ, zero, suc, ◌+◌, ◌/◌, ◌^◌, ◌≤◌, ◌<◌}
use native.Mathlib.Numerals.{add-one}
use native.Mathlib.Omega.{arith}
use lib.Dec.{ltb}
use lib.ListN.{length, get_or, take, drop, set, drop_of_length-le}
use lib.Seq.{drop-cons}
use borrow.Author.Tests.{lt-ltb, le-ltb}
use Rattle.std.specs.Bool.{◌==◌}
use Rattle.std.specs.List.{flat_map}
use Rattle.std.proofs.lemmas.Bool.Decides.{nat_tests}
use Rattle.std.proofs.lemmas.Grind.{common_steps, pow_more}
use Rattle.parts.proofs.Laws.{by_test}
use Rattle.script_fields.specs.declared.write.Text.{Text}
use Rattle.script_fields.specs.Write.{Out, standing, put, written, with_out, Wrote, digit_of, decimal_in, decimal, field_text, fields_text, hex_text, bytes_text}

-- ---- lists

-- what is left of a list begins with the next element
pub next_of : (l : List ℕ) (i : ℕ) → i < length l → drop i l ≡ get_or l i 0 ∷ drop (i + 1) l
next_of l i h = rw (add-one i) (drop-cons l i 0 h)

pub none_left : (l : List ℕ) (i : ℕ) → length l ≤ i → drop i l ≡ []
none_left l i h = drop_of_length-le l {i = i} h

-- ---- writing

pub put_in : (b at : ℕ) (l : List ℕ) → at < length l → standing (at + 1) (set l at b) ≡ written (b ∷ []) (standing at l)
unfolding written put
put_in b at l h = rw (lt-ltb at (length l) h)

pub put_out : (b at : ℕ) (l : List ℕ) → length l ≤ at → standing at l ≡ written (b ∷ []) (standing at l)
unfolding written put
put_out b at l h = rw (le-ltb at (length l) h)

pub written-append : (a b : List ℕ) (o : Out) → written (a ++ b) o ≡ written b (written a o)
unfolding written
written-append [] b o = refl
written-append (x ∷ a) b o = written-append a b (put x o)

-- nothing
pub wrote_none : {t : Text} → Wrote [] t t
unfolding written
wrote_none = record { text = refl }

-- a, and then b
pub then : {a b : List ℕ} {o x y : Text} → Wrote a o x → Wrote b x y → Wrote (a ++ b) o y
then {a = a} {b = b} {o = o} p q = record {
  text = q.text ∙ ap (λ (x : Text). with_out x (written b (standing x.at x.out.now))) p.text ∙ ap (with_out o) (sym (written-append a b (standing o.at o.out.now)));
}

-- of the texts that f makes of a list, one more
pub one_more : (f : ℕ → List ℕ) (l : List ℕ) (i : ℕ) {o x y : Text} → i < length l → Wrote (flat_map f (take i l)) o x → Wrote (f (get_or l i 0)) x y → Wrote (flat_map f (take (i + 1) l)) o y
one_more f l i {o = o} {y = y} h p q =
    let e : flat_map f (take (i + 1) l) ≡ flat_map f (take i l) ++ f (get_or l i 0) = grind (arith, common_steps) in
    subst (λ (w : List ℕ). Wrote w o y) (sym e) (then p q)

-- none is left
pub whole_list : (f : ℕ → List ℕ) (l : List ℕ) (i : ℕ) {o x : Text} → length l ≤ i → Wrote (flat_map f (take i l)) o x → Wrote (flat_map f l) o x
whole_list f l i h p = let e : take i l ≡ l = grind (arith, common_steps) in rw e at p

pub all_fields : (l : List ℕ) (i : ℕ) {o x : Text} → length l ≤ i → Wrote (flat_map field_text (take i l)) o x → Wrote (fields_text l) o x
unfolding fields_text
all_fields l i h p = whole_list field_text l i h p

-- the fields of equal numbers
pub fields : {l m : List ℕ} {o x : Text} → l ≡ m → Wrote (fields_text l) o x → Wrote (fields_text m) o x
fields {o = o} {x = x} e p = subst (λ (n : List ℕ). Wrote (fields_text n) o x) e p

-- ---- numbers

-- room for one digit more changes nothing
decimal_stays : (k n : ℕ) → n < 10 ^ suc k → decimal_in (suc (suc k)) n ≡ decimal_in (suc k) n
unfolding decimal_in
decimal_stays zero n h = rw (lt-ltb n 10 h)
decimal_stays (suc j) n h = by_test (ltb n 10) (λ t. rw t) (λ t. rw t (ap (λ (w : List ℕ). w ++ (digit_of n ∷ [])) (decimal_stays j (n / 10) (omega (arith, pow_more 10 (suc j))))))

next_digit : (k n : ℕ) → 10 ≤ n → decimal_in (suc k) n ≡ decimal_in k (n / 10) ++ (digit_of n ∷ [])
unfolding decimal_in
next_digit k n h = rw (le-ltb n 10 h)

pub one_digit : (n : ℕ) → n < 10 → decimal n ≡ digit_of n ∷ []
unfolding decimal_in
one_digit n h = rw (lt-ltb n 10 h)

pub more_digits : (n : ℕ) → n < 2 ^ 64 → 10 ≤ n → decimal n ≡ decimal (n / 10) ++ (digit_of n ∷ [])
more_digits n b h = rw (decimal_stays 18 (n / 10) (omega arith)) (next_digit 19 n h)

-- ---- bytes

pub no_bytes : (l : List ℕ) → true ≡ (length l == 0) → bytes_text l ≡ 45 ∷ []
no_bytes [] e = refl
no_bytes (b ∷ l) e = grind (arith, nat_tests)

pub some_bytes : (l : List ℕ) → false ≡ (length l == 0) → bytes_text l ≡ hex_text l
some_bytes [] e = grind (arith, nat_tests)
some_bytes (b ∷ l) e = refl
