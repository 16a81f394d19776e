-- What a list of rows answers.
-- The idea: a row that does not apply leaves the answer to the rows after it, and one that applies ends the list with its number.
use mathlib.Core.Path.{◌≡◌, refl, sym, ap, ◌∙◌}
use mathlib.Core.Bool.{Bool, true, false, not, ◌&&◌, cond, false≢true}
use mathlib.Core.List.{List, [], ◌∷◌, ◌++◌}
use Prim.Native.Nat.{ℕ, zero, suc, ◌<◌}
use native.Mathlib.Omega.{arith}
use lib.Dec.{eqb}
use Rattle.std.specs.Prelude.{Result, Ok, Err}
use Rattle.std.specs.Result.{result_and, IsErrAnd}
use lib.ListN.{get_or, drop}
use borrow.Author.Tests.{eqb-true, eq-eqb, not-true}
use Rattle.parts.proofs.Laws.{and_left, and_right}
use Rattle.refusals.specs.declared.Refusal.{Refusal}
use Rattle.refusals.specs.declared.Refusal.TheVariants.{BadParameter, BadLent, EarlyTurn, BadHandle, TableFull, BadAddress, TooLong, NoRoom, NotAsked, Unusable, BadLength}
use Rattle.refusals.specs.Table.{Row, first_of, said, or_else, refusal_number, refusal_numbered, given, outcome, number_of}

-- no row has the number 0, which is "done"
abbrev pub numbered : List Row → Bool
numbered [] = true
numbered (r ∷ rows) = not (eqb r.number 0) && numbered rows

-- what stands for a row past the end of a list
abbrev pub no_row : Row
no_row = record { number = 0; applies = false }

not_zero : (b : Bool) (n rest : ℕ) → not (eqb n 0) ≡ true → cond b n rest ≡ 0 → b ≡ false
not_zero true n rest h e = absurd (false≢true (rw e at h))
not_zero false n rest h e = refl

-- a call that is not refused has passed each of its rows, by where it stands in the list
pub passed : (rows : List Row) → numbered rows ≡ true → first_of rows ≡ 0 → (i : ℕ) → (get_or rows i no_row).applies ≡ false
passed [] h z i = refl
passed (r ∷ rows) h z zero = not_zero r.applies r.number (first_of rows) (and_left _ (numbered rows) h) z
passed (r ∷ rows) h z (suc i) =
    let here = not_zero r.applies r.number (first_of rows) (and_left _ (numbered rows) h) z in
    passed rows (and_right (not (eqb r.number 0)) (numbered rows) h) (rw here at z) i

-- and so the rows from any place on say 0 too
pub passed_from : (rows : List Row) → numbered rows ≡ true → first_of rows ≡ 0 → (k : ℕ) → first_of (drop k rows) ≡ 0
passed_from rows h z zero = z
passed_from [] h z (suc k) = refl
passed_from (r ∷ rows) h z (suc k) =
    let here = not_zero r.applies r.number (first_of rows) (and_left _ (numbered rows) h) z in
    passed_from rows (and_right (not (eqb r.number 0)) (numbered rows) h) (rw here at z) k

-- none applies: 0
pub none_applies : (rows : List Row) → ((i : ℕ) → (get_or rows i no_row).applies ≡ false) → first_of rows ≡ 0
none_applies [] h = refl
none_applies (r ∷ rows) h = rw (h 0) (none_applies rows (λ i. h (suc i)))

-- a row that applies, with none before it that does, is the answer
pub first_is : (rows : List Row) (k : ℕ) → ((i : ℕ) → i < k → (get_or rows i no_row).applies ≡ false) → (get_or rows k no_row).applies ≡ true → first_of rows ≡ (get_or rows k no_row).number
first_is [] k h a = refl
first_is (r ∷ rows) zero h a = rw a refl
first_is (r ∷ rows) (suc k) h a = rw (h 0 (omega arith)) (first_is rows k (λ i l. h (suc i) (omega (arith, l))) a)

-- ---- what a call answers for a number

pub done : {A : Type 0} {v : A} → given 0 v ≡ Ok v
unfolding given
done = refl

pub refused : (r : Refusal) → outcome (refusal_number r) ≡ Err r
unfolding given
refused BadParameter = refl
refused BadLent = refl
refused EarlyTurn = refl
refused BadHandle = refl
refused TableFull = refl
refused BadAddress = refl
refused TooLong = refl
refused NoRoom = refl
refused NotAsked = refl
refused Unusable = refl
refused BadLength = refl

-- done is the number 0
pub done_is : (n : ℕ) → outcome n ≡ Ok tt → n ≡ 0
unfolding given
done_is n p = by (eqb n 0) refl p
  where
    by : (b : Bool) → eqb n 0 ≡ b → cond b (outcome 0) (Err (refusal_numbered n)) ≡ outcome 0 → n ≡ 0
    by true e p = eqb-true n 0 e
    by false e p = cc p

-- what `?` passes up
pub passed_up : {A : Type 0} (r : Result A Refusal) (e : Refusal) → IsErrAnd r (λ y. y ≡ e) → r ≡ Err e
passed_up (Ok v) e p = absurd p
passed_up (Err y) e p = ap Err p

-- a value that is given
pub given_here : {A : Type 0} (n : ℕ) (v : A) → n ≡ 0 → given n v ≡ Ok v
unfolding given
given_here n v z = rw z refl

pub given_ok : {A : Type 0} (n : ℕ) (v x : A) → given n v ≡ Ok x → (n ≡ 0) × (v ≡ x)
unfolding given
given_ok n v x p = by (eqb n 0) refl p
  where
    by : (b : Bool) → eqb n 0 ≡ b → cond b (Ok v) (Err (refusal_numbered n)) ≡ Ok x → (n ≡ 0) × (v ≡ x)
    by true e p = (eqb-true n 0 e, cc p)
    by false e p = cc p

-- a refusal is the same whatever would be given
pub given_err : {A B : Type 0} (n : ℕ) (v : A) (w : B) {e : Refusal} → given n v ≡ Err e → given n w ≡ Err e
unfolding given
given_err n v w {e} p = by (eqb n 0) p
  where
    by : (b : Bool) → cond b (Ok v) (Err (refusal_numbered n)) ≡ Err e → cond b (Ok w) (Err (refusal_numbered n)) ≡ Err e
    by true p = cc p
    by false p = cc p

-- what is made of a given value, and what `?` passes up where none is given
pub given_with : {A B : Type 0} (n : ℕ) (v x : A) (f : A → B) → given n v ≡ Ok x → Ok (f x) ≡ given n (f v)
given_with n v x f p = let g = given_ok n v x p in rw (← g.1) (sym (given_here n (f v) g.0))

pub given_up : {A B : Type 0} (n : ℕ) (v : A) (w : B) (r : Result B Refusal) (e : Refusal) → given n v ≡ Err e → IsErrAnd r (λ y. y ≡ e) → r ≡ given n w
given_up n v w r e p i = passed_up r e i ∙ sym (given_err n v w p)

pub given-not : {A : Type 0} (n : ℕ) (v : A) {e : Refusal} → given n v ≡ Err e → n ≡ 0 → ⊥
unfolding given
given-not n v {e} p z = cc (rw z at p)

-- the rows' numbers are the table's
abbrev pub known : List Row → Bool
known [] = true
known (r ∷ rows) = eqb (refusal_number (refusal_numbered r.number)) r.number && known rows

-- a refusal has the number that gave it
pub number-told : (n : ℕ) → refusal_number (refusal_numbered n) ≡ n → {e : Refusal} → outcome n ≡ Err e → (refusal_number e ≡ n) × (n ≡ 0 → ⊥)
unfolding given
number-told n k {e} p = by (eqb n 0) refl p
  where
    by : (b : Bool) → eqb n 0 ≡ b → cond b (outcome 0) (Err (refusal_numbered n)) ≡ Err e → (refusal_number e ≡ n) × (n ≡ 0 → ⊥)
    by true z p = cc p
    by false z p = let q : refusal_numbered n ≡ e = cc p in (sym (ap refusal_number q) ∙ k, λ h. false≢true (sym z ∙ eq-eqb n 0 h))

pub told : (rows : List Row) → known rows ≡ true → {e : Refusal} → outcome (first_of rows) ≡ Err e → (refusal_number e ≡ first_of rows) × (first_of rows ≡ 0 → ⊥)
unfolding given
told [] h p = cc p
told (r ∷ rows) h {e} p = by r.applies p (told rows (and_right (eqb (refusal_number (refusal_numbered r.number)) r.number) (known rows) h))
  where
    by : (b : Bool) → outcome (cond b r.number (first_of rows)) ≡ Err e → (outcome (first_of rows) ≡ Err e → (refusal_number e ≡ first_of rows) × (first_of rows ≡ 0 → ⊥))
        → (refusal_number e ≡ cond b r.number (first_of rows)) × (cond b r.number (first_of rows) ≡ 0 → ⊥)
    by true p rest = number-told r.number (eqb-true _ r.number (and_left (eqb (refusal_number (refusal_numbered r.number)) r.number) (known rows) h)) p
    by false p rest = rest p

-- an answer follows from its number
pub outcome-back : (z : Result Unit Refusal) → outcome (number_of z) ≡ z
outcome-back (Ok tt) = done
outcome-back (Err r) = refused r

pub same_number : (z y : Result Unit Refusal) → number_of z ≡ number_of y → z ≡ y
same_number z y e = sym (outcome-back z) ∙ ap outcome e ∙ outcome-back y

-- ---- the code's order: each row, `and` the next

abbrev pub in_order : Result Unit Refusal → List Row → Result Unit Refusal
in_order x [] = x
in_order x (r ∷ rows) = in_order (result_and x (outcome (said r))) rows

-- an answer so far, and then the rows
from_answer : (x : Result Unit Refusal) (rows : List Row) → numbered rows ≡ true → in_order x rows ≡ result_and x (outcome (first_of rows))
unfolding given
from_answer (Ok tt) [] h = refl
from_answer (Err e) [] h = refl
from_answer (Err e) (r ∷ rows) h = from_answer (Err e) rows (and_right (not (eqb r.number 0)) (numbered rows) h)
from_answer (Ok tt) (r ∷ rows) h =
    from_answer (outcome (said r)) rows (and_right (not (eqb r.number 0)) (numbered rows) h)
    ∙ by r.applies (not-true (eqb r.number 0) (and_left (not (eqb r.number 0)) (numbered rows) h))
  where
    by : (b : Bool) → eqb r.number 0 ≡ false → result_and (outcome (cond b r.number 0)) (outcome (first_of rows)) ≡ outcome (cond b r.number (first_of rows))
    by true z = rw z refl
    by false z = refl

pub in-order : (rows : List Row) → numbered rows ≡ true → in_order (Ok tt) rows ≡ outcome (first_of rows)
in-order rows h = from_answer (Ok tt) rows h

-- ---- numbers put together by `or_else`

-- a row, and what comes after it
pub row_then : (b : Bool) (n rest : ℕ) → not (eqb n 0) ≡ true → or_else (cond b n 0) rest ≡ cond b n rest
unfolding or_else
row_then true n rest h = rw (not-true (eqb n 0) h) refl
row_then false n rest h = refl

or_assoc : (a b c : ℕ) → or_else (or_else a b) c ≡ or_else a (or_else b c)
unfolding or_else
or_assoc a b c = by (eqb a 0) refl
  where
    by : (t : Bool) → eqb a 0 ≡ t → or_else (or_else a b) c ≡ or_else a (or_else b c)
    by true e = rw e refl
    by false e = rw (e, e) refl

-- each row in turn, where none before it spoke
abbrev pub in_turn : ℕ → List Row → ℕ
in_turn n [] = n
in_turn n (r ∷ rows) = in_turn (or_else n (said r)) rows

from : (n : ℕ) (rows : List Row) → numbered rows ≡ true → in_turn n rows ≡ or_else n (first_of rows)
unfolding or_else
from n [] h = by (eqb n 0) refl
  where
    by : (t : Bool) → eqb n 0 ≡ t → n ≡ or_else n 0
    by true e = rw e (eqb-true n 0 e)
    by false e = rw e refl
from n (r ∷ rows) h =
    from (or_else n (said r)) rows (and_right (not (eqb r.number 0)) (numbered rows) h)
    ∙ or_assoc n (said r) (first_of rows)
    ∙ ap (or_else n) (row_then r.applies r.number (first_of rows) (and_left (not (eqb r.number 0)) (numbered rows) h))

pub in-turn : (rows : List Row) → numbered rows ≡ true → in_turn 0 rows ≡ first_of rows
unfolding or_else
in-turn rows h = from 0 rows h

-- of two lists the second speaks where the first says 0
pub both : (xs ys : List Row) → numbered xs ≡ true → first_of (xs ++ ys) ≡ or_else (first_of xs) (first_of ys)
unfolding or_else
both [] ys h = refl
both (r ∷ xs) ys h =
    sym (row_then r.applies r.number (first_of (xs ++ ys)) (and_left _ (numbered xs) h))
    ∙ ap (or_else (said r)) (both xs ys (and_right (not (eqb r.number 0)) (numbered xs) h))
    ∙ sym (or_assoc (said r) (first_of xs) (first_of ys))
    ∙ ap (λ (n : ℕ). or_else n (first_of ys)) (row_then r.applies r.number (first_of xs) (and_left _ (numbered xs) h))
