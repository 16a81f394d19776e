-- The laws of the search and of the listing, over any number of slots.
-- The idea: a search looks at one slot and then goes on; what it passed had the other mark, and what it found has the wanted one.
-- Slots that are passed together are passed one after the other. The library's methods go over the same marks: their words of lists are tied to the
-- search and to the listing by induction, and a slot's number is below `slots`.
use mathlib.Core.Path.{◌≡◌, refl, ◌∙◌}
use mathlib.Core.Bool.{Bool, true, false, not, ◌||◌, cond, beq}
use mathlib.Mathlib.Data.Bool.Basic.{or-eq-false-eq-eq-false-and-eq-false as neither}
use mathlib.Core.Logic.{by_cases}
use mathlib.Core.List.{List, ◌∷◌}
use Prim.Native.Nat.{ℕ, zero, suc, ◌+◌, ◌-◌, ◌≤◌, ◌<◌}
use native.Mathlib.Decide.{dec_le}
use native.Mathlib.Omega.{arith}
use native.Mathlib.Numerals.{add-one}
use mir.Val.{bool_byte}
use lib.ListN.{get_or, length, take, drop, drop_of_length-le}
use lib.Seq.{drop-cons}
use lib.Dec.{ltb, leb}
use borrow.Author.Tests.{lt-ltb, le-ltb, ltb-true, ltb-false, lt-leb, le-leb}
use Rattle.std.specs.Option.{is_some}
use Rattle.std.proofs.Common.{Some, None, ap, sym}
use Rattle.std.specs.List.{position_or_len, count_by, filter, range_with_len, slice_get, find, list_any}
use Rattle.std.proofs.lemmas.List.Sums.{position_or_len_is, sum_by-cons}
use Rattle.parts.proofs.Laws.{by_test}
use Rattle.peripheral_set.specs.Marks.{slots, slot_or_none, or_slots, first_empty, at_or_after, same_mark, search_from, listed_from}

module _ (none : ℕ) (want : Bool) (n : ℕ) (marks : List Bool) (i : ℕ) where
  one_left : i < n → n - i ≡ suc (n - (i + 1))
  one_left l = omega arith

  pub search_step : i < n → search_from none want (n - i) marks i ≡ cond (same_mark want (get_or marks i false)) i (search_from none want (n - (i + 1)) marks (i + 1))
  unfolding search_from
  search_step l = rw (one_left l) refl

  pub search_here : i < n → same_mark want (get_or marks i false) ≡ true → search_from none want (n - i) marks i ≡ i
  search_here l e = search_step l ∙ rw e refl

  pub search_on : i < n → same_mark want (get_or marks i false) ≡ false → search_from none want (n - i) marks i ≡ search_from none want (n - (i + 1)) marks (i + 1)
  search_on l e = search_step l ∙ rw e refl

  pub search_none : n ≤ i → search_from none want (n - i) marks i ≡ none
  unfolding search_from
  search_none l = let z : n - i ≡ 0 = omega arith in rw z refl

-- ---- empty slots that a search passes together

unset : (m : Bool) → beq m true ≡ false → m ≡ false
unset true e = e
unset false e = refl

module _ (none n : ℕ) (marks : List Bool) where
  pub search_over : (k i : ℕ) → i + k ≤ n → n ≤ length marks → list_any (λ m. beq m true) (take k (drop i marks)) ≡ false
      → search_from none true (n - i) marks i ≡ search_from none true (n - (i + k)) marks (i + k)
  search_over zero i l h e = let z : i + 0 ≡ i = omega arith in rw z refl
  search_over (suc k) i l h e =
      let next : drop i marks ≡ get_or marks i false ∷ drop (i + 1) marks = rw add-one (drop-cons marks i false (omega arith)) in
      let both = (neither (beq (get_or marks i false) true) _).0 (rw next at e) in
      let z : i + suc k ≡ (i + 1) + k = omega arith in
      rw z (search_on none true n marks i (omega arith) (unset _ both.0) ∙ search_over k (i + 1) (omega arith) h both.1)

-- one of k slots from i on is occupied
unfoldable pub any_from : ℕ → List Bool → ℕ → Bool
any_from zero marks i = false
any_from (suc k) marks i = any_from k marks i || get_or marks (i + k) false

module _ (none n : ℕ) (marks : List Bool) where
  pub search_past : (k i : ℕ) → i + k ≤ n → any_from k marks i ≡ false → search_from none true (n - i) marks i ≡ search_from none true (n - (i + k)) marks (i + k)
  unfolding any_from
  search_past zero i l e = let z : i + 0 ≡ i = omega arith in rw z refl
  search_past (suc k) i l e =
      let both = (neither (any_from k marks i) (get_or marks (i + k) false)).0 e in
      let z : i + suc k ≡ i + k + 1 = omega arith in
      rw z (search_past k i (omega arith) both.0 ∙ search_on none true n marks (i + k) (omega arith) both.1)

-- ---- what a search answers, among k slots from i on

module _ (none : ℕ) (want : Bool) (marks : List Bool) where
  -- it is a slot that has the wanted mark
  pub search_found : (k i : ℕ) → search_from none want k marks i < none → same_mark want (get_or marks (search_from none want k marks i) false) ≡ true
  unfolding search_from
  search_found zero i h = absurd (omega arith)
  search_found (suc k) i h =
      by_test (same_mark want (get_or marks i false)) (λ e. rw e e)
      (λ e. rw e (search_found k (i + 1) (rw e at h)))

  -- and no slot before it has it; where there is none, no slot of them
  pub search_first : (k i s : ℕ) → i ≤ s → s < i + k → s < search_from none want k marks i → same_mark want (get_or marks s false) ≡ false
  unfolding search_from
  search_first zero i s l h t = absurd (omega arith)
  search_first (suc k) i s l h t =
      by_test (same_mark want (get_or marks i false)) (λ e. absurd (let t' : s < i = rw e at t in omega arith))
      (λ e. by_cases (dec_le s i) (λ q. let z : s ≡ i = omega arith in rw z e) (λ q. search_first k (i + 1) s (omega (arith, q)) (omega arith) (rw e at t)))

  pub search-from : (k i : ℕ) → i + k ≤ none → i ≤ search_from none want k marks i
  unfolding search_from
  search-from zero i h = omega arith
  search-from (suc k) i h =
      by_test (same_mark want (get_or marks i false)) (λ e. rw e (omega arith))
      (λ e. rw e (omega (arith, search-from k (i + 1) (omega arith))))

  pub search_bound : (k i : ℕ) → i + k ≤ none → search_from none want k marks i ≤ none
  unfolding search_from
  search_bound zero i h = omega arith
  search_bound (suc k) i h =
      by_test (same_mark want (get_or marks i false)) (λ e. rw e (omega arith))
      (λ e. rw e (search_bound k (i + 1) (omega arith)))

-- ---- a slot's number, or none

pub slot_some : (i : ℕ) → i < slots → slot_or_none i ≡ Some i
slot_some i h = rw (lt-ltb i slots h) refl

pub slot_none : (i : ℕ) → slots ≤ i → slot_or_none i ≡ None
slot_none i h = rw (le-ltb i slots h) refl

-- what the answer Some says of the number, and what None says
pub some_slot : (i s : ℕ) → slot_or_none i ≡ Some s → (i ≡ s) × (s < slots)
some_slot i s e = by_cases (dec_le slots i) (λ h. absurd (let n = slot_none i h in cc)) (λ h. let l : i < slots = omega (arith, h) in let y = slot_some i l in let q : i ≡ s = cc in (q, omega arith))

pub none_slot : (i : ℕ) → slot_or_none i ≡ None → slots ≤ i
none_slot i e = by_cases (dec_le slots i) (λ h. h) (λ h. let y = slot_some i (omega (arith, h)) in cc)

-- the number again, where a caller puts `slots` for none
pub again : (i : ℕ) → i ≤ slots → or_slots (slot_or_none i) ≡ i
again i h = by_cases (dec_le slots i) (λ l. let q : i ≡ slots = omega arith in rw q refl) (λ l. rw (slot_some i (omega (arith, l))) refl)

pub none_is : (i : ℕ) → i ≤ slots → slot_or_none i ≡ None → i ≡ slots
none_is i h e = omega (arith, none_slot i e)

-- what a search has is a slot's number, or `slots`
pub search_to : (want : Bool) (marks : List Bool) (i : ℕ) → search_from slots want (slots - i) marks i ≤ slots
search_to want marks i =
    by_cases (dec_le i slots) (λ h. search_bound slots want marks (slots - i) i (omega arith)) (λ h. omega (arith, h, search_none slots want slots marks i (omega (arith, h))))

-- the first mark of the library's search in a list is that of the search among the slots
pub first_mark : (want : Bool) (marks : List Bool) → length marks ≡ slots
    → cond (ltb (position_or_len (same_mark want) marks) (length marks)) (Some (position_or_len (same_mark want) marks)) None ≡ slot_or_none (search_from slots want slots marks 0)
first_mark want marks e =
    let at : ℕ = search_from slots want slots marks 0 in
    let q : position_or_len (same_mark want) marks ≡ at =
    position_or_len_is (same_mark want) marks at false (omega (arith, search_bound slots want marks slots 0 (omega arith)))
    (λ k h. search_first slots want marks slots 0 k (omega arith) (omega (arith, search_bound slots want marks slots 0 (omega arith))) h)
    (λ h. search_found slots want marks slots 0 (omega arith)) in
    rw (q, e) refl

pub find_mark : (marks : List Bool) (k i : ℕ) → k ≡ slots - i → find (λ s. get_or marks s false) (range_with_len i k) ≡ slot_or_none (search_from slots true k marks i)
unfolding search_from
find_mark marks zero i e = refl
find_mark marks (suc k) i e = by_test (get_or marks i false) (λ t. rw t (sym (slot_some i (omega arith)))) (λ t. rw t (find_mark marks k (i + 1) (omega arith)))

-- ---- the listing

-- it looks at one slot, and goes on
module _ (n : ℕ) (marks : List Bool) (i : ℕ) where
  pub listed-step : i < n → listed_from (n - i) marks i ≡ cond (get_or marks i false) (i ∷ listed_from (n - (i + 1)) marks (i + 1)) (listed_from (n - (i + 1)) marks (i + 1))
  unfolding listed_from
  listed-step l = let k : n - i ≡ suc (n - (i + 1)) = omega arith in rw k refl

  pub length_step : i < n → length (listed_from (n - i) marks i) ≡ bool_byte (get_or marks i false) + length (listed_from (n - (i + 1)) marks (i + 1))
  length_step l = rw (listed-step l) (by_test (get_or marks i false) (λ t. rw t (omega arith)) (λ t. rw t (omega arith)))

  pub length_end : n ≤ i → length (listed_from (n - i) marks i) ≡ 0
  unfolding listed_from
  length_end l = let z : n - i ≡ 0 = omega arith in rw z refl

pub one_most : (b : Bool) → bool_byte b ≤ 1
one_most true = omega arith
one_most false = omega arith

-- the listing is what the marks leave of the slots
pub listed_filter : (marks : List Bool) (k i : ℕ) → filter (λ s. get_or marks s false) (range_with_len i k) ≡ listed_from k marks i
unfolding listed_from
listed_filter marks zero i = refl
listed_filter marks (suc k) i = by_test (get_or marks i false) (λ t. rw t (ap (λ (l : List ℕ). i ∷ l) (listed_filter marks k (i + 1)))) (λ t. rw t (listed_filter marks k (i + 1)))

pub length_listed : (marks : List Bool) (k i : ℕ) → i + k ≡ length marks → length (listed_from k marks i) ≡ count_by (λ m. m) (drop i marks)
unfolding listed_from
length_listed marks zero i e = let none = drop_of_length-le marks {i = i} (omega arith) in rw none refl
length_listed marks (suc k) i e =
    let next : drop i marks ≡ get_or marks i false ∷ drop (i + 1) marks = rw add-one (drop-cons marks i false (omega arith)) in
    let rest = length_listed marks k (i + 1) (omega arith) in
    let more = sum_by-cons (λ m. cond m 1 0) (get_or marks i false) (drop (i + 1) marks) in
    rw (next, more) (by_test (get_or marks i false) (λ t. rw t (omega arith)) (λ t. rw t (omega arith)))

pub nth_listed : (marks : List Bool) (k i n : ℕ) → i + k ≤ slots → slice_get (listed_from k marks i) n ≡ slot_or_none (get_or (listed_from k marks i) n slots)
unfolding listed_from
nth_listed marks zero i n h = refl
nth_listed marks (suc k) i zero h = by_test (get_or marks i false) (λ t. rw t (sym (slot_some i (omega arith)))) (λ t. rw t (nth_listed marks k (i + 1) zero (omega arith)))
nth_listed marks (suc k) i (suc n) h = by_test (get_or marks i false) (λ t. rw t (nth_listed marks k (i + 1) n (omega arith))) (λ t. rw t (nth_listed marks k (i + 1) (suc n) (omega arith)))

-- what it has is a slot's number, or `slots`
pub listed_to : (marks : List Bool) (k i n : ℕ) → i + k ≤ slots → get_or (listed_from k marks i) n slots ≤ slots
unfolding listed_from
listed_to marks zero i n h = omega arith
listed_to marks (suc k) i zero h = by_test (get_or marks i false) (λ t. rw t (omega arith)) (λ t. rw t (listed_to marks k (i + 1) zero (omega arith)))
listed_to marks (suc k) i (suc n) h = by_test (get_or marks i false) (λ t. rw t (listed_to marks k (i + 1) n (omega arith))) (λ t. rw t (listed_to marks k (i + 1) (suc n) (omega arith)))

-- ---- what an optional slot tells of the number

pub none_told : (i : ℕ) (b : Bool) → is_some (slot_or_none i) ≡ not b → b ≡ leb slots i
none_told i b e =
    by_test (ltb i slots)
    (λ l. let h : i < slots = ltb-true i slots l in not_not b (rw (slot_some i h) at e) ∙ sym (lt-leb slots i h))
    (λ l. let h : slots ≤ i = ltb-false i slots l in true_not b (rw (slot_none i h) at e) ∙ sym (le-leb slots i h))
  where
    not_not : (b : Bool) → true ≡ not b → b ≡ false
    not_not true q = q
    not_not false q = refl

    true_not : (b : Bool) → false ≡ not b → b ≡ true
    true_not true q = refl
    true_not false q = q

pub first_empty-again : (marks : List Bool) → or_slots (slot_or_none (first_empty marks)) ≡ first_empty marks
first_empty-again marks = again (first_empty marks) (search_to false marks 0)

pub at_or_after-again : (marks : List Bool) (place : ℕ) → or_slots (slot_or_none (at_or_after marks place)) ≡ at_or_after marks place
at_or_after-again marks place = again (at_or_after marks place) (search_to true marks place)
