-- The laws of the lent parts, of the fills, of the listing and of the end of a line.
-- The idea: what a call leaves in the lent front has that front's length, so the front of the array afterwards is just that, and the rest is as it was.
use mathlib.Core.Path.{◌≡◌, refl, sym, ap, ◌∙◌}
use mathlib.Core.Bool.{Bool, true, false}
use mathlib.Core.List.{List, [], ◌∷◌, ◌++◌, append-nil, append_assoc}
use Prim.Native.Nat.{ℕ, zero, suc, ◌+◌, ◌*◌, ◌/◌, ◌-◌, ◌≤◌, ◌<◌}
use native.Mathlib.Numerals.{add-one}
use native.Mathlib.Omega.{arith}
use lib.ListN.{length, take, drop, get_or, set, length-append, length-drop, drop_of_length-le}
use lib.Seq.{take_all, take_at, drop_at, drop-cons, set_at, append_snoc, length-take-le, drop-drop, sets-eq}
use lib.Dec.{leb, eqb}
use mir.Val.{bool_byte}
use borrow.Rule.Slice.PartMut.{put_mid}
use Rattle.std.proofs.Common.{◌==◌}
use Rattle.std.specs.Option.{unwrap_or}
use Rattle.std.specs.List.{find, range_with_len}
use borrow.Author.Tests.{leb-true, leb-false, lt-ltb}
use Rattle.parts.proofs.Laws.{by_test}
use Rattle.script_fields.specs.Write.{flag_number}
use Rattle.peripheral_set.specs.declared.Entry.{Entry}
use Rattle.peripheral_set.specs.Marks.{slots, listed_from}
use Rattle.master.specs.declared.unit.DpMaster.{DpMaster}
use Rattle.access.specs.Lookup.{entry_at}
use Rattle.master.specs.Pools.{lend}
use Rattle.script_driver.specs.Arrays.{short_of, past_lent, tabulated, put_entry, put_entries}
use Rattle.script_driver.specs.Pieces.{newline_in}

-- ---- a lent front

pub short_le : (n len : ℕ) → short_of n len ≤ len
short_le n len = by_test (leb n len) (λ e. rw e (leb-true n len e)) (λ e. rw e (omega arith))

pub short_take : (n k : ℕ) (l : List ℕ) → k ≡ short_of n (length l) → take k l ≡ lend n l
short_take n k l e =
    by_test (leb n (length l)) (λ t. let w : k ≡ n = e ∙ rw t refl in rw w refl)
    (λ t. let w : k ≡ length l = e ∙ rw t refl in take_all k l (omega arith) ∙ sym (take_all n l (omega (arith, leb-false n (length l) t))))

pub front_le : (n k : ℕ) (l : List ℕ) → k ≡ short_of n (length l) → k ≤ length l
front_le n k l e = omega (arith, short_le n (length l))

-- what a call left of the first k of old: the array is that in front, and behind it as it was
module _ (n k : ℕ) (old left : List ℕ) (e : k ≡ short_of n (length old)) (h : length left ≡ length (take k old)) where
  size : length left ≡ k
  size = h ∙ length-take-le k old (front_le n k old e)

  pub lent_front : lend n (left ++ drop k old) ≡ left
  lent_front =
      by_test (leb n (length old)) (λ t. let w : k ≡ n = e ∙ rw t refl in take_at left (drop k old) n (size ∙ w))
      (λ t.
      let w : k ≡ length old = e ∙ rw t refl in
      ap (λ (x : List ℕ). take n (left ++ x)) (drop_of_length-le old {i = k} (omega arith))
      ∙ ap (take n) (append-nil left)
      ∙ take_all n left (omega (arith, size, leb-false n (length old) t)))

  pub lent_behind : past_lent n (left ++ drop k old) ≡ past_lent n old
  lent_behind =
      by_test (leb n (length old)) (λ t. let w : k ≡ n = e ∙ rw t refl in drop_at left (drop k old) n (size ∙ w) ∙ ap (λ (i : ℕ). drop i old) w)
      (λ t.
      let w : k ≡ length old = e ∙ rw t refl in
      let far : length old < n = leb-false n (length old) t in
      drop_of_length-le (left ++ drop k old) {i = n} (simp (length-append, length-drop) (omega (arith, size)))
      ∙ sym (drop_of_length-le old {i = n} (omega arith)))

-- ---- a list that a loop fills by a rule

length-up_to : (f : ℕ → ℕ) (n : ℕ) → length (tabulated f n) ≡ n
unfolding tabulated
length-up_to f zero = refl
length-up_to f (suc n) = length-append (tabulated f n) (f n ∷ []) ∙ (let e = length-up_to f n in omega arith)

pub up_to_none : (f : ℕ → ℕ) (d : List ℕ) → d ≡ tabulated f 0 ++ drop 0 d
unfolding tabulated
up_to_none f d = refl

pub up_to_more : (f : ℕ → ℕ) (i : ℕ) (d : List ℕ) → i < length d → set (tabulated f i ++ drop i d) i (f i) ≡ tabulated f (i + 1) ++ drop (i + 1) d
unfolding tabulated
up_to_more f i d h =
    ap (λ (x : List ℕ). set (tabulated f i ++ x) i (f i)) (drop-cons d i 0 h)
    ∙ set_at (tabulated f i) (get_or d i 0) (drop (suc i) d) (f i) i (length-up_to f i)
    ∙ sym (append_snoc (tabulated f i) (f i) (drop (suc i) d))
    ∙ ap (λ (k : ℕ). tabulated f k ++ drop k d) (sym (add-one i))

pub up_to_all : (f : ℕ → ℕ) (i : ℕ) (d : List ℕ) → i ≡ length d → tabulated f i ++ drop i d ≡ tabulated f (length d)
up_to_all f i d e =
    ap (λ (x : List ℕ). tabulated f i ++ x) (drop_of_length-le d {i = i} (omega arith)) ∙ append-nil (tabulated f i) ∙ ap (tabulated f) e

-- ---- the listing, one entry a turn

pub few : (n : ℕ) (marks : List Bool) (i : ℕ) → length (listed_from n marks i) ≤ n
unfolding listed_from
few zero marks i = omega arith
few (suc n) marks i =
    let h = few n marks (i + 1) in
    by_test (get_or marks i false) (λ e. rw e (omega arith)) (λ e. rw e (omega arith))

flag_byte : (b : Bool) → bool_byte b ≡ flag_number b
flag_byte true = refl
flag_byte false = refl

-- what the copy of the three bytes leaves
pub entry_put : (l : List ℕ) (k : ℕ) (e : Entry) (out : List ℕ) (v : ℕ) → k < length l / 3 → out ≡ e.slot ∷ e.address ∷ v ∷ [] → v ≡ bool_byte e.running → put_mid (3 * k) (3 * k + 3 - 3 * k) l out ≡ put_entry k e l
unfolding put_entry
entry_put l k e out v h q f =
    let new : List ℕ = e.slot ∷ e.address ∷ flag_number e.running ∷ [] in
    let at : ℕ = 3 * k in
    let three : 3 * k + 3 - 3 * k ≡ 3 = omega arith in
    let flag : v ≡ flag_number e.running = f ∙ flag_byte e.running in
    rw (three, q, flag, lt-ltb k (length l / 3) h)
    (ap (λ (x : List ℕ). take at l ++ (new ++ x)) (drop-drop 3 at l) ∙ sym (append_assoc (take at l) new (drop (at + 3) l)) ∙ sym (sets-eq new l at (omega arith)))

module _ (m : DpMaster) (from : List ℕ) (k : ℕ) (list : List ℕ) where
  pub entries_more : k < length from → put_entries m (drop k from) k list ≡ put_entries m (drop (k + 1) from) (k + 1) (put_entry k (entry_at m (get_or from k slots)) list)
  unfolding put_entries
  entries_more h =
      ap (λ (x : List ℕ). put_entries m x k list) (drop-cons from k slots h)
      ∙ ap (λ (j : ℕ). put_entries m (drop j from) (k + 1) (put_entry k (entry_at m (get_or from k slots)) list)) (sym (add-one k))

  pub entries_done : length from ≤ k → put_entries m (drop k from) k list ≡ list
  unfolding put_entries
  entries_done h = ap (λ (x : List ℕ). put_entries m x k list) (drop_of_length-le from {i = k} h)

-- ---- the end of a line

-- the library's search for a newline, or the end
pub newline_found : (s : List ℕ) (n i d : ℕ) → d ≡ i + n → unwrap_or (find (λ k. get_or s k 0 == 10) (range_with_len i n)) d ≡ newline_in n i s
unfolding newline_in
newline_found s zero i d e = omega arith
newline_found s (suc n) i d e = by_test (eqb (get_or s i 0) 10) (λ t. rw t refl) (λ t. rw t (newline_found s n (i + 1) d (omega arith)))

-- it lies where it was looked for
pub newline_from : (s : List ℕ) (n i : ℕ) → i ≤ newline_in n i s
unfolding newline_in
newline_from s zero i = omega arith
newline_from s (suc n) i = let h = newline_from s n (i + 1) in by_test (eqb (get_or s i 0) 10) (λ e. rw e (omega arith)) (λ e. rw e (omega arith))

pub newline_to : (s : List ℕ) (n i : ℕ) → newline_in n i s ≤ i + n
unfolding newline_in
newline_to s zero i = omega arith
newline_to s (suc n) i = let h = newline_to s n (i + 1) in by_test (eqb (get_or s i 0) 10) (λ e. rw e (omega arith)) (λ e. rw e (omega arith))
