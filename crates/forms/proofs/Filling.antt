-- The entries that are listed, and entries at the front of a list.
-- The idea: the n-th entry is the entry of the n-th occupied slot, and writing them one after the other lays them over the front.
use mathlib.Core.Path.{◌≡◌, refl, sym, ap}
use mathlib.Core.Bool.{Bool, true, false, cond}
use mathlib.Core.List.{List, [], ◌∷◌, ◌++◌, append-nil}
use Prim.Native.Nat.{ℕ, zero, suc, ◌+◌, ◌≤◌, ◌<◌}
use native.Mathlib.Nat.{not-suc-le-zero, le_of_suc-le-suc}
use native.Mathlib.Omega.{arith}
use lib.Seq.{length-take-le}
use lib.Dec.{leb, ltb}
use lib.ListN.{length, set, take, drop, drop_of_length-le, get_or, length-map, get_or-map}
use borrow.Author.Tests.{leb-true, ltb-true, ltb-false}
use Rattle.parts.proofs.Laws.{by_test}
use Rattle.peripheral_set.specs.declared.Entry.{Entry}
use Rattle.peripheral_set.specs.Marks.{slots, listed, listed_from}
use Rattle.master.specs.declared.unit.DpMaster.{DpMaster}
use Rattle.access.specs.Lookup.{entry_at}
use Rattle.forms.specs.Listing.{entries, list_refusal, shown, overlay}

-- ---- which entries

-- there are no more occupied slots than slots
few : (n : ℕ) (marks : List Bool) (i : ℕ) → length (listed_from n marks i) ≤ n
unfolding listed_from
few zero marks i = omega arith
few (suc n) marks i =
    by_test (get_or marks i false) (λ e. rw e (omega (arith, few n marks (i + 1)))) (λ e. rw e (omega (arith, few n marks (i + 1))))

-- a list that is refused is too short, and another is not
pub refused_short : (room : ℕ) → (list_refusal room ≡ 0 → ⊥) → room < slots
refused_short room z = by_test (ltb room slots) (λ e. ltb-true room slots e) (λ e. absurd (z (rw e refl)))

pub taken_long : (room : ℕ) → list_refusal room ≡ 0 → slots ≤ room
taken_long room z = by_test (ltb room slots) (λ e. let two : ◌≡◌ {A = ℕ} 2 0 = rw e at z in omega (arith, two)) (λ e. ltb-false room slots e)

module _ (m : DpMaster) where
  -- an entry for each occupied slot
  pub as_many : length (entries m) ≡ length (listed m.occupied)
  as_many = length-map (listed m.occupied) (entry_at m)

  module _ (room : ℕ) where
    -- what is written is no more than the slots, and fits the list
    pub shown-fits : (length (shown m room) ≤ slots) × (length (shown m room) ≤ room)
    shown-fits = by_case (leb slots room) refl
      where
        by_case : (b : Bool) → leb slots room ≡ b → (length (cond b (entries m) []) ≤ slots) × (length (cond b (entries m) []) ≤ room)
        by_case true e = (omega (arith, as_many, few slots m.occupied 0), omega (arith, as_many, few slots m.occupied 0, leb-true slots room e))
        by_case false e = (omega arith, omega arith)

    -- the i-th of them is the entry of the i-th occupied slot
    pub shown-at : (i : ℕ) → i < length (shown m room) → entry_at m (get_or (listed m.occupied) i slots) ≡ get_or (shown m room) i (entry_at m slots)
    shown-at i = by_case (leb slots room)
      where
        by_case : (b : Bool) → i < length (cond b (entries m) []) → entry_at m (get_or (listed m.occupied) i slots) ≡ get_or (cond b (entries m) []) i (entry_at m slots)
        by_case true h = sym (get_or-map (entry_at m) (listed m.occupied) i slots)
        by_case false h = absurd (not-suc-le-zero h)

-- ---- entries at the front of a list

-- the i-th of the entries new, written at i where the i before it are written
pub fills : (new old : List Entry) (i : ℕ) (d : Entry) → i < length new → length new ≤ length old → set (overlay (take i new) old) i (get_or new i d) ≡ overlay (take (suc i) new) old
fills [] old i d h k = absurd (not-suc-le-zero h)
fills (x ∷ new) [] i d h k = absurd (not-suc-le-zero k)
fills (x ∷ new) (y ∷ old) zero d h k = refl
fills (x ∷ new) (y ∷ old) (suc i) d h k = ap (λ (l : List Entry). x ∷ l) (fills new old i d (le_of_suc-le-suc h) (le_of_suc-le-suc k))

-- the list stays as long as it was
pub overlay-length : (new old : List Entry) → length new ≤ length old → length (overlay new old) ≡ length old
overlay-length [] old h = refl
overlay-length (x ∷ new) [] h = absurd (not-suc-le-zero h)
overlay-length (x ∷ new) (y ∷ old) h = ap suc (overlay-length new old (le_of_suc-le-suc h))

-- the rows that are all written over, with the rest of the list behind them
pub laid : (new old rows : List Entry) (k : ℕ) → k ≡ length new → k ≤ length old → rows ≡ overlay new (take k old) → rows ++ drop k old ≡ overlay new old
laid new old rows k e h q =
    let none : drop (length new) (take k old) ≡ [] = drop_of_length-le (take k old) {i = length new} (omega (arith, length-take-le k old h)) in
    rw q (rw none (rw (append-nil new, e) refl))

pub take_all : (new : List Entry) → take (length new) new ≡ new
take_all [] = refl
take_all (x ∷ new) = ap (λ (l : List Entry). x ∷ l) (take_all new)
