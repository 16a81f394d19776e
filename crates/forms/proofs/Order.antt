-- What "the occupied slots in rising order" comes to: every entry is of an occupied slot, each occupied slot has one, and their slots rise; and how a lent list stands afterwards.
-- The idea: among n slots from i on, the listing has slots of that range alone, and the first comes before the rest.
use mathlib.Core.Path.{◌≡◌, refl, sym, ap, ◌∙◌}
use mathlib.Core.Bool.{Bool, true, false, true≢false, cond}
use mathlib.Core.List.{List, [], ◌∷◌, ◌++◌}
use mathlib.Core.Logic.{by_cases}
use Prim.Native.Nat.{ℕ, zero, suc, ◌+◌, ◌≤◌, ◌<◌}
use native.Mathlib.Decide.{dec_le}
use native.Mathlib.Nat.{not-suc-le-zero, le_of_suc-le-suc}
use native.Mathlib.Omega.{arith}
use lib.Dec.{ltb}
use lib.ListN.{length, get_or, take, drop, get_or-map}
use borrow.Author.Tests.{lt-ltb, ltb-true, lt-leb, le-leb, le-ltb}
use Rattle.parts.proofs.Laws.{and_left, and_right}
use Rattle.peripheral_set.specs.declared.Entry.{Entry}
use Rattle.peripheral_set.specs.Marks.{slots, is_occupied, listed_from, listed}
use Rattle.master.specs.declared.unit.DpMaster.{DpMaster}
use Rattle.access.specs.Lookup.{entry_at}
use Rattle.forms.specs.Listing.{entries, shown, listed_in, overlay}
use Rattle.forms.proofs.Filling.{as_many}

module _ (marks : List Bool) (d : ℕ) where
  -- the k-th of those among n slots from i on
  abbrev at : ℕ → ℕ → ℕ → ℕ
  at n i k = get_or (listed_from n marks i) k d

  -- x is an occupied one among n slots from i on
  abbrev Among : ℕ → ℕ → ℕ → Type 0
  Among n i x = (i ≤ x) × (x < i + n) × (get_or marks x false ≡ true)

  wider : (n i x : ℕ) → Among n (i + 1) x → Among (suc n) i x
  wider n i x a = (omega (arith, a.0), omega (arith, a.1), a.2)

  among : (n i k : ℕ) → k < length (listed_from n marks i) → Among n i (at n i k)
  unfolding listed_from
  among zero i k h = absurd (not-suc-le-zero h)
  among (suc n) i k h = by_case (get_or marks i false) k refl (among n (i + 1)) h
    where
      by_case : (b : Bool) (k : ℕ) → get_or marks i false ≡ b → ((k : ℕ) → k < length (listed_from n marks (i + 1)) → Among n (i + 1) (at n (i + 1) k))
          → k < length (cond b (i ∷ listed_from n marks (i + 1)) (listed_from n marks (i + 1))) → Among (suc n) i (get_or (cond b (i ∷ listed_from n marks (i + 1)) (listed_from n marks (i + 1))) k d)
      by_case true zero e ih h = (omega arith, omega arith, e)
      by_case true (suc k) e ih h = wider n i _ (ih k (le_of_suc-le-suc h))
      by_case false k e ih h = wider n i _ (ih k h)

  rise : (n i j k : ℕ) → j < k → k < length (listed_from n marks i) → at n i j < at n i k
  unfolding listed_from
  rise zero i j k l h = absurd (not-suc-le-zero h)
  rise (suc n) i j k l h = by_case (get_or marks i false) j k (rise n (i + 1)) l h
    where
      by_case : (b : Bool) (j k : ℕ) → ((j k : ℕ) → j < k → k < length (listed_from n marks (i + 1)) → at n (i + 1) j < at n (i + 1) k) → j < k
          → k < length (cond b (i ∷ listed_from n marks (i + 1)) (listed_from n marks (i + 1)))
          → get_or (cond b (i ∷ listed_from n marks (i + 1)) (listed_from n marks (i + 1))) j d < get_or (cond b (i ∷ listed_from n marks (i + 1)) (listed_from n marks (i + 1))) k d
      by_case true j zero ih l h = absurd (not-suc-le-zero l)
      by_case true zero (suc k) ih l h = omega (arith, (among n (i + 1) k (le_of_suc-le-suc h)).0)
      by_case true (suc j) (suc k) ih l h = ih j k (le_of_suc-le-suc l) (le_of_suc-le-suc h)
      by_case false j k ih l h = ih j k l h

  -- x stands at some place of a list
  abbrev Has : List ℕ → ℕ → Type 0
  Has l x = (k : ℕ) × ((k < length l) × (get_or l k d ≡ x))

  later : (y : ℕ) (l : List ℕ) (x : ℕ) → Has l x → Has (y ∷ l) x
  later y l x s = (suc s.0, (omega (arith, s.1.0), s.1.1))

  found : (n i x : ℕ) → Among n i x → Has (listed_from n marks i) x
  unfolding listed_from
  found zero i x a = absurd (omega (arith, a.0, a.1))
  found (suc n) i x a = by_cases (dec_le (i + 1) x) (λ l. passed (get_or marks i false) (found n (i + 1) x (l, omega (arith, a.1), a.2))) (λ l. here (get_or marks i false) (omega (arith, a.0)) refl)
    where
      passed : (b : Bool) → Has (listed_from n marks (i + 1)) x → Has (cond b (i ∷ listed_from n marks (i + 1)) (listed_from n marks (i + 1))) x
      passed true s = later i (listed_from n marks (i + 1)) x s
      passed false s = s

      here : (b : Bool) → i ≡ x → get_or marks i false ≡ b → Has (cond b (i ∷ listed_from n marks (i + 1)) (listed_from n marks (i + 1))) x
      here true e t = (0, (omega arith, e))
      here false e t = absurd (true≢false (sym a.2 ∙ sym (ap (λ (y : ℕ). get_or marks y false) e) ∙ t))

-- ---- of the entries of a unit

module _ (m : DpMaster) where
  -- the slot of the k-th entry
  abbrev slot_at : ℕ → ℕ
  slot_at k = (get_or (entries m) k (entry_at m slots)).slot

  slot_of : (x : ℕ) → x < slots → (entry_at m x).slot ≡ x
  slot_of x l = rw (lt-ltb x slots l) refl

  slot_is : (k : ℕ) → k < length (entries m) → slot_at k ≡ get_or (listed m.occupied) k slots
  slot_is k h =
      ap (λ e. e.slot) (get_or-map (entry_at m) (listed m.occupied) k slots) ∙ slot_of (get_or (listed m.occupied) k slots) (among m.occupied slots slots 0 k (omega (arith, as_many m))).1

  -- the slots rise
  pub rising : (j k : ℕ) → j < k → k < length (entries m) → slot_at j < slot_at k
  rising j k l h = rw (slot_is j (omega arith), slot_is k h) (rise m.occupied slots slots 0 j k l (omega (arith, as_many m)))

  -- every entry is of an occupied slot
  pub occupied : (k : ℕ) → k < length (entries m) → is_occupied m.occupied (slot_at k) ≡ true
  occupied k h = let a = among m.occupied slots slots 0 k (omega (arith, as_many m)) in rw (slot_is k h, lt-ltb _ slots a.1) a.2

  -- each occupied slot has one
  pub complete : (x : ℕ) → is_occupied m.occupied x ≡ true → (k : ℕ) × ((k < length (entries m)) × (get_or (entries m) k (entry_at m slots) ≡ entry_at m x))
  complete x o =
      let f = found m.occupied slots slots 0 x (omega arith, ltb-true x slots (and_left (ltb x slots) (get_or m.occupied x false) o), and_right (ltb x slots) (get_or m.occupied x false) o) in
      (f.0, (omega (arith, as_many m, f.1.0), get_or-map (entry_at m) (listed m.occupied) f.0 slots ∙ ap (entry_at m) f.1.1))

-- ---- of the lent list

front : (new rest : List Entry) → (take (length new) (new ++ rest) ≡ new) × (drop (length new) (new ++ rest) ≡ rest)
front [] rest = (refl, refl)
front (x ∷ new) rest = (ap (λ (l : List Entry). x ∷ l) (front new rest).0, (front new rest).1)

module _ (m : DpMaster) (before : List Entry) where
  -- what is left of a list
  abbrev left : List Entry
  left = overlay (shown m (length before)) before

  -- a list that is too short: 2, no entry, nothing touched
  pub list_refused : length before < slots → (listed_in m (length before) ≡ (record { refusal = 2; count = 0 })) × (left ≡ before)
  list_refused l = rw (lt-leb slots (length before) l, lt-ltb (length before) slots l) (refl, refl)

  -- else all entries stand in front, and the rest is as it was
  pub list-filled : slots ≤ length before → (listed_in m (length before) ≡ (record { refusal = 0; count = length (entries m) }))
      × (take (length (entries m)) left ≡ entries m) × (drop (length (entries m)) left ≡ drop (length (entries m)) before)
  list-filled l = let f = front (entries m) (drop (length (entries m)) before) in rw (le-leb slots (length before) l, le-ltb (length before) slots l) (refl, f.0, f.1)
