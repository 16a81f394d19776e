-- The listing of the set in a lent list of entries.
-- From 01, "iter" (occupied slots in rising order; their count is returned, the rest unchanged) and "Refusal numbers", No. 2 (list under 32 entries).
use Rattle.std.specs.Prelude.{◌≡◌, cond, ℕ, List, [], ◌∷◌, ◌++◌, map, length, drop, leb, Result, Ok, Err}
use Rattle.refusals.specs.declared.Refusal.{Refusal}
use Rattle.refusals.specs.Table.{list_row, first_of, refusal_number}
use Rattle.peripheral_set.specs.declared.Entry.{Entry}
use Rattle.peripheral_set.specs.Marks.{slots, listed}
use Rattle.master.specs.declared.unit.DpMaster.{DpMaster}
use Rattle.access.specs.Lookup.{entry_at}

-- one entry for each occupied slot, in rising order
abbrev pub entries : DpMaster → List Entry
entries m = map (entry_at m) (listed m.occupied)

-- a list under 32 entries is refused
abbrev pub list_refusal : ℕ → ℕ
list_refusal room = first_of (list_row slots room ∷ [])

-- what is written into a list of so many entries: all of them, or nothing where it is refused
abbrev pub shown : DpMaster → ℕ → List Entry
shown m room = cond (leb slots room) (entries m) []

-- the number, 0 or that which refuses the list, and how many entries stand at its front, 0 when refused
pub record Listed : Type 0 where
  pub refusal : ℕ
  pub count : ℕ

-- by what it answers
abbrev pub listed_by : Result ℕ Refusal → Listed
listed_by (Ok n) = record { refusal = 0; count = n }
listed_by (Err r) = record { refusal = refusal_number r; count = 0 }

abbrev pub listed_in : DpMaster → ℕ → Listed
listed_in m room = record { refusal = list_refusal room; count = length (shown m room) }

-- new at the front of old, and the rest of old unchanged
abbrev pub overlay : List Entry → List Entry → List Entry
overlay new old = new ++ drop (length new) old

pub record Iterated (m : DpMaster) (before after : List Entry) (r : Listed) : Type 0 where
  pub answer : r ≡ listed_in m (length before)
  pub list : after ≡ overlay (shown m (length before)) before
