-- Before a diagnosis is held, and when refused, the numbers of the record are "none" and its part is empty.
-- The idea: a view by its number is empty where that is not 0, and of a record that holds none no byte is stored.
use mathlib.Core.Path.{◌≡◌, refl}
use Prim.Native.Nat.{ℕ}
use mathlib.Core.Bool.{Bool, true, false, true≢false, cond}
use mathlib.Core.List.{List, []}
use lib.Dec.{eqb}
use borrow.Author.Tests.{ne_eqb}
use Rattle.std.specs.Result.{result_unwrap_or}
use Rattle.parts.specs.Parts.{inside, part}
use Rattle.parts.proofs.Laws.{by_test}
use Rattle.refusals.specs.Table.{given}
use Rattle.payloads.specs.declared.diagnosis.DiagnosticsInfo.{DiagnosticsInfo}
use Rattle.payloads.specs.Diagnosis.{no_diagnosis}
use Rattle.peripheral_set.specs.declared.PeripheralHandle.{PeripheralHandle}
use Rattle.master.specs.declared.unit.DpMaster.{DpMaster}
use Rattle.access.specs.Lookup.{found_in, diag_number, extended_seen}
use Rattle.forms.specs.Diagnosis.{last_numbers}

-- what is given, else what stands for it
pub given_or : {A : Type 0} (n : ℕ) (v w : A) → result_unwrap_or (given n v) w ≡ cond (eqb n 0) v w
unfolding given
given_or n v w = by_test (eqb n 0) (λ e. rw e refl) (λ e. rw e refl)

none_of : (at : ℕ) (l : List ℕ) → part at 0 l ≡ []
unfolding part
none_of at l = by_test (inside at 0 l) (λ e. rw e refl) (λ e. rw e refl)

-- no byte is stored of a balance that holds none
unstored : (first held : Bool) (at len : ℕ) (pool : List ℕ) → held ≡ false → cond first (part at (cond held len 0) pool) [] ≡ []
unstored true false at len pool e = none_of at pool
unstored false false at len pool e = refl
unstored first true at len pool e = absurd (true≢false e)

unread : (first held : Bool) (d : DiagnosticsInfo) → held ≡ false → cond first (cond held d no_diagnosis) no_diagnosis ≡ no_diagnosis
unread true false d e = refl
unread false false d e = refl
unread first true d e = absurd (true≢false e)

module _ (m : DpMaster) (h : PeripheralHandle) (pool : List ℕ) where
  -- before one is held
  pub none_before : (found_in m h).station.diag.held ≡ false → (last_numbers m h pool ≡ no_diagnosis) × ((extended_seen m h pool).bytes ≡ [])
  none_before e =
      let s = (found_in m h).station in
      let first = eqb (diag_number m h pool) 0 in
      (unread first s.diag.held s.diag e, unstored first s.diag.held (found_in m h).ranges.diag s.diag_len pool e)

  -- when refused
  pub none_refused : (diag_number m h pool ≡ 0 → ⊥) → (last_numbers m h pool ≡ no_diagnosis) × ((extended_seen m h pool).bytes ≡ [])
  none_refused z = let e = ne_eqb (diag_number m h pool) 0 z in (rw e refl, rw e refl)
