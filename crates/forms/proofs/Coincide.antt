-- Any two results that a contract of this crate allows coincide: answer, lent list, what the record says, and where its part lies.
-- The idea: each contract is an equation for all that it leaves; a law beside it holds the equation to the contract's own text.
use mathlib.Core.Path.{◌≡◌, refl, sym, ap, ◌∙◌}
use Prim.Native.Nat.{ℕ}
use mathlib.Core.List.{List}
use seplogic.Ra.Ura.{Ura}
use base.Logic.{SProp}
use prog.Memory.{Memory}
use prog.Routine.{Routine}
use types.Logic.{Logic}
use contract.Lifetimes.{Lfts}
use contract.Monad.{Fun, fact}
use denote.Ref.{Bor, MutBor}
use Rattle.std.specs.Prelude.{Result, Ok, Err}
use Rattle.parts.specs.Parts.{SamePart}
use Rattle.parts.proofs.Laws.{itself_same}
use Rattle.refusals.specs.declared.Refusal.{Refusal}
use Rattle.refusals.specs.Table.{outcome, refusal_number}
use Rattle.refusals.proofs.Laws.{refused, given-not}
use Rattle.peripheral_set.specs.declared.Entry.{Entry}
use Rattle.peripheral_set.specs.declared.PeripheralHandle.{PeripheralHandle}
use Rattle.master.specs.declared.unit.DpMaster.{DpMaster}
use Rattle.forms.specs.declared.diagnosis.PeripheralDiagnostics.{PeripheralDiagnostics}
use Rattle.forms.specs.Listing.{Listed, listed_by, Iterated}
use Rattle.access.specs.Lookup.{diag_number}
use Rattle.forms.specs.Diagnosis.{numbers_of, part_of, Says}
use Rattle.forms.specs.contracts.listing.iter as iter
use Rattle.forms.specs.contracts.diagnosis.last_diagnostics as last
use Rattle.forms.specs.contracts.diagnosis.last_diagnostics_refusal as number
use Rattle.forms.specs.contracts.diagnosis.extended as extended

-- ---- the listing

-- no refusal has the number 0
not_zero : (r : Refusal) → refusal_number r ≡ 0 → ⊥
not_zero r z = given-not (refusal_number r) tt (refused r) z

-- and no two have the same
same_listed : (r r' : Result ℕ Refusal) → listed_by r ≡ listed_by r' → r ≡ r'
same_listed (Ok n) (Ok k) e = ap (λ (l : Listed). Ok l.count) e
same_listed (Ok n) (Err b) e = absurd (not_zero b (sym (ap (λ (l : Listed). l.refusal) e)))
same_listed (Err a) (Ok k) e = absurd (not_zero a (ap (λ (l : Listed). l.refusal) e))
same_listed (Err a) (Err b) e = cc (sym (refused a) ∙ ap (λ (l : Listed). outcome l.refusal) e ∙ refused b)

-- the answer, and the whole lent list
pub iter_coincides : (m : DpMaster) (list out out' : List Entry) (r r' : Result ℕ Refusal) → Iterated m list out (listed_by r) → Iterated m list out' (listed_by r') → (r ≡ r') × (out ≡ out')
iter_coincides m list out out' r r' one two = (same_listed r r' (one.answer ∙ sym two.answer), one.list ∙ sym two.list)

-- ---- the diagnosis

-- the number
pub number_coincides : (m : DpMaster) (h : PeripheralHandle) (pool : List ℕ) (r r' : Result Unit Refusal) → r ≡ outcome (diag_number m h pool) → r' ≡ outcome (diag_number m h pool) → r ≡ r'
number_coincides m h pool r r' one two = one ∙ sym two

-- the record: its numbers, the bytes of its part, and where that lies
pub last_coincides : (m : DpMaster) (h : PeripheralHandle) (pool : Bor (List ℕ)) (r r' : PeripheralDiagnostics) → Says m h pool r → Says m h pool r'
    → (numbers_of r ≡ numbers_of r') × SamePart (part_of r) (part_of r')
last_coincides m h pool r r' one two = (one.numbers ∙ sym two.numbers, itself_same one.part two.part)

-- the part read back, and where it lies
pub extended_coincides : (d : PeripheralDiagnostics) (r r' : Bor (List ℕ)) → r ≡ part_of d → r' ≡ part_of d → r ≡ r'
extended_coincides d r r' one two = one ∙ sym two

-- ---- these are what the contracts say

module _ {M : Type 1} {𝓤 : Ura M} (𝓛 : Logic 𝓤) (mem : Memory → SProp 𝓤) (run : Routine → Fun 𝓤) (κs : Lfts 2) where
  pub iter_says : (m : Bor DpMaster) (list last : MutBor (List Entry)) (r : Result ℕ Refusal)
      → iter.ensures-1 𝓛 κs mem run m list (record { entry = m; exit = m }) (record { entry = list; exit = last }) r ≡ fact 𝓤 (Iterated m.now list.now last.now (listed_by r))
  iter_says m list last r = refl

  pub number-says : (m : Bor DpMaster) (h : PeripheralHandle) (pool : Bor (List ℕ)) (r : Result Unit Refusal)
      → number.ensures-1 𝓛 κs mem run m h pool (record { entry = m; exit = m }) (record { entry = h; exit = h }) (record { entry = pool; exit = pool }) r ≡ fact 𝓤 (r ≡ outcome (diag_number m.now h pool.now))
  number-says m h pool r = refl

  pub last_says : (m : Bor DpMaster) (h : PeripheralHandle) (pool : Bor (List ℕ)) (r : PeripheralDiagnostics)
      → last.ensures-1 𝓛 κs mem run m h pool (record { entry = m; exit = m }) (record { entry = h; exit = h }) (record { entry = pool; exit = pool }) r ≡ fact 𝓤 (Says m.now h pool r)
  last_says m h pool r = refl

module _ {M : Type 1} {𝓤 : Ura M} (𝓛 : Logic 𝓤) (mem : Memory → SProp 𝓤) (run : Routine → Fun 𝓤) (κs : Lfts 1) where
  pub extended-says : (d : PeripheralDiagnostics) (s : Bor (List ℕ)) → extended.ensures-1 𝓛 κs mem run d (record { entry = d; exit = d }) s ≡ fact 𝓤 (s ≡ part_of d)
  extended-says d s = refl
