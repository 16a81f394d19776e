-- The four pools of a unit, and what a call is lent of the arrays that hold them.
-- From 01, "The unit and its sizes" (ranges in four pools) and "Refusal numbers" (lent pools; DECISIONS 34).
use Rattle.std.specs.Prelude.{ℕ, Bool, cond, List, ◌++◌, length, take, drop}
use Rattle.cycle.specs.declared.refusal.Lent.{Lent}

pub record Pools : Type 0 where
  pub setup : List ℕ
  pub inputs : List ℕ
  pub outputs : List ℕ
  pub diags : List ℕ

abbrev pub pools_of : List ℕ → List ℕ → List ℕ → List ℕ → Pools
pools_of setup inputs outputs diags = record { setup = setup; inputs = inputs; outputs = outputs; diags = diags }

-- their lengths
abbrev pub pool_lengths : Pools → Lent
pool_lengths pools = record { setup = length pools.setup; inputs = length pools.inputs; outputs = length pools.outputs; diags = length pools.diags }

-- ---- what a call is lent of the caller's four arrays

-- a call is lent the first so many bytes of an array
abbrev pub lend : ℕ → List ℕ → List ℕ
lend n pool = take n pool

-- the array afterwards: what the call left in that part, and the rest as it was
abbrev pub back : ℕ → List ℕ → List ℕ → List ℕ
back n out pool = out ++ drop n pool

-- the array after a call that does f to the part that it is lent, where it is not refused
abbrev pub after_lent : Bool → ℕ → (List ℕ → List ℕ) → List ℕ → List ℕ
after_lent ok n f pool = back n (cond ok (f (lend n pool)) (lend n pool)) pool

-- all four
abbrev pub lend_all : Lent → Pools → Pools
lend_all lent pools = pools_of (lend lent.setup pools.setup) (lend lent.inputs pools.inputs) (lend lent.outputs pools.outputs) (lend lent.diags pools.diags)

abbrev pub back_all : Lent → Pools → Pools → Pools
back_all lent out pools =
    pools_of (back lent.setup out.setup pools.setup) (back lent.inputs out.inputs pools.inputs) (back lent.outputs out.outputs pools.outputs)
    (back lent.diags out.diags pools.diags)
