-- The arrays: what a call is lent of one, what P and F fill in, the listing of H, and the sums of D.
-- From docs/SCRIPTS.md, "What the program holds", "Calls" (P, F, H) and "Answers" (the list array of H).
use Rattle.std.specs.Prelude.{◌≡◌, cond, ℕ, zero, suc, ◌+◌, ◌*◌, ◌/◌, ◌%◌, List, [], ◌∷◌, ◌++◌, length, drop, replicate, eqb, leb, ltb}
use Rattle.std.proofs.lemmas.List.Edits.{sets}
use Rattle.parts.specs.Parts.{View}
use Rattle.script_fields.specs.Write.{flag_number, sum_of}
use Rattle.peripheral_set.specs.declared.Entry.{Entry}
use Rattle.peripheral_set.specs.Marks.{listed}
use Rattle.master.specs.declared.unit.DpMaster.{DpMaster}
use Rattle.master.specs.Pools.{Pools, pools_of, lend}
use Rattle.access.specs.Lookup.{entry_at}
use Rattle.script_dump.specs.declared.Sums.{Sums}
use Rattle.script_driver.specs.declared.arrays.Arrays.{Arrays}

-- what a call is lent of an array: its first so many bytes, and no more than it has
abbrev pub lent_view : ℕ → List ℕ → View
lent_view n pool = record { start = 0; bytes = lend n pool }

abbrev pub short_of : ℕ → ℕ → ℕ
short_of n len = cond (leb n len) n len

-- what stands behind them
abbrev pub past_lent : ℕ → List ℕ → List ℕ
past_lent n pool = drop n pool

-- P: all bytes of an array become b
abbrev pub filled : ℕ → List ℕ → List ℕ
filled b pool = replicate (length pool) b

-- what a rule gives for the first n indices
unfoldable pub tabulated : (ℕ → ℕ) → ℕ → List ℕ
tabulated f zero = []
tabulated f (suc n) = tabulated f n ++ (f n ∷ [])

-- F: all entries of the list become (b, b, b mod 2)
abbrev pub entry_byte : ℕ → ℕ → ℕ
entry_byte b i = cond (eqb (i % 3) 2) (b % 2) b

abbrev pub filled_entries : ℕ → List ℕ → List ℕ
filled_entries b list = tabulated (entry_byte b) (length list)

-- H: entry k of the list is three bytes: slot, address, running; what has no room is left out
unfoldable pub put_entry : ℕ → Entry → List ℕ → List ℕ
put_entry k e list = cond (ltb k (length list / 3)) (sets list (3 * k) (e.slot ∷ e.address ∷ flag_number e.running ∷ [])) list

-- the balances in these slots are listed from entry k on
unfoldable pub put_entries : DpMaster → List ℕ → ℕ → List ℕ → List ℕ
put_entries m [] k list = list
put_entries m (slot ∷ rest) k list = put_entries m rest (k + 1) (put_entry k (entry_at m slot) list)

-- the listing in the list array, and how many bytes it has
pub record Entered (m : DpMaster) (list after : List ℕ) (r : ℕ) : Type 0 where
  pub len : r ≡ 3 * length (listed m.occupied)
  pub bytes : after ≡ put_entries m (listed m.occupied) 0 list

-- D: the checksums of the whole arrays
abbrev pub sums_of : List ℕ → List ℕ → List ℕ → List ℕ → Sums
sums_of setup inputs outputs diags = record { setup = sum_of setup; inputs = sum_of inputs; outputs = sum_of outputs; diags = sum_of diags }

-- ---- all arrays

-- the bytes of the four pool arrays
abbrev pub pools_held : Arrays → Pools
pools_held a = pools_of a.setup.now a.inputs.now a.outputs.now a.diags.now

-- the same arrays with other bytes in the four pools, in the payload, or in the list
abbrev pub pools_are : Pools → Arrays → Arrays
pools_are p a =
    record a {
      setup = record a.setup { now = p.setup };
      inputs = record a.inputs { now = p.inputs };
      outputs = record a.outputs { now = p.outputs };
      diags = record a.diags { now = p.diags };
    }

abbrev pub payload_is : List ℕ → Arrays → Arrays
payload_is bytes a = record a { payload = record a.payload { now = bytes } }

abbrev pub list_is : List ℕ → Arrays → Arrays
list_is bytes a = record a { list = record a.list { now = bytes } }
