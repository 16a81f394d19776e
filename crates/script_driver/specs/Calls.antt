-- The calls on the lent parts of the arrays, and what stands in the arrays afterwards.
-- From docs/SCRIPTS.md, "What the program holds" (which arrays a call takes) and "Calls".
-- A call does to the lent parts what its contract says; behind them the array is as it was.
use Rattle.std.specs.Prelude.{◌≡◌, ℕ, ◌*◌, Bool, cond, List, length, leb, Result, Ok, Err}
use Rattle.refusals.specs.declared.Refusal.{Refusal}
use Rattle.refusals.specs.declared.Refusal.TheVariants.{BadLent}
use Rattle.fdl.specs.declared.telegram.Telegram.{Telegram}
use Rattle.peripheral_set.specs.declared.PeripheralHandle.{PeripheralHandle}
use Rattle.peripheral_set.specs.Marks.{slots, listed}
use Rattle.master.specs.declared.add.Addition.{Addition}
use Rattle.master.specs.Pools.{pools_of, lend}
use Rattle.master.specs.Add.{Added, Adding}
use Rattle.master.specs.Turn.{Turn, Turned}
use Rattle.master.specs.Receive.{Answered, Received}
use Rattle.access.specs.Lookup.{OutputsWritten}
use Rattle.script_driver.specs.declared.run.Run.{Run}
use Rattle.script_driver.specs.Arrays.{past_lent, filled, filled_entries, put_entries}

-- P
pub record PoolsFilled (b : ℕ) (setup inputs outputs diags out_setup out_inputs out_outputs out_diags : List ℕ) : Type 0 where
  pub setup_pool : out_setup ≡ filled b setup
  pub input_pool : out_inputs ≡ filled b inputs
  pub output_pool : out_outputs ≡ filled b outputs
  pub diag_pool : out_diags ≡ filled b diags

-- F
pub record PayloadFilled (b : ℕ) (payload list out_payload out_list : List ℕ) : Type 0 where
  pub bytes : out_payload ≡ filled b payload
  pub entries : out_list ≡ filled_entries b list

-- what stands behind the lent part of an array is as it was
abbrev pub RunKept : ℕ → List ℕ → List ℕ → Type 0
RunKept n pool out = past_lent n out ≡ past_lent n pool

-- A: s, i, q, d
pub record LentAdd (run : Run) (a : Addition) (user config setup inputs outputs diags out_setup out_inputs out_outputs out_diags : List ℕ) (r : Added) : Type 0 where
  pub call : Adding run.unit a user config
      (pools_of (lend run.lent.setup setup) (lend run.lent.inputs inputs) (lend run.lent.outputs outputs) (lend run.lent.diags diags))
      (pools_of (lend run.lent.setup out_setup) (lend run.lent.inputs out_inputs) (lend run.lent.outputs out_outputs) (lend run.lent.diags out_diags)) r
  pub setup_pool : RunKept run.lent.setup setup out_setup
  pub input_pool : RunKept run.lent.inputs inputs out_inputs
  pub output_pool : RunKept run.lent.outputs outputs out_outputs
  pub diag_pool : RunKept run.lent.diags diags out_diags

-- T: s, q, payload
pub record LentTurn (run : Run) (time : ℕ) (high : Bool) (setup outputs payload out : List ℕ) (r : Turn) : Type 0 where
  pub call : Turned run.unit time high (lend run.lent.setup setup) (lend run.lent.outputs outputs) (lend run.lent.payload payload) (lend run.lent.payload out) r
  pub payload_array : RunKept run.lent.payload payload out

-- R: i, d
pub record LentReply (run : Run) (address : ℕ) (t : Telegram) (payload inputs diags out_inputs out_diags : List ℕ) (r : Answered) : Type 0 where
  pub call : Received run.unit address t payload (lend run.lent.inputs inputs) (lend run.lent.diags diags) (lend run.lent.inputs out_inputs) (lend run.lent.diags out_diags) r
  pub input_pool : RunKept run.lent.inputs inputs out_inputs
  pub diag_pool : RunKept run.lent.diags diags out_diags

-- W: q
pub record LentWrite (run : Run) (h : PeripheralHandle) (bytes outputs out : List ℕ) (r : ℕ) : Type 0 where
  pub call : OutputsWritten run.unit h bytes (lend run.lent.outputs outputs) (lend run.lent.outputs out) r
  pub output_pool : RunKept run.lent.outputs outputs out

-- H: a lent list under 32 entries is refused as 2, and nothing is listed
abbrev pub listing_of : Bool → List ℕ → Result ℕ Refusal
listing_of enough slots = cond enough (Ok (3 * length slots)) (Err BadLent)

pub record ListingDone (run : Run) (list out : List ℕ) (r : Result ℕ Refusal) : Type 0 where
  pub answer : r ≡ listing_of (leb slots run.lent.list) (listed run.unit.occupied)
  pub bytes : out ≡ cond (leb slots run.lent.list) (put_entries run.unit (listed run.unit.occupied) 0 list) list
