-- Facts of slots hold after any calls.
-- The idea: every occupied slot lives (Promised), and what lives has every fact (Lives).
use Prim.Native.Nat.{ℕ}
use mathlib.Core.List.{List}
use lib.Dec.{T}
use Rattle.fdl.specs.declared.parameters.Parameters.{Parameters}
use Rattle.master.specs.Pools.{Pools}
use Rattle.call_log.specs.Calls.{Call}
use Rattle.call_log.specs.Notes.{Note}
use Rattle.call_log.specs.Entries.{slot_log, occupied_in}
use Rattle.call_log.specs.Run.{run}
use Rattle.call_log.proofs.Lives.{Slot, SlotFact, always}
use Rattle.call_log.proofs.Units.{slot_at}
use Rattle.call_log.proofs.Promised.{lives_run}

pub fact_holds : (P : ℕ → Slot → List Note → Type 0) → ((limit : ℕ) → SlotFact limit (P limit))
    → (u : Parameters) (pools : Pools) (cs : List Call) (s : ℕ) → T (occupied_in (run u pools cs).log s) → let w = (run u pools cs).world in
    P w.unit.parameters.max_retry_limit (slot_at w s) (slot_log s (run u pools cs).log)
fact_holds P f u pools cs s h = always (f _) (lives_run u pools cs s h)
