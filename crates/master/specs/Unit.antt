-- The unit: as created, with another state, and the balance in a slot.
-- From 01, "The unit and its sizes" (a fresh unit) and "Refusal numbers" (what a refused creation returns).
use Rattle.std.specs.Prelude.{ℕ, false, cond, List, get_or, replicate, eqb}
use Rattle.std.specs.Prelude.{Result}
use Rattle.refusals.specs.declared.Refusal.{Refusal}
use Rattle.refusals.specs.Table.{outcome, number_of}
use Rattle.fdl.specs.declared.parameters.Parameters.{Parameters}
use Rattle.fdl.specs.Params.{creation_refusal, in_force, lowest}
use Rattle.peripheral.specs.declared.record.Peripheral.{Peripheral}
use Rattle.peripheral.specs.Record.{blank}
use Rattle.peripheral_set.specs.Marks.{slots}
use Rattle.cycle.specs.declared.state.DpMasterState.{DpMasterState}
use Rattle.cycle.specs.State.{fresh_state}
use Rattle.cycle.specs.Seen.{index_of}
use Rattle.master.specs.declared.unit.DpMaster.{DpMaster}
use Rattle.master.specs.declared.unit.Created.{Created}

-- what a call leaves, and its number: 0 where it was done
pub record Done : Type 0 where
  pub refusal : ℕ
  pub master : DpMaster

-- by what it answers
abbrev pub done_of : Result Unit Refusal → DpMaster → Done
done_of r m = record { refusal = number_of r; master = m }

-- no balance, nothing used, in Stop
unfoldable pub empty_unit : Parameters → DpMaster
empty_unit u =
    record {
      state = fresh_state;
      parameters = u;
      used = record { setup = 0; inputs = 0; outputs = 0; diags = 0 };
      occupied = replicate slots false;
      peripherals = replicate slots blank;
    }

-- a refused creation leaves an empty unit in Stop whose parameters are all at their lowest
unfoldable pub created_of : Parameters → Done
created_of u = record { refusal = creation_refusal u; master = empty_unit (cond (eqb (creation_refusal u) 0) (in_force u) lowest) }

-- the same as `new` hands it out
abbrev pub creation : Done → Created
creation d = record { master = d.master; outcome = outcome d.refusal }

-- the state of the cycle and one slot's balance: all that turns and replies change
abbrev pub state_is : DpMasterState → DpMaster → DpMaster
state_is s m = record { state = s; parameters = m.parameters; used = m.used; occupied = m.occupied; peripherals = m.peripherals }

abbrev pub balances_are : List Peripheral → DpMaster → DpMaster
balances_are ps m = record { state = m.state; parameters = m.parameters; used = m.used; occupied = m.occupied; peripherals = ps }

-- the balance of a slot number
abbrev pub balance_at : List Peripheral → ℕ → Peripheral
balance_at ps slot = get_or ps (index_of slot) blank
