-- What a caller asks of one balance: `reset_address`, and a wish for a diagnosis.
-- From 01, "The unit and its sizes" and "Refusal numbers".
use Rattle.std.specs.Prelude.{ℕ, Bool, true, cond, List, [], ◌∷◌, set, eqb}
use Rattle.refusals.specs.Table.{Row, handle_row, address_row, shared_row, first_of}
use Rattle.fdl.specs.declared.parameters.Parameters.{Parameters}
use Rattle.station.specs.Record.{due_is}
use Rattle.peripheral.specs.declared.record.Peripheral.{Peripheral}
use Rattle.peripheral.specs.Record.{reset_of, station_is}
use Rattle.peripheral_set.specs.declared.PeripheralHandle.{PeripheralHandle}
use Rattle.peripheral_set.specs.Marks.{is_occupied, handle_refusal}
use Rattle.addresses.specs.Addresses.{elsewhere}
use Rattle.cycle.specs.Seen.{index_of}
use Rattle.cycle.specs.State.{closed_for}
use Rattle.master.specs.declared.unit.DpMaster.{DpMaster}
use Rattle.master.specs.Unit.{Done, state_is, balances_are, balance_at}

-- a reset: the handle, then the address, which may be the balance's own but no other's
abbrev pub reset_rows : Parameters → List Bool → List Peripheral → PeripheralHandle → ℕ → List Row
reset_rows u marks all h address = handle_row (is_occupied marks h.slot) ∷ address_row address u.address ∷ shared_row (elsewhere marks all h.slot address) ∷ []

abbrev pub reset_refusal : Parameters → List Bool → List Peripheral → PeripheralHandle → ℕ → ℕ
reset_refusal u marks all h address = first_of (reset_rows u marks all h address)

-- the unit with another balance in a slot
abbrev pub balance_is : ℕ → Peripheral → DpMaster → DpMaster
balance_is slot p m = balances_are (set m.peripherals (index_of slot) p) m

-- the number, and the changed unit where it is 0
abbrev pub done_by : ℕ → DpMaster → DpMaster → Done
done_by n changed m = record { refusal = n; master = cond (eqb n 0) changed m }

-- `reset_address` closes that balance's request
unfoldable pub reset_done : DpMaster → PeripheralHandle → ℕ → Done
reset_done m h address =
    done_by (reset_refusal m.parameters m.occupied m.peripherals h address)
    (state_is (closed_for h.slot m.state) (balance_is h.slot (reset_of (balance_at m.peripherals h.slot) address) m)) m

unfoldable pub wish_done : DpMaster → PeripheralHandle → Done
wish_done m h =
    done_by (handle_refusal h m.occupied)
    (balance_is h.slot (station_is (due_is true (balance_at m.peripherals h.slot).station) (balance_at m.peripherals h.slot)) m) m
