-- What is read of a unit by handle, the output write, and the listing.
-- From 01, "Refusal numbers" (2, 4, 11, empty views), "The unit and its sizes" (the last diagnosis), the new form of `ManagedSlice` (the part itself, empty when refused) and "iter".
use Rattle.std.specs.Prelude.{◌≡◌, ℕ, Bool, false, cond, List, [], ◌∷◌, ◌++◌, length, get_or, eqb, ltb, Result}
use Rattle.parts.specs.Parts.{put_in, View}
use Rattle.refusals.specs.declared.Refusal.{Refusal}
use Rattle.refusals.specs.Table.{Row, lent_row, handle_row, write_row, first_of, given}
use Rattle.payloads.specs.declared.diagnosis.DiagnosticsInfo.{DiagnosticsInfo}
use Rattle.station.specs.Record.{is_running, last_diagnosis}
use Rattle.peripheral.specs.declared.record.Peripheral.{Peripheral}
use Rattle.peripheral.specs.Record.{blank, input_view, output_view, extended_view}
use Rattle.peripheral_set.specs.declared.PeripheralHandle.{PeripheralHandle}
use Rattle.peripheral_set.specs.declared.Entry.{Entry}
use Rattle.peripheral_set.specs.Marks.{slots, no_handle, is_occupied}
use Rattle.master.specs.declared.unit.DpMaster.{DpMaster}
use Rattle.master.specs.Unit.{balance_at}
use Rattle.access.specs.declared.images.ImageRange.{ImageRange}

-- the balance of a handle; a blank record where the handle is refused (DECISIONS 23)
unfoldable pub found_in : DpMaster → PeripheralHandle → Peripheral
found_in m h = cond (is_occupied m.occupied h.slot) (balance_at m.peripherals h.slot) blank

-- a call that is lent one pool: the pool, then the handle
abbrev pub pooled_rows : ℕ → ℕ → PeripheralHandle → List Bool → List Row
pooled_rows lent pool h marks = lent_row lent pool ∷ handle_row (is_occupied marks h.slot) ∷ []

abbrev pub pooled_refusal : ℕ → ℕ → PeripheralHandle → List Bool → ℕ
pooled_refusal lent pool h marks = first_of (pooled_rows lent pool h marks)

-- the numbers of the calls that are lent one pool
abbrev pub input_number : DpMaster → PeripheralHandle → List ℕ → ℕ
input_number m h inputs = pooled_refusal (length inputs) m.parameters.input_pool h m.occupied

abbrev pub output_number : DpMaster → PeripheralHandle → List ℕ → ℕ
output_number m h outputs = pooled_refusal (length outputs) m.parameters.output_pool h m.occupied

abbrev pub diag_number : DpMaster → PeripheralHandle → List ℕ → ℕ
diag_number m h diags = pooled_refusal (length diags) m.parameters.diag_pool h m.occupied

-- a view by its number: the part where it is 0, else nothing, at the front of the pool (DECISIONS 40)
abbrev pub view_of : ℕ → View → View
view_of n v = record { start = cond (eqb n 0) v.start 0; bytes = cond (eqb n 0) v.bytes [] }

-- the input image, the output image and the extended part of a handle's balance
abbrev pub inputs_seen : DpMaster → PeripheralHandle → List ℕ → View
inputs_seen m h inputs = view_of (input_number m h inputs) (input_view (found_in m h) inputs)

abbrev pub outputs_seen : DpMaster → PeripheralHandle → List ℕ → View
outputs_seen m h outputs = view_of (output_number m h outputs) (output_view (found_in m h) outputs)

abbrev pub extended_seen : DpMaster → PeripheralHandle → List ℕ → View
extended_seen m h diags = view_of (diag_number m h diags) (extended_view (found_in m h) diags)

-- where the view lies, or the number
abbrev pub range_of : ℕ → View → Result ImageRange Refusal
range_of n v = given n (record { start = v.start; len = length v.bytes })

-- the last diagnosis, none before one is held; or the number
abbrev pub last_of : ℕ → Peripheral → Result DiagnosticsInfo Refusal
last_of n p = given n (last_diagnosis p.station)

-- an output write: the lent pool, the handle, and the length
unfoldable pub write_refusal : DpMaster → PeripheralHandle → List ℕ → List ℕ → ℕ
write_refusal m h bytes outputs =
    first_of (pooled_rows (length outputs) m.parameters.output_pool h m.occupied ++ (write_row (length bytes) (found_in m h).ranges.output_len ∷ []))

pub record OutputsWritten (m : DpMaster) (h : PeripheralHandle) (bytes outputs out : List ℕ) (r : ℕ) : Type 0 where
  pub answer : r ≡ write_refusal m h bytes outputs
  pub pool : out
      ≡ cond (eqb (write_refusal m h bytes outputs) 0) (put_in (found_in m h).ranges.outputs (found_in m h).ranges.output_len bytes outputs) outputs

-- one row of the listing; no handle where there is no such slot
abbrev pub entry_at : DpMaster → ℕ → Entry
entry_at m slot =
    cond (ltb slot slots)
    (record { slot = slot; address = (get_or m.peripherals slot blank).station.address; running = is_running (get_or m.peripherals slot blank).station })
    (record { slot = no_handle.slot; address = no_handle.address; running = false })
