-- The last diagnosis as one record: the numbers of the covered form, and the part of the pool that is its extended part.
-- From 01, "The unit and its sizes" (the last diagnosis), "Refusal numbers" (empty views) and `PeripheralDiagnostics`.
use Rattle.std.specs.Prelude.{◌≡◌, ℕ, cond, List, eqb}
use Rattle.std.specs.Borrow.{Bor}
use Rattle.parts.specs.Parts.{Itself}
use Rattle.payloads.specs.declared.diagnosis.DiagnosticsInfo.{DiagnosticsInfo}
use Rattle.payloads.specs.Diagnosis.{no_diagnosis}
use Rattle.station.specs.Record.{last_diagnosis}
use Rattle.peripheral_set.specs.declared.PeripheralHandle.{PeripheralHandle}
use Rattle.master.specs.declared.unit.DpMaster.{DpMaster}
use Rattle.access.specs.Lookup.{found_in, diag_number, extended_seen}
use Rattle.forms.specs.declared.diagnosis.PeripheralDiagnostics.{PeripheralDiagnostics}

-- the numbers: none before one is held, and when refused
abbrev pub last_numbers : DpMaster → PeripheralHandle → List ℕ → DiagnosticsInfo
last_numbers m h pool = cond (eqb (diag_number m h pool) 0) (last_diagnosis (found_in m h).station) no_diagnosis

-- the numbers of a record
abbrev pub numbers_of : PeripheralDiagnostics → DiagnosticsInfo
numbers_of r = record { flags = r.flags; ident_number = r.ident_number; master_address = r.master_address; held = r.held }

-- the part that a record refers to
abbrev pub part_of : PeripheralDiagnostics → Bor (List ℕ)
part_of r = r.extended_diagnostics

-- the part is that of the lent pool itself: empty before one is held, and when refused
pub record Says (m : DpMaster) (h : PeripheralHandle) (pool : Bor (List ℕ)) (r : PeripheralDiagnostics) : Type 0 where
  pub numbers : numbers_of r ≡ last_numbers m h pool.now
  pub part : Itself (extended_seen m h pool.now) pool (part_of r)
