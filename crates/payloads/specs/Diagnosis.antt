-- A diagnosis reply: when it is taken, and what it says.
-- From 01, "One visit and one reply", the paragraph on diagnosis replies, and "The unit and its sizes" on the last diagnosis.
use Rattle.std.specs.Prelude.{ℕ, ◌+◌, ◌-◌, ◌*◌, ◌/◌, ◌%◌, Bool, true, false, ◌&&◌, List, get_or, leb, eqb}
use Rattle.fdl.specs.Sap.{sap_number}
use Rattle.fdl.specs.declared.telegram.Telegram.{Telegram}
use Rattle.fdl.specs.declared.telegram.Telegram.TheVariants.{ShortConfirmation, Data, Token, Request}
use Rattle.payloads.specs.declared.diagnosis.DiagnosticsInfo.{DiagnosticsInfo}
use Rattle.payloads.specs.declared.diagnosis.DiagnosticFlags.{DiagnosticFlags}
use Rattle.payloads.specs.declared.diagnosis.DiagnosticFlags.TheVariants.{StationNotReady, ConfigurationFault, ExtDiag, ParameterFault, ParameterRequired, PermanentBit}

-- no diagnosis: the master is 255, none
abbrev pub no_diagnosis : DiagnosticsInfo
no_diagnosis = record { flags = 0; ident_number = 0; master_address = 255; held = false }

-- a reply with so many payload bytes is taken: data with DSAP 62, SSAP 60 and at least 6 bytes; status isn't looked at
abbrev pub taken : Telegram → ℕ → Bool
taken ShortConfirmation n = false
taken (Data dsap ssap status) n = eqb (sap_number dsap) 62 && eqb (sap_number ssap) 60 && leb 6 n
taken Token n = false
taken Request n = false

-- the weight of each flag that the code names
abbrev pub flag_weight : DiagnosticFlags → ℕ
flag_weight StationNotReady = 0x0002
flag_weight ConfigurationFault = 0x0004
flag_weight ExtDiag = 0x0008
flag_weight ParameterFault = 0x0040
flag_weight ParameterRequired = 0x0100
flag_weight PermanentBit = 0x0400

-- the flag of that weight is set
abbrev pub flag : ℕ → ℕ → Bool
flag weight f = eqb (f / weight % 2) 1

-- f with the flag of that weight removed
abbrev pub without : ℕ → ℕ → ℕ
without weight f = f - weight * (f / weight % 2)

-- flags are bytes 0 and 1, low byte first, with 0x0400 removed; byte 3 is the master; bytes 4 and 5 the ident, high byte first
unfoldable pub diagnosis_of : List ℕ → DiagnosticsInfo
diagnosis_of p =
    record {
      flags = without 0x0400 (get_or p 0 0 + 256 * get_or p 1 0);
      ident_number = 256 * get_or p 4 0 + get_or p 5 0;
      master_address = get_or p 3 0;
      held = true;
    }

-- 0x0008: the part from byte 6 is handed on
abbrev pub extended : List ℕ → Bool
extended p = flag 0x0008 (diagnosis_of p).flags
