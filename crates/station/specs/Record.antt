-- The part of a balance's record that visits and replies change: as newly added, what each rule changes in it, and what is read off it.
-- From 01, "The unit and its sizes" (adding, the last diagnosis) and "One visit and one reply" (count, bit, due).
use Rattle.std.specs.Prelude.{ℕ, ◌+◌, Bool, false, cond, ltb}
use Rattle.fdl.specs.Bits.{cycled, bit_number, bit_of}
use Rattle.fdl.specs.declared.telegram.FrameCountBit.TheVariants.{First}
use Rattle.payloads.specs.declared.diagnosis.DiagnosticsInfo.{DiagnosticsInfo}
use Rattle.payloads.specs.Diagnosis.{no_diagnosis}
use Rattle.station.specs.declared.record.Station.{Station}
use Rattle.station.specs.declared.state.PeripheralState.{PeripheralState}
use Rattle.station.specs.declared.state.PeripheralState.TheVariants.{Offline}
use Rattle.station.specs.State.{number_of, state_of, live_state, running_state}

-- as newly added: Offline, count 0, the bit at First, no diagnosis held or due, stored length 0
abbrev pub new_station : ℕ → Station
new_station a =
    record {
      address = a;
      state = number_of Offline;
      retry_count = 0;
      fcb = bit_number First;
      diag_needed = false;
      diag_len = 0;
      diag = no_diagnosis;
    }

-- what visits and replies can change: state, count, bit, due, stored length, last diagnosis
abbrev pub changed : Station → ℕ → ℕ → ℕ → Bool → ℕ → DiagnosticsInfo → Station
changed p state count bit due stored diag =
    record {
      address = p.address;
      state = state;
      retry_count = count;
      fcb = bit;
      diag_needed = due;
      diag_len = stored;
      diag = diag;
    }

-- in another state
abbrev pub in_state : PeripheralState → Station → Station
in_state s p = changed p (number_of s) p.retry_count p.fcb p.diag_needed p.diag_len p.diag

-- with another count
abbrev pub counting : ℕ → Station → Station
counting n p = changed p p.state n p.fcb p.diag_needed p.diag_len p.diag

-- with the frame bit cycled
abbrev pub cycling : Station → Station
cycling p = changed p p.state p.retry_count (bit_number (cycled (bit_of p.fcb))) p.diag_needed p.diag_len p.diag

-- with the frame bit at First
abbrev pub starting : Station → Station
starting p = changed p p.state p.retry_count (bit_number First) p.diag_needed p.diag_len p.diag

-- a fall leaves it Offline, with the frame bit at First
abbrev pub fallen : Station → Station
fallen p = starting (in_state Offline p)

-- with a diagnosis due, or none
abbrev pub due_is : Bool → Station → Station
due_is b p = changed p p.state p.retry_count p.fcb b p.diag_len p.diag

-- with another diagnosis held, and so many bytes of extended part stored
abbrev pub holding : DiagnosticsInfo → ℕ → Station → Station
holding d n p = changed p p.state p.retry_count p.fcb p.diag_needed n d

-- with a diagnosis taken, and so many bytes of extended part stored: taking cycles the frame bit
unfoldable pub with_diagnosis : DiagnosticsInfo → ℕ → Station → Station
with_diagnosis d n p = cycling (holding d n p)

-- one more, which stays at 255
abbrev pub one_more : ℕ → ℕ
one_more n = cond (ltb n 255) (n + 1) 255

-- ---- what the accessors read

abbrev pub is_live : Station → Bool
is_live p = live_state (state_of p.state)

abbrev pub is_running : Station → Bool
is_running p = running_state (state_of p.state)

-- the diagnosis held, or none
abbrev pub last_diagnosis : Station → DiagnosticsInfo
last_diagnosis p = cond p.diag.held p.diag no_diagnosis

-- and how many bytes of extended part are stored
abbrev pub stored_part : Station → ℕ
stored_part p = cond p.diag.held p.diag_len 0
