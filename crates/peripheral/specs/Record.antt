-- The record of a balance: as newly added, after a reset, and its parts of the pools.
-- From 01, "The unit and its sizes": adding, `reset_address`, images, the last diagnosis.
use Rattle.std.specs.Prelude.{ℕ, ◌+◌, false, List}
use Rattle.parts.specs.Parts.{part, View, view_at}
use Rattle.payloads.specs.declared.options.PeripheralOptions.{PeripheralOptions}
use Rattle.station.specs.declared.record.Station.{Station}
use Rattle.station.specs.Record.{new_station, stored_part}
use Rattle.peripheral.specs.declared.record.Ranges.{Ranges}
use Rattle.peripheral.specs.declared.record.Peripheral.{Peripheral}

-- what an empty slot holds: zeros throughout
abbrev pub blank : Peripheral
blank =
    record {
      station =
          record {
            address = 0;
            state = 0;
            retry_count = 0;
            fcb = 0;
            diag_needed = false;
            diag_len = 0;
            diag = record { flags = 0; ident_number = 0; master_address = 0; held = false };
          };
      ranges = record { setup = 0; inputs = 0; outputs = 0; diag = 0; input_len = 0; output_len = 0; diag_room = 0 };
      options =
          record {
            ident_number = 0;
            max_tsdr = 0;
            groups = 0;
            sync_mode = false;
            freeze_mode = false;
            fail_safe = false;
            has_user_parameters = false;
            user_parameters = 0;
            has_config = false;
            config = 0;
          };
    }

-- as newly added
abbrev pub new_balance : ℕ → PeripheralOptions → Ranges → Peripheral
new_balance a o r = record { station = new_station a; ranges = r; options = o }

-- with another station: all that visits and replies change
abbrev pub station_is : Station → Peripheral → Peripheral
station_is s p = record { station = s; ranges = p.ranges; options = p.options }

-- set-up data and images stay where they are; all else is as newly added
abbrev pub reset_of : Peripheral → ℕ → Peripheral
reset_of p a = new_balance a p.options p.ranges

-- ---- its parts of the pools: each with its place, and its bytes

abbrev pub input_view : Peripheral → List ℕ → View
input_view p inputs = view_at p.ranges.inputs p.ranges.input_len inputs

abbrev pub input_image : Peripheral → List ℕ → List ℕ
input_image p inputs = (input_view p inputs).bytes

abbrev pub output_view : Peripheral → List ℕ → View
output_view p outputs = view_at p.ranges.outputs p.ranges.output_len outputs

abbrev pub output_image : Peripheral → List ℕ → List ℕ
output_image p outputs = (output_view p outputs).bytes

-- the extended part of the last diagnosis
abbrev pub extended_view : Peripheral → List ℕ → View
extended_view p diags = view_at p.ranges.diag (stored_part p.station) diags

abbrev pub last_extended : Peripheral → List ℕ → List ℕ
last_extended p diags = (extended_view p diags).bytes

-- in the set-up range the user parameters come first, the configuration right after
abbrev pub user_part : Peripheral → List ℕ → List ℕ
user_part p setup = part p.ranges.setup p.options.user_parameters setup

abbrev pub config_part : Peripheral → List ℕ → List ℕ
config_part p setup = part (p.ranges.setup + p.options.user_parameters) p.options.config setup
