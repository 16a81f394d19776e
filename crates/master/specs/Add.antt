-- Adding a balance: the slot, the new balance with its ranges, the unit and the four pools afterwards.
-- From 01, "The unit and its sizes" ("Adding takes the first empty slot, ..") with the refusals of "Refusal numbers".
use Rattle.std.specs.Prelude.{◌≡◌, ℕ, ◌+◌, Bool, true, cond, List, [], ◌∷◌, ◌++◌, length, set, eqb, Result, Ok, Err}
use Rattle.parts.specs.Parts.{put_in, zeros}
use Rattle.refusals.specs.declared.Refusal.{Refusal}
use Rattle.refusals.specs.Table.{Row, room_row, first_of, number_of}
use Rattle.fdl.specs.declared.parameters.Parameters.{Parameters}
use Rattle.payloads.specs.declared.options.PeripheralOptions.{PeripheralOptions}
use Rattle.peripheral.specs.declared.record.Ranges.{Ranges}
use Rattle.peripheral.specs.declared.record.Peripheral.{Peripheral}
use Rattle.peripheral.specs.Record.{new_balance}
use Rattle.peripheral_set.specs.declared.PeripheralHandle.{PeripheralHandle}
use Rattle.peripheral_set.specs.Marks.{no_handle, first_empty}
use Rattle.addresses.specs.Addresses.{elsewhere}
use Rattle.cycle.specs.declared.refusal.Lengths.{Lengths}
use Rattle.cycle.specs.Refusal.{add_rows}
use Rattle.master.specs.declared.unit.DpMaster.{DpMaster}
use Rattle.master.specs.declared.unit.Used.{Used}
use Rattle.master.specs.declared.add.Addition.{Addition}
use Rattle.master.specs.Pools.{Pools, pool_lengths}

-- ---- what is asked for

-- absent set-up data has the length 0, whatever is lent (DECISIONS 14)
abbrev pub user_of : Addition → List ℕ → List ℕ
user_of a user = cond a.options.has_user_parameters user []

abbrev pub config_of : Addition → List ℕ → List ℕ
config_of a config = cond a.options.has_config config []

abbrev pub lengths_of : Addition → List ℕ → List ℕ → Lengths
lengths_of a user config =
    record { user = length (user_of a user); config = length (config_of a config); inputs = a.input_len; outputs = a.output_len; room = a.room }

-- ---- the new balance

-- where the four ranges stand: each after the used part of its pool
abbrev pub ranges_at : Used → Lengths → Ranges
ranges_at used l =
    record {
      setup = used.setup;
      inputs = used.inputs;
      outputs = used.outputs;
      diag = used.diags;
      input_len = l.inputs;
      output_len = l.outputs;
      diag_room = l.room;
    }

-- the options with the lengths of their set-up data; those that they came with are not looked at (DECISIONS 28)
abbrev pub options_held : PeripheralOptions → Lengths → PeripheralOptions
options_held o l =
    record {
      ident_number = o.ident_number;
      max_tsdr = o.max_tsdr;
      groups = o.groups;
      sync_mode = o.sync_mode;
      freeze_mode = o.freeze_mode;
      fail_safe = o.fail_safe;
      has_user_parameters = o.has_user_parameters;
      user_parameters = l.user;
      has_config = o.has_config;
      config = l.config;
    }

abbrev pub newcomer : DpMaster → Addition → Lengths → Peripheral
newcomer m a l = new_balance a.address (options_held a.options l) (ranges_at m.used l)

-- ---- the refusal

-- one of its four ranges passes its pool's end
abbrev pub room_rows : Parameters → Peripheral → List Row
room_rows u p =
    room_row p.ranges.setup (p.options.user_parameters + p.options.config) u.setup_pool
    ∷ room_row p.ranges.inputs p.ranges.input_len u.input_pool
    ∷ room_row p.ranges.outputs p.ranges.output_len u.output_pool
    ∷ room_row p.ranges.diag p.ranges.diag_room u.diag_pool
    ∷ []

unfoldable pub room_refusal : Parameters → Peripheral → ℕ
room_refusal u p = first_of (room_rows u p)

-- another balance has the address: the new one has no slot yet, so every occupied slot is another's
abbrev pub is_shared : DpMaster → Addition → Bool
is_shared m a = elsewhere m.occupied m.peripherals (first_empty m.occupied) a.address

-- what is lent, the table, the address and the lengths, and then the ranges
unfoldable pub refusal_of : DpMaster → Addition → Lengths → Pools → ℕ
refusal_of m a l pools =
    first_of (add_rows m.parameters (pool_lengths pools) (first_empty m.occupied) a.address (is_shared m a) l ++ room_rows m.parameters (newcomer m a l))

-- ---- what is left

-- the used parts end where the new ranges do
abbrev pub used_after : Peripheral → Used
used_after p =
    record {
      setup = p.ranges.setup + (p.options.user_parameters + p.options.config);
      inputs = p.ranges.inputs + p.ranges.input_len;
      outputs = p.ranges.outputs + p.ranges.output_len;
      diags = p.ranges.diag + p.ranges.diag_room;
    }

-- the unit with the balance in the first empty slot
abbrev pub unit_added : DpMaster → Peripheral → DpMaster
unit_added m p =
    record {
      state = m.state;
      parameters = m.parameters;
      used = used_after p;
      occupied = set m.occupied (first_empty m.occupied) true;
      peripherals = set m.peripherals (first_empty m.occupied) p;
    }

-- set-up data is copied in: the user parameters first, the configuration right after (DECISIONS 2)
abbrev pub setup_after : ℕ → List ℕ → List ℕ → List ℕ → List ℕ
setup_after at user config setup = put_in (at + length user) (length config) config (put_in at (length user) user setup)

-- the other three ranges are zeroed
abbrev pub cleared : ℕ → ℕ → List ℕ → List ℕ
cleared at len pool = put_in at len (zeros len) pool

abbrev pub pools_after : Peripheral → List ℕ → List ℕ → Pools → Pools
pools_after p user config pools =
    record {
      setup = setup_after p.ranges.setup user config pools.setup;
      inputs = cleared p.ranges.inputs p.ranges.input_len pools.inputs;
      outputs = cleared p.ranges.outputs p.ranges.output_len pools.outputs;
      diags = cleared p.ranges.diag p.ranges.diag_room pools.diags;
    }

-- what an add leaves, its number and the handle of the new balance
pub record Added : Type 0 where
  pub refusal : ℕ
  pub handle : PeripheralHandle
  pub master : DpMaster

-- the handle of the new balance; a refused add has none
abbrev pub handle_given : Result PeripheralHandle Refusal → PeripheralHandle
handle_given (Ok h) = h
handle_given (Err r) = no_handle

-- by what it answers
abbrev pub added_of : Result PeripheralHandle Refusal → DpMaster → Added
added_of r m = record { refusal = number_of r; handle = handle_given r; master = m }

-- what an add promises: n is its refusal, p the new balance; a refused add has no handle (DECISIONS 10)
pub record Adds (n : ℕ) (p : Peripheral) (m : DpMaster) (user config : List ℕ) (pools out : Pools) (r : Added) : Type 0 where
  pub refusal : r.refusal ≡ n
  pub handle : r.handle ≡ cond (eqb n 0) (record { slot = first_empty m.occupied; address = p.station.address }) no_handle
  pub after : r.master ≡ cond (eqb n 0) (unit_added m p) m
  pub written : out ≡ cond (eqb n 0) (pools_after p user config pools) pools

abbrev pub Adding : DpMaster → Addition → List ℕ → List ℕ → Pools → Pools → Added → Type 0
Adding m a user config pools out r =
    Adds (refusal_of m a (lengths_of a user config) pools) (newcomer m a (lengths_of a user config)) m (user_of a user) (config_of a config) pools out r
