-- `Valid`: what holds of every unit that was created, whatever calls came after.
-- From 01, "The unit and its sizes" (ranges, limits, addresses, the watchdog), "One turn" (place, global control), "One visit and one reply" (what a state asks for)
-- and "Refusal numbers" (open requests).
use Rattle.std.specs.Prelude.{◌≡◌, ℕ, ◌+◌, ◌≤◌, ◌<◌, Bool, true, false, ◌&&◌, ◌||◌, ◌⊎◌, length, get_or, T, eqb}
use Rattle.refusals.specs.Table.{max_user, max_config, max_image, max_room}
use Rattle.fdl.specs.declared.parameters.Parameters.{Parameters}
use Rattle.fdl.specs.Params.{creation_refusal}
use Rattle.payloads.specs.declared.request.Request.TheVariants.{Diagnosis, Parameters as ParameterRequest, Configuration, Data}
use Rattle.payloads.specs.Request.{kind_number}
use Rattle.station.specs.declared.record.Station.{Station}
use Rattle.station.specs.declared.state.PeripheralState.{PeripheralState}
use Rattle.station.specs.declared.state.PeripheralState.TheVariants.{Offline, WaitForParam, WaitForConfig, ValidateConfig, PreDataExchange, DataExchange}
use Rattle.station.specs.State.{state_of}
use Rattle.peripheral.specs.declared.record.Peripheral.{Peripheral}
use Rattle.peripheral.specs.Record.{blank}
use Rattle.peripheral_set.specs.Marks.{slots}
use Rattle.cycle.specs.declared.state.DpMasterState.{DpMasterState}
use Rattle.cycle.specs.Refusal.{address_refusal}
use Rattle.master.specs.declared.unit.DpMaster.{DpMaster}
use Rattle.master.specs.declared.unit.Used.{Used}

-- the parameters: within their ranges, and with the watchdog off its factors are 0 (DECISIONS 9)
pub record InForce (u : Parameters) : Type 0 where
  pub range : creation_refusal u ≡ 0
  pub first : u.watchdog ≡ false → u.watchdog_first ≡ 0
  pub second : u.watchdog ≡ false → u.watchdog_second ≡ 0

-- a station: state and frame bit among their numbers, count at most limit + 1, stored length at most the room, and 0 before a diagnosis is held
pub record Sound (limit room : ℕ) (s : Station) : Type 0 where
  pub state : s.state ≤ 5
  pub bit_low : 1 ≤ s.fcb
  pub bit_high : s.fcb ≤ 3
  pub count : s.retry_count ≤ limit + 1
  pub stored : s.diag_len ≤ room
  pub unheld : s.diag.held ≡ false → s.diag_len ≡ 0

-- the ranges of a balance: within 01's limits, of absent set-up data empty, and inside their pools
pub record Placed (u : Parameters) (p : Peripheral) : Type 0 where
  pub user : p.options.user_parameters ≤ max_user
  pub config : p.options.config ≤ max_config
  pub inputs : p.ranges.input_len ≤ max_image
  pub outputs : p.ranges.output_len ≤ max_image
  pub room : p.ranges.diag_room ≤ max_room
  pub no_user : p.options.has_user_parameters ≡ false → p.options.user_parameters ≡ 0
  pub no_config : p.options.has_config ≡ false → p.options.config ≡ 0
  pub setup_end : p.ranges.setup + (p.options.user_parameters + p.options.config) ≤ u.setup_pool
  pub input_end : p.ranges.inputs + p.ranges.input_len ≤ u.input_pool
  pub output_end : p.ranges.outputs + p.ranges.output_len ≤ u.output_pool
  pub diag_end : p.ranges.diag + p.ranges.diag_room ≤ u.diag_pool

-- two ranges do not overlap
abbrev pub Beside : ℕ → ℕ → ℕ → ℕ → Type 0
Beside a n b k = (a + n ≤ b) ⊎ (b + k ≤ a)

-- the ranges of two balances are apart within each pool
pub record Apart (p q : Peripheral) : Type 0 where
  pub setup : Beside p.ranges.setup (p.options.user_parameters + p.options.config) q.ranges.setup (q.options.user_parameters + q.options.config)
  pub inputs : Beside p.ranges.inputs p.ranges.input_len q.ranges.inputs q.ranges.input_len
  pub outputs : Beside p.ranges.outputs p.ranges.output_len q.ranges.outputs q.ranges.output_len
  pub diags : Beside p.ranges.diag p.ranges.diag_room q.ranges.diag q.ranges.diag_room

-- ---- the used parts, of which only adding speaks

-- they lie in their pools
pub record Within (u : Parameters) (used : Used) : Type 0 where
  pub setup : used.setup ≤ u.setup_pool
  pub inputs : used.inputs ≤ u.input_pool
  pub outputs : used.outputs ≤ u.output_pool
  pub diags : used.diags ≤ u.diag_pool

-- the ranges of a balance end in them
pub record Before (p : Peripheral) (used : Used) : Type 0 where
  pub setup : p.ranges.setup + (p.options.user_parameters + p.options.config) ≤ used.setup
  pub inputs : p.ranges.inputs + p.ranges.input_len ≤ used.inputs
  pub outputs : p.ranges.outputs + p.ranges.output_len ≤ used.outputs
  pub diags : p.ranges.diag + p.ranges.diag_room ≤ used.diags

-- the balance of a slot, and whether there is one
abbrev pub balance : DpMaster → ℕ → Peripheral
balance m i = get_or m.peripherals i blank

abbrev pub occupied : DpMaster → ℕ → Type 0
occupied m i = get_or m.occupied i false ≡ true

-- ---- the open request

-- the requests, by number, that may be open in a state: what a visit sends there; data also with a diagnosis due, since a wish may have come after it
abbrev pub fits : PeripheralState → Bool → ℕ → Bool
fits Offline due k = eqb k (kind_number Diagnosis)
fits WaitForParam due k = eqb k (kind_number ParameterRequest)
fits WaitForConfig due k = eqb k (kind_number Configuration)
fits ValidateConfig due k = eqb k (kind_number Diagnosis)
fits PreDataExchange due k = eqb k (kind_number Data) || (eqb k (kind_number Diagnosis) && due)
fits DataExchange due k = eqb k (kind_number Data) || (eqb k (kind_number Diagnosis) && due)

abbrev pub Fits : Station → ℕ → Type 0
Fits s k = T (fits (state_of s.state) s.diag_needed k)

-- no request is open
pub record Closed (s : DpMasterState) : Type 0 where
  pub slot : s.open_slot ≡ 0
  pub kind : s.open_kind ≡ 0

-- a request is open: at the place, in a cycle that is not completed, and to a balance whose state it fits
pub record Opened (m : DpMaster) : Type 0 where
  pub place : m.state.open_slot ≡ m.state.slot
  pub going : m.state.completed ≡ false
  pub there : occupied m m.state.open_slot
  pub fit : Fits (balance m m.state.open_slot).station m.state.open_kind

-- the master's own state
pub record Standing (m : DpMaster) : Type 0 where
  pub operating : m.state.operating ≤ 2
  pub place : m.state.slot < slots
  pub times : m.state.last_control ≤ m.state.last_turn
  pub request : Closed m.state ⊎ Opened m

-- ---- the unit

pub record Valid (m : DpMaster) : Type 0 where
  pub parameters : InForce m.parameters
  pub marks : length m.occupied ≡ slots
  pub table : length m.peripherals ≡ slots
  pub sound : (i : ℕ) → occupied m i → Sound m.parameters.max_retry_limit (balance m i).ranges.diag_room (balance m i).station
  pub address : (i : ℕ) → occupied m i → address_refusal m.parameters (balance m i).station.address ≡ 0
  pub differ : (i j : ℕ) → occupied m i → occupied m j → (i ≡ j → ⊥) → (balance m i).station.address ≡ (balance m j).station.address → ⊥
  pub placed : (i : ℕ) → occupied m i → Placed m.parameters (balance m i)
  pub apart : (i j : ℕ) → occupied m i → occupied m j → (i ≡ j → ⊥) → Apart (balance m i) (balance m j)
  pub within : Within m.parameters m.used
  pub used : (i : ℕ) → occupied m i → Before (balance m i) m.used
  pub empty : (i : ℕ) → get_or m.occupied i false ≡ false → balance m i ≡ blank
  pub standing : Standing m
