-- The states and the events, with the number of each; which states are live, and which is running.
-- From 01, "One visit and one reply"; the numbers are those of docs/SCRIPTS.md.
use Rattle.std.specs.Prelude.{Bool, true, false, cond, ℕ, eqb}
use Rattle.station.specs.declared.state.PeripheralState.{PeripheralState}
use Rattle.station.specs.declared.state.PeripheralState.TheVariants.{Offline, WaitForParam, WaitForConfig, ValidateConfig, PreDataExchange, DataExchange}
use Rattle.station.specs.declared.state.PeripheralEvent.{PeripheralEvent}
use Rattle.station.specs.declared.state.PeripheralEvent.TheVariants.{NoEvent, Online, Configured, ConfigError, ParameterError, DataExchanged, Diagnostics, Offline as WentOffline}

abbrev pub number_of : PeripheralState → ℕ
number_of Offline = 0
number_of WaitForParam = 1
number_of WaitForConfig = 2
number_of ValidateConfig = 3
number_of PreDataExchange = 4
number_of DataExchange = 5

-- any other number counts as Offline
abbrev pub state_of : ℕ → PeripheralState
state_of n =
    cond (eqb n 1) WaitForParam
    (cond (eqb n 2) WaitForConfig
    (cond (eqb n 3) ValidateConfig (cond (eqb n 4) PreDataExchange (cond (eqb n 5) DataExchange Offline))))

-- responds on the bus
abbrev pub live_state : PeripheralState → Bool
live_state Offline = false
live_state WaitForParam = true
live_state WaitForConfig = true
live_state ValidateConfig = true
live_state PreDataExchange = true
live_state DataExchange = true

-- exchanges data
abbrev pub running_state : PeripheralState → Bool
running_state Offline = false
running_state WaitForParam = false
running_state WaitForConfig = false
running_state ValidateConfig = false
running_state PreDataExchange = false
running_state DataExchange = true

abbrev pub event_number : PeripheralEvent → ℕ
event_number NoEvent = 0
event_number Online = 1
event_number Configured = 2
event_number ConfigError = 3
event_number ParameterError = 4
event_number DataExchanged = 5
event_number Diagnostics = 6
event_number WentOffline = 7
