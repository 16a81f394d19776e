-- A reply: the station and the event after it, by what was asked: a diagnosis, an acknowledgement, or data.
-- From 01, "One visit and one reply", the list by state.
use Rattle.std.specs.Prelude.{ℕ, Bool, true, false, ◌||◌, cond, eqb}
use Rattle.fdl.specs.Status.{among, data_codes}
use Rattle.fdl.specs.declared.telegram.Telegram.{Telegram}
use Rattle.fdl.specs.declared.telegram.Telegram.TheVariants.{ShortConfirmation, Data, Token, Request}
use Rattle.payloads.specs.Diagnosis.{flag}
use Rattle.station.specs.declared.record.Station.{Station}
use Rattle.station.specs.declared.heard.Heard.{Heard}
use Rattle.station.specs.declared.state.PeripheralEvent.{PeripheralEvent}
use Rattle.station.specs.declared.state.PeripheralEvent.TheVariants.{NoEvent, Online, Configured, ConfigError, ParameterError, DataExchanged, Diagnostics, Offline as WentOffline}
use Rattle.station.specs.declared.state.PeripheralState.{PeripheralState}
use Rattle.station.specs.declared.state.PeripheralState.TheVariants.{Offline, WaitForParam, WaitForConfig, ValidateConfig, PreDataExchange, DataExchange}
use Rattle.station.specs.Record.{in_state, counting, cycling, fallen, due_is}

-- the station after a reply, with what it reports
abbrev pub reports : PeripheralEvent → Station → Heard
reports e p = record { station = p; event = e }

-- ---- a diagnosis was asked for

-- ValidateConfig, a diagnosis taken: the flags decide; an error is a fall, after the cycling by the same reply
unfoldable pub by_flags : ℕ → Station → Heard
by_flags flags p =
    cond (flag 0x0040 flags) (reports ParameterError (fallen p))
    (cond (flag 0x0004 flags) (reports ConfigError (fallen p))
    (cond (flag 0x0100 flags) (reports NoEvent (in_state WaitForParam p))
    (cond (flag 0x0002 flags) (reports NoEvent p) (reports Configured (in_state PreDataExchange p)))))

-- taken, p being the station that took it: count 0;
-- Offline gives WaitForParam, Online; exchange states give Diagnostics, due cleared; the other two states ask for none
abbrev pub diagnosis_heard : PeripheralState → Station → Heard
diagnosis_heard Offline p = reports Online (in_state WaitForParam (counting 0 p))
diagnosis_heard WaitForParam p = reports NoEvent (counting 0 p)
diagnosis_heard WaitForConfig p = reports NoEvent (counting 0 p)
diagnosis_heard ValidateConfig p = by_flags p.diag.flags (counting 0 p)
diagnosis_heard PreDataExchange p = reports Diagnostics (due_is false (counting 0 p))
diagnosis_heard DataExchange p = reports Diagnostics (due_is false (counting 0 p))

-- not taken: count 0 in ValidateConfig, elsewhere it stays
abbrev pub count_missed : PeripheralState → ℕ → ℕ
count_missed Offline count = count
count_missed WaitForParam count = count
count_missed WaitForConfig count = count
count_missed ValidateConfig count = 0
count_missed PreDataExchange count = count
count_missed DataExchange count = count

abbrev pub diagnosis_missed : PeripheralState → Station → Heard
diagnosis_missed s p = reports NoEvent (counting (count_missed s p.retry_count) p)

-- ---- parameters or configuration were sent

-- a short confirmation cycles the bit, count 0, next state; else no change
abbrev pub acknowledgement_heard : Bool → PeripheralState → Station → Heard
acknowledgement_heard true next p = reports NoEvent (in_state next (counting 0 (cycling p)))
acknowledgement_heard false next p = reports NoEvent p

-- ---- data was asked for

-- what came is the input image, or not: DataExchange, DataExchanged
abbrev pub exchanged_of : Bool → Station → Heard
exchanged_of true p = reports DataExchanged (in_state DataExchange p)
exchanged_of false p = reports NoEvent p

-- the decision over the nine codes: 3 gives ValidateConfig; 0, 8, 10 are data, 10 also makes diagnosis due; anything else has no event
abbrev pub status_heard : ℕ → Bool → Station → Heard
status_heard status fits p =
    cond (eqb status 3) (reports NoEvent (in_state ValidateConfig p))
    (cond (among status data_codes) (exchanged_of fits (due_is (eqb status 10 || p.diag_needed) p)) (reports NoEvent p))

-- a short confirmation is data too
abbrev pub telegram_heard : Telegram → Bool → Station → Heard
telegram_heard ShortConfirmation fits p = exchanged_of fits p
telegram_heard (Data dsap ssap status) fits p = status_heard status fits p
telegram_heard Token fits p = reports NoEvent p
telegram_heard Request fits p = reports NoEvent p

-- count 0 and the bit cycled for every reply; fits: what came is the input image
abbrev pub data_heard : Telegram → Bool → Station → Heard
data_heard t fits p = telegram_heard t fits (counting 0 (cycling p))

-- ---- DataExchanged is the event

abbrev pub is_exchanged : PeripheralEvent → Bool
is_exchanged NoEvent = false
is_exchanged Online = false
is_exchanged Configured = false
is_exchanged ConfigError = false
is_exchanged ParameterError = false
is_exchanged DataExchanged = true
is_exchanged Diagnostics = false
is_exchanged WentOffline = false
