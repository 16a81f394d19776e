-- Any two results that a contract of `station` allows coincide: a statement for each public function.
-- The idea: a contract is an equation for the answer and for each lent buffer, so two of them have the same right-hand side.
use mathlib.Core.Path.{◌≡◌}
use Rattle.coincide.specs.Coincide.{Coincide}
use Rattle.coincide.proofs.Law.{same}
use Rattle.station.proofs.record.Station.new.Kinds as K·record-Station-new
use Rattle.station.proofs.record.Station.new.Reads as R·record-Station-new
use Rattle.station.proofs.record.Station.is_live.Kinds as K·record-Station-is-live
use Rattle.station.proofs.record.Station.is_live.Reads as R·record-Station-is-live
use Rattle.station.proofs.record.Station.is_running.Kinds as K·record-Station-is-running
use Rattle.station.proofs.record.Station.is_running.Reads as R·record-Station-is-running
use Rattle.station.proofs.record.Station.fallen.Kinds as K·record-Station-fallen
use Rattle.station.proofs.record.Station.fallen.Reads as R·record-Station-fallen
use Rattle.station.proofs.record.Station.request_diagnostics.Kinds as K·record-Station-request-diagnostics
use Rattle.station.proofs.record.Station.request_diagnostics.Reads as R·record-Station-request-diagnostics
use Rattle.station.proofs.record.Station.last_diagnostics.Kinds as K·record-Station-last-diagnostics
use Rattle.station.proofs.record.Station.last_diagnostics.Reads as R·record-Station-last-diagnostics
use Rattle.station.proofs.record.Station.stored_part.Kinds as K·record-Station-stored-part
use Rattle.station.proofs.record.Station.stored_part.Reads as R·record-Station-stored-part
use Rattle.station.proofs.state.U8FromPeripheralState.from.Kinds as K·state-U8FromPeripheralState-from
use Rattle.station.proofs.state.U8FromPeripheralState.from.Reads as R·state-U8FromPeripheralState-from
use Rattle.station.proofs.state.PeripheralStateFromU8.from.Kinds as K·state-PeripheralStateFromU8-from
use Rattle.station.proofs.state.PeripheralStateFromU8.from.Reads as R·state-PeripheralStateFromU8-from
use Rattle.station.proofs.state.U8FromPeripheralEvent.from.Kinds as K·state-U8FromPeripheralEvent-from
use Rattle.station.proofs.state.U8FromPeripheralEvent.from.Reads as R·state-U8FromPeripheralEvent-from
use Rattle.station.proofs.record.Station.visited.Kinds as K·record-Station-visited
use Rattle.station.proofs.record.Station.visited.Reads as R·record-Station-visited
use Rattle.station.proofs.state.PeripheralState.is_live.Kinds as K·state-PeripheralState-is-live
use Rattle.station.proofs.state.PeripheralState.is_live.Reads as R·state-PeripheralState-is-live
use Rattle.station.proofs.state.PeripheralState.is_running.Kinds as K·state-PeripheralState-is-running
use Rattle.station.proofs.state.PeripheralState.is_running.Reads as R·state-PeripheralState-is-running
use Rattle.station.proofs.record.Station.judged_as.Kinds as K·record-Station-judged-as
use Rattle.station.proofs.record.Station.judged_as.Reads as R·record-Station-judged-as
use Rattle.station.proofs.record.Station.action.Kinds as K·record-Station-action
use Rattle.station.proofs.record.Station.action.Reads as R·record-Station-action
use Rattle.station.proofs.record.Station.diagnosis_heard.Kinds as K·record-Station-diagnosis-heard
use Rattle.station.proofs.record.Station.diagnosis_heard.Reads as R·record-Station-diagnosis-heard
use Rattle.station.proofs.record.Station.diagnosis_missed.Kinds as K·record-Station-diagnosis-missed
use Rattle.station.proofs.record.Station.diagnosis_missed.Reads as R·record-Station-diagnosis-missed
use Rattle.station.proofs.record.Station.acknowledgement_heard.Kinds as K·record-Station-acknowledgement-heard
use Rattle.station.proofs.record.Station.acknowledgement_heard.Reads as R·record-Station-acknowledgement-heard
use Rattle.station.proofs.record.Station.data_heard.Kinds as K·record-Station-data-heard
use Rattle.station.proofs.record.Station.data_heard.Reads as R·record-Station-data-heard

pub record-Station-new : Coincide 0 K·record-Station-new.ps K·record-Station-new.r R·record-Station-new.Learnt (λ κs z y e f. z ≡ y)
record-Station-new κs a z y e f p q = same p q

pub record-Station-is_live : Coincide 0 K·record-Station-is-live.ps K·record-Station-is-live.r R·record-Station-is-live.Learnt (λ κs z y e f. z ≡ y)
record-Station-is_live κs a z y e f p q = same p q

pub record-Station-is_running : Coincide 0 K·record-Station-is-running.ps K·record-Station-is-running.r R·record-Station-is-running.Learnt (λ κs z y e f. z ≡ y)
record-Station-is_running κs a z y e f p q = same p q

pub record-Station-fallen : Coincide 0 K·record-Station-fallen.ps K·record-Station-fallen.r R·record-Station-fallen.Learnt (λ κs z y e f. z ≡ y)
record-Station-fallen κs a z y e f p q = same p q

pub record-Station-request_diagnostics : Coincide 0 K·record-Station-request-diagnostics.ps K·record-Station-request-diagnostics.r R·record-Station-request-diagnostics.Learnt (λ κs z y e f. z ≡ y)
record-Station-request_diagnostics κs a z y e f p q = same p q

pub record-Station-last_diagnostics : Coincide 0 K·record-Station-last-diagnostics.ps K·record-Station-last-diagnostics.r R·record-Station-last-diagnostics.Learnt (λ κs z y e f. z ≡ y)
record-Station-last_diagnostics κs a z y e f p q = same p q

pub record-Station-stored_part : Coincide 0 K·record-Station-stored-part.ps K·record-Station-stored-part.r R·record-Station-stored-part.Learnt (λ κs z y e f. z ≡ y)
record-Station-stored_part κs a z y e f p q = same p q

pub state-U8FromPeripheralState-from : Coincide 0 K·state-U8FromPeripheralState-from.ps K·state-U8FromPeripheralState-from.r R·state-U8FromPeripheralState-from.Learnt (λ κs z y e f. z ≡ y)
state-U8FromPeripheralState-from κs a z y e f p q = same p q

pub state-PeripheralStateFromU8-from : Coincide 0 K·state-PeripheralStateFromU8-from.ps K·state-PeripheralStateFromU8-from.r R·state-PeripheralStateFromU8-from.Learnt (λ κs z y e f. z ≡ y)
state-PeripheralStateFromU8-from κs a z y e f p q = same p q

pub state-U8FromPeripheralEvent-from : Coincide 0 K·state-U8FromPeripheralEvent-from.ps K·state-U8FromPeripheralEvent-from.r R·state-U8FromPeripheralEvent-from.Learnt (λ κs z y e f. z ≡ y)
state-U8FromPeripheralEvent-from κs a z y e f p q = same p q

pub record-Station-visited : Coincide 0 K·record-Station-visited.ps K·record-Station-visited.r R·record-Station-visited.Learnt (λ κs z y e f. z ≡ y)
record-Station-visited κs a z y e f p q = same p q

pub state-PeripheralState-is_live : Coincide 0 K·state-PeripheralState-is-live.ps K·state-PeripheralState-is-live.r R·state-PeripheralState-is-live.Learnt (λ κs z y e f. z ≡ y)
state-PeripheralState-is_live κs a z y e f p q = same p q

pub state-PeripheralState-is_running : Coincide 0 K·state-PeripheralState-is-running.ps K·state-PeripheralState-is-running.r R·state-PeripheralState-is-running.Learnt (λ κs z y e f. z ≡ y)
state-PeripheralState-is_running κs a z y e f p q = same p q

pub record-Station-judged_as : Coincide 0 K·record-Station-judged-as.ps K·record-Station-judged-as.r R·record-Station-judged-as.Learnt (λ κs z y e f. z ≡ y)
record-Station-judged_as κs a z y e f p q = same p q

pub record-Station-action : Coincide 0 K·record-Station-action.ps K·record-Station-action.r R·record-Station-action.Learnt (λ κs z y e f. z ≡ y)
record-Station-action κs a z y e f p q = same p q

pub record-Station-diagnosis_heard : Coincide 0 K·record-Station-diagnosis-heard.ps K·record-Station-diagnosis-heard.r R·record-Station-diagnosis-heard.Learnt (λ κs z y e f. z ≡ y)
record-Station-diagnosis_heard κs a z y e f p q = same p q

pub record-Station-diagnosis_missed : Coincide 0 K·record-Station-diagnosis-missed.ps K·record-Station-diagnosis-missed.r R·record-Station-diagnosis-missed.Learnt (λ κs z y e f. z ≡ y)
record-Station-diagnosis_missed κs a z y e f p q = same p q

pub record-Station-acknowledgement_heard : Coincide 0 K·record-Station-acknowledgement-heard.ps K·record-Station-acknowledgement-heard.r R·record-Station-acknowledgement-heard.Learnt (λ κs z y e f. z ≡ y)
record-Station-acknowledgement_heard κs a z y e f p q = same p q

pub record-Station-data_heard : Coincide 0 K·record-Station-data-heard.ps K·record-Station-data-heard.r R·record-Station-data-heard.Learnt (λ κs z y e f. z ≡ y)
record-Station-data_heard κs a z y e f p q = same p q
