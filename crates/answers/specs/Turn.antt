-- What a turn sends, its payload, and its answer.
-- From 01, "One turn", with what a refusal answers from "Refusal numbers".
use Rattle.std.specs.Prelude.{◌≡◌, ℕ, Bool, false, List, [], length, Option, Some, None}
use Rattle.parts.specs.Parts.{put_in}
use Rattle.fdl.specs.declared.parameters.Parameters.{Parameters}
use Rattle.payloads.specs.Request.{control_header}
use Rattle.payloads.specs.Payload.{control_payload, length_in}
use Rattle.station.specs.declared.state.PeripheralEvent.{PeripheralEvent}
use Rattle.station.specs.declared.state.PeripheralEvent.TheVariants.{NoEvent, Offline as WentOffline}
use Rattle.peripheral.specs.declared.record.Peripheral.{Peripheral}
use Rattle.peripheral.specs.Visit.{request_header, payload_of}
use Rattle.peripheral_set.specs.declared.PeripheralHandle.{PeripheralHandle}
use Rattle.peripheral_set.specs.Marks.{no_handle}
use Rattle.cycle.specs.declared.seen.Seen.{Seen}
use Rattle.cycle.specs.declared.seen.Sent.{Sent}
use Rattle.cycle.specs.declared.state.Step.{Step}
use Rattle.cycle.specs.declared.state.Step.TheVariants.{Halt, Control, Back, Visits}
use Rattle.cycle.specs.Seen.{idle}
use Rattle.answers.specs.declared.turn.Transmission.{Transmission}
use Rattle.answers.specs.declared.turn.Transmission.TheVariants.{Nothing as NothingSent, Control as ControlSent, Request as RequestSent}
use Rattle.answers.specs.declared.turn.Filled.{Filled}
use Rattle.answers.specs.declared.turn.TurnAnswer.{TurnAnswer}

-- ---- what is sent

abbrev pub visits_transmit : Option Sent → Peripheral → Parameters → Transmission
visits_transmit None p u = NothingSent
visits_transmit (Some sent) p u = RequestSent sent.slot sent.kind (request_header sent.kind u.address p)

-- p is the balance that it goes to
abbrev pub transmission_of : Step → Option Sent → Peripheral → Parameters → Transmission
transmission_of Halt sent p u = NothingSent
transmission_of Control sent p u = ControlSent (control_header u.address)
transmission_of Back sent p u = NothingSent
transmission_of Visits sent p u = visits_transmit sent p u

abbrev pub visits_payload : Option Sent → Peripheral → Parameters → Bool → List ℕ → List ℕ → List ℕ
visits_payload None p u clear setup outputs = []
visits_payload (Some sent) p u clear setup outputs = payload_of sent.kind u clear p setup outputs

abbrev pub payload_sent : Step → Option Sent → Peripheral → Parameters → Bool → List ℕ → List ℕ → List ℕ
payload_sent Halt sent p u clear setup outputs = []
payload_sent Control sent p u clear setup outputs = control_payload clear
payload_sent Back sent p u clear setup outputs = []
payload_sent Visits sent p u clear setup outputs = visits_payload sent p u clear setup outputs

-- how long the payload is that stands in the buffer, and what was sent; a payload that does not fit is not written (DECISIONS 25)
abbrev pub filled_of : Step → Option Sent → Peripheral → Parameters → List ℕ → List ℕ → Filled
filled_of step sent p u payload buf = record { len = length_in payload buf; transmission = transmission_of step sent p u }

pub record Filling (step : Step) (sent : Option Sent) (p : Peripheral) (u : Parameters) (payload buf out : List ℕ) (r : Filled) : Type 0 where
  pub answer : r ≡ filled_of step sent p u payload buf
  pub bytes : out ≡ put_in 0 (length payload) payload buf

-- ---- the answer

-- the handle of the first balance that fell; none where none did
abbrev pub handle_of : Option ℕ → ℕ → PeripheralHandle
handle_of None address = no_handle
handle_of (Some slot) address = record { slot = slot; address = address }

abbrev pub offline_event : Option ℕ → PeripheralEvent
offline_event None = NoEvent
offline_event (Some slot) = WentOffline

-- past the last: cycle-completed true; in steps 1 to 3 and where one sent it is false
abbrev pub completes_of : Step → Option Sent → Bool
completes_of Halt sent = false
completes_of Control sent = false
completes_of Back sent = false
completes_of Visits sent = idle sent

abbrev pub refused_turn : ℕ → TurnAnswer
refused_turn n =
    record {
      refusal = n;
      cycle_completed = false;
      offline = 0;
      event = NoEvent;
      handle = no_handle;
      len = 0;
      transmission = NothingSent;
    }

abbrev pub answer_of : Step → Seen → ℕ → Filled → TurnAnswer
answer_of step seen address filled =
    record {
      refusal = 0;
      cycle_completed = completes_of step seen.sent;
      offline = seen.mask;
      event = offline_event seen.first;
      handle = handle_of seen.first address;
      len = filled.len;
      transmission = filled.transmission;
    }
