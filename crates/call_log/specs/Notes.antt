-- What an answer reports, what an entry can note of a slot, and how a note is read.
-- From 01, "Words of the log"; what a turn reports is from "One turn".
use Rattle.std.specs.Prelude.{ℕ, ◌/◌, ◌%◌, ◌^◌, Bool, true, false, ◌&&◌, ◌||◌, cond, List, ◌∷◌, eqb}
use Rattle.std.proofs.Math.Option.{Option, none, some}
use Rattle.fdl.specs.declared.telegram.Telegram.{Telegram}
use Rattle.payloads.specs.declared.request.Request.{Request}
use Rattle.station.specs.declared.state.PeripheralEvent.{PeripheralEvent}
use Rattle.station.specs.declared.state.PeripheralEvent.TheVariants.{NoEvent, ConfigError, ParameterError, Diagnostics, Offline}
use Rattle.station.specs.State.{event_number}
use Rattle.peripheral_set.specs.Marks.{slots}
use Rattle.answers.specs.declared.turn.TurnAnswer.{TurnAnswer}
use Rattle.answers.specs.declared.turn.Transmission.{Transmission}
use Rattle.answers.specs.declared.turn.Transmission.TheVariants.{Nothing, Control, Request as Asks}
use Rattle.answers.specs.Turn.{refused_turn}
use Rattle.master.specs.declared.add.Addition.{Addition}
use Rattle.call_log.specs.Calls.{Answer, number, added, turned, replied}

-- ---- what an answer reports

-- of a turn, of a reply (its event), of an adding (the slot of the new balance)
pub record Report : Type 0 where
  pub turn : TurnAnswer
  pub event : PeripheralEvent
  pub slot : ℕ

-- no other call than a turn sends anything or reports anybody Offline, no other than a reply has an event, no other than an adding gives a slot
abbrev pub report_of : Answer → Report
report_of (number n) = record { turn = refused_turn n; event = NoEvent; slot = slots }
report_of (added n h) = record { turn = refused_turn n; event = NoEvent; slot = h.slot }
report_of (turned a buf) = record { turn = a; event = NoEvent; slot = slots }
report_of (replied a) = record { turn = refused_turn 0; event = a.event; slot = slots }

abbrev pub turn_of : Answer → TurnAnswer
turn_of x = (report_of x).turn

abbrev pub event_of : Answer → PeripheralEvent
event_of x = (report_of x).event

abbrev pub slot_given : Answer → ℕ
slot_given x = (report_of x).slot

-- f of the slot that a turn asked and of the request, else d
abbrev pub of_request : {B : Type 0} → B → (ℕ → Request → B) → Transmission → B
of_request d f Nothing = d
of_request d f (Control header) = d
of_request d f (Asks slot k header) = f slot k

abbrev pub slot_asked : Transmission → Option ℕ
slot_asked x = of_request none (λ slot k. some slot) x

-- ---- events

abbrev pub is_event : PeripheralEvent → PeripheralEvent → Bool
is_event x e = eqb (event_number e) (event_number x)

abbrev pub is_offline : PeripheralEvent → Bool
is_offline e = is_event Offline e

abbrev pub is_diagnosed : PeripheralEvent → Bool
is_diagnosed e = is_event Diagnostics e

abbrev pub is_error : PeripheralEvent → Bool
is_error e = is_event ParameterError e || is_event ConfigError e

-- bit s of a mask
abbrev pub bit_set : ℕ → ℕ → Bool
bit_set s mask = eqb (mask / 2 ^ s % 2) 1

-- a turn reported slot s Offline: by event or mask bit
abbrev pub reported_offline : ℕ → TurnAnswer → Bool
reported_offline s a = (is_offline a.event && eqb s a.handle.slot) || bit_set s a.offline

-- ---- notes

-- what an entry can say of a slot
pub data Note : Type 0 where
  -- added, and what was asked for
  was_added : Addition → Note
  -- address reset
  readdressed : Note
  -- a caller's wish for a diagnosis
  wished : Note
  -- reported Offline by a turn
  went_offline : Note
  -- a turn sent it this request
  asked : Request → Note
  -- a reply with its payload, and the event
  got : Telegram → List ℕ → PeripheralEvent → Note

-- a reply as it is noted
pub record Incoming : Type 0 where
  pub telegram : Telegram
  pub payload : List ℕ
  pub event : PeripheralEvent

-- what a note holds, and a number for its kind
pub record Content : Type 0 where
  pub kind : ℕ
  pub addition : Option Addition
  pub request : Option Request
  pub reply : Option Incoming

-- a note that holds nothing else
abbrev pub plain_note : ℕ → Content
plain_note n = record { kind = n; addition = none; request = none; reply = none }

abbrev pub content_of : Note → Content
content_of (was_added a) = record { kind = 0; addition = some a; request = none; reply = none }
content_of readdressed = plain_note 1
content_of wished = plain_note 2
content_of went_offline = plain_note 3
content_of (asked k) = record { kind = 4; addition = none; request = some k; reply = none }
content_of (got t payload e) = record { kind = 5; addition = none; request = none; reply = some (record { telegram = t; payload = payload; event = e }) }

-- f of what is there, else d
abbrev pub given : {A B : Type 0} → B → (A → B) → Option A → B
given d f none = d
given d f (some x) = f x

abbrev pub of_added : {B : Type 0} → B → (Addition → B) → Note → B
of_added d f x = given d f (content_of x).addition

abbrev pub of_asked : {B : Type 0} → B → (Request → B) → Note → B
of_asked d f x = given d f (content_of x).request

abbrev pub of_reply : {B : Type 0} → B → (Telegram → List ℕ → PeripheralEvent → B) → Note → B
of_reply d f x = given d (λ (r : Incoming). f r.telegram r.payload r.event) (content_of x).reply

-- the note has the kind of k
abbrev pub is_note : Note → Note → Bool
is_note k x = eqb (content_of x).kind (content_of k).kind

-- added or address reset: the balance's record is as newly added
abbrev pub fresh : Note → Bool
fresh x = of_added false (λ a. true) x || is_note readdressed x

-- the note is slot s's
abbrev pub note_if : Bool → Note → List Note → List Note
note_if b x l = cond b (x ∷ l) l

abbrev pub note_at : ℕ → Option ℕ → Note → List Note → List Note
note_at s none x l = l
note_at s (some t) x l = note_if (eqb s t) x l

abbrev pub note_asked : ℕ → Transmission → List Note → List Note
note_asked s x l = of_request l (λ slot k. note_if (eqb s slot) (asked k) l) x
