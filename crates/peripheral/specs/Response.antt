-- A reply to a balance: the record and the event after it, what of the payload is kept, and the two pools.
-- From 01, "One visit and one reply": the paragraph on diagnosis replies, and the list by state.
-- The decisions see the lent pools by their lengths: nothing is written before all is decided.
use Rattle.std.specs.Prelude.{◌≡◌, ℕ, ◌+◌, ◌-◌, Bool, true, false, ◌&&◌, cond, Option, Some, None, List, length, drop, eqb, leb}
use Rattle.parts.specs.Parts.{part, put_in}
use Rattle.fdl.specs.Status.{is_short}
use Rattle.fdl.specs.declared.telegram.Telegram.{Telegram}
use Rattle.fdl.specs.declared.telegram.Telegram.TheVariants.{ShortConfirmation, Data as DataReply, Token, Request as RequestTelegram}
use Rattle.payloads.specs.Diagnosis.{taken, flag, diagnosis_of}
use Rattle.payloads.specs.Request.{is_diagnosis}
use Rattle.payloads.specs.declared.request.Request.{Request}
use Rattle.payloads.specs.declared.request.Request.TheVariants.{Diagnosis, Parameters, Configuration, Data}
use Rattle.station.specs.declared.record.Station.{Station}
use Rattle.station.specs.declared.heard.Heard.{Heard}
use Rattle.station.specs.declared.state.PeripheralEvent.{PeripheralEvent}
use Rattle.station.specs.declared.state.PeripheralState.TheVariants.{WaitForConfig, ValidateConfig}
use Rattle.station.specs.State.{state_of}
use Rattle.station.specs.Record.{with_diagnosis}
use Rattle.station.specs.Visit.{judged_as}
use Rattle.station.specs.Heard.{diagnosis_heard, diagnosis_missed, acknowledgement_heard, data_heard, is_exchanged}
use Rattle.peripheral.specs.declared.record.Peripheral.{Peripheral}
use Rattle.peripheral.specs.declared.response.Keeps.{Keeps}
use Rattle.peripheral.specs.declared.response.Keeps.TheVariants.{Neither, Image, Part}
use Rattle.peripheral.specs.declared.response.Reply.{Reply}
use Rattle.peripheral.specs.Record.{station_is}

-- ---- a diagnosis that is taken

-- with these flags, in so many bytes: the part from byte 6 is handed on (0x0008) and fits its room, which lies in the pool
unfoldable pub part_fits : Peripheral → ℕ → ℕ → ℕ → Bool
part_fits p flags n diags =
    flag 0x0008 flags && (leb n (p.ranges.diag_room + 6) && leb (p.ranges.diag + p.ranges.diag_room) diags)

-- the length of the part where it fits: the bytes from byte 6 on
abbrev pub extended_of : Peripheral → ℕ → ℕ → ℕ → Option ℕ
extended_of p flags n diags = cond (part_fits p flags n diags) (Some (n - 6)) None

-- a payload's part fits
abbrev pub payload_fits : Peripheral → List ℕ → ℕ → Bool
payload_fits p payload diags = part_fits p (diagnosis_of payload).flags (length payload) diags

-- how many bytes are stored then: those from byte 6 on, else as before
abbrev pub payload_stored : Peripheral → List ℕ → ℕ → ℕ
payload_stored p payload diags = cond (payload_fits p payload diags) (length payload - 6) p.station.diag_len

-- the station that took it
unfoldable pub station_diagnosed : Peripheral → List ℕ → ℕ → Station
station_diagnosed p payload diags = with_diagnosis (diagnosis_of payload) (payload_stored p payload diags) p.station

-- ---- the input image

-- what came is the image: a short confirmation, for a 0-byte image; or a payload of its length, where its range lies in the pool (DECISIONS 24)
unfoldable pub fits_image : Telegram → Peripheral → ℕ → ℕ → Bool
fits_image ShortConfirmation p n inputs = eqb p.ranges.input_len 0
fits_image (DataReply dsap ssap status) p n inputs = eqb n p.ranges.input_len && leb (p.ranges.inputs + p.ranges.input_len) inputs
fits_image Token p n inputs = false
fits_image RequestTelegram p n inputs = false

-- ---- the reply, as the answer to a request

-- what the station makes of a reply to a diagnosis request, and whether its part from byte 6 is kept
unfoldable pub diagnosis_answer : Telegram → Peripheral → List ℕ → ℕ → Heard
diagnosis_answer t p payload diags =
    cond (taken t (length payload)) (diagnosis_heard (state_of p.station.state) (station_diagnosed p payload diags)) (diagnosis_missed (state_of p.station.state) p.station)

unfoldable pub diagnosis_keeps : Telegram → Peripheral → List ℕ → ℕ → Keeps
diagnosis_keeps t p payload diags = cond (taken t (length payload) && payload_fits p payload diags) Part Neither

-- what the station makes of it
unfoldable pub answer_to : Request → Telegram → Peripheral → List ℕ → ℕ → ℕ → Heard
answer_to Diagnosis t p payload inputs diags = diagnosis_answer t p payload diags
answer_to Parameters t p payload inputs diags = acknowledgement_heard (is_short t) WaitForConfig p.station
answer_to Configuration t p payload inputs diags = acknowledgement_heard (is_short t) ValidateConfig p.station
answer_to Data t p payload inputs diags = data_heard t (fits_image t p (length payload) inputs) p.station

-- what of its payload is kept, with this event
unfoldable pub keeps_of : Request → Telegram → Peripheral → List ℕ → ℕ → PeripheralEvent → Keeps
keeps_of Diagnosis t p payload diags e = diagnosis_keeps t p payload diags
keeps_of Parameters t p payload diags e = Neither
keeps_of Configuration t p payload diags e = Neither
keeps_of Data t p payload diags e = cond (is_exchanged e) Image Neither

abbrev pub with_heard : Peripheral → Heard → Keeps → Reply
with_heard p h k = record { peripheral = station_is h.station p; event = h.event; keeps = k }

abbrev pub reply_to : Request → Telegram → Peripheral → List ℕ → ℕ → ℕ → Reply
reply_to k t p payload inputs diags =
    with_heard p (answer_to k t p payload inputs diags) (keeps_of k t p payload diags (answer_to k t p payload inputs diags).event)

-- it is judged by what was asked
abbrev pub reply_of : Request → Telegram → Peripheral → List ℕ → ℕ → ℕ → Reply
reply_of asked t p payload inputs diags = reply_to (judged_as asked p.station) t p payload inputs diags

-- ---- the pools

-- with what came in the image's range
abbrev pub with_image : Peripheral → List ℕ → List ℕ → List ℕ
with_image p came inputs = put_in p.ranges.inputs p.ranges.input_len came inputs

-- with the part from byte 6 in its room
abbrev pub with_part : Peripheral → List ℕ → List ℕ → List ℕ
with_part p payload diags = put_in p.ranges.diag p.ranges.diag_room (drop 6 payload) diags

abbrev pub keeps_image : Keeps → Bool
keeps_image Neither = false
keeps_image Image = true
keeps_image Part = false

abbrev pub keeps_part : Keeps → Bool
keeps_part Neither = false
keeps_part Image = false
keeps_part Part = true

-- what is to be kept of a payload stands in the pools, and nothing else changed
pub record Kept (k : Keeps) (p : Peripheral) (payload inputs diags out_inputs out_diags : List ℕ) : Type 0 where
  pub input_pool : out_inputs ≡ cond (keeps_image k) (with_image p (part 0 p.ranges.input_len payload) inputs) inputs
  pub diag_pool : out_diags ≡ cond (keeps_part k) (with_part p payload diags) diags

-- ---- the same, by what the reply is

-- the reply is taken as a diagnosis, n being the length of its payload
abbrev pub diagnosis_taken : Request → Telegram → Peripheral → ℕ → Bool
diagnosis_taken asked t p n = is_diagnosis (judged_as asked p.station) && taken t n

-- the input pool after an event: with DataExchanged it has what came, else it is as it was
abbrev pub inputs_of : PeripheralEvent → List ℕ → Peripheral → List ℕ → List ℕ
inputs_of e came p inputs = cond (is_exchanged e) (with_image p came inputs) inputs

-- the pool for diagnosis after a reply that was taken as one, or not
abbrev pub diags_of : Bool → Peripheral → List ℕ → List ℕ → List ℕ
diags_of took p payload diags = cond (took && payload_fits p payload (length diags)) (with_part p payload diags) diags
