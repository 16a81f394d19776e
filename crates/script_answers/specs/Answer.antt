-- An answer to a line, with its newline. From docs/SCRIPTS.md, "Answers".
use Rattle.std.specs.Prelude.{cond, ℕ, ◌/◌, List, [], ◌∷◌, ◌++◌, length, eqb}
use Rattle.fdl.specs.declared.telegram.DataTelegramHeader.{DataTelegramHeader}
use Rattle.fdl.specs.Sap.{sap_number}
use Rattle.fdl.specs.Bits.{bit_number, request_number}
use Rattle.payloads.specs.declared.diagnosis.DiagnosticsInfo.{DiagnosticsInfo}
use Rattle.station.specs.State.{event_number}
use Rattle.peripheral_set.specs.declared.PeripheralHandle.{PeripheralHandle}
use Rattle.answers.specs.declared.turn.Transmission.{Transmission}
use Rattle.answers.specs.declared.turn.Transmission.TheVariants.{Nothing, Control, Request}
use Rattle.answers.specs.declared.turn.TurnAnswer.{TurnAnswer}
use Rattle.answers.specs.declared.reply_answer.ReplyAnswer.{ReplyAnswer}
use Rattle.script_fields.specs.Write.{flag_number, field_text, fields_text, bytes_text, newline, sum_of}

-- L, P, F, and `?`
abbrev pub bare_text : ℕ → List ℕ
bare_text letter = letter ∷ newline

-- N, S, X, Q, W with the refusal number, and B with the sum
abbrev pub numbered_text : ℕ → ℕ → List ℕ
numbered_text letter n = letter ∷ (field_text n ++ newline)

-- A: done `A 0 slot addr`, refused `A num`
unfoldable pub added_text : ℕ → PeripheralHandle → List ℕ
added_text refusal h =
    cond (eqb refusal 0) (0x41 ∷ (fields_text (0 ∷ h.slot ∷ h.address ∷ []) ++ newline)) (numbered_text 0x41 refusal)

-- ` da sa dsap ssap fc bit to BYTES`
unfoldable pub header_text : DataTelegramHeader → ℕ → List ℕ → List ℕ
header_text h to payload =
    fields_text
    (h.da ∷ h.sa ∷ sap_number h.dsap ∷ sap_number h.ssap ∷ request_number h.req ∷ bit_number h.fcb ∷ to ∷ [])
    ++ (32 ∷ bytes_text payload)

-- `sent` 1 when a telegram is sent
abbrev pub sent_number : Transmission → ℕ
sent_number Nothing = 0
sent_number (Control h) = 1
sent_number (Request slot kind h) = 1

-- `to` the slot it was sent to, 255 for global control
abbrev pub transmission_text : Transmission → List ℕ → List ℕ
transmission_text Nothing payload = []
transmission_text (Control h) payload = header_text h 255 payload
transmission_text (Request slot kind h) payload = header_text h slot payload

-- T: `T num cc mask ev evslot len sent`, and what was sent; payload are the first `len` bytes of the payload array
unfoldable pub turn_text : TurnAnswer → List ℕ → List ℕ
turn_text a payload =
    0x54
    ∷ (fields_text
    (a.refusal
    ∷ flag_number a.cycle_completed
    ∷ a.offline
    ∷ event_number a.event
    ∷ a.handle.slot
    ∷ a.len
    ∷ sent_number a.transmission
    ∷ [])
    ++ (transmission_text a.transmission payload ++ newline))

-- R: `R num cc ev evslot`
unfoldable pub reply_text : ReplyAnswer → List ℕ
reply_text a =
    0x52
    ∷ (fields_text (a.refusal ∷ flag_number a.cycle_completed ∷ event_number a.event ∷ a.handle.slot ∷ []) ++ newline)

-- I, O: letter, `num len BYTES`
unfoldable pub image_text : ℕ → ℕ → List ℕ → List ℕ
image_text letter refusal part =
    letter ∷ (fields_text (refusal ∷ length part ∷ []) ++ ((32 ∷ bytes_text part) ++ newline))

-- G: `G num held flags ident master len BYTES`
unfoldable pub diagnosis_text : ℕ → DiagnosticsInfo → List ℕ → List ℕ
diagnosis_text refusal d part =
    0x47
    ∷ (fields_text
    (refusal
    ∷ flag_number d.held
    ∷ d.flags
    ∷ d.ident_number
    ∷ d.master_address
    ∷ length part
    ∷ [])
    ++ ((32 ∷ bytes_text part) ++ newline))

-- H: `H num count`, each listed entry (3 bytes), then the checksum of the whole list array
unfoldable pub listing_text : ℕ → List ℕ → List ℕ → List ℕ
listing_text refusal listed all =
    0x48
    ∷ (fields_text (refusal ∷ length listed / 3 ∷ []) ++ (fields_text listed ++ (field_text (sum_of all) ++ newline)))
