-- The sum over all that is answered, the numbers of an answer in the order of docs/SCRIPTS.md. From docs/COMPARE.md, "Speed".
use Rattle.std.specs.Prelude.{ℕ, ◌%◌, List, [], ◌∷◌}
use Rattle.parts.specs.Parts.{part}
use Rattle.fdl.specs.declared.telegram.DataTelegramHeader.{DataTelegramHeader}
use Rattle.fdl.specs.Sap.{sap_number}
use Rattle.fdl.specs.Bits.{bit_number, request_number}
use Rattle.station.specs.State.{event_number}
use Rattle.answers.specs.declared.turn.Transmission.{Transmission}
use Rattle.answers.specs.declared.turn.Transmission.TheVariants.{Nothing, Control, Request}
use Rattle.answers.specs.declared.turn.TurnAnswer.{TurnAnswer}
use Rattle.answers.specs.declared.reply_answer.ReplyAnswer.{ReplyAnswer}
use Rattle.script_fields.specs.Write.{flag_number, sum_from}

-- what was sent, the slot that it was sent to, and the payload
abbrev pub header_fields : DataTelegramHeader → ℕ → List ℕ → List ℕ
header_fields h to payload =
    1 ∷ h.da ∷ h.sa ∷ sap_number h.dsap ∷ sap_number h.ssap ∷ request_number h.req ∷ bit_number h.fcb ∷ to ∷ payload

abbrev pub sent_fields : Transmission → List ℕ → List ℕ
sent_fields Nothing payload = 0 ∷ []
sent_fields (Control h) payload = header_fields h 255 payload
sent_fields (Request slot kind h) payload = header_fields h slot payload

-- a turn: seven numbers, and where something was sent the seven behind them and each byte of the payload
unfoldable pub turn_numbers : TurnAnswer → List ℕ → List ℕ
turn_numbers a buf =
    a.refusal
    ∷ flag_number a.cycle_completed
    ∷ a.offline
    ∷ event_number a.event
    ∷ a.handle.slot
    ∷ (a.len % 4294967296)
    ∷ sent_fields a.transmission (part 0 a.len buf)

-- a reply: four numbers
unfoldable pub reply_numbers : ReplyAnswer → List ℕ
reply_numbers a = a.refusal ∷ flag_number a.cycle_completed ∷ event_number a.event ∷ a.handle.slot ∷ []

-- h = (h * 256 + n) mod 1000000007 for each number n
abbrev pub summed : ℕ → List ℕ → ℕ
summed h numbers = sum_from h numbers
