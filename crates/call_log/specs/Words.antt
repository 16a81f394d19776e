-- Each word of one slot's log as a function of its notes alone: nothing here names a unit, a pool, a visit or `step`.
-- From 01, "Words of the log"; when a balance is in DataExchange, from "One visit and one reply". The notes are newest first.
use Rattle.std.specs.Prelude.{ℕ, ◌+◌, ◌%◌, ◌<◌, ◌≤◌, Bool, false, not, ◌&&◌, ◌||◌, cond, List, [], ◌∷◌, T, eqb, length, drop}
use Rattle.std.proofs.Math.Option.{Option, none, some}
use Rattle.parts.specs.Parts.{zeros}
use Rattle.fdl.specs.Status.{carried}
use Rattle.fdl.specs.declared.telegram.FrameCountBit.{FrameCountBit}
use Rattle.fdl.specs.declared.telegram.FrameCountBit.TheVariants.{First, Low, High}
use Rattle.fdl.specs.declared.telegram.Telegram.{Telegram}
use Rattle.fdl.specs.declared.telegram.Telegram.TheVariants.{ShortConfirmation, Data as DataReply, Token, Request as RequestTelegram}
use Rattle.payloads.specs.declared.request.Request.{Request}
use Rattle.payloads.specs.declared.request.Request.TheVariants.{Diagnosis, Parameters, Configuration, Data}
use Rattle.payloads.specs.Request.{kind_number}
use Rattle.payloads.specs.Diagnosis.{taken, flag, diagnosis_of}
use Rattle.fdl.specs.Status.{is_short}
use Rattle.station.specs.Heard.{is_exchanged}
use Rattle.answers.specs.declared.turn.Transmission.{Transmission}
use Rattle.call_log.specs.Notes.{of_request, Note, wished, went_offline, of_added, of_asked, of_reply, is_note, fresh, is_diagnosed, is_error}

abbrev pub is_kind : Request → Option Request → Bool
is_kind k none = false
is_kind k (some q) = eqb (kind_number k) (kind_number q)

-- the request that was sent to it last
abbrev pub last_asked : List Note → Option Request
last_asked [] = none
last_asked (x ∷ l) = of_asked (last_asked l) (λ k. some k) x

abbrev pub has_status : ℕ → Telegram → Bool
has_status n ShortConfirmation = false
has_status n (DataReply dsap ssap status) = eqb status n
has_status n Token = false
has_status n RequestTelegram = false

-- a taken diagnosis without 0x0040, 0x0004, 0x0100, 0x0002
abbrev pub spotless : Telegram → List ℕ → Bool
spotless t payload =
    taken t (length payload) && not (flag 0x0040 (diagnosis_of payload).flags) && not (flag 0x0004 (diagnosis_of payload).flags)
    && not (flag 0x0100 (diagnosis_of payload).flags)
    && not (flag 0x0002 (diagnosis_of payload).flags)

-- ---- of a reply; k is the request that was sent last

-- judged as exchange data: a reply that answers a data request
abbrev pub judged : Option Request → Bool
judged k = is_kind Data k

-- status 3 and status 10 count only in replies judged as exchange data
abbrev pub denies : Option Request → Telegram → Bool
denies k t = judged k && has_status 3 t

abbrev pub warns : Option Request → Telegram → Bool
warns k t = judged k && has_status 10 t

-- the reply is an input image as long as this one: data with status 0, 8 or 10 and of that length, or a short confirmation where the image has 0 bytes
abbrev pub brings_image : List ℕ → Telegram → List ℕ → Bool
brings_image image t payload =
    (is_short t && eqb (length image) 0) || ((has_status 0 t || (has_status 8 t || has_status 10 t)) && eqb (length payload) (length image))

-- a short confirmation answering that request
abbrev pub confirms : Request → Option Request → Telegram → Bool
confirms q k t = is_kind q k && is_short t

-- a taken diagnosis, answering a diagnosis request, without those four flags
abbrev pub cleans : Option Request → Telegram → List ℕ → Bool
cleans k t payload = is_kind Diagnosis k && spotless t payload

-- ---- diagnosis due

-- a caller's wish, or a status 10
abbrev pub makes_due : Option Request → Note → Bool
makes_due k x = is_note wished x || of_reply false (λ t payload e. warns k t) x

-- added, address reset, or a Diagnostics event
abbrev pub ends_due : Note → Bool
ends_due x = fresh x || of_reply false (λ t payload e. is_diagnosed e) x

-- since adding or reset, a caller's wish or a status 10, not followed by a Diagnostics event
abbrev pub due_of : List Note → Bool
due_of [] = false
due_of (x ∷ l) = not (ends_due x) && (makes_due (last_asked l) x || due_of l)

-- ---- the input image

-- the newest exchanged payload: of the newest reply reported DataExchanged since the slot was added, else zeros of the image's length
abbrev pub image_of : List Note → List ℕ
image_of [] = []
image_of (x ∷ l) = of_added (of_reply (image_of l) (λ t payload e. cond (is_exchanged e) (carried t payload) (image_of l)) x) (λ a. zeros a.input_len) x

-- a reply cycles the bit when it answers a data request; when it acknowledges parameters or configuration; or when it is a taken diagnosis answering a diagnosis request
abbrev pub cycles : Option Request → Telegram → List ℕ → Bool
cycles k t payload = judged k || confirms Parameters k t || confirms Configuration k t || (is_kind Diagnosis k && taken t (length payload))

-- ---- of the newest note

-- a fall: added, address reset, reported Offline, or event ParameterError or ConfigError
abbrev pub fall : List Note → Bool
fall [] = false
fall (x ∷ l) = fresh x || is_note went_offline x || of_reply false (λ t payload e. is_error e) x

-- acknowledged: a short confirmation answering a request of that kind
abbrev pub acknowledged : Request → List Note → Bool
acknowledged k [] = false
acknowledged k (x ∷ l) = of_reply false (λ t payload e. confirms k (last_asked l) t) x

-- clean: a taken diagnosis, answering a diagnosis request, without those four flags
abbrev pub clean : List Note → Bool
clean [] = false
clean (x ∷ l) = of_reply false (λ t payload e. cleans (last_asked l) t payload) x

-- "SAP not enabled": status 3 in a reply judged as exchange data
abbrev pub not_enabled : List Note → Bool
not_enabled [] = false
not_enabled (x ∷ l) = of_reply false (λ t payload e. denies (last_asked l) t) x

-- it made a diagnosis due
abbrev pub due_made : List Note → Bool
due_made [] = false
due_made (x ∷ l) = makes_due (last_asked l) x

-- since then none is due of what came before
abbrev pub due_ended : List Note → Bool
due_ended [] = false
due_ended (x ∷ l) = ends_due x

-- a reply reported DataExchanged
abbrev pub exchanged_by : List Note → Bool
exchanged_by [] = false
exchanged_by (x ∷ l) = of_reply false (λ t payload e. is_exchanged e) x

-- a reply that cycles the bit
abbrev pub cycles_bit : List Note → Bool
cycles_bit [] = false
cycles_bit (x ∷ l) = of_reply false (λ t payload e. cycles (last_asked l) t payload) x

-- ---- the frame bit

-- how many replies since the last fall cycled it; a reply that is a fall itself does not count
abbrev pub cyclings : List Note → ℕ
cyclings [] = 0
cyclings (x ∷ l) = cond (fall (x ∷ l)) 0 (cond (cycles_bit (x ∷ l)) (cyclings l + 1) (cyclings l))

-- First after none, else Low after an odd number and High after an even one
abbrev pub bit_after : ℕ → FrameCountBit
bit_after n = cond (eqb n 0) First (cond (eqb (n % 2) 1) Low High)

abbrev pub frame_bit : List Note → FrameCountBit
frame_bit l = bit_after (cyclings l)

-- ---- the wording by positions, which count back from the newest note

-- diagnosis due: at a position there is a wish or a status 10, and neither there nor later an adding, a reset or a Diagnostics event
pub record Due (l : List Note) : Type 0 where
  pub wish : ℕ
  pub made : T (due_made (drop wish l))
  pub since : (i : ℕ) → i ≤ wish → T (not (due_ended (drop i l)))

-- parameters acknowledged at p, configuration later at c, a clean diagnosis later at d;
-- no fall at p or later, and no "SAP not enabled" after d
pub record Ready (l : List Note) : Type 0 where
  pub d : ℕ
  pub c : ℕ
  pub p : ℕ
  pub d<c : d < c
  pub c<p : c < p
  pub parameters : T (acknowledged Parameters (drop p l))
  pub configuration : T (acknowledged Configuration (drop c l))
  pub diagnosis : T (clean (drop d l))
  pub no_fall : (i : ℕ) → i ≤ p → T (not (fall (drop i l)))
  pub enabled : (i : ℕ) → i < d → T (not (not_enabled (drop i l)))

-- in DataExchange: a reply reported DataExchanged, and after it neither a fall nor "SAP not enabled"
pub record Running (l : List Note) : Type 0 where
  pub since : ℕ
  pub exchanged : T (exchanged_by (drop since l))
  pub no_fall : (i : ℕ) → i < since → T (not (fall (drop i l)))
  pub enabled : (i : ℕ) → i < since → T (not (not_enabled (drop i l)))

-- asked for data by a turn
abbrev pub asks_data : ℕ → Transmission → Bool
asks_data s x = of_request false (λ slot k. eqb s slot && is_kind Data (some k)) x
