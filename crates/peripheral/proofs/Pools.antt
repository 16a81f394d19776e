-- What the judged reply keeps, put together to what the whole reply leaves in the pools.
-- The idea: only the answer to a data request keeps an image, and then what came is exactly the front of the payload; only a taken diagnosis keeps a part.
use mathlib.Core.Path.{◌≡◌, refl, sym, ap, ◌∙◌}
use mathlib.Core.Bool.{true, ◌&&◌, false≢true}
use mathlib.Core.List.{List, []}
use Prim.Native.Nat.{ℕ, ◌+◌, ◌<◌}
use native.Mathlib.Omega.{arith}
use lib.ListN.{length, take-append-drop, drop_of_length-le}
use lib.Dec.{eqb}
use borrow.Author.Tests.{eqb-true}
use Rattle.parts.specs.Parts.{inside, part, splice, room_for, put_in}
use Rattle.parts.proofs.Laws.{by_test, and_left, and_right, inside_yes, span, rest, put_done, put_kept}
use Rattle.fdl.specs.Status.{is_short, carried}
use Rattle.fdl.specs.declared.telegram.Telegram.{Telegram}
use Rattle.fdl.specs.declared.telegram.Telegram.TheVariants.{ShortConfirmation, Data as DataReply, Token, Request as RequestTelegram}
use Rattle.payloads.specs.Diagnosis.{taken}
use Rattle.payloads.specs.Request.{is_diagnosis, is_data}
use Rattle.payloads.specs.declared.request.Request.{Request}
use Rattle.payloads.specs.declared.request.Request.TheVariants.{Diagnosis, Parameters, Configuration, Data}
use Rattle.station.specs.declared.state.PeripheralState.TheVariants.{WaitForConfig, ValidateConfig}
use Rattle.station.specs.State.{state_of}
use Rattle.station.specs.Visit.{judged_as}
use Rattle.station.specs.Heard.{data_heard, is_exchanged}
use Rattle.station.proofs.Heards.{carries_data, diagnosis-keeps, acknowledgement_keeps, data_when}
use Rattle.peripheral.specs.declared.record.Peripheral.{Peripheral}
use Rattle.peripheral.specs.Response.{payload_fits, station_diagnosed, fits_image, diagnosis_answer, diagnosis_keeps, answer_to, keeps_of, reply_of, with_image, with_part, Kept, diagnosis_taken, inputs_of, diags_of}

-- ---- parts and puts

pub part_all : (l : List ℕ) → part 0 (length l) l ≡ l
part_all l = sym (span 0 (length l) (length l) l (omega arith) (inside_yes 0 (length l) l (omega arith))) ∙ rest 0 l

part_none : (l : List ℕ) → part 0 0 l ≡ []
unfolding part
part_none l = by_test (inside 0 0 l) (λ e. rw e refl) (λ e. rw e refl)

put-empty : (at room : ℕ) (old : List ℕ) → put_in at room [] old ≡ old
unfolding splice
put-empty at room old =
    by_test (room_for at room [] old)
    (λ e. put_done at room [] old e ∙ (let w : at + 0 ≡ at = omega arith in rw w (take-append-drop at old)))
    (λ e. put_kept at room [] old e)

-- fewer than six bytes have no tail
pub no_tail : (p : Peripheral) (payload diags : List ℕ) → length payload < 6 → diags ≡ with_part p payload diags
no_tail p payload diags h = sym (ap (λ (l : List ℕ). put_in p.ranges.diag p.ranges.diag_room l diags) (drop_of_length-le payload {i = 6} (omega arith)) ∙ put-empty _ _ diags)

-- ---- the image is what came

pub came : (t : Telegram) (p : Peripheral) (payload : List ℕ) (inputs : ℕ) → fits_image t p (length payload) inputs ≡ true → part 0 p.ranges.input_len payload ≡ carried t payload
unfolding fits_image
came ShortConfirmation p payload inputs e = rw (eqb-true p.ranges.input_len 0 e) (part_none payload)
came (DataReply dsap ssap status) p payload inputs e = rw (← eqb-true (length payload) p.ranges.input_len (and_left (eqb (length payload) p.ranges.input_len) _ e)) (part_all payload)
came Token p payload inputs e = absurd (false≢true e)
came RequestTelegram p payload inputs e = absurd (false≢true e)

-- ---- the pools after the reply

module _ (t : Telegram) (p : Peripheral) (payload inputs diags : List ℕ) where
  -- only the answer to a data request reports DataExchanged, and exactly where it is data and the input image
  pub exchanged-when : (k : Request) → is_exchanged (answer_to k t p payload (length inputs) (length diags)).event ≡ (is_data k && (carries_data t && fits_image t p (length payload) (length inputs)))
  unfolding answer_to diagnosis_answer
  exchanged-when Diagnosis = by_test (taken t (length payload)) (λ e. rw e (diagnosis-keeps (state_of p.station.state) (station_diagnosed p payload (length diags)))) (λ e. rw e refl)
  exchanged-when Parameters = acknowledgement_keeps (is_short t) WaitForConfig p.station
  exchanged-when Configuration = acknowledgement_keeps (is_short t) ValidateConfig p.station
  exchanged-when Data = data_when t (fits_image t p (length payload) (length inputs)) p.station

  pub exchanged-fits : (k : Request) → is_exchanged (answer_to k t p payload (length inputs) (length diags)).event ≡ true → fits_image t p (length payload) (length inputs) ≡ true
  exchanged-fits k x =
      let fits = fits_image t p (length payload) (length inputs) in
      and_right (carries_data t) fits (and_right (is_data k) (carries_data t && fits) (sym (exchanged-when k) ∙ x))

  module _ (out_inputs out_diags : List ℕ) where
    abbrev Stands : Request → Type 0
    Stands k = Kept (keeps_of k t p payload (length diags) (answer_to k t p payload (length inputs) (length diags)).event) p payload inputs diags out_inputs out_diags

    input-pool : (k : Request) → Stands k → out_inputs ≡ inputs_of (answer_to k t p payload (length inputs) (length diags)).event (carried t payload) p inputs
    unfolding keeps_of answer_to diagnosis_keeps
    input-pool Diagnosis s =
        rw (exchanged-when Diagnosis) (by_test (taken t (length payload) && payload_fits p payload (length diags)) (λ e. rw e at s.input_pool) (λ e. rw e at s.input_pool))
    input-pool Parameters s = rw (acknowledgement_keeps (is_short t) WaitForConfig p.station) s.input_pool
    input-pool Configuration s = rw (acknowledgement_keeps (is_short t) ValidateConfig p.station) s.input_pool
    input-pool Data s =
        by_test (is_exchanged (data_heard t (fits_image t p (length payload) (length inputs)) p.station).event)
        (λ e. rw e ((rw e at s.input_pool) ∙ ap (λ (l : List ℕ). with_image p l inputs) (came t p payload (length inputs) (exchanged-fits Data e))))
        (λ e. rw e (rw e at s.input_pool))

    diag_pool : (k : Request) → Stands k → out_diags ≡ diags_of (is_diagnosis k && taken t (length payload)) p payload diags
    unfolding keeps_of answer_to diagnosis_keeps
    diag_pool Diagnosis s =
        by_test (taken t (length payload) && payload_fits p payload (length diags)) (λ e. rw e (rw e at s.diag_pool)) (λ e. rw e (rw e at s.diag_pool))
    diag_pool Parameters s = s.diag_pool
    diag_pool Configuration s = s.diag_pool
    diag_pool Data s =
        by_test (is_exchanged (data_heard t (fits_image t p (length payload) (length inputs)) p.station).event) (λ e. rw e at s.diag_pool) (λ e. rw e at s.diag_pool)

    pub kept_inputs : (asked : Request) → Kept (reply_of asked t p payload (length inputs) (length diags)).keeps p payload inputs diags out_inputs out_diags
        → out_inputs ≡ inputs_of (reply_of asked t p payload (length inputs) (length diags)).event (carried t payload) p inputs
    kept_inputs asked s = input-pool (judged_as asked p.station) s

    pub kept_diags : (asked : Request) → Kept (reply_of asked t p payload (length inputs) (length diags)).keeps p payload inputs diags out_inputs out_diags
        → out_diags ≡ diags_of (diagnosis_taken asked t p (length payload)) p payload diags
    kept_diags asked s = diag_pool (judged_as asked p.station) s
