-- Which replies report DataExchanged.
-- The idea: only the answer to a data request does, and exactly where it is data and what came is the input image.
use mathlib.Core.Path.{◌≡◌, refl}
use mathlib.Core.Bool.{Bool, true, false, ◌&&◌}
use Prim.Native.Nat.{ℕ}
use lib.Dec.{eqb}
use borrow.Author.Tests.{eqb-true}
use Rattle.parts.proofs.Laws.{by_test}
use Rattle.fdl.specs.Status.{among, data_codes}
use Rattle.fdl.specs.declared.telegram.Telegram.{Telegram}
use Rattle.fdl.specs.declared.telegram.Telegram.TheVariants.{ShortConfirmation, Data, Token, Request}
use Rattle.payloads.specs.Diagnosis.{flag}
use Rattle.station.specs.declared.record.Station.{Station}
use Rattle.station.specs.declared.heard.Heard.{Heard}
use Rattle.station.specs.declared.state.PeripheralState.{PeripheralState}
use Rattle.station.specs.declared.state.PeripheralState.TheVariants.{Offline, WaitForParam, WaitForConfig, ValidateConfig, PreDataExchange, DataExchange}
use Rattle.station.specs.Record.{counting}
use Rattle.station.specs.Heard.{by_flags, diagnosis_heard, acknowledgement_heard, exchanged_of, status_heard, telegram_heard, data_heard, is_exchanged}

-- it is not reported
abbrev pub Unexchanged : Heard → Type 0
Unexchanged r = is_exchanged r.event ≡ false

flags_keep : (f : ℕ) (p : Station) → Unexchanged (by_flags f p)
unfolding by_flags
flags_keep f p =
    by_test (flag 0x0040 f) (λ a. rw a refl)
    (λ a. by_test (flag 0x0004 f) (λ b. rw (a, b) refl) (λ b. by_test (flag 0x0100 f) (λ d. rw (a, b, d) refl) (λ d. by_test (flag 0x0002 f) (λ e. rw (a, b, d, e) refl) (λ e. rw (a, b, d, e) refl))))

pub diagnosis-keeps : (s : PeripheralState) (p : Station) → Unexchanged (diagnosis_heard s p)
diagnosis-keeps Offline p = refl
diagnosis-keeps WaitForParam p = refl
diagnosis-keeps WaitForConfig p = refl
diagnosis-keeps ValidateConfig p = flags_keep p.diag.flags (counting 0 p)
diagnosis-keeps PreDataExchange p = refl
diagnosis-keeps DataExchange p = refl

pub acknowledgement_keeps : (short : Bool) (next : PeripheralState) (p : Station) → Unexchanged (acknowledgement_heard short next p)
acknowledgement_keeps true next p = refl
acknowledgement_keeps false next p = refl

-- a reply that is data: a short confirmation, or a status among those of data
abbrev pub carries_data : Telegram → Bool
carries_data ShortConfirmation = true
carries_data (Data dsap ssap status) = among status data_codes
carries_data Token = false
carries_data Request = false

image-when : (fits : Bool) (p : Station) → is_exchanged (exchanged_of fits p).event ≡ fits
image-when true p = refl
image-when false p = refl

-- status 3 is none of them
three_no_data : (n : ℕ) → eqb n 3 ≡ true → among n data_codes ≡ false
three_no_data n e = let q : n ≡ 3 = eqb-true n 3 e in rw q refl

status-when : (n : ℕ) (fits : Bool) (p : Station) → is_exchanged (status_heard n fits p).event ≡ (among n data_codes && fits)
status-when n fits p =
    by_test (eqb n 3) (λ a. rw (a, three_no_data n a) refl)
    (λ a. by_test (among n data_codes) (λ d. rw (a, d) (image-when fits _)) (λ d. rw (a, d) refl))

telegram-when : (t : Telegram) (fits : Bool) (p : Station) → is_exchanged (telegram_heard t fits p).event ≡ (carries_data t && fits)
telegram-when ShortConfirmation fits p = image-when fits p
telegram-when (Data dsap ssap status) fits p = status-when status fits p
telegram-when Token fits p = refl
telegram-when Request fits p = refl

-- the answer to a data request reports it exactly when it is data and the input image
pub data_when : (t : Telegram) (fits : Bool) (p : Station) → is_exchanged (data_heard t fits p).event ≡ (carries_data t && fits)
data_when t fits p = telegram-when t fits _
