-- What a reply does to a station: one row for each line of 01's list by state, with what is known of the reply there, and by the request that it is judged to answer.
-- The idea: the tests of the definitions are gone through here and nowhere else; a fact of replies is then one line a row.
use mathlib.Core.Path.{◌≡◌, refl, sym, ◌∙◌}
use Prim.Native.Nat.{ℕ}
use mathlib.Core.Bool.{Bool, true, false, not, ◌||◌, false≢true, cond}
use lib.Dec.{eqb}
use borrow.Author.Tests.{eqb-true}
use Rattle.parts.proofs.Laws.{by_test}
use Rattle.fdl.specs.Status.{is_short, among, data_codes}
use Rattle.fdl.specs.declared.telegram.Telegram.{Telegram}
use Rattle.fdl.specs.declared.telegram.Telegram.TheVariants.{ShortConfirmation, Data as DataReply, Token, Request as RequestTelegram}
use Rattle.payloads.specs.declared.request.Request.{Request}
use Rattle.payloads.specs.declared.request.Request.TheVariants.{Diagnosis, Parameters, Configuration, Data}
use Rattle.payloads.specs.Request.{is_data}
use Rattle.payloads.specs.Diagnosis.{flag}
use Rattle.station.specs.declared.record.Station.{Station}
use Rattle.station.specs.declared.heard.Heard.{Heard}
use Rattle.station.specs.declared.state.PeripheralState.{PeripheralState}
use Rattle.station.specs.declared.state.PeripheralState.TheVariants.{Offline, WaitForParam, WaitForConfig, ValidateConfig, PreDataExchange, DataExchange}
use Rattle.station.specs.declared.state.PeripheralEvent.TheVariants.{NoEvent, Online, Configured, ConfigError, ParameterError, DataExchanged, Diagnostics}
use Rattle.station.specs.State.{state_of}
use Rattle.station.specs.Record.{in_state, counting, cycling, fallen, due_is}
use Rattle.station.specs.Visit.{request_in, judged_as}
use Rattle.station.specs.Heard.{reports, by_flags, diagnosis_heard, diagnosis_missed, acknowledgement_heard, exchanged_of, status_heard, telegram_heard, data_heard}

-- PreDataExchange or DataExchange
abbrev pub exchanging : PeripheralState → Bool
exchanging Offline = false
exchanging WaitForParam = false
exchanging WaitForConfig = false
exchanging ValidateConfig = false
exchanging PreDataExchange = true
exchanging DataExchange = true

-- a data reply with this status
abbrev pub coded : ℕ → Telegram → Bool
coded n ShortConfirmation = false
coded n (DataReply dsap ssap status) = eqb status n
coded n Token = false
coded n RequestTelegram = false

-- ---- the rows

-- s: the station before; took: the reply is taken as a diagnosis, q is the station then; three, ten: its status; then the request that it is judged to answer, and what is heard
pub data ReplyRow (s q : Station) (t : Telegram) (took three ten : Bool) : Request → Heard → Type 0 where
  -- Offline
  comes_online : state_of s.state ≡ Offline → took ≡ true → ReplyRow s q t took three ten Diagnosis (reports Online (in_state WaitForParam (counting 0 q)))
  stays_offline : state_of s.state ≡ Offline → took ≡ false → ReplyRow s q t took three ten Diagnosis (reports NoEvent s)
  -- WaitForParam, WaitForConfig
  param_confirmed : state_of s.state ≡ WaitForParam → is_short t ≡ true → ReplyRow s q t took three ten Parameters (reports NoEvent (in_state WaitForConfig (counting 0 (cycling s))))
  param_unconfirmed : state_of s.state ≡ WaitForParam → is_short t ≡ false → ReplyRow s q t took three ten Parameters (reports NoEvent s)
  config_confirmed : state_of s.state ≡ WaitForConfig → is_short t ≡ true → ReplyRow s q t took three ten Configuration (reports NoEvent (in_state ValidateConfig (counting 0 (cycling s))))
  config_unconfirmed : state_of s.state ≡ WaitForConfig → is_short t ≡ false → ReplyRow s q t took three ten Configuration (reports NoEvent s)
  -- ValidateConfig
  param_error : state_of s.state ≡ ValidateConfig → took ≡ true → flag 0x0040 q.diag.flags ≡ true → ReplyRow s q t took three ten Diagnosis (reports ParameterError (fallen (counting 0 q)))
  config_error : state_of s.state ≡ ValidateConfig → took ≡ true → flag 0x0040 q.diag.flags ≡ false → flag 0x0004 q.diag.flags ≡ true → ReplyRow s q t took three ten Diagnosis (reports ConfigError (fallen (counting 0 q)))
  param_wanted : state_of s.state ≡ ValidateConfig → took ≡ true → flag 0x0040 q.diag.flags ≡ false → flag 0x0004 q.diag.flags ≡ false → flag 0x0100 q.diag.flags ≡ true → ReplyRow s q t took three ten Diagnosis (reports NoEvent (in_state WaitForParam (counting 0 q)))
  not_ready : state_of s.state ≡ ValidateConfig → took ≡ true → flag 0x0040 q.diag.flags ≡ false → flag 0x0004 q.diag.flags ≡ false → flag 0x0100 q.diag.flags ≡ false → flag 0x0002 q.diag.flags ≡ true → ReplyRow s q t took three ten Diagnosis (reports NoEvent (counting 0 q))
  is_configured : state_of s.state ≡ ValidateConfig → took ≡ true → flag 0x0040 q.diag.flags ≡ false → flag 0x0004 q.diag.flags ≡ false → flag 0x0100 q.diag.flags ≡ false → flag 0x0002 q.diag.flags ≡ false → ReplyRow s q t took three ten Diagnosis (reports Configured (in_state PreDataExchange (counting 0 q)))
  unvalidated : state_of s.state ≡ ValidateConfig → took ≡ false → ReplyRow s q t took three ten Diagnosis (reports NoEvent (counting 0 s))
  -- PreDataExchange, DataExchange: a diagnosis was asked
  diagnosed : exchanging (state_of s.state) ≡ true → took ≡ true → ReplyRow s q t took three ten Diagnosis (reports Diagnostics (counting 0 (due_is false q)))
  undiagnosed : exchanging (state_of s.state) ≡ true → took ≡ false → ReplyRow s q t took three ten Diagnosis (reports NoEvent s)
  -- PreDataExchange, DataExchange: data was asked; j: status 10
  data_stored : (j : Bool) → exchanging (state_of s.state) ≡ true → three ≡ false → ten ≡ j → ReplyRow s q t took three ten Data (reports DataExchanged (in_state DataExchange (due_is (j || s.diag_needed) (counting 0 (cycling s)))))
  data_unused : (j : Bool) → exchanging (state_of s.state) ≡ true → three ≡ false → ten ≡ j → ReplyRow s q t took three ten Data (reports NoEvent (due_is (j || s.diag_needed) (counting 0 (cycling s))))
  data_denied : exchanging (state_of s.state) ≡ true → three ≡ true → ten ≡ false → ReplyRow s q t took three ten Data (reports NoEvent (in_state ValidateConfig (counting 0 (cycling s))))

-- ---- what a station makes of a reply that answers a request; fits: what came is the input image

abbrev pub heard_for : Request → Telegram → Bool → Station → Bool → Station → Heard
heard_for Diagnosis t took q fits s = cond took (diagnosis_heard (state_of s.state) q) (diagnosis_missed (state_of s.state) s)
heard_for Parameters t took q fits s = acknowledgement_heard (is_short t) WaitForConfig s
heard_for Configuration t took q fits s = acknowledgement_heard (is_short t) ValidateConfig s
heard_for Data t took q fits s = data_heard t fits s

-- ---- every reply is in a row, by the request that it is judged to answer

not_ten : (n : ℕ) → among n data_codes ≡ false → eqb n 10 ≡ false
not_ten n e = by_test (eqb n 10) (λ f. let q : n ≡ 10 = eqb-true n 10 f in absurd (false≢true (sym (rw q at e)))) (λ f. f)

three_not_ten : (n : ℕ) → eqb n 3 ≡ true → eqb n 10 ≡ false
three_not_ten n e = let q : n ≡ 3 = eqb-true n 3 e in rw q refl

module _ (s q : Station) (t : Telegram) (took fits : Bool) where
  -- a row of this reply
  abbrev Here : Request → Heard → Type 0
  Here k h = ReplyRow s q t took (coded 3 t) (coded 10 t) k h

  found_row : (b : Bool) → took ≡ b → state_of s.state ≡ Offline → Here Diagnosis (cond b (diagnosis_heard Offline q) (diagnosis_missed Offline s))
  found_row true e x = comes_online x e
  found_row false e x = stays_offline x e

  to_config_row : (b : Bool) → is_short t ≡ b → state_of s.state ≡ WaitForParam → Here Parameters (acknowledgement_heard b WaitForConfig s)
  to_config_row true e x = param_confirmed x e
  to_config_row false e x = param_unconfirmed x e

  to_validate_row : (b : Bool) → is_short t ≡ b → state_of s.state ≡ WaitForConfig → Here Configuration (acknowledgement_heard b ValidateConfig s)
  to_validate_row true e x = config_confirmed x e
  to_validate_row false e x = config_unconfirmed x e

  module _ (x : state_of s.state ≡ ValidateConfig) where
    flags_row : took ≡ true → (a b c d : Bool) → flag 0x0040 q.diag.flags ≡ a → flag 0x0004 q.diag.flags ≡ b → flag 0x0100 q.diag.flags ≡ c → flag 0x0002 q.diag.flags ≡ d → let p = counting 0 q in
        Here Diagnosis (cond a (reports ParameterError (fallen p)) (cond b (reports ConfigError (fallen p)) (cond c (reports NoEvent (in_state WaitForParam p)) (cond d (reports NoEvent p) (reports Configured (in_state PreDataExchange p))))))
    flags_row e true b c d ea eb ec ed = param_error x e ea
    flags_row e false true c d ea eb ec ed = config_error x e ea eb
    flags_row e false false true d ea eb ec ed = param_wanted x e ea eb ec
    flags_row e false false false true ea eb ec ed = not_ready x e ea eb ec ed
    flags_row e false false false false ea eb ec ed = is_configured x e ea eb ec ed

    validated_row : (b : Bool) → took ≡ b → Here Diagnosis (cond b (diagnosis_heard ValidateConfig q) (diagnosis_missed ValidateConfig s))
    unfolding by_flags
    validated_row true e = flags_row e _ _ _ _ refl refl refl refl
    validated_row false e = unvalidated x e

  module _ (x : exchanging (state_of s.state) ≡ true) where
    diagnosed_row : (b : Bool) → took ≡ b → Here Diagnosis (cond b (diagnosis_heard DataExchange q) (diagnosis_missed DataExchange s))
    diagnosed_row true e = diagnosed x e
    diagnosed_row false e = undiagnosed x e

    exchanged_row : (b j : Bool) → coded 3 t ≡ false → coded 10 t ≡ j → Here Data (exchanged_of b (due_is (j || s.diag_needed) (counting 0 (cycling s))))
    exchanged_row true j e f = data_stored j x e f
    exchanged_row false j e f = data_unused j x e f

    status_row : (n : ℕ) → coded 3 t ≡ eqb n 3 → coded 10 t ≡ eqb n 10 → Here Data (status_heard n fits (counting 0 (cycling s)))
    status_row n e f =
        by_test (eqb n 3) (λ a. rw a (data_denied x (e ∙ a) (f ∙ three_not_ten n a)))
        (λ a. by_test (among n data_codes) (λ b. rw (a, b) (exchanged_row fits (eqb n 10) (e ∙ a) f))
        (λ b. rw (a, b) (data_unused false x (e ∙ a) (f ∙ not_ten n b))))

    read_row : (u : Telegram) → t ≡ u → Here Data (telegram_heard u fits (counting 0 (cycling s)))
    read_row ShortConfirmation e = exchanged_row fits false (rw e refl) (rw e refl)
    read_row (DataReply dsap ssap n) e = status_row n (rw e refl) (rw e refl)
    read_row Token e = data_unused false x (rw e refl) (rw e refl)
    read_row RequestTelegram e = data_unused false x (rw e refl) (rw e refl)

  row_in : (x : PeripheralState) (b : Bool) → state_of s.state ≡ x → Here (request_in x b) (heard_for (request_in x b) t took q fits s)
  row_in Offline b x = rw x (found_row took refl x)
  row_in WaitForParam b x = to_config_row (is_short t) refl x
  row_in WaitForConfig b x = to_validate_row (is_short t) refl x
  row_in ValidateConfig b x = rw x (validated_row x took refl)
  row_in PreDataExchange true x = rw x (diagnosed_row (rw x refl) took refl)
  row_in PreDataExchange false x = read_row (rw x refl) t refl
  row_in DataExchange true x = rw x (diagnosed_row (rw x refl) took refl)
  row_in DataExchange false x = read_row (rw x refl) t refl

  pub reply_row : (asked : Request) → Here (judged_as asked s) (heard_for (judged_as asked s) t took q fits s)
  reply_row asked = row_in (state_of s.state) (not (is_data asked)) refl
