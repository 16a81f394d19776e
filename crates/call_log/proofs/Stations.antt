-- One station and its own notes: what its state says of the notes is kept by each thing that can happen to it.
-- The idea: the notes come into it as a few Bools (parameters, configuration, ready, due), and each row of the tables of visits and replies is one line.
use mathlib.Core.Path.{◌≡◌, refl, sym, ap, ◌∙◌}
use Prim.Native.Nat.{ℕ}
use mathlib.Core.Bool.{Bool, true, false, not, ◌&&◌, ◌||◌, false≢true, and-false, or-false, cond}
use mathlib.Core.List.{List}
use mathlib.Core.Option.{Option, some}
use lib.Dec.{T}
use borrow.Author.Tests.{ltb-false, le-leb}
use Rattle.fdl.specs.Status.{carried}
use Rattle.fdl.specs.declared.telegram.Telegram.{Telegram}
use Rattle.payloads.specs.declared.request.Request.{Request}
use Rattle.payloads.specs.declared.request.Request.TheVariants.{Diagnosis, Parameters, Configuration, Data}
use Rattle.station.specs.declared.record.Station.{Station}
use Rattle.station.specs.declared.heard.Heard.{Heard}
use Rattle.station.specs.declared.state.PeripheralState.{PeripheralState}
use Rattle.station.specs.declared.state.PeripheralState.TheVariants.{Offline, WaitForParam, WaitForConfig, ValidateConfig, PreDataExchange, DataExchange}
use Rattle.station.specs.State.{state_of}
use Rattle.station.specs.Record.{with_diagnosis}
use Rattle.station.specs.Visit.{request_in, action_of}
use Rattle.payloads.specs.Request.{is_data}
use Rattle.station.specs.Heard.{is_exchanged}
use Rattle.station.proofs.Visits.{drops, sends_data, action_drops, action_data}
use Rattle.call_log.specs.Notes.{Note, is_error, is_diagnosed}
use Rattle.call_log.specs.Words.{confirms, denies, warns, cleans, due_of, image_of}
use Rattle.call_log.proofs.Wording.{is_true, and_l, and_r, has_param, has_config, ready}
use Rattle.station.proofs.Rows.{exchanging, comes_online, stays_offline, param_confirmed, param_unconfirmed, config_confirmed, config_unconfirmed, param_error, config_error, param_wanted, not_ready, is_configured, unvalidated, diagnosed, undiagnosed, data_stored, data_unused, data_denied}
use Rattle.call_log.proofs.Lives.{Slot, RowOf, Lives, joins, moves, wishes, sends, lost, skips, rests, gets, last-asked}

-- ---- what is said

-- what a state says of the notes: parameters, configuration acknowledged since the last fall; ready
abbrev pub phase : PeripheralState → (hp hc rd : Bool) → Bool
phase Offline hp hc rd = not hc && not rd
phase WaitForParam hp hc rd = not rd
phase WaitForConfig hp hc rd = hp && not rd
phase ValidateConfig hp hc rd = hc && not rd
phase PreDataExchange hp hc rd = hc && rd
phase DataExchange hp hc rd = hc && rd

pub record Told (s : Station) (l : List Note) : Type 0 where
  pub due_is : s.diag_needed ≡ due_of l
  pub in_phase : T (phase (state_of s.state) (has_param l) (has_config l) (ready l))

-- a note that is no fall, no acknowledgement, no diagnosis and no "SAP not enabled" leaves the words as they were
same_words : (x : PeripheralState) (hp hc rd : Bool) → T (phase x hp hc rd) → T (phase x hp (hc || (hp && false)) (rd || (hc && false)))
same_words x hp hc rd h = rw (and-false hp, and-false hc, or-false hc, or-false rd) h

-- ready exactly in the exchange states, and then configuration is acknowledged
is_not : (a : Bool) → T (not a) → a ≡ false
is_not true h = absurd h
is_not false h = refl

ready_is : (x : PeripheralState) (hp hc rd : Bool) → T (phase x hp hc rd) → rd ≡ exchanging x
ready_is Offline hp hc rd h = is_not rd (and_r (not hc) (not rd) h)
ready_is WaitForParam hp hc rd h = is_not rd h
ready_is WaitForConfig hp hc rd h = is_not rd (and_r hp (not rd) h)
ready_is ValidateConfig hp hc rd h = is_not rd (and_r hc (not rd) h)
ready_is PreDataExchange hp hc rd h = is_true rd (and_r hc rd h)
ready_is DataExchange hp hc rd h = is_true rd (and_r hc rd h)

config_is : (x : PeripheralState) (hp hc rd : Bool) → exchanging x ≡ true → T (phase x hp hc rd) → hc ≡ true
config_is Offline hp hc rd e h = absurd (false≢true e)
config_is WaitForParam hp hc rd e h = absurd (false≢true e)
config_is WaitForConfig hp hc rd e h = absurd (false≢true e)
config_is ValidateConfig hp hc rd e h = is_true hc (and_l hc (not rd) h)
config_is PreDataExchange hp hc rd e h = is_true hc (and_l hc rd h)
config_is DataExchange hp hc rd e h = is_true hc (and_l hc rd h)

-- data is waited for exactly when no diagnosis is due and the notes say ready
when-due : (d : Bool) → is_data (cond d Diagnosis Data) ≡ (not d && true)
when-due true = refl
when-due false = refl

wants_data : (x : PeripheralState) (d : Bool) → is_data (request_in x d) ≡ (not d && exchanging x)
wants_data Offline d = sym (and-false (not d))
wants_data WaitForParam d = sym (and-false (not d))
wants_data WaitForConfig d = sym (and-false (not d))
wants_data ValidateConfig d = sym (and-false (not d))
wants_data PreDataExchange d = when-due d
wants_data DataExchange d = when-due d

pub asked-when : (limit : ℕ) (user config : Bool) (s : Station) (l : List Note) → Told s l → drops (action_of limit user config s) ≡ false
    → sends_data (action_of limit user config s) ≡ (not (due_of l) && ready l)
asked-when limit user config s l i f =
    let within = le-leb s.retry_count limit (ltb-false limit s.retry_count (sym (action_drops user config s limit) ∙ f)) in
    action_data user config s limit ∙ rw (within, ready_is (state_of s.state) (has_param l) (has_config l) (ready l) i.in_phase, ← i.due_is) (wants_data (state_of s.state) s.diag_needed)

-- ---- the reply

-- what a reply leaves, where d was due, and of the reply: a, c parameters and configuration acknowledged, n "SAP not enabled", j status 10, q clean
record Kept (h : Heard) (a c n j q hp hc rd d : Bool) : Type 0 where
  due_ok : h.station.diag_needed ≡ not (is_diagnosed h.event) && (j || d)
  phase_ok : T (phase (state_of h.station.state) (not (is_error h.event) && (a || hp)) (not (is_error h.event) && (hc || (hp && c))) (not (is_error h.event) && (not n && (rd || (hc && q)))))

-- the words of a reply to a request of kind k
abbrev KeptBy : Heard → Option Request → Telegram → List ℕ → (hp hc rd d : Bool) → Type 0
KeptBy h k t payload hp hc rd d = Kept h (confirms Parameters k t) (confirms Configuration k t) (denies k t) (warns k t) (cleans k t payload) hp hc rd d

-- not ready, and not made so
not_yet : (hc rd : Bool) → T (not rd) → T (not (rd || (hc && false)))
not_yet hc rd h = rw (and-false hc, or-false rd) h

not_at_all : (hc rd q : Bool) → T (not hc && not rd) → T (not (rd || (hc && q)))
not_at_all true rd q h = absurd h
not_at_all false true q h = absurd h
not_at_all false false q h = tt

by_config : (hp hc rd : Bool) → T (hp && not rd) → T ((hc || (hp && true)) && not (rd || (hc && false)))
by_config true true true h = absurd h
by_config true true false h = tt
by_config true false true h = absurd h
by_config true false false h = tt
by_config false hc rd h = absurd h

by_clean : (hp hc rd : Bool) → T (hc && not rd) → T ((hc || (hp && false)) && (rd || (hc && true)))
by_clean hp true true h = absurd h
by_clean hp true false h = tt
by_clean hp false rd h = absurd h

module _ (s : Station) (t : Telegram) (payload : List ℕ) (hp hc rd : Bool) (h : T (phase (state_of s.state) hp hc rd)) where
  same : T (phase (state_of s.state) hp (hc || (hp && false)) (rd || (hc && false)))
  same = same_words (state_of s.state) hp hc rd h

  settled : exchanging (state_of s.state) ≡ true → (hc ≡ true) × (rd ≡ true)
  settled x = (config_is (state_of s.state) hp hc rd x h, ready_is (state_of s.state) hp hc rd h ∙ x)

  -- one line a row
  kept : (n : ℕ) {k : Request} {g : Heard} → RowOf s t payload n k g → KeptBy g (some k) t payload hp hc rd s.diag_needed
  unfolding with_diagnosis
  kept n (comes_online x e) = record { due_ok = refl; phase_ok = not_at_all hc rd _ (rw x at h) }
  kept n (stays_offline x e) = record { due_ok = refl; phase_ok = rw e same }
  kept n (param_confirmed x e) = record { due_ok = refl; phase_ok = rw e (not_yet hc rd (rw x at h)) }
  kept n (param_unconfirmed x e) = record { due_ok = refl; phase_ok = rw e same }
  kept n (config_confirmed x e) = record { due_ok = refl; phase_ok = rw e (by_config hp hc rd (rw x at h)) }
  kept n (config_unconfirmed x e) = record { due_ok = refl; phase_ok = rw e same }
  kept n (param_error x e a) = record { due_ok = refl; phase_ok = tt }
  kept n (config_error x e a b) = record { due_ok = refl; phase_ok = tt }
  kept n (param_wanted x e a b c) = record { due_ok = refl; phase_ok = rw (e, a, b, c) (not_yet hc rd (and_r hc (not rd) (rw x at h))) }
  kept n (not_ready x e a b c d) = record { due_ok = refl; phase_ok = rw (e, a, b, c, d) same }
  kept n (is_configured x e a b c d) = record { due_ok = refl; phase_ok = rw (e, a, b, c, d) (by_clean hp hc rd (rw x at h)) }
  kept n (unvalidated x e) = record { due_ok = refl; phase_ok = rw e same }
  kept n (diagnosed x e) = let r = settled x in record { due_ok = refl; phase_ok = rw (r.0, r.1) (rw (r.0, r.1) at h) }
  kept n (undiagnosed x e) = record { due_ok = refl; phase_ok = rw e same }
  kept n (data_stored j x e f) = let r = settled x in record { due_ok = rw f refl; phase_ok = rw (e, r.0, r.1) tt }
  kept n (data_unused j x e f) = record { due_ok = rw f refl; phase_ok = rw e same }
  kept n (data_denied x e f) = let r = settled x in record { due_ok = rw f refl; phase_ok = rw (e, r.0) tt }

-- ---- the facts of slots that the promises need

pub told : {limit : ℕ} {x : Slot} {l : List Note} → Lives limit x l → Told x.balance.station l
told (joins a user config m l) = record { due_is = refl; in_phase = tt }
told (moves v a) = record { due_is = refl; in_phase = tt }
told (wishes {x = x} {l = l} v) = record { due_is = refl; in_phase = same_words (state_of x.balance.station.state) (has_param l) (has_config l) (ready l) (told v).in_phase }
told (sends {x = x} {l = l} v e) = record { due_is = (told v).due_is; in_phase = same_words (state_of x.balance.station.state) (has_param l) (has_config l) (ready l) (told v).in_phase }
told (lost v e) = record { due_is = (told v).due_is; in_phase = tt }
told (skips v e) = record { due_is = (told v).due_is; in_phase = (told v).in_phase }
told (rests v) = told v
told (gets {x = x} {l = l} {t = t} {payload = payload} v o n r) =
    let y = kept x.balance.station t payload (has_param l) (has_config l) (ready l) (told v).in_phase n r in
    record { due_is = rw (last-asked v o, ← (told v).due_is) y.due_ok; in_phase = rw (last-asked v o) y.phase_ok }

pub image_is : {limit : ℕ} {x : Slot} {l : List Note} → Lives limit x l → x.image ≡ image_of l
image_is (joins a user config m l) = refl
image_is (moves v a) = image_is v
image_is (wishes v) = image_is v
image_is (sends v e) = image_is v
image_is (lost v e) = image_is v
image_is (skips v e) = image_is v
image_is (rests v) = image_is v
image_is (gets {t = t} {payload = payload} {h = h} v o n r) = ap (λ (im : List ℕ). cond (is_exchanged h.event) (carried t payload) im) (image_is v)
