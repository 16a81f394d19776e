-- Visits and replies keep a station sound, and what a visit sends fits the station's state.
-- The idea: each row of the tables puts a state by its number, the count to 0 or one more within the limit, and the bit one further;
-- whatever these changes keep, a reply keeps.
use mathlib.Core.Path.{◌≡◌, refl, sym, ◌∙◌}
use mathlib.Core.Bool.{Bool, true, false, ◌&&◌, ◌||◌, false≢true}
use Prim.Native.Nat.{ℕ, ◌+◌, ◌≤◌}
use native.Mathlib.Omega.{arith}
use lib.Dec.{T, ltb, eqb, eqb→eq}
use borrow.Author.Tests.{ltb-false, eqb-true, eqb-false}
use Rattle.parts.proofs.Laws.{by_test}
use Rattle.fdl.specs.Bits.{cycled, bit_number, bit_of}
use Rattle.fdl.specs.declared.telegram.Telegram.{Telegram}
use Rattle.payloads.specs.declared.request.Request.{Request}
use Rattle.payloads.specs.declared.request.Request.TheVariants.{Diagnosis, Data}
use Rattle.payloads.specs.Request.{kind_number}
use Rattle.payloads.specs.declared.diagnosis.DiagnosticsInfo.{DiagnosticsInfo}
use Rattle.station.specs.declared.record.Station.{Station}
use Rattle.station.specs.declared.heard.Heard.{Heard}
use Rattle.station.specs.declared.state.PeripheralState.{PeripheralState}
use Rattle.station.specs.declared.state.PeripheralState.TheVariants.{Offline, WaitForParam, WaitForConfig, ValidateConfig, PreDataExchange, DataExchange}
use Rattle.station.specs.declared.visit.Visited.{Visited}
use Rattle.station.specs.declared.visit.Visited.TheVariants.{Sends, Drops, Skips}
use Rattle.station.specs.State.{number_of, state_of}
use Rattle.station.specs.Record.{new_station, in_state, counting, cycling, fallen, due_is, one_more, with_diagnosis}
use Rattle.station.specs.Visit.{request_in, judged_as, can_send, action_of, visited_of}
use Rattle.station.proofs.Visits.{drops, action_drops}
use Rattle.station.proofs.Rows.{ReplyRow, comes_online, stays_offline, param_confirmed, param_unconfirmed, config_confirmed, config_unconfirmed, param_error, config_error, param_wanted, not_ready, is_configured, unvalidated, diagnosed, undiagnosed, data_stored, data_unused, data_denied, heard_for, reply_row}
use Rattle.valid.specs.Valid.{Sound, fits}

-- ---- the numbers

state-number : (x : PeripheralState) → number_of x ≤ 5
state-number Offline = omega arith
state-number WaitForParam = omega arith
state-number WaitForConfig = omega arith
state-number ValidateConfig = omega arith
state-number PreDataExchange = omega arith
state-number DataExchange = omega arith

-- a bit that is one of the three stays one of the three
bit-cycles : (n : ℕ) → 1 ≤ n → n ≤ 3 → (1 ≤ bit_number (cycled (bit_of n))) × (bit_number (cycled (bit_of n)) ≤ 3)
bit-cycles n l h =
    by_test (eqb n 1) (λ a. rw a (omega arith, omega arith))
    (λ a. by_test (eqb n 2) (λ b. rw (a, b) (omega arith, omega arith))
    (λ b. by_test (eqb n 3) (λ c. rw (a, b, c) (omega arith, omega arith))
    (λ c. absurd (three n l h (eqb-false n 1 a) (eqb-false n 2 b) (eqb-false n 3 c)))))
  where
    three : (k : ℕ) → 1 ≤ k → k ≤ 3 → (k ≡ 1 → ⊥) → (k ≡ 2 → ⊥) → (k ≡ 3 → ⊥) → ⊥
    three k a b p q r = omega arith

-- ---- what each change keeps

module _ {limit room : ℕ} {s : Station} (g : Sound limit room s) where
  pub sound-at : (x : PeripheralState) → Sound limit room (in_state x s)
  sound-at x = record { state = state-number x; bit_low = g.bit_low; bit_high = g.bit_high; count = g.count; stored = g.stored; unheld = g.unheld }

  sound-count : (n : ℕ) → n ≤ limit + 1 → Sound limit room (counting n s)
  sound-count n h = record { state = g.state; bit_low = g.bit_low; bit_high = g.bit_high; count = h; stored = g.stored; unheld = g.unheld }

  pub sound-zero : Sound limit room (counting 0 s)
  sound-zero = sound-count 0 (omega arith)

  pub sound-fallen : Sound limit room (fallen s)
  sound-fallen = record { state = omega arith; bit_low = omega arith; bit_high = omega arith; count = g.count; stored = g.stored; unheld = g.unheld }

  pub sound-cycling : Sound limit room (cycling s)
  sound-cycling =
      let b = bit-cycles s.fcb g.bit_low g.bit_high in
      record { state = g.state; bit_low = b.0; bit_high = b.1; count = g.count; stored = g.stored; unheld = g.unheld }

  pub sound-due : (b : Bool) → Sound limit room (due_is b s)
  sound-due b = record { state = g.state; bit_low = g.bit_low; bit_high = g.bit_high; count = g.count; stored = g.stored; unheld = g.unheld }

  pub sound_took : (d : DiagnosticsInfo) (n : ℕ) → d.held ≡ true → n ≤ room → Sound limit room (with_diagnosis d n s)
  unfolding with_diagnosis
  sound_took d n e h =
      let b = bit-cycles s.fcb g.bit_low g.bit_high in
      record { state = g.state; bit_low = b.0; bit_high = b.1; count = g.count; stored = h; unheld = λ f. absurd (false≢true (sym f ∙ e)) }

-- as newly added
pub sound_new : (address limit room : ℕ) → Sound limit room (new_station address)
sound_new address limit room = record { state = omega arith; bit_low = omega arith; bit_high = omega arith; count = omega arith; stored = omega arith; unheld = λ e. refl }

-- ---- a visit

module _ {limit room : ℕ} {s : Station} (g : Sound limit room s) where
  one_more_fits : s.retry_count ≤ limit → one_more s.retry_count ≤ limit + 1
  one_more_fits h = by_test (ltb s.retry_count 255) (λ e. rw e (omega arith)) (λ e. rw e (omega (arith, ltb-false s.retry_count 255 e)))

  sound_visited : (w : Visited) → (drops w ≡ false → s.retry_count ≤ limit) → Sound limit room (visited_of w s)
  sound_visited (Sends k) h = sound-count g (one_more s.retry_count) (one_more_fits (h refl))
  sound_visited Drops h = sound-fallen (sound-zero g)
  sound_visited Skips h = sound-zero g

  pub sound_visit : (user config : Bool) → Sound limit room (visited_of (action_of limit user config s) s)
  sound_visit user config = sound_visited (action_of limit user config s) (λ f. ltb-false limit s.retry_count (sym (action_drops user config s limit) ∙ f))

-- ---- the request of a visit

-- what is sent fits the state
abbrev pub sends_fit : PeripheralState → Bool → Visited → Bool
sends_fit x due (Sends k) = fits x due (kind_number k)
sends_fit x due Drops = true
sends_fit x due Skips = true

request-fits : (x : PeripheralState) (due : Bool) → T (fits x due (kind_number (request_in x due)))
request-fits Offline due = tt
request-fits WaitForParam due = tt
request-fits WaitForConfig due = tt
request-fits ValidateConfig due = tt
request-fits PreDataExchange true = tt
request-fits PreDataExchange false = tt
request-fits DataExchange true = tt
request-fits DataExchange false = tt

pub action_fits : (user config : Bool) (s : Station) (limit : ℕ) → T (sends_fit (state_of s.state) s.diag_needed (action_of limit user config s))
unfolding action_of
action_fits user config s limit =
    by_test (ltb limit s.retry_count) (λ e. rw e tt)
    (λ e. by_test (can_send (state_of s.state) s.retry_count user config) (λ f. rw (e, f) (request-fits (state_of s.state) s.diag_needed)) (λ f. rw (e, f) tt))

-- it still fits when a wish comes
module _ (k : ℕ) (due : Bool) where
  or_due : (a b : Bool) → T (a || (b && due)) → T (a || (b && true))
  or_due true b h = tt
  or_due false true h = tt
  or_due false false h = absurd h

  pub fits-due : (x : PeripheralState) → T (fits x due k) → T (fits x true k)
  fits-due Offline h = h
  fits-due WaitForParam h = h
  fits-due WaitForConfig h = h
  fits-due ValidateConfig h = h
  fits-due PreDataExchange h = or_due (eqb k (kind_number Data)) (eqb k (kind_number Diagnosis)) h
  fits-due DataExchange h = or_due (eqb k (kind_number Data)) (eqb k (kind_number Diagnosis)) h

  -- its number is one of 1 to 4
  or_kind : T (eqb k 4 || (eqb k 1 && due)) → (1 ≤ k) × (k ≤ 4)
  or_kind h =
      by_test (eqb k 4) (λ e. omega (arith, eqb-true k 4 e))
      (λ e. by_test (eqb k 1) (λ f. omega (arith, eqb-true k 1 f)) (λ f. absurd (rw (e, f) at h)))

  pub kind-among : (x : PeripheralState) → T (fits x due k) → (1 ≤ k) × (k ≤ 4)
  kind-among Offline h = omega (arith, eqb→eq k 1 h)
  kind-among WaitForParam h = omega (arith, eqb→eq k 2 h)
  kind-among WaitForConfig h = omega (arith, eqb→eq k 3 h)
  kind-among ValidateConfig h = omega (arith, eqb→eq k 1 h)
  kind-among PreDataExchange h = or_kind h
  kind-among DataExchange h = or_kind h

-- ---- a reply

-- what each change that a reply can make keeps
pub record Steady (P : Station → Type 0) : Type 0 where
  pub at_ok : (x : PeripheralState) (s : Station) → P s → P (in_state x s)
  pub fallen_ok : (s : Station) → P s → P (fallen s)
  pub zero_ok : (s : Station) → P s → P (counting 0 s)
  pub cycling_ok : (s : Station) → P s → P (cycling s)
  pub due_ok : (b : Bool) (s : Station) → P s → P (due_is b s)

pub sound_steady : (limit room : ℕ) → Steady (Sound limit room)
sound_steady limit room = record { at_ok = λ x s g. sound-at g x; fallen_ok = λ s g. sound-fallen g; zero_ok = λ s g. sound-zero g; cycling_ok = λ s g. sound-cycling g; due_ok = λ b s g. sound-due g b }

pub address_steady : (a : ℕ) → Steady (λ s. s.address ≡ a)
address_steady a = record { at_ok = λ x s g. g; fallen_ok = λ s g. g; zero_ok = λ s g. g; cycling_ok = λ s g. g; due_ok = λ b s g. g }

-- is kept by the reply; q is the station with the diagnosis taken
module _ (P : Station → Type 0) (c : Steady P) (q s : Station) (gq : P q) (g : P s) where
  offline : P (fallen (counting 0 q))
  offline = c.fallen_ok (counting 0 q) (c.zero_ok q gq)

  wants : P (in_state WaitForParam (counting 0 q))
  wants = c.at_ok WaitForParam (counting 0 q) (c.zero_ok q gq)

  counted : P (counting 0 (cycling s))
  counted = c.zero_ok (cycling s) (c.cycling_ok s g)

  row_keeps : {t : Telegram} {took three ten : Bool} {k : Request} {h : Heard} → ReplyRow s q t took three ten k h → P h.station
  row_keeps (comes_online x e) = wants
  row_keeps (stays_offline x e) = g
  row_keeps (param_confirmed x e) = c.at_ok WaitForConfig (counting 0 (cycling s)) counted
  row_keeps (param_unconfirmed x e) = g
  row_keeps (config_confirmed x e) = c.at_ok ValidateConfig (counting 0 (cycling s)) counted
  row_keeps (config_unconfirmed x e) = g
  row_keeps (param_error x e a) = offline
  row_keeps (config_error x e a b) = offline
  row_keeps (param_wanted x e a b d) = wants
  row_keeps (not_ready x e a b d f) = c.zero_ok q gq
  row_keeps (is_configured x e a b d f) = c.at_ok PreDataExchange (counting 0 q) (c.zero_ok q gq)
  row_keeps (unvalidated x e) = c.zero_ok s g
  row_keeps (diagnosed x e) = c.zero_ok (due_is false q) (c.due_ok false q gq)
  row_keeps (undiagnosed x e) = g
  row_keeps (data_stored j x e f) = c.at_ok DataExchange (due_is (j || s.diag_needed) (counting 0 (cycling s))) (c.due_ok (j || s.diag_needed) (counting 0 (cycling s)) counted)
  row_keeps (data_unused j x e f) = c.due_ok (j || s.diag_needed) (counting 0 (cycling s)) counted
  row_keeps (data_denied x e f) = c.at_ok ValidateConfig (counting 0 (cycling s)) counted

  -- whatever was asked
  pub heard_keeps : (t : Telegram) (took fits : Bool) (asked : Request) → P (heard_for (judged_as asked s) t took q fits s).station
  heard_keeps t took fits asked = row_keeps (reply_row s q t took fits asked)
