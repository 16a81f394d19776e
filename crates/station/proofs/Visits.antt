-- What a visit changes and keeps, and which visits send what.
-- The idea: a visit is one of three, and each state is about one request.
use mathlib.Core.Path.{◌≡◌, refl, sym}
use mathlib.Core.Bool.{Bool, true, false, ◌&&◌, false≢true, cond}
use Prim.Native.Nat.{ℕ}
use lib.Dec.{ltb, leb}
use borrow.Author.Tests.{ltb-true, ltb-false, lt-leb, le-leb}
use Rattle.parts.proofs.Laws.{by_test}
use Rattle.payloads.specs.Request.{is_data}
use Rattle.station.specs.declared.record.Station.{Station}
use Rattle.station.specs.declared.state.PeripheralState.{PeripheralState}
use Rattle.station.specs.declared.state.PeripheralState.TheVariants.{Offline, WaitForParam, WaitForConfig, ValidateConfig, PreDataExchange, DataExchange}
use Rattle.station.specs.declared.visit.Visited.{Visited}
use Rattle.station.specs.declared.visit.Visited.TheVariants.{Sends, Drops, Skips}
use Rattle.station.specs.State.{state_of}
use Rattle.station.specs.Record.{changed}
use Rattle.station.specs.Visit.{request_in, request_of, can_send, action_of, visited_of}

-- a visit changes the state, the count and the frame bit, and nothing else
pub visit_keeps : (w : Visited) (s : Station)
    → visited_of w s ≡ changed s (visited_of w s).state (visited_of w s).retry_count (visited_of w s).fcb s.diag_needed s.diag_len s.diag
visit_keeps (Sends k) s = refl
visit_keeps Drops s = refl
visit_keeps Skips s = refl

-- ---- which visits do what

abbrev pub drops : Visited → Bool
drops (Sends k) = false
drops Drops = true
drops Skips = false

abbrev pub sends_data : Visited → Bool
sends_data (Sends k) = is_data k
sends_data Drops = false
sends_data Skips = false

-- a state that is about data can always be asked
can_send_data : (x : PeripheralState) (due : Bool) (count : ℕ) (user config : Bool) → is_data (request_in x due) ≡ true → can_send x count user config ≡ true
can_send_data Offline due count user config e = absurd (false≢true e)
can_send_data WaitForParam due count user config e = absurd (false≢true e)
can_send_data WaitForConfig due count user config e = absurd (false≢true e)
can_send_data ValidateConfig due count user config e = refl
can_send_data PreDataExchange due count user config e = refl
can_send_data DataExchange due count user config e = refl

module _ (user config : Bool) (s : Station) where
  -- its request can be sent
  can : Bool
  can = can_send (state_of s.state) s.retry_count user config

  -- Offline is reported exactly where the count is above the limit
  pub action_drops : (limit : ℕ) → drops (action_of limit user config s) ≡ ltb limit s.retry_count
  unfolding action_of can
  action_drops limit = by_test (ltb limit s.retry_count) (λ e. rw e refl) (λ e. by_test can (λ k. rw (e, k) refl) (λ k. rw (e, k) refl))

  asked_data : sends_data (cond can (Sends (request_of s)) Skips) ≡ is_data (request_of s)
  unfolding can
  asked_data =
      by_test (is_data (request_of s)) (λ d. rw (can_send_data (state_of s.state) s.diag_needed s.retry_count user config d) refl)
      (λ d. by_test can (λ k. rw k refl) (λ k. rw k (sym d)))

  -- data is asked for exactly where the count is within the limit and the state is about data
  pub action_data : (limit : ℕ) → sends_data (action_of limit user config s) ≡ (leb s.retry_count limit && is_data (request_of s))
  unfolding action_of can
  action_data limit =
      by_test (ltb limit s.retry_count)
      (λ e. rw (e, lt-leb s.retry_count limit (ltb-true limit s.retry_count e)) refl)
      (λ e. rw (e, le-leb s.retry_count limit (ltb-false limit s.retry_count e)) asked_data)
