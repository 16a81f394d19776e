-- A balance is in DataExchange exactly when its notes hold a reply reported DataExchanged with neither a fall nor "SAP not enabled" after it.
-- The idea: a row puts the state to DataExchange exactly where DataExchanged is reported, and takes it away exactly at a fall or at "SAP not enabled".
use mathlib.Core.Path.{◌≡◌, refl}
use mathlib.Core.Logic.{◌⊎◌, inl, inr}
use Prim.Native.Nat.{ℕ, zero, suc, ◌<◌}
use native.Mathlib.Nat.{le_of_suc-le-suc, not-suc-le-zero}
use native.Mathlib.Omega.{arith}
use mathlib.Core.Bool.{Bool, false, not, ◌&&◌, ◌||◌}
use mathlib.Core.List.{List, [], ◌∷◌}
use mathlib.Core.Option.{some}
use lib.Dec.{T}
use lib.ListN.{drop}
use Rattle.fdl.specs.declared.telegram.Telegram.{Telegram}
use Rattle.payloads.specs.declared.request.Request.{Request}
use Rattle.station.specs.declared.record.Station.{Station}
use Rattle.station.specs.declared.heard.Heard.{Heard}
use Rattle.station.specs.Record.{is_running, with_diagnosis}
use Rattle.station.specs.Heard.{is_exchanged}
use Rattle.call_log.specs.Notes.{Note, is_error}
use Rattle.call_log.specs.Words.{denies, fall, not_enabled, exchanged_by, Running}
use Rattle.call_log.specs.Promises.{RunningTold}
use Rattle.call_log.proofs.Wording.{and_l, and_r, and_i, or_e, or_l, or_r}
use Rattle.station.proofs.Rows.{comes_online, stays_offline, param_confirmed, param_unconfirmed, config_confirmed, config_unconfirmed, param_error, config_error, param_wanted, not_ready, is_configured, unvalidated, diagnosed, undiagnosed, data_stored, data_unused, data_denied}
use Rattle.call_log.proofs.Lives.{Slot, RowOf, Lives, joins, moves, wishes, sends, lost, skips, rests, gets, last-asked}
use Rattle.call_log.proofs.Promised.{lives_run}

-- ---- the walk

abbrev runs : List Note → Bool
runs [] = false
runs (x ∷ l) = exchanged_by (x ∷ l) || (not (fall (x ∷ l)) && (not (not_enabled (x ∷ l)) && runs l))

-- ---- the fact

running_row : (s : Station) (t : Telegram) (payload : List ℕ) (n : ℕ) {k : Request} {h : Heard} → RowOf s t payload n k h
    → is_running h.station ≡ (is_exchanged h.event || (not (is_error h.event) && (not (denies (some k) t) && is_running s)))
unfolding with_diagnosis
running_row s t payload n (comes_online x e) = rw x refl
running_row s t payload n (stays_offline x e) = refl
running_row s t payload n (param_confirmed x e) = rw x refl
running_row s t payload n (param_unconfirmed x e) = refl
running_row s t payload n (config_confirmed x e) = rw x refl
running_row s t payload n (config_unconfirmed x e) = refl
running_row s t payload n (param_error x e a) = refl
running_row s t payload n (config_error x e a b) = refl
running_row s t payload n (param_wanted x e a b c) = rw x refl
running_row s t payload n (not_ready x e a b c d) = refl
running_row s t payload n (is_configured x e a b c d) = rw x refl
running_row s t payload n (unvalidated x e) = refl
running_row s t payload n (diagnosed x e) = refl
running_row s t payload n (undiagnosed x e) = refl
running_row s t payload n (data_stored j x e f) = refl
running_row s t payload n (data_unused j x e f) = rw e refl
running_row s t payload n (data_denied x e f) = rw e refl

pub running : {limit : ℕ} {x : Slot} {l : List Note} → Lives limit x l → is_running x.balance.station ≡ runs l
running (joins a user config m l) = refl
running (moves v a) = refl
running (wishes v) = running v
running (sends v e) = running v
running (lost v e) = refl
running (skips v e) = running v
running (rests v) = running v
running (gets {x = x} {t = t} {payload = payload} v o n r) = rw (last-asked v o, ← running v) (running_row x.balance.station t payload n r)

-- ---- by positions

walked : (l : List Note) → T (runs l) → Running l
walked [] h = absurd h
walked (x ∷ l) h = go (walked l) (or_e (exchanged_by (x ∷ l)) _ h)
  where
    go : (T (runs l) → Running l) → T (exchanged_by (x ∷ l)) ⊎ T (not (fall (x ∷ l)) && (not (not_enabled (x ∷ l)) && runs l)) → Running (x ∷ l)
    go f (inl a) = record { since = 0; exchanged = a; no_fall = λ i q. absurd (not-suc-le-zero q); enabled = λ i q. absurd (not-suc-le-zero q) }
    go f (inr a) =
        let b = and_r (not (fall (x ∷ l))) _ a in
        let r = f (and_r (not (not_enabled (x ∷ l))) _ b) in
        record { since = suc r.since; exchanged = r.exchanged; no_fall = up (and_l (not (fall (x ∷ l))) _ a) r.no_fall; enabled = up' (and_l (not (not_enabled (x ∷ l))) _ b) r.enabled }
      where
        up : T (not (fall (x ∷ l))) → {n : ℕ} → ((i : ℕ) → i < n → T (not (fall (drop i l)))) → (i : ℕ) → i < suc n → T (not (fall (drop i (x ∷ l))))
        up h g zero q = h
        up h g (suc i) q = g i (le_of_suc-le-suc q)

        up' : T (not (not_enabled (x ∷ l))) → {n : ℕ} → ((i : ℕ) → i < n → T (not (not_enabled (drop i l)))) → (i : ℕ) → i < suc n → T (not (not_enabled (drop i (x ∷ l))))
        up' h g zero q = h
        up' h g (suc i) q = g i (le_of_suc-le-suc q)

walks : (l : List Note) (n : ℕ) → T (exchanged_by (drop n l)) → ((i : ℕ) → i < n → T (not (fall (drop i l)))) → ((i : ℕ) → i < n → T (not (not_enabled (drop i l)))) → T (runs l)
walks [] zero e f g = absurd e
walks [] (suc n) e f g = absurd e
walks (x ∷ l) zero e f g = or_l (exchanged_by (x ∷ l)) _ e
walks (x ∷ l) (suc n) e f g =
    or_r (exchanged_by (x ∷ l)) _
    (and_i (not (fall (x ∷ l))) _ (f 0 (omega arith)) (and_i (not (not_enabled (x ∷ l))) _ (g 0 (omega arith)) (walks l n e (λ i q. f (suc i) (omega arith)) (λ i q. g (suc i) (omega arith)))))

pub running_told : RunningTold
running_told u pools cs s h = let e = running (lives_run u pools cs s h) in (λ q. walked _ (rw e at q), λ q. rw e (walks _ q.since q.exchanged q.no_fall q.enabled))
