-- Any two results that a contract of `access` allows coincide: a statement for each public function.
-- The idea: a contract is an equation for the answer and for each lent buffer, so two of them have the same right-hand side.
use mathlib.Core.Path.{◌≡◌}
use denote.MutBor.{as_bor}
use Rattle.parts.specs.Parts.{SamePart}
use Rattle.parts.proofs.Laws.{itself_same}
use Rattle.coincide.specs.Coincide.{Coincide}
use Rattle.refusals.proofs.Laws.{same_number}
use Rattle.coincide.proofs.Law.{same}
use Rattle.access.proofs.diagnosis.last_diagnostics.Kinds as K·diagnosis-last-diagnostics
use Rattle.access.proofs.diagnosis.last_diagnostics.Reads as R·diagnosis-last-diagnostics
use Rattle.access.proofs.diagnosis.extended_diagnostics.Kinds as K·diagnosis-extended-diagnostics
use Rattle.access.proofs.diagnosis.extended_diagnostics.Reads as R·diagnosis-extended-diagnostics
use Rattle.access.proofs.images.pooled_refusal.Kinds as K·images-pooled-refusal
use Rattle.access.proofs.images.pooled_refusal.Reads as R·images-pooled-refusal
use Rattle.access.proofs.images.pooled.Kinds as K·images-pooled
use Rattle.access.proofs.images.pooled.Reads as R·images-pooled
use Rattle.access.proofs.images.pi_i_refusal.Kinds as K·images-pi-i-refusal
use Rattle.access.proofs.images.pi_i_refusal.Reads as R·images-pi-i-refusal
use Rattle.access.proofs.images.pi_i.Kinds as K·images-pi-i
use Rattle.access.proofs.images.pi_i.Reads as R·images-pi-i
use Rattle.access.proofs.images.pi_q_refusal.Kinds as K·images-pi-q-refusal
use Rattle.access.proofs.images.pi_q_refusal.Reads as R·images-pi-q-refusal
use Rattle.access.proofs.images.pi_q.Kinds as K·images-pi-q
use Rattle.access.proofs.images.pi_q.Reads as R·images-pi-q
use Rattle.access.proofs.images.pi_q_mut.Kinds as K·images-pi-q-mut
use Rattle.access.proofs.images.pi_q_mut.Reads as R·images-pi-q-mut
use Rattle.access.proofs.images.pi_q_range.Kinds as K·images-pi-q-range
use Rattle.access.proofs.images.pi_q_range.Reads as R·images-pi-q-range
use Rattle.access.proofs.images.write_outputs.Kinds as K·images-write-outputs
use Rattle.access.proofs.images.write_outputs.Reads as R·images-write-outputs
use Rattle.access.proofs.listing.count.Kinds as K·listing-count
use Rattle.access.proofs.listing.count.Reads as R·listing-count
use Rattle.access.proofs.listing.entry.Kinds as K·listing-entry
use Rattle.access.proofs.listing.entry.Reads as R·listing-entry
use Rattle.access.proofs.lookup.find.Kinds as K·lookup-find
use Rattle.access.proofs.lookup.find.Reads as R·lookup-find
use Rattle.access.proofs.lookup.is_live.Kinds as K·lookup-is-live
use Rattle.access.proofs.lookup.is_live.Reads as R·lookup-is-live
use Rattle.access.proofs.lookup.is_running.Kinds as K·lookup-is-running
use Rattle.access.proofs.lookup.is_running.Reads as R·lookup-is-running
use Rattle.access.proofs.lookup.address.Kinds as K·lookup-address
use Rattle.access.proofs.lookup.address.Reads as R·lookup-address
use Rattle.access.proofs.lookup.options.Kinds as K·lookup-options
use Rattle.access.proofs.lookup.options.Reads as R·lookup-options

pub diagnosis-last_diagnostics : Coincide 2 K·diagnosis-last-diagnostics.ps K·diagnosis-last-diagnostics.r R·diagnosis-last-diagnostics.Learnt (λ κs z y e f. z ≡ y)
diagnosis-last_diagnostics κs a z y e f p q = same p q

pub diagnosis-extended_diagnostics : Coincide 2 K·diagnosis-extended-diagnostics.ps K·diagnosis-extended-diagnostics.r R·diagnosis-extended-diagnostics.Learnt (λ κs z y e f. SamePart z y)
diagnosis-extended_diagnostics κs a z y e f p q = itself_same p q

pub images-pooled_refusal : Coincide 1 K·images-pooled-refusal.ps K·images-pooled-refusal.r R·images-pooled-refusal.Learnt (λ κs z y e f. z ≡ y)
images-pooled_refusal κs a z y e f p q = same p q

pub images-pooled : Coincide 1 K·images-pooled.ps K·images-pooled.r R·images-pooled.Learnt (λ κs z y e f. z ≡ y)
images-pooled κs a z y e f p q = same p q

pub images-pi_i_refusal : Coincide 2 K·images-pi-i-refusal.ps K·images-pi-i-refusal.r R·images-pi-i-refusal.Learnt (λ κs z y e f. z ≡ y)
images-pi_i_refusal κs a z y e f p q = same p q

pub images-pi_i : Coincide 2 K·images-pi-i.ps K·images-pi-i.r R·images-pi-i.Learnt (λ κs z y e f. SamePart z y)
images-pi_i κs a z y e f p q = itself_same p q

pub images-pi_q_refusal : Coincide 2 K·images-pi-q-refusal.ps K·images-pi-q-refusal.r R·images-pi-q-refusal.Learnt (λ κs z y e f. z ≡ y)
images-pi_q_refusal κs a z y e f p q = same p q

pub images-pi_q : Coincide 2 K·images-pi-q.ps K·images-pi-q.r R·images-pi-q.Learnt (λ κs z y e f. SamePart z y)
images-pi_q κs a z y e f p q = itself_same p q

pub images-pi_q_mut : Coincide 2 K·images-pi-q-mut.ps K·images-pi-q-mut.r R·images-pi-q-mut.Learnt (λ κs z y e f. SamePart (as_bor z) (as_bor y))
images-pi_q_mut κs a z y e f p q = itself_same p q

pub images-pi_q_range : Coincide 2 K·images-pi-q-range.ps K·images-pi-q-range.r R·images-pi-q-range.Learnt (λ κs z y e f. z ≡ y)
images-pi_q_range κs a z y e f p q = same p q

pub images-write_outputs : Coincide 3 K·images-write-outputs.ps K·images-write-outputs.r R·images-write-outputs.Learnt (λ κs z y e f. (z ≡ y) × (e.1.1.1.0.now ≡ f.1.1.1.0.now))
images-write_outputs κs a z y e f p q = (same_number z y (same p.answer q.answer), same p.pool q.pool)

pub listing-count : Coincide 1 K·listing-count.ps K·listing-count.r R·listing-count.Learnt (λ κs z y e f. z ≡ y)
listing-count κs a z y e f p q = same p q

pub listing-entry : Coincide 1 K·listing-entry.ps K·listing-entry.r R·listing-entry.Learnt (λ κs z y e f. z ≡ y)
listing-entry κs a z y e f p q = same p q

pub lookup-find : Coincide 1 K·lookup-find.ps K·lookup-find.r R·lookup-find.Learnt (λ κs z y e f. z ≡ y)
lookup-find κs a z y e f p q = same p q

pub lookup-is_live : Coincide 1 K·lookup-is-live.ps K·lookup-is-live.r R·lookup-is-live.Learnt (λ κs z y e f. z ≡ y)
lookup-is_live κs a z y e f p q = same p q

pub lookup-is_running : Coincide 1 K·lookup-is-running.ps K·lookup-is-running.r R·lookup-is-running.Learnt (λ κs z y e f. z ≡ y)
lookup-is_running κs a z y e f p q = same p q

pub lookup-address : Coincide 1 K·lookup-address.ps K·lookup-address.r R·lookup-address.Learnt (λ κs z y e f. z ≡ y)
lookup-address κs a z y e f p q = same p q

pub lookup-options : Coincide 1 K·lookup-options.ps K·lookup-options.r R·lookup-options.Learnt (λ κs z y e f. z ≡ y)
lookup-options κs a z y e f p q = same p q
