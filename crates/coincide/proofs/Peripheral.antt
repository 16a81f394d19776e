-- Any two results that a contract of `peripheral` allows coincide: a statement for each public function.
-- The idea: a contract is an equation for the answer and for each lent buffer, so two of them have the same right-hand side.
use mathlib.Core.Path.{◌≡◌}
use denote.MutBor.{as_bor}
use Rattle.parts.specs.Parts.{SamePart}
use Rattle.parts.proofs.Laws.{itself_same}
use Rattle.coincide.specs.Coincide.{Coincide}
use Rattle.coincide.proofs.Law.{same}
use Rattle.peripheral.proofs.record.Peripheral.blank.Kinds as K·record-Peripheral-blank
use Rattle.peripheral.proofs.record.Peripheral.blank.Reads as R·record-Peripheral-blank
use Rattle.peripheral.proofs.record.Peripheral.new.Kinds as K·record-Peripheral-new
use Rattle.peripheral.proofs.record.Peripheral.new.Reads as R·record-Peripheral-new
use Rattle.peripheral.proofs.record.Peripheral.reset_address.Kinds as K·record-Peripheral-reset-address
use Rattle.peripheral.proofs.record.Peripheral.reset_address.Reads as R·record-Peripheral-reset-address
use Rattle.peripheral.proofs.record.Peripheral.address.Kinds as K·record-Peripheral-address
use Rattle.peripheral.proofs.record.Peripheral.address.Reads as R·record-Peripheral-address
use Rattle.peripheral.proofs.record.Peripheral.options.Kinds as K·record-Peripheral-options
use Rattle.peripheral.proofs.record.Peripheral.options.Reads as R·record-Peripheral-options
use Rattle.peripheral.proofs.record.Peripheral.is_live.Kinds as K·record-Peripheral-is-live
use Rattle.peripheral.proofs.record.Peripheral.is_live.Reads as R·record-Peripheral-is-live
use Rattle.peripheral.proofs.record.Peripheral.is_running.Kinds as K·record-Peripheral-is-running
use Rattle.peripheral.proofs.record.Peripheral.is_running.Reads as R·record-Peripheral-is-running
use Rattle.peripheral.proofs.record.Peripheral.request_diagnostics.Kinds as K·record-Peripheral-request-diagnostics
use Rattle.peripheral.proofs.record.Peripheral.request_diagnostics.Reads as R·record-Peripheral-request-diagnostics
use Rattle.peripheral.proofs.record.Peripheral.last_diagnostics.Kinds as K·record-Peripheral-last-diagnostics
use Rattle.peripheral.proofs.record.Peripheral.last_diagnostics.Reads as R·record-Peripheral-last-diagnostics
use Rattle.peripheral.proofs.record.Peripheral.extended_diagnostics.Kinds as K·record-Peripheral-extended-diagnostics
use Rattle.peripheral.proofs.record.Peripheral.extended_diagnostics.Reads as R·record-Peripheral-extended-diagnostics
use Rattle.peripheral.proofs.record.Peripheral.pi_i.Kinds as K·record-Peripheral-pi-i
use Rattle.peripheral.proofs.record.Peripheral.pi_i.Reads as R·record-Peripheral-pi-i
use Rattle.peripheral.proofs.record.Peripheral.pi_q.Kinds as K·record-Peripheral-pi-q
use Rattle.peripheral.proofs.record.Peripheral.pi_q.Reads as R·record-Peripheral-pi-q
use Rattle.peripheral.proofs.record.Peripheral.pi_q_mut.Kinds as K·record-Peripheral-pi-q-mut
use Rattle.peripheral.proofs.record.Peripheral.pi_q_mut.Reads as R·record-Peripheral-pi-q-mut
use Rattle.peripheral.proofs.record.Peripheral.visit.Kinds as K·record-Peripheral-visit
use Rattle.peripheral.proofs.record.Peripheral.visit.Reads as R·record-Peripheral-visit
use Rattle.peripheral.proofs.record.Peripheral.header.Kinds as K·record-Peripheral-header
use Rattle.peripheral.proofs.record.Peripheral.header.Reads as R·record-Peripheral-header
use Rattle.peripheral.proofs.record.Peripheral.write_payload.Kinds as K·record-Peripheral-write-payload
use Rattle.peripheral.proofs.record.Peripheral.write_payload.Reads as R·record-Peripheral-write-payload
use Rattle.peripheral.proofs.record.Peripheral.receive_reply.Kinds as K·record-Peripheral-receive-reply
use Rattle.peripheral.proofs.record.Peripheral.receive_reply.Reads as R·record-Peripheral-receive-reply
use Rattle.peripheral.proofs.record.Peripheral.keep.Kinds as K·record-Peripheral-keep
use Rattle.peripheral.proofs.record.Peripheral.keep.Reads as R·record-Peripheral-keep

pub record-Peripheral-blank : Coincide 0 K·record-Peripheral-blank.ps K·record-Peripheral-blank.r R·record-Peripheral-blank.Learnt (λ κs z y e f. z ≡ y)
record-Peripheral-blank κs a z y e f p q = same p q

pub record-Peripheral-new : Coincide 0 K·record-Peripheral-new.ps K·record-Peripheral-new.r R·record-Peripheral-new.Learnt (λ κs z y e f. z ≡ y)
record-Peripheral-new κs a z y e f p q = same p q

pub record-Peripheral-reset_address : Coincide 0 K·record-Peripheral-reset-address.ps K·record-Peripheral-reset-address.r R·record-Peripheral-reset-address.Learnt (λ κs z y e f. z ≡ y)
record-Peripheral-reset_address κs a z y e f p q = same p q

pub record-Peripheral-address : Coincide 0 K·record-Peripheral-address.ps K·record-Peripheral-address.r R·record-Peripheral-address.Learnt (λ κs z y e f. z ≡ y)
record-Peripheral-address κs a z y e f p q = same p q

pub record-Peripheral-options : Coincide 0 K·record-Peripheral-options.ps K·record-Peripheral-options.r R·record-Peripheral-options.Learnt (λ κs z y e f. z ≡ y)
record-Peripheral-options κs a z y e f p q = same p q

pub record-Peripheral-is_live : Coincide 0 K·record-Peripheral-is-live.ps K·record-Peripheral-is-live.r R·record-Peripheral-is-live.Learnt (λ κs z y e f. z ≡ y)
record-Peripheral-is_live κs a z y e f p q = same p q

pub record-Peripheral-is_running : Coincide 0 K·record-Peripheral-is-running.ps K·record-Peripheral-is-running.r R·record-Peripheral-is-running.Learnt (λ κs z y e f. z ≡ y)
record-Peripheral-is_running κs a z y e f p q = same p q

pub record-Peripheral-request_diagnostics : Coincide 0 K·record-Peripheral-request-diagnostics.ps K·record-Peripheral-request-diagnostics.r R·record-Peripheral-request-diagnostics.Learnt (λ κs z y e f. z ≡ y)
record-Peripheral-request_diagnostics κs a z y e f p q = same p q

pub record-Peripheral-last_diagnostics : Coincide 0 K·record-Peripheral-last-diagnostics.ps K·record-Peripheral-last-diagnostics.r R·record-Peripheral-last-diagnostics.Learnt (λ κs z y e f. z ≡ y)
record-Peripheral-last_diagnostics κs a z y e f p q = same p q

pub record-Peripheral-extended_diagnostics : Coincide 1 K·record-Peripheral-extended-diagnostics.ps K·record-Peripheral-extended-diagnostics.r R·record-Peripheral-extended-diagnostics.Learnt (λ κs z y e f. SamePart z y)
record-Peripheral-extended_diagnostics κs a z y e f p q = itself_same p q

pub record-Peripheral-pi_i : Coincide 1 K·record-Peripheral-pi-i.ps K·record-Peripheral-pi-i.r R·record-Peripheral-pi-i.Learnt (λ κs z y e f. SamePart z y)
record-Peripheral-pi_i κs a z y e f p q = itself_same p q

pub record-Peripheral-pi_q : Coincide 1 K·record-Peripheral-pi-q.ps K·record-Peripheral-pi-q.r R·record-Peripheral-pi-q.Learnt (λ κs z y e f. SamePart z y)
record-Peripheral-pi_q κs a z y e f p q = itself_same p q

pub record-Peripheral-pi_q_mut : Coincide 1 K·record-Peripheral-pi-q-mut.ps K·record-Peripheral-pi-q-mut.r R·record-Peripheral-pi-q-mut.Learnt (λ κs z y e f. SamePart (as_bor z) (as_bor y))
record-Peripheral-pi_q_mut κs a z y e f p q = itself_same p q

pub record-Peripheral-visit : Coincide 0 K·record-Peripheral-visit.ps K·record-Peripheral-visit.r R·record-Peripheral-visit.Learnt (λ κs z y e f. z ≡ y)
record-Peripheral-visit κs a z y e f p q = same p q

pub record-Peripheral-header : Coincide 0 K·record-Peripheral-header.ps K·record-Peripheral-header.r R·record-Peripheral-header.Learnt (λ κs z y e f. z ≡ y)
record-Peripheral-header κs a z y e f p q = same p q

pub record-Peripheral-write_payload : Coincide 3 K·record-Peripheral-write-payload.ps K·record-Peripheral-write-payload.r R·record-Peripheral-write-payload.Learnt (λ κs z y e f. (z ≡ y) × (e.1.1.1.1.1.1.0.now ≡ f.1.1.1.1.1.1.0.now))
record-Peripheral-write_payload κs a z y e f p q = (same p.len q.len, same p.bytes q.bytes)

pub record-Peripheral-receive_reply : Coincide 1 K·record-Peripheral-receive-reply.ps K·record-Peripheral-receive-reply.r R·record-Peripheral-receive-reply.Learnt (λ κs z y e f. z ≡ y)
record-Peripheral-receive_reply κs a z y e f p q = same p q

pub record-Peripheral-keep : Coincide 3 K·record-Peripheral-keep.ps K·record-Peripheral-keep.r R·record-Peripheral-keep.Learnt (λ κs z y e f. (e.1.1.1.0.now ≡ f.1.1.1.0.now) × (e.1.1.1.1.0.now ≡ f.1.1.1.1.0.now))
record-Peripheral-keep κs a z y e f p q = (same p.input_pool q.input_pool, same p.diag_pool q.diag_pool)
