-- Any two results that a contract of `payloads` allows coincide: a statement for each public function.
-- The idea: a contract is an equation for the answer and for each lent buffer, so two of them have the same right-hand side.
use mathlib.Core.Path.{◌≡◌}
use Rattle.coincide.specs.Coincide.{Coincide}
use Rattle.coincide.proofs.Law.{same}
use Rattle.payloads.proofs.diagnosis.DiagnosticsInfo.none.Kinds as K·diagnosis-DiagnosticsInfo-none
use Rattle.payloads.proofs.diagnosis.DiagnosticsInfo.none.Reads as R·diagnosis-DiagnosticsInfo-none
use Rattle.payloads.proofs.diagnosis.is_taken.Kinds as K·diagnosis-is-taken
use Rattle.payloads.proofs.diagnosis.is_taken.Reads as R·diagnosis-is-taken
use Rattle.payloads.proofs.diagnosis.read_diagnosis.Kinds as K·diagnosis-read-diagnosis
use Rattle.payloads.proofs.diagnosis.read_diagnosis.Reads as R·diagnosis-read-diagnosis
use Rattle.payloads.proofs.request.control_header.Kinds as K·request-control-header
use Rattle.payloads.proofs.request.control_header.Reads as R·request-control-header
use Rattle.payloads.proofs.request.U8FromRequest.from.Kinds as K·request-U8FromRequest-from
use Rattle.payloads.proofs.request.U8FromRequest.from.Reads as R·request-U8FromRequest-from
use Rattle.payloads.proofs.request.RequestFromU8.from.Kinds as K·request-RequestFromU8-from
use Rattle.payloads.proofs.request.RequestFromU8.from.Reads as R·request-RequestFromU8-from
use Rattle.payloads.proofs.request.Request.is_data.Kinds as K·request-Request-is-data
use Rattle.payloads.proofs.request.Request.is_data.Reads as R·request-Request-is-data
use Rattle.payloads.proofs.request.Request.header.Kinds as K·request-Request-header
use Rattle.payloads.proofs.request.Request.header.Reads as R·request-Request-header
use Rattle.payloads.proofs.write.write_parameters.Kinds as K·write-write-parameters
use Rattle.payloads.proofs.write.write_parameters.Reads as R·write-write-parameters
use Rattle.payloads.proofs.write.write_bytes.Kinds as K·write-write-bytes
use Rattle.payloads.proofs.write.write_bytes.Reads as R·write-write-bytes
use Rattle.payloads.proofs.write.write_zeros.Kinds as K·write-write-zeros
use Rattle.payloads.proofs.write.write_zeros.Reads as R·write-write-zeros
use Rattle.payloads.proofs.write.write_control.Kinds as K·write-write-control
use Rattle.payloads.proofs.write.write_control.Reads as R·write-write-control
use Rattle.payloads.proofs.diagnosis.U16FromDiagnosticFlags.from.Kinds as K·diagnosis-U16FromDiagnosticFlags-from
use Rattle.payloads.proofs.diagnosis.U16FromDiagnosticFlags.from.Reads as R·diagnosis-U16FromDiagnosticFlags-from
use Rattle.payloads.proofs.diagnosis.DiagnosticFlags.is_in.Kinds as K·diagnosis-DiagnosticFlags-is-in
use Rattle.payloads.proofs.diagnosis.DiagnosticFlags.is_in.Reads as R·diagnosis-DiagnosticFlags-is-in
use Rattle.payloads.proofs.diagnosis.store_extended.Kinds as K·diagnosis-store-extended
use Rattle.payloads.proofs.diagnosis.store_extended.Reads as R·diagnosis-store-extended

pub diagnosis-DiagnosticsInfo-none : Coincide 0 K·diagnosis-DiagnosticsInfo-none.ps K·diagnosis-DiagnosticsInfo-none.r R·diagnosis-DiagnosticsInfo-none.Learnt (λ κs z y e f. z ≡ y)
diagnosis-DiagnosticsInfo-none κs a z y e f p q = same p q

pub diagnosis-is_taken : Coincide 0 K·diagnosis-is-taken.ps K·diagnosis-is-taken.r R·diagnosis-is-taken.Learnt (λ κs z y e f. z ≡ y)
diagnosis-is_taken κs a z y e f p q = same p q

pub diagnosis-read_diagnosis : Coincide 1 K·diagnosis-read-diagnosis.ps K·diagnosis-read-diagnosis.r R·diagnosis-read-diagnosis.Learnt (λ κs z y e f. z ≡ y)
diagnosis-read_diagnosis κs a z y e f p q = same p q

pub request-control_header : Coincide 0 K·request-control-header.ps K·request-control-header.r R·request-control-header.Learnt (λ κs z y e f. z ≡ y)
request-control_header κs a z y e f p q = same p q

pub request-U8FromRequest-from : Coincide 0 K·request-U8FromRequest-from.ps K·request-U8FromRequest-from.r R·request-U8FromRequest-from.Learnt (λ κs z y e f. z ≡ y)
request-U8FromRequest-from κs a z y e f p q = same p q

pub request-RequestFromU8-from : Coincide 0 K·request-RequestFromU8-from.ps K·request-RequestFromU8-from.r R·request-RequestFromU8-from.Learnt (λ κs z y e f. z ≡ y)
request-RequestFromU8-from κs a z y e f p q = same p q

pub request-Request-is_data : Coincide 0 K·request-Request-is-data.ps K·request-Request-is-data.r R·request-Request-is-data.Learnt (λ κs z y e f. z ≡ y)
request-Request-is_data κs a z y e f p q = same p q

pub request-Request-header : Coincide 0 K·request-Request-header.ps K·request-Request-header.r R·request-Request-header.Learnt (λ κs z y e f. z ≡ y)
request-Request-header κs a z y e f p q = same p q

pub write-write_parameters : Coincide 2 K·write-write-parameters.ps K·write-write-parameters.r R·write-write-parameters.Learnt (λ κs z y e f. (z ≡ y) × (e.1.1.1.0.now ≡ f.1.1.1.0.now))
write-write_parameters κs a z y e f p q = (same p.len q.len, same p.bytes q.bytes)

pub write-write_bytes : Coincide 2 K·write-write-bytes.ps K·write-write-bytes.r R·write-write-bytes.Learnt (λ κs z y e f. (z ≡ y) × (e.1.0.now ≡ f.1.0.now))
write-write_bytes κs a z y e f p q = (same p.len q.len, same p.bytes q.bytes)

pub write-write_zeros : Coincide 1 K·write-write-zeros.ps K·write-write-zeros.r R·write-write-zeros.Learnt (λ κs z y e f. (z ≡ y) × (e.1.0.now ≡ f.1.0.now))
write-write_zeros κs a z y e f p q = (same p.len q.len, same p.bytes q.bytes)

pub write-write_control : Coincide 1 K·write-write-control.ps K·write-write-control.r R·write-write-control.Learnt (λ κs z y e f. (z ≡ y) × (e.1.0.now ≡ f.1.0.now))
write-write_control κs a z y e f p q = (same p.len q.len, same p.bytes q.bytes)

pub diagnosis-U16FromDiagnosticFlags-from : Coincide 0 K·diagnosis-U16FromDiagnosticFlags-from.ps K·diagnosis-U16FromDiagnosticFlags-from.r R·diagnosis-U16FromDiagnosticFlags-from.Learnt (λ κs z y e f. z ≡ y)
diagnosis-U16FromDiagnosticFlags-from κs a z y e f p q = same p q

pub diagnosis-DiagnosticFlags-is_in : Coincide 0 K·diagnosis-DiagnosticFlags-is-in.ps K·diagnosis-DiagnosticFlags-is-in.r R·diagnosis-DiagnosticFlags-is-in.Learnt (λ κs z y e f. z ≡ y)
diagnosis-DiagnosticFlags-is_in κs a z y e f p q = same p q

pub diagnosis-store_extended : Coincide 2 K·diagnosis-store-extended.ps K·diagnosis-store-extended.r R·diagnosis-store-extended.Learnt (λ κs z y e f. e.0.now ≡ f.0.now)
diagnosis-store_extended κs a z y e f p q = same p q
