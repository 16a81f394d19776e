-- Any two results that a contract of `fdl` allows coincide: a statement for each public function.
-- The idea: a contract is an equation for the answer and for each lent buffer, so two of them have the same right-hand side.
use mathlib.Core.Path.{◌≡◌}
use Rattle.coincide.specs.Coincide.{Coincide}
use Rattle.coincide.proofs.Law.{same}
use Rattle.fdl.proofs.consts.sap_number.Kinds as K·consts-sap-number
use Rattle.fdl.proofs.consts.sap_number.Reads as R·consts-sap-number
use Rattle.fdl.proofs.consts.sap_of.Kinds as K·consts-sap-of
use Rattle.fdl.proofs.consts.sap_of.Reads as R·consts-sap-of
use Rattle.fdl.proofs.consts.Service.sap.Kinds as K·consts-Service-sap
use Rattle.fdl.proofs.consts.Service.sap.Reads as R·consts-Service-sap
use Rattle.fdl.proofs.parameters.Parameters.refusal.Kinds as K·parameters-Parameters-refusal
use Rattle.fdl.proofs.parameters.Parameters.refusal.Reads as R·parameters-Parameters-refusal
use Rattle.fdl.proofs.parameters.Parameters.in_force.Kinds as K·parameters-Parameters-held
use Rattle.fdl.proofs.parameters.Parameters.in_force.Reads as R·parameters-Parameters-held
use Rattle.fdl.proofs.parameters.Parameters.lowest.Kinds as K·parameters-Parameters-lowest
use Rattle.fdl.proofs.parameters.Parameters.lowest.Reads as R·parameters-Parameters-lowest
use Rattle.fdl.proofs.telegram.FrameCountBit.cycle.Kinds as K·telegram-FrameCountBit-cycle
use Rattle.fdl.proofs.telegram.FrameCountBit.cycle.Reads as R·telegram-FrameCountBit-cycle
use Rattle.fdl.proofs.telegram.FrameCountBit.fcb.Kinds as K·telegram-FrameCountBit-fcb
use Rattle.fdl.proofs.telegram.FrameCountBit.fcb.Reads as R·telegram-FrameCountBit-fcb
use Rattle.fdl.proofs.telegram.FrameCountBit.fcv.Kinds as K·telegram-FrameCountBit-fcv
use Rattle.fdl.proofs.telegram.FrameCountBit.fcv.Reads as R·telegram-FrameCountBit-fcv
use Rattle.fdl.proofs.telegram.U8FromFrameCountBit.from.Kinds as K·telegram-U8FromFrameCountBit-from
use Rattle.fdl.proofs.telegram.U8FromFrameCountBit.from.Reads as R·telegram-U8FromFrameCountBit-from
use Rattle.fdl.proofs.telegram.FrameCountBitFromU8.from.Kinds as K·telegram-FrameCountBitFromU8-from
use Rattle.fdl.proofs.telegram.FrameCountBitFromU8.from.Reads as R·telegram-FrameCountBitFromU8-from
use Rattle.fdl.proofs.telegram.U8FromRequestType.from.Kinds as K·telegram-U8FromRequestType-from
use Rattle.fdl.proofs.telegram.U8FromRequestType.from.Reads as R·telegram-U8FromRequestType-from
use Rattle.fdl.proofs.telegram.Telegram.is_usable.Kinds as K·telegram-Telegram-is-usable
use Rattle.fdl.proofs.telegram.Telegram.is_usable.Reads as R·telegram-Telegram-is-usable
use Rattle.fdl.proofs.telegram.Telegram.is_short_confirmation.Kinds as K·telegram-Telegram-is-short-confirmation
use Rattle.fdl.proofs.telegram.Telegram.is_short_confirmation.Reads as R·telegram-Telegram-is-short-confirmation

pub consts-sap_number : Coincide 0 K·consts-sap-number.ps K·consts-sap-number.r R·consts-sap-number.Learnt (λ κs z y e f. z ≡ y)
consts-sap_number κs a z y e f p q = same p q

pub consts-sap_of : Coincide 0 K·consts-sap-of.ps K·consts-sap-of.r R·consts-sap-of.Learnt (λ κs z y e f. z ≡ y)
consts-sap_of κs a z y e f p q = same p q

pub consts-Service-sap : Coincide 0 K·consts-Service-sap.ps K·consts-Service-sap.r R·consts-Service-sap.Learnt (λ κs z y e f. z ≡ y)
consts-Service-sap κs a z y e f p q = same p q

pub parameters-Parameters-refusal : Coincide 0 K·parameters-Parameters-refusal.ps K·parameters-Parameters-refusal.r R·parameters-Parameters-refusal.Learnt (λ κs z y e f. z ≡ y)
parameters-Parameters-refusal κs a z y e f p q = same p q

pub parameters-Parameters-in_force : Coincide 0 K·parameters-Parameters-held.ps K·parameters-Parameters-held.r R·parameters-Parameters-held.Learnt (λ κs z y e f. z ≡ y)
parameters-Parameters-in_force κs a z y e f p q = same p q

pub parameters-Parameters-lowest : Coincide 0 K·parameters-Parameters-lowest.ps K·parameters-Parameters-lowest.r R·parameters-Parameters-lowest.Learnt (λ κs z y e f. z ≡ y)
parameters-Parameters-lowest κs a z y e f p q = same p q

pub telegram-FrameCountBit-cycle : Coincide 0 K·telegram-FrameCountBit-cycle.ps K·telegram-FrameCountBit-cycle.r R·telegram-FrameCountBit-cycle.Learnt (λ κs z y e f. z ≡ y)
telegram-FrameCountBit-cycle κs a z y e f p q = same p q

pub telegram-FrameCountBit-fcb : Coincide 0 K·telegram-FrameCountBit-fcb.ps K·telegram-FrameCountBit-fcb.r R·telegram-FrameCountBit-fcb.Learnt (λ κs z y e f. z ≡ y)
telegram-FrameCountBit-fcb κs a z y e f p q = same p q

pub telegram-FrameCountBit-fcv : Coincide 0 K·telegram-FrameCountBit-fcv.ps K·telegram-FrameCountBit-fcv.r R·telegram-FrameCountBit-fcv.Learnt (λ κs z y e f. z ≡ y)
telegram-FrameCountBit-fcv κs a z y e f p q = same p q

pub telegram-U8FromFrameCountBit-from : Coincide 0 K·telegram-U8FromFrameCountBit-from.ps K·telegram-U8FromFrameCountBit-from.r R·telegram-U8FromFrameCountBit-from.Learnt (λ κs z y e f. z ≡ y)
telegram-U8FromFrameCountBit-from κs a z y e f p q = same p q

pub telegram-FrameCountBitFromU8-from : Coincide 0 K·telegram-FrameCountBitFromU8-from.ps K·telegram-FrameCountBitFromU8-from.r R·telegram-FrameCountBitFromU8-from.Learnt (λ κs z y e f. z ≡ y)
telegram-FrameCountBitFromU8-from κs a z y e f p q = same p q

pub telegram-U8FromRequestType-from : Coincide 0 K·telegram-U8FromRequestType-from.ps K·telegram-U8FromRequestType-from.r R·telegram-U8FromRequestType-from.Learnt (λ κs z y e f. z ≡ y)
telegram-U8FromRequestType-from κs a z y e f p q = same p q

pub telegram-Telegram-is_usable : Coincide 0 K·telegram-Telegram-is-usable.ps K·telegram-Telegram-is-usable.r R·telegram-Telegram-is-usable.Learnt (λ κs z y e f. z ≡ y)
telegram-Telegram-is_usable κs a z y e f p q = same p q

pub telegram-Telegram-is_short_confirmation : Coincide 0 K·telegram-Telegram-is-short-confirmation.ps K·telegram-Telegram-is-short-confirmation.r R·telegram-Telegram-is-short-confirmation.Learnt (λ κs z y e f. z ≡ y)
telegram-Telegram-is_short_confirmation κs a z y e f p q = same p q
