-- Any two results that a contract of `refusals` allows coincide: a statement for each public function.
-- The idea: a contract is an equation for the answer, so two of them have the same right-hand side.
use mathlib.Core.Path.{◌≡◌}
use Rattle.coincide.specs.Coincide.{Coincide}
use Rattle.coincide.proofs.Law.{same}
use Rattle.refusals.proofs.U8FromRefusal.from.Kinds as K·U8FromRefusal-from
use Rattle.refusals.proofs.U8FromRefusal.from.Reads as R·U8FromRefusal-from
use Rattle.refusals.proofs.parameter.Kinds as K·parameter
use Rattle.refusals.proofs.parameter.Reads as R·parameter
use Rattle.refusals.proofs.lent.Kinds as K·lent
use Rattle.refusals.proofs.lent.Reads as R·lent
use Rattle.refusals.proofs.buffer.Kinds as K·buffer
use Rattle.refusals.proofs.buffer.Reads as R·buffer
use Rattle.refusals.proofs.turn.Kinds as K·turn
use Rattle.refusals.proofs.turn.Reads as R·turn
use Rattle.refusals.proofs.handle.Kinds as K·handle
use Rattle.refusals.proofs.handle.Reads as R·handle
use Rattle.refusals.proofs.full.Kinds as K·full
use Rattle.refusals.proofs.full.Reads as R·full
use Rattle.refusals.proofs.address.Kinds as K·address
use Rattle.refusals.proofs.address.Reads as R·address
use Rattle.refusals.proofs.shared.Kinds as K·shared
use Rattle.refusals.proofs.shared.Reads as R·shared
use Rattle.refusals.proofs.length.Kinds as K·length
use Rattle.refusals.proofs.length.Reads as R·length
use Rattle.refusals.proofs.room.Kinds as K·room
use Rattle.refusals.proofs.room.Reads as R·room
use Rattle.refusals.proofs.asked.Kinds as K·asked
use Rattle.refusals.proofs.asked.Reads as R·asked
use Rattle.refusals.proofs.usable.Kinds as K·usable
use Rattle.refusals.proofs.usable.Reads as R·usable
use Rattle.refusals.proofs.write.Kinds as K·write
use Rattle.refusals.proofs.write.Reads as R·write

pub U8FromRefusal-from : Coincide 0 K·U8FromRefusal-from.ps K·U8FromRefusal-from.r R·U8FromRefusal-from.Learnt (λ κs z y e f. z ≡ y)
U8FromRefusal-from κs a z y e f p q = same p q

pub parameter : Coincide 0 K·parameter.ps K·parameter.r R·parameter.Learnt (λ κs z y e f. z ≡ y)
parameter κs a z y e f p q = same p q

pub lent : Coincide 0 K·lent.ps K·lent.r R·lent.Learnt (λ κs z y e f. z ≡ y)
lent κs a z y e f p q = same p q

pub buffer : Coincide 0 K·buffer.ps K·buffer.r R·buffer.Learnt (λ κs z y e f. z ≡ y)
buffer κs a z y e f p q = same p q

pub turn : Coincide 0 K·turn.ps K·turn.r R·turn.Learnt (λ κs z y e f. z ≡ y)
turn κs a z y e f p q = same p q

pub handle : Coincide 0 K·handle.ps K·handle.r R·handle.Learnt (λ κs z y e f. z ≡ y)
handle κs a z y e f p q = same p q

pub full : Coincide 0 K·full.ps K·full.r R·full.Learnt (λ κs z y e f. z ≡ y)
full κs a z y e f p q = same p q

pub address : Coincide 0 K·address.ps K·address.r R·address.Learnt (λ κs z y e f. z ≡ y)
address κs a z y e f p q = same p q

pub shared : Coincide 0 K·shared.ps K·shared.r R·shared.Learnt (λ κs z y e f. z ≡ y)
shared κs a z y e f p q = same p q

pub length : Coincide 0 K·length.ps K·length.r R·length.Learnt (λ κs z y e f. z ≡ y)
length κs a z y e f p q = same p q

pub room : Coincide 0 K·room.ps K·room.r R·room.Learnt (λ κs z y e f. z ≡ y)
room κs a z y e f p q = same p q

pub asked : Coincide 0 K·asked.ps K·asked.r R·asked.Learnt (λ κs z y e f. z ≡ y)
asked κs a z y e f p q = same p q

pub usable : Coincide 0 K·usable.ps K·usable.r R·usable.Learnt (λ κs z y e f. z ≡ y)
usable κs a z y e f p q = same p q

pub write : Coincide 0 K·write.ps K·write.r R·write.Learnt (λ κs z y e f. z ≡ y)
write κs a z y e f p q = same p q
