-- Any two results that a contract of `addresses` allows coincide: a statement for its public function.
-- The idea: a contract is an equation for the answer, so two of them have the same right-hand side.
use mathlib.Core.Path.{◌≡◌}
use Rattle.coincide.specs.Coincide.{Coincide}
use Rattle.coincide.proofs.Law.{same}
use Rattle.addresses.proofs.taken_elsewhere.Kinds as K·taken-elsewhere
use Rattle.addresses.proofs.taken_elsewhere.Reads as R·taken-elsewhere

pub taken_elsewhere : Coincide 2 K·taken-elsewhere.ps K·taken-elsewhere.r R·taken-elsewhere.Learnt (λ κs z y e f. z ≡ y)
taken_elsewhere κs a z y e f p q = same p q
