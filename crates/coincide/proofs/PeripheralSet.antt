-- Any two results that a contract of `peripheral_set` allows coincide: a statement for each public function.
-- The idea: a contract is an equation for the answer and for each lent buffer, so two of them have the same right-hand side.
use mathlib.Core.Path.{◌≡◌}
use Rattle.coincide.specs.Coincide.{Coincide}
use Rattle.coincide.proofs.Law.{same}
use Rattle.peripheral_set.proofs.first_empty.Kinds as K·first-empty
use Rattle.peripheral_set.proofs.first_empty.Reads as R·first-empty
use Rattle.peripheral_set.proofs.at_or_after.Kinds as K·at-or-after
use Rattle.peripheral_set.proofs.at_or_after.Reads as R·at-or-after
use Rattle.peripheral_set.proofs.next_after.Kinds as K·next-after
use Rattle.peripheral_set.proofs.next_after.Reads as R·next-after
use Rattle.peripheral_set.proofs.is_occupied.Kinds as K·is-occupied
use Rattle.peripheral_set.proofs.is_occupied.Reads as R·is-occupied
use Rattle.peripheral_set.proofs.count.Kinds as K·count
use Rattle.peripheral_set.proofs.count.Reads as R·count
use Rattle.peripheral_set.proofs.nth.Kinds as K·nth
use Rattle.peripheral_set.proofs.nth.Reads as R·nth
use Rattle.peripheral_set.proofs.PeripheralHandle.none.Kinds as K·PeripheralHandle-none
use Rattle.peripheral_set.proofs.PeripheralHandle.none.Reads as R·PeripheralHandle-none
use Rattle.peripheral_set.proofs.PeripheralHandle.refusal.Kinds as K·PeripheralHandle-refusal
use Rattle.peripheral_set.proofs.PeripheralHandle.refusal.Reads as R·PeripheralHandle-refusal

pub first_empty : Coincide 1 K·first-empty.ps K·first-empty.r R·first-empty.Learnt (λ κs z y e f. z ≡ y)
first_empty κs a z y e f p q = same p q

pub at_or_after : Coincide 1 K·at-or-after.ps K·at-or-after.r R·at-or-after.Learnt (λ κs z y e f. z ≡ y)
at_or_after κs a z y e f p q = same p q

pub next_after : Coincide 1 K·next-after.ps K·next-after.r R·next-after.Learnt (λ κs z y e f. z ≡ y)
next_after κs a z y e f p q = same p q

pub is_occupied : Coincide 1 K·is-occupied.ps K·is-occupied.r R·is-occupied.Learnt (λ κs z y e f. z ≡ y)
is_occupied κs a z y e f p q = same p q

pub count : Coincide 1 K·count.ps K·count.r R·count.Learnt (λ κs z y e f. z ≡ y)
count κs a z y e f p q = same p q

pub nth : Coincide 1 K·nth.ps K·nth.r R·nth.Learnt (λ κs z y e f. z ≡ y)
nth κs a z y e f p q = same p q

pub PeripheralHandle-refusal : Coincide 1 K·PeripheralHandle-refusal.ps K·PeripheralHandle-refusal.r R·PeripheralHandle-refusal.Learnt (λ κs z y e f. z ≡ y)
PeripheralHandle-refusal κs a z y e f p q = same p q

pub PeripheralHandle-none : Coincide 0 K·PeripheralHandle-none.ps K·PeripheralHandle-none.r R·PeripheralHandle-none.Learnt (λ κs z y e f. z ≡ y)
PeripheralHandle-none κs a z y e f p q = same p q
