-- Any two results that a contract of `script_dump` allows coincide: a statement for each public function.
-- The idea: a contract is an equation for the answer and for each lent buffer, so two of them have the same right-hand side.
use mathlib.Core.Path.{◌≡◌}
use Rattle.coincide.specs.Coincide.{Coincide}
use Rattle.coincide.proofs.Law.{same}
use Rattle.script_dump.proofs.line.Kinds as K·line
use Rattle.script_dump.proofs.line.Reads as R·line

pub line : Coincide 3 K·line.ps K·line.r R·line.Learnt (λ κs z y e f. e.0.now ≡ f.0.now)
line κs a z y e f p q = same p.text q.text
