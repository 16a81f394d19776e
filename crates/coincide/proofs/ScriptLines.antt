-- Any two results that a contract of `script_lines` allows coincide: a statement for each public function.
-- The idea: a contract is an equation for the answer and for each lent buffer, so two of them have the same right-hand side.
use mathlib.Core.Path.{◌≡◌}
use Rattle.coincide.specs.Coincide.{Coincide}
use Rattle.coincide.proofs.Law.{same}
use Rattle.script_lines.proofs.parse.Kinds as K·parse
use Rattle.script_lines.proofs.parse.Reads as R·parse

pub parse : Coincide 3 K·parse.ps K·parse.r R·parse.Learnt (λ κs z y e f. (z ≡ y) × (e.1.0.now ≡ f.1.0.now) × (e.1.1.0.now ≡ f.1.1.0.now))
parse κs a z y e f p q = (same p.answer q.answer, same p.first q.first, same p.second q.second)
