-- `pi_q` meets its contract: refused, an empty part at the front; else the balance's own.
use mathlib.Core.Path.{refl, sym, ◌∙◌}
use native.Mathlib.Omega.{arith}
use Rattle.refusals.proofs.Laws.{given_ok, given-not}
use Rattle.access.proofs.Facts.{unseen, seen}
use Rattle.access.proofs.images.pi_q.Goals as goal

pub returns-in-Ok : goal.returns-in-Ok
returns-in-Ok c = let g = given_ok _ _ _ (sym c.pooled.ensures ∙ c.in-Ok.is) in seen _ _ _ _ g.0 (rw (← g.1) at c.pi_q.ensures)

pub returns-in-Err : goal.returns-in-Err
returns-in-Err c = unseen _ _ _ _ (given-not _ _ (sym c.pooled.ensures ∙ c.in-Err.is)) (record { holds = refl; block = refl; offset = omega arith })
