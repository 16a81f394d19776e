-- `new` meets its contract: in range or not.
use mathlib.Core.Path.{refl, sym, ◌∙◌}
use borrow.Author.Tests.{eq-eqb, ne_eqb}
use Rattle.refusals.proofs.Laws.{done_is, given-not}
use Rattle.master.specs.Unit.{created_of}
use Rattle.master.proofs.unit.DpMaster.new.Goals.{in-Ok, in-Err}
use Rattle.master.proofs.unit.DpMaster.new.Goals as goal

pub returns : goal.returns
unfolding created_of
returns c =
    elim c.match-outcome.branch [
      | in-Ok w ↦ rw (c.empty_unit.ensures, w.held-is, w.in_force-held.ensures, eq-eqb _ _ (done_is _ (sym c.refusal-outcome.ensures ∙ w.in-Ok.is)), c.refusal-outcome.ensures) refl
      | in-Err w ↦ rw (c.empty_unit.ensures, w.held-is, w.lowest-held.ensures, ne_eqb _ _ (given-not _ tt (sym c.refusal-outcome.ensures ∙ w.in-Err.is)), c.refusal-outcome.ensures) refl
    ]
