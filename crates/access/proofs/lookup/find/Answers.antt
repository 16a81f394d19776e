-- `find` meets its contract: the slot is occupied or not.
use mathlib.Core.Path.{sym, ◌∙◌}
use Rattle.refusals.proofs.Laws.{done_is, given_here, given_up}
use Rattle.access.proofs.Facts.{found}
use Rattle.access.proofs.lookup.find.Goals as goal

pub returns-in_err-refusal : goal.returns-in_err-refusal
returns-in_err-refusal c = given_up _ tt _ _ _ (sym c.refusal.ensures ∙ c.in_err-refusal.was) c.from_residual.ensures.1

pub returns : goal.returns
returns c = let z = done_is _ (sym c.refusal.ensures ∙ c.in_ok-refusal.was) in
    rw c.index.ensures.0 (rw (found c.args.m.now c.args.handle z) (sym (given_here _ _ z)))
