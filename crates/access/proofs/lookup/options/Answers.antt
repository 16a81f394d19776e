-- `options` meets its contract, by the balance that is found.
use mathlib.Core.Path.{sym, ◌∙◌}
use Rattle.refusals.proofs.Laws.{given_with, given_up}
use Rattle.peripheral.specs.declared.record.Peripheral.{Peripheral}
use Rattle.access.proofs.lookup.options.Goals as goal

pub returns-in_err-find : goal.returns-in_err-find
returns-in_err-find c = given_up _ _ _ _ _ (sym c.find.ensures ∙ c.in_err-find.was) c.from_residual.ensures.1

pub returns : goal.returns
returns c = rw c.options.ensures (given_with _ _ _ (λ (p : Peripheral). p.options) (sym c.find.ensures ∙ c.in_ok-find.was))
