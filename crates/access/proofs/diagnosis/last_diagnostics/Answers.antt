-- `last_diagnostics` meets its contract, by the balance that is found.
use mathlib.Core.Path.{sym, ◌∙◌}
use Rattle.refusals.proofs.Laws.{given_with, given_up}
use Rattle.station.specs.Record.{last_diagnosis}
use Rattle.peripheral.specs.declared.record.Peripheral.{Peripheral}
use Rattle.access.proofs.diagnosis.last_diagnostics.Goals as goal

pub returns-in_err-pooled : goal.returns-in_err-pooled
returns-in_err-pooled c = given_up _ _ _ _ _ (sym c.pooled.ensures ∙ c.in_err-pooled.was) c.from_residual.ensures.1

pub returns : goal.returns
returns c = rw c.last_diagnostics.ensures (given_with _ _ _ (λ (p : Peripheral). last_diagnosis p.station) (sym c.pooled.ensures ∙ c.in_ok-pooled.was))
