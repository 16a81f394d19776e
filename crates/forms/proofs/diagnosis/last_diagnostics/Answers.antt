-- `last_diagnostics` meets its contract: the numbers that are given, else "none".
use mathlib.Core.Path.{◌∙◌}
use Rattle.forms.proofs.Nothing.{given_or}
use Rattle.forms.proofs.diagnosis.last_diagnostics.Goals as goal

pub returns : goal.returns
returns c = record { numbers = (rw (c.last_diagnostics-last.ensures, c.none.ensures) at c.unwrap_or-info.ensures) ∙ given_or _ _ _; part = c.extended_diagnostics.ensures }
