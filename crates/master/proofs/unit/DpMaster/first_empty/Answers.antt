-- `first_empty` meets its contract: an optional slot as a number.
use mathlib.Core.Path.{◌∙◌}
use Rattle.peripheral_set.proofs.Laws.{first_empty-again}
use Rattle.master.proofs.unit.DpMaster.first_empty.Goals as goal

pub returns : goal.returns
returns c = (rw c.first_empty.ensures at c.unwrap_or.ensures) ∙ first_empty-again c.args.self.now.occupied
