-- `empty_unit` meets its contract: repeats are the definition's.
use Rattle.master.specs.Unit.{empty_unit}
use Rattle.master.proofs.unit.empty_unit.Goals as goal

pub returns : goal.returns
unfolding empty_unit
returns c = rw (c.new.ensures, c.blank.ensures)
