-- `Parameters::in_force` meets its contract: the two factors are what `factor` promises, every other field is kept.
use Rattle.fdl.specs.Params.{in_force}
use Rattle.fdl.proofs.parameters.Parameters.in_force.Goals as goal

pub returns : goal.returns
unfolding in_force
returns c = rw (c.factor.ensures, c.factor-2.ensures)
