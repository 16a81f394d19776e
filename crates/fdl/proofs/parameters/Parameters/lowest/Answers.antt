-- `Parameters::lowest` meets its contract: the record is the definition's.
use mathlib.Core.Path.{refl}
use Rattle.fdl.specs.Params.{lowest}
use Rattle.fdl.proofs.parameters.Parameters.lowest.Goals as goal

pub returns : goal.returns
unfolding lowest
returns c = refl
