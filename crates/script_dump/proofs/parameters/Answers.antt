-- `parameters` meets its contract: eleven numbers.
use Rattle.script_dump.specs.Dump.{parameters_text}
use Rattle.script_fields.proofs.Laws.{fields}
use Rattle.script_dump.proofs.parameters.Goals as goal

pub returns : goal.returns
unfolding parameters_text
returns c = fields (cc) c.fields.ensures
