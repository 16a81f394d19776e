-- `state` meets its contract: eight numbers.
use Rattle.script_dump.specs.Dump.{state_text}
use Rattle.script_fields.proofs.Laws.{fields}
use Rattle.script_dump.proofs.state.Goals as goal

pub returns : goal.returns
unfolding state_text
returns c = fields (cc) c.fields.ensures
