-- `pools` meets its contract: eight numbers.
use Rattle.script_dump.specs.Dump.{pools_text}
use Rattle.script_fields.proofs.Laws.{fields}
use Rattle.script_dump.proofs.pools.Goals as goal

pub returns : goal.returns
unfolding pools_text
returns c = fields (cc) c.fields.ensures
