-- `line` meets its contract: the groups of fields one after the other.
use Rattle.script_dump.specs.Dump.{dump_text}
use Rattle.script_fields.proofs.Laws.{then}
use Rattle.script_dump.proofs.line.Goals as goal

pub returns : goal.returns
unfolding dump_text
returns c = then c.put.ensures
    (then c.parameters.ensures
    (then c.state.ensures (then c.pools.ensures (then (rw c.count.ensures at c.field.ensures) (then c.slots.ensures c.put-2.ensures)))))
