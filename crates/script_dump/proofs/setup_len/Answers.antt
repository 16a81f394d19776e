-- `setup_len` meets its contract: a number, or `x`.
use Rattle.script_dump.specs.Dump.{setup_text}
use Rattle.script_fields.proofs.Laws.{then}
use Rattle.script_dump.proofs.setup_len.Goals as goal

pub returns-then-present : goal.returns-then-present
unfolding setup_text
returns-then-present c = rw c.if-present.true (rw c.from.ensures at c.field.ensures)

pub returns-else-present : goal.returns-else-present
unfolding setup_text
returns-else-present c = rw c.if-present.false (then c.put.ensures c.put-else-present.ensures)
