-- `bytes` meets its contract: `-` for no bytes, else two digits for each.
use Rattle.script_fields.proofs.Laws.{then, no_bytes, some_bytes}
use Rattle.script_fields.proofs.write.Text.bytes.Goals as goal

pub returns-then-is_empty : goal.returns-then-is_empty
returns-then-is_empty c = rw (no_bytes _ c.if-is_empty.ensures) (then c.put.ensures c.put-then-is_empty.ensures)

pub returns-else-is_empty : goal.returns-else-is_empty
returns-else-is_empty c = rw (some_bytes _ c.if-is_empty.ensures) (then c.put.ensures c.pairs.ensures)
