-- `write_bytes` meets its contract, by what `copy_at` promises.
use mathlib.Core.Path.{refl}
use Rattle.payloads.proofs.Facts.{written, unwritten}
use Rattle.payloads.proofs.write.write_bytes.Goals as goal

pub returns-then-copy_at : goal.returns-then-copy_at
returns-then-copy_at c = written _ _ _ _ _ refl c.copy_at.ensures c.if-copy_at.true

pub returns-else-copy_at : goal.returns-else-copy_at
returns-else-copy_at c = unwritten _ _ _ _ _ refl c.copy_at.ensures c.if-copy_at.false
