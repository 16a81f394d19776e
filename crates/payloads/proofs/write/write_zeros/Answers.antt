-- `write_zeros` meets its contract, by what `clear_at` promises.
use mathlib.Core.Path.{sym}
use lib.ListN.{length-replicate}
use Rattle.payloads.proofs.Facts.{written, unwritten}
use Rattle.payloads.proofs.write.write_zeros.Goals as goal

pub returns-then-clear_at : goal.returns-then-clear_at
returns-then-clear_at c = written _ _ _ _ _ (sym (length-replicate c.args.count 0)) c.clear_at.ensures c.if-clear_at.true

pub returns-else-clear_at : goal.returns-else-clear_at
returns-else-clear_at c = unwritten _ _ _ _ _ (sym (length-replicate c.args.count 0)) c.clear_at.ensures c.if-clear_at.false
