-- `put_entry` meets its contract: the three bytes that are copied are those of the definition.
use Rattle.script_driver.proofs.Laws.{entry_put}
use Rattle.script_driver.proofs.arrays.put_entry.Goals as goal

pub returns-then-k-list : goal.returns-then-k-list
returns-then-k-list c = entry_put c.args.list.now c.args.k c.args.e _ _ c.if-k-list.true c.copy_from_slice.ensures.after c.from.ensures
