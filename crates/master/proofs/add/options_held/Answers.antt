-- `options_held` meets its contract: the lengths fit a byte.
use native.Mathlib.Omega.{arith}
use Rattle.cycle.proofs.Laws.{user-fits, config-fits}
use Rattle.master.proofs.add.options_held.Goals as goal

pub overflow_cast-result : goal.overflow_cast-result
overflow_cast-result c = omega (arith, user-fits c.args.l c.requires)

pub overflow_cast-result-2 : goal.overflow_cast-result-2
overflow_cast-result-2 c = omega (arith, config-fits c.args.l c.requires)
