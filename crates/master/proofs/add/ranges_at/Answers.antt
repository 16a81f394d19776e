-- `ranges_at` meets its contract: the lengths fit a byte.
use native.Mathlib.Omega.{arith}
use Rattle.cycle.proofs.Laws.{inputs-fit, outputs-fit, room_fits}
use Rattle.master.proofs.add.ranges_at.Goals as goal

pub overflow_cast-result : goal.overflow_cast-result
overflow_cast-result c = omega (arith, inputs-fit c.args.l c.requires)

pub overflow_cast-result-2 : goal.overflow_cast-result-2
overflow_cast-result-2 c = omega (arith, outputs-fit c.args.l c.requires)

pub overflow_cast-result-3 : goal.overflow_cast-result-3
overflow_cast-result-3 c = omega (arith, room_fits c.args.l c.requires)
