-- `space` meets its contract: where a space stands there is room for the place behind it.
use Rattle.std.proofs.Common.{arith}
use Rattle.script_fields.specs.Read.{has_at}
use Rattle.script_fields.proofs.read.Reader.space.Goals as goal

pub overflow_add-self : goal.overflow_add-self
unfolding has_at
overflow_add-self c = grind arith
