-- `write_parameters` meets its contract: the head, then the lent tail, are one put.
use mathlib.Core.Path.{sym, ◌∙◌}
use Rattle.payloads.proofs.Facts.{built, unbuilt}
use Rattle.payloads.proofs.write.write_parameters.Goals as goal

pub returns-then-inside : goal.returns-then-inside
returns-then-inside c = let a = c.args in built a.u a.o a.user.now a.buf.now c.copy_at.new.dst c.copy_at-then-inside.new.dst (sym c.inside.ensures ∙ c.if-inside.true) (rw (← c.param_head.ensures) c.copy_at.ensures.bytes) c.copy_at-then-inside.ensures.bytes

pub returns-else-inside : goal.returns-else-inside
returns-else-inside c = let a = c.args in unbuilt a.u a.o a.user.now a.buf.now (sym c.inside.ensures ∙ c.if-inside.false)
