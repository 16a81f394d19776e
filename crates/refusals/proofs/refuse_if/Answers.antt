-- `refuse_if` meets its contract: the refusal of a refusal's number is itself.
use mathlib.Core.Path.{sym}
use Rattle.refusals.proofs.Laws.{refused, done}
use Rattle.refusals.proofs.refuse_if.Goals as goal

pub returns-then-applies : goal.returns-then-applies
returns-then-applies c = rw c.if-applies.true (sym (refused c.args.refusal))

pub returns-else-applies : goal.returns-else-applies
returns-else-applies c = rw c.if-applies.false (sym done)
