-- `control_due` meets its contract: each test is a part of the definition.
use borrow.Author.Tests.{not-true, not-false}
use Rattle.cycle.specs.State.{control_due}
use Rattle.cycle.proofs.state.DpMasterState.control_due.Goals as goal

pub returns-then-high_prio_only : goal.returns-then-high_prio_only
unfolding control_due
returns-then-high_prio_only c = rw c.if-high_prio_only.true

pub returns-then-not-self : goal.returns-then-not-self
unfolding control_due
returns-then-not-self c = rw (c.if-high_prio_only.false, not-true _ c.if-not-self.true)

pub returns-else-not-self : goal.returns-else-not-self
unfolding control_due
returns-else-not-self c = rw (c.if-high_prio_only.false, not-false _ c.if-not-self.false, c.from.ensures, c.saturating_sub.ensures)
