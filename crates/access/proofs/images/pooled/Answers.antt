-- `pooled` meets its contract: refused by the pool, or what the handle finds.
use mathlib.Core.Path.{sym, ◌∙◌}
use Rattle.refusals.proofs.Laws.{done_is, given_up}
use Rattle.access.proofs.Facts.{pool_right, pool_wrong}
use Rattle.access.proofs.images.pooled.Goals as goal

pub returns-in_err-lent : goal.returns-in_err-lent
returns-in_err-lent c = let a = c.args in
    given_up _ tt _ _ _ (pool_wrong a.lent a.pool a.handle a.m.now.occupied (sym c.lent.ensures ∙ c.in_err-lent.was)) c.from_residual.ensures.1

pub returns : goal.returns
returns c = let a = c.args in rw (pool_right a.lent a.pool a.handle a.m.now.occupied (done_is _ (sym c.lent.ensures ∙ c.in_ok-lent.was))) c.find.ensures
