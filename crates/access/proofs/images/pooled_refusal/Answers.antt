-- `pooled_refusal` meets its contract: its rows in turn.
use mathlib.Core.Path.{refl, ◌∙◌}
use Rattle.refusals.proofs.Laws.{in-order}
use Rattle.access.specs.Lookup.{pooled_rows}
use Rattle.access.proofs.images.pooled_refusal.Goals as goal

pub returns : goal.returns
returns c = let a = c.args in (rw (c.lent.ensures, c.refusal.ensures) at c.and.ensures) ∙ in-order (pooled_rows a.lent a.pool a.handle a.m.now.occupied) refl
