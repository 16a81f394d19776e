-- `pi_q_range` meets its contract: refused, in its pool, or past its pool's end.
use mathlib.Core.Path.{sym, ◌∙◌}
use Rattle.refusals.proofs.Laws.{given_ok, given_up}
use Rattle.access.proofs.Facts.{range_given, range_in, range_out}
use Rattle.access.proofs.images.pi_q_range.Goals as goal

pub returns-in_err-p : goal.returns-in_err-p
returns-in_err-p c = given_up _ _ _ _ _ (sym c.pooled.ensures ∙ c.in_err-p.was) c.from_residual.ensures.1

pub returns-then-inside : goal.returns-then-inside
returns-then-inside c =
    let g = given_ok _ _ _ (sym c.pooled.ensures ∙ c.in_ok-p.was) in
    range_given _ _ _ g.0 (rw (c.from-start.ensures, c.from-len.ensures, ← g.1) (range_in _ _ c.args.outputs.now _ (rw (c.from-start.ensures, c.from-len.ensures, ← g.1) at c.inside.ensures) c.if-inside.true))

pub returns-else-inside : goal.returns-else-inside
returns-else-inside c =
    let g = given_ok _ _ _ (sym c.pooled.ensures ∙ c.in_ok-p.was) in
    range_given _ _ _ g.0 (range_out _ _ c.args.outputs.now _ (rw (c.from-start.ensures, c.from-len.ensures, ← g.1) at c.inside.ensures) c.if-inside.false)
