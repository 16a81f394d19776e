-- `add_refusal` meets its contract: its rows in turn.
use mathlib.Core.Path.{refl, ◌∙◌}
use Rattle.refusals.proofs.Laws.{in-order}
use Rattle.cycle.specs.Refusal.{add_rows, add_refusal}
use Rattle.cycle.proofs.refusal.add_refusal.Goals as goal

pub returns : goal.returns
unfolding add_refusal
returns c = let a = c.args in
    (rw (c.and-10.ensures, c.and-9.ensures, c.and-8.ensures, c.and-7.ensures, c.and-6.ensures, c.and-5.ensures, c.and-4.ensures, c.and-3.ensures, c.and-2.ensures, c.and.ensures, c.lent.ensures, c.lent-2.ensures, c.lent-3.ensures, c.lent-4.ensures, c.full.ensures, c.address.ensures, c.shared.ensures, c.length.ensures, c.length-2.ensures, c.length-3.ensures, c.length-4.ensures, c.length-5.ensures) at c.and-11.ensures)
    ∙ in-order (add_rows a.u a.lent a.slot a.address a.elsewhere a.l) refl
