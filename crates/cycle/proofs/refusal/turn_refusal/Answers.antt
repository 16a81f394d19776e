-- `turn_refusal` meets its contract: its rows in turn.
use mathlib.Core.Path.{refl, ◌∙◌}
use Rattle.refusals.proofs.Laws.{in-order}
use Rattle.cycle.specs.Refusal.{turn_rows, turn_refusal}
use Rattle.cycle.proofs.refusal.turn_refusal.Goals as goal

pub returns : goal.returns
unfolding turn_refusal
returns c = let a = c.args in
    (rw (c.and-2.ensures, c.and.ensures, c.lent.ensures, c.lent-2.ensures, c.buffer.ensures, c.turn.ensures) at c.and-3.ensures)
    ∙ in-order (turn_rows a.u a.s a.time a.setup a.outputs a.payload) refl
