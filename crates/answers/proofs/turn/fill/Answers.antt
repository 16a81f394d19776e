-- `fill` meets its contract: where nothing is sent, nothing is filled.
use mathlib.Core.Path.{refl}
use mathlib.Core.Logic.{inl, inr}
use Rattle.answers.proofs.Fills.{nothing_filled}
use Rattle.answers.proofs.turn.fill.Goals as goal

pub returns-in-Halt : goal.returns-in-Halt
returns-in-Halt c = let a = c.args in
    elim c.in-Halt.is [
      | inl p ↦ rw p (nothing_filled _ a.sent a.p a.u a.buf.now c.nothing.result refl c.nothing.ensures)
      | inr p ↦ rw p (nothing_filled _ a.sent a.p a.u a.buf.now c.nothing.result refl c.nothing.ensures)
    ]

pub returns-in-None : goal.returns-in-None
returns-in-None c = let a = c.args in rw (c.in-Visits.is, c.in-None.is) (nothing_filled _ _ a.p a.u a.buf.now c.nothing-in-None.result refl c.nothing-in-None.ensures)
