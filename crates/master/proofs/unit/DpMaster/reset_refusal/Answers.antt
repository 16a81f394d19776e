-- `reset_refusal` meets its contract: its rows in turn.
use mathlib.Core.Path.{refl, ◌∙◌}
use Rattle.refusals.proofs.Laws.{in-order}
use Rattle.master.specs.Handle.{reset_rows}
use Rattle.master.proofs.unit.DpMaster.reset_refusal.Goals as goal

pub returns : goal.returns
returns c = let m = c.args.self.now in
    (rw (c.and.ensures, c.refusal.ensures, c.address.ensures, c.shared.ensures, c.taken_elsewhere-elsewhere.ensures, c.from-slot.ensures) at c.and-2.ensures)
    ∙ in-order (reset_rows m.parameters m.occupied m.peripherals c.args.handle c.args.address) refl
