-- `reset_address` meets its contract: refused or done.
use mathlib.Core.Path.{refl, sym, ◌∙◌}
use Rattle.refusals.proofs.Laws.{passed_up, done_is, told}
use Rattle.master.proofs.Dones.{refused_so, done_so}
use Rattle.master.specs.Handle.{reset_rows, reset_refusal, reset_done}
use Rattle.master.proofs.unit.DpMaster.reset_address.Goals as goal

pub returns-in_err-reset_refusal : goal.returns-in_err-reset_refusal
unfolding reset_done
returns-in_err-reset_refusal c = let m = c.args.self.now in
    rw (passed_up _ _ c.from_residual.ensures.1)
    (refused_so (reset_refusal m.parameters m.occupied m.peripherals c.args.handle c.args.address) _ m _
    (told (reset_rows m.parameters m.occupied m.peripherals c.args.handle c.args.address) refl (sym c.reset_refusal.ensures ∙ c.in_err-reset_refusal.was)))

pub returns : goal.returns
unfolding reset_done
returns c = let m = c.args.self.now in
    done_so (reset_refusal m.parameters m.occupied m.peripherals c.args.handle c.args.address) _ m _ (done_is _ (sym c.reset_refusal.ensures ∙ c.in_ok-reset_refusal.was))
    (rw (c.closed_for-self.ensures, c.reset_address.ensures, c.index-i.ensures.0) refl)
