-- `request_diagnostics` meets its contract: refused or done.
use mathlib.Core.Path.{refl, sym, ◌∙◌}
use mathlib.Core.List.{[], ◌∷◌}
use Rattle.refusals.proofs.Laws.{passed_up, done_is, told}
use Rattle.refusals.specs.Table.{handle_row}
use Rattle.peripheral_set.specs.Marks.{is_occupied, handle_refusal}
use Rattle.master.proofs.Dones.{refused_so, done_so}
use Rattle.master.specs.Handle.{wish_done}
use Rattle.master.proofs.unit.DpMaster.request_diagnostics.Goals as goal

pub returns-in_err-refusal : goal.returns-in_err-refusal
unfolding wish_done
returns-in_err-refusal c = let m = c.args.self.now in
    rw (passed_up _ _ c.from_residual.ensures.1)
    (refused_so (handle_refusal c.args.handle m.occupied) _ m _ (told (handle_row (is_occupied m.occupied c.args.handle.slot) ∷ []) refl (sym c.refusal.ensures ∙ c.in_err-refusal.was)))

pub returns : goal.returns
unfolding wish_done
returns c = let m = c.args.self.now in
    done_so (handle_refusal c.args.handle m.occupied) _ m _ (done_is _ (sym c.refusal.ensures ∙ c.in_ok-refusal.was)) (rw (c.request_diagnostics.ensures, c.index-i.ensures.0) refl)
