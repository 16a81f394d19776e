-- `receive_reply` meets its contract, by what judging and keeping promise.
use mathlib.Core.Path.{refl}
use Rattle.master.proofs.Receives.{received}
use Rattle.master.proofs.unit.DpMaster.receive_reply.Goals as goal

pub returns : goal.returns
returns c = let a = c.args in
    let i = c.index-i.ensures.0 in
    let e = c.judge-judged.ensures in
    received a.telegram a.self.now a.payload.now a.inputs.now a.diags.now _ _ _ a.address (rw (e, i) at c.keep.ensures) (rw (e, i) refl) (rw (e, i) refl)
