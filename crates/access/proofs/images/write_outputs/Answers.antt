-- `write_outputs` meets its contract: refused by pool or handle, by the length, or done.
use mathlib.Core.Path.{refl, sym, ◌∙◌}
use mathlib.Core.List.{[], ◌∷◌}
use lib.ListN.{length}
use Rattle.refusals.specs.Table.{write_row}
use Rattle.refusals.proofs.Laws.{passed_up, done_is, told, given_ok, given_err}
use Rattle.access.specs.Lookup.{found_in, pooled_rows}
use Rattle.access.proofs.Facts.{write_refused, write_other, write_done}
use Rattle.access.proofs.images.write_outputs.Goals as goal

pub returns-in-Err : goal.returns-in-Err
returns-in-Err c = let a = c.args in
    let m = a.m.now in
    let t = told (pooled_rows (length a.outputs.now) m.parameters.output_pool a.handle m.occupied) refl (given_err _ _ tt (sym c.pooled.ensures ∙ c.in-Err.is)) in
    write_refused m a.handle a.bytes.now a.outputs.now _ t.0 (λ z. t.1 (sym t.0 ∙ z))

pub returns-in_err-write : goal.returns-in_err-write
returns-in_err-write c = let a = c.args in
    let g = given_ok _ _ _ (sym c.pooled.ensures ∙ c.in-Ok.is) in
    let w = rw (c.from-len.ensures, ← g.1) at c.write.ensures in
    let t = told (write_row (length a.bytes.now) (found_in a.m.now a.handle).ranges.output_len ∷ []) refl (sym w ∙ c.in_err-write.was) in
    rw (passed_up _ _ c.from_residual.ensures.1) (write_other a.m.now a.handle a.bytes.now a.outputs.now g.0 _ t.0 (λ z. t.1 (sym t.0 ∙ z)))

pub returns : goal.returns
returns c = let a = c.args in
    let g = given_ok _ _ _ (sym c.pooled.ensures ∙ c.in-Ok.is) in
    let w = rw (c.from-len.ensures, ← g.1) at c.write.ensures in
    write_done a.m.now a.handle a.bytes.now a.outputs.now g.0 _ (done_is _ (sym w ∙ c.in_ok-write.was)) (rw (c.from.ensures, c.from-len.ensures, ← g.1) at c.copy_at.ensures.bytes)
