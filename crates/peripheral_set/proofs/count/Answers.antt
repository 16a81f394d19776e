-- `count` meets its contract: a mark that is set is one more of the listing.
use Rattle.std.proofs.Common.{get_or, false}
use native.Mathlib.Omega.{arith}
use Rattle.peripheral_set.specs.Marks.{slots}
use Rattle.peripheral_set.proofs.Laws.{length_step, length_end, one_most}
use Rattle.peripheral_set.proofs.count.Goals as goal

pub loop-mark-preserved : goal.loop-mark-preserved
loop-mark-preserved c = let marks = c.args.marks.now in
    let l = c.loop-mark in
    let e = length_step slots marks l.mark-index (omega arith) in
    (omega (arith, c.from-n.ensures, one_most (get_or marks l.mark-index false)), omega (arith, c.from-n.ensures, e))

pub returns : goal.returns
returns c = let l = c.loop-mark in let e = length_end slots c.args.marks.now l.mark-index (omega arith) in omega arith
