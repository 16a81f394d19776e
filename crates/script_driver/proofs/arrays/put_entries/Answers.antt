-- `put_entries` meets its contract. The loop's invariant: what is left to list leads to the whole listing.
use mathlib.Core.Path.{sym, ap, ◌∙◌}
use Prim.Native.Nat.{ℕ, ◌<◌, ◌+◌, ◌*◌}
use Rattle.peripheral_set.specs.declared.Entry.{Entry}
use native.Mathlib.Omega.{arith}
use lib.ListN.{length, drop}
use Rattle.peripheral_set.specs.Marks.{slots, listed}
use Rattle.script_driver.specs.Arrays.{put_entry, put_entries}
use Rattle.script_driver.proofs.Laws.{few, entries_more, entries_done}
use Rattle.script_driver.proofs.arrays.put_entries.Goals as goal

pub loop-k-preserved : goal.loop-k-preserved
loop-k-preserved c = let u = c.args.unit.now in
    let l = c.loop-k in
    let p = c.put_entry in
    let h : l.k < length (listed u.occupied) = omega (arith, c.count-count.ensures) in
    ap (put_entries u (drop (l.k + 1) (listed u.occupied)) (l.k + 1)) (p.ensures ∙ ap (λ (x : Entry). put_entry l.k x l.list) c.entry.ensures)
    ∙ sym (entries_more u (listed u.occupied) l.k l.list h)
    ∙ l.invariant

pub overflow_mul-result : goal.overflow_mul-result
overflow_mul-result c = omega (arith, few slots c.args.unit.now.occupied 0, c.count-count.ensures)

pub returns : goal.returns
returns c = let u = c.args.unit.now in
    let l = c.loop-k in
    record { len = ap (λ (n : ℕ). 3 * n) c.count-count.ensures; bytes = sym (entries_done u (listed u.occupied) l.k l.list (omega (arith, c.count-count.ensures))) ∙ l.invariant }
