-- `iter` meets its contract. The idea: a list with too little room is refused; else the loop lays the entries over the first rows, one after the other.
use mathlib.Core.Path.{◌≡◌, refl, sym, ap, ◌∙◌}
use mathlib.Core.List.{List, [], ◌∷◌}
use Prim.Native.Nat.{◌≤◌}
use native.Mathlib.Numerals.{add-one}
use native.Mathlib.Omega.{arith}
use lib.ListN.{length, set, take}
use lib.Seq.{length-take-le}
use borrow.Author.Tests.{lt-leb, le-leb, le-ltb}
use Rattle.refusals.specs.Table.{list_row}
use Rattle.refusals.proofs.Laws.{told, done_is, passed_up}
use Rattle.peripheral_set.specs.declared.Entry.{Entry}
use Rattle.peripheral_set.specs.Marks.{slots}
use Rattle.access.specs.Lookup.{entry_at}
use Rattle.forms.specs.Listing.{shown, overlay}
use Rattle.forms.proofs.Filling.{refused_short, taken_long, as_many, shown-fits, shown-at, fills, laid, take_all}
use Rattle.forms.proofs.listing.iter.Goals as goal
use Rattle.forms.proofs.listing.iter.Goals.{After-count-count}

pub returns-in_err-list_refusal : goal.returns-in_err-list_refusal
returns-in_err-list_refusal c = let n = length c.args.list.now in
    let t = told (list_row slots n ∷ []) refl (sym c.list_refusal.ensures ∙ c.in_err-list_refusal.was) in
    let l = lt-leb slots n (refused_short n t.1) in
    rw (passed_up _ _ c.from_residual.ensures.1) (record { answer = rw (t.0, l) refl; list = rw l refl })

-- a list that is taken has room for all
taken : (c : After-count-count) → slots ≤ length c.args.list.now
taken c = taken_long (length c.args.list.now) (done_is _ (sym c.list_refusal.ensures ∙ c.in_ok-list_refusal.was))

-- as many are written as are shown, and the list has that many rows
as_shown : (c : After-count-count) → c.count-count.result ≡ length (shown c.args.m.now (length c.args.list.now))
as_shown c = rw (le-leb slots (length c.args.list.now) (taken c)) (c.count-count.ensures ∙ sym (as_many c.args.m.now))

room : (c : After-count-count) → c.count-count.result ≤ length c.args.list.now
room c = omega (arith, as_shown c, (shown-fits c.args.m.now (length c.args.list.now)).1)

-- the part that is written has so many rows
rows : (c : After-count-count) → length (take c.count-count.result c.args.list.now) ≡ c.count-count.result
rows c = length-take-le c.count-count.result c.args.list.now (room c)

pub slice_bounds-row-items-end : goal.slice_bounds-row-items-end
slice_bounds-row-items-end c = room (goal.at.slice_bounds-row-items-end c).After-count-count

pub slice_bounds-row-items-end-2 : goal.slice_bounds-row-items-end-2
slice_bounds-row-items-end-2 c = sym (rows (goal.at.slice_bounds-row-items-end-2 c).After-count-count)

pub loop-i-preserved : goal.loop-i-preserved
loop-i-preserved c =
    let here = (goal.at.loop-i-preserved c).After-count-count in
    let room = length c.args.list.now in
    let es = shown c.args.m.now room in
    let part = take c.count-count.result c.args.list.now in
    let i = c.loop-i.i in
    let n = as_shown here in
    let w = rows here in
    rw add-one
    (ap (λ (l : List Entry). set l i c.entry.result) c.loop-i.invariant
    ∙ ap (set (overlay (take i es) part) i) (c.entry.ensures ∙ shown-at c.args.m.now room i (omega arith))
    ∙ fills es part i (entry_at c.args.m.now slots) (omega arith) (omega arith))

pub returns : goal.returns
returns c =
    let here = (goal.at.returns c).After-count-count in
    let len = length c.args.list.now in
    let es = shown c.args.m.now len in
    let n = as_shown here in
    let w = rows here in
    let all : c.loop-i.i ≡ length es = omega (arith, c.loop-i.auto.i-end) in
    record {
      answer = rw (n, le-ltb len slots (taken here)) refl;
      list = laid es c.args.list.now c.loop-i.row-items c.count-count.result n (room here) (rw (← take_all es, ← all) c.loop-i.invariant);
    }
