-- `at_or_after` meets its contract. The loop's invariant: what is left to search, from the place where the next eight begin, gives the whole answer.
-- It begins behind the place, which is empty; eight empty marks are passed by the law of slots that are passed together.
use Rattle.std.proofs.Common.{◌≡◌, ℕ, ◌-◌, rules, refl, sym, ap, ◌∙◌, get_or, take, drop, ◌+◌, true, false}
use Rattle.std.specs.List.{list_any}
use mathlib.Core.Bool.{beq}
use Rattle.std.proofs.lemmas.Iterator.{YieldsList-from_range}
use Rattle.std.proofs.lemmas.Iterator.Search.{find_from_yields_List}
use Rattle.std.proofs.lemmas.Iterator.Adapters.{option_map_id}
use borrow.Author.Tests.{tests}
use native.Mathlib.Omega.{arith}
use Rattle.peripheral_set.specs.Marks.{slots, slot_or_none}
use Rattle.peripheral_set.proofs.Laws.{search_here, search_on, search_none, search_over, slot_some, find_mark}
use Rattle.peripheral_set.proofs.at_or_after.Goals as goal

pub returns-then-place-ge-SLOTS : goal.returns-then-place-ge-SLOTS
returns-then-place-ge-SLOTS c = let a = c.args in sym (ap slot_or_none (search_none slots true slots a.marks.now a.place c.if-place-ge-SLOTS.true))

pub returns-then-marks-place : goal.returns-then-marks-place
returns-then-marks-place c = let a = c.args in
    sym (ap slot_or_none (search_here slots true slots a.marks.now a.place (omega arith) c.if-marks-place.true) ∙ slot_some a.place (omega arith))

pub loop-at-init : goal.loop-at-init
loop-at-init c = let a = c.args in (refl, sym (search_on slots true slots a.marks.now a.place (omega arith) c.if-marks-place.false))

pub loop-at-preserved : goal.loop-at-preserved
loop-at-preserved c = let a = c.args in
    let l = c.loop-at in
    let eight : l.at + 8 - l.at ≡ 8 = omega arith in
    let empty : list_any (λ m. beq m true) (take (l.at + 8 - l.at) (drop l.at a.marks.now)) ≡ false = sym c.contains.ensures.value ∙ c.if-contains.false in
    (refl, sym (search_over slots slots a.marks.now 8 l.at (omega arith) (omega arith) (rw eight at empty)) ∙ l.invariant.1)

pub returns : goal.returns
returns c = let marks = c.args.marks.now in
    let from = c.loop-at.from in
    sym (option_map_id c.find.result)
    ∙ find_from_yields_List (λ (s : ℕ). get_or marks s false) _ _ c.find.result c.find.ensures.ran (YieldsList-from_range from slots (slots - from) refl refl) (λ x b q k. search (rules, tests))
    ∙ find_mark marks (slots - from) from refl
    ∙ ap slot_or_none (rw c.loop-at.invariant.0 c.loop-at.invariant.1)
