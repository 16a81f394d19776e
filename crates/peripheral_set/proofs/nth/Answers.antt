-- `nth` meets its contract: the listing is what the filter leaves of all slots.
use Rattle.std.proofs.Common.{ℕ, rules, refl, sym, ◌∙◌, ap, List, get_or, false}
use Rattle.std.specs.List.{slice_get}
use Rattle.std.proofs.lemmas.Iterator.{YieldsList-from_range}
use Rattle.std.proofs.lemmas.Iterator.Consumers.{YieldsList-from_filter, nth_from_yields_List}
use Rattle.std.proofs.lemmas.Iterator.Adapters.{option_map_id}
use native.Mathlib.Omega.{arith}
use borrow.Author.Tests.{tests}
use Rattle.peripheral_set.specs.Marks.{slots}
use Rattle.peripheral_set.proofs.Laws.{nth_listed, listed_filter}
use Rattle.peripheral_set.proofs.nth.Goals as goal

pub returns : goal.returns
returns c = let marks = c.args.marks.now in
    sym (option_map_id c.nth.result)
    ∙ nth_from_yields_List c.nth.result _ c.args.n c.nth.ensures.ran
    (YieldsList-from_filter _ (λ (s : ℕ). get_or marks s false) (YieldsList-from_range 0 slots slots c.filter.ensures.source refl) c.filter.ensures.closure (λ x r q k. search (rules, tests)))
    ∙ ap (λ (l : List ℕ). slice_get l c.args.n) (listed_filter marks slots 0)
    ∙ nth_listed marks slots 0 c.args.n (omega arith)
