-- `taken_elsewhere` meets its contract: the library's search goes over the slots as the definition does.
use Rattle.std.proofs.Common.{ℕ, rules, refl, ◌∙◌, get_or}
use Rattle.std.proofs.lemmas.Iterator.{YieldsList-from_range}
use Rattle.std.proofs.lemmas.Iterator.Search.{any_from_yields_List}
use borrow.Author.Tests.{tests}
use Rattle.peripheral.specs.Record.{blank}
use Rattle.peripheral_set.specs.Marks.{slots, is_occupied}
use Rattle.addresses.specs.Addresses.{has_it}
use Rattle.addresses.proofs.Laws.{any_elsewhere}
use Rattle.addresses.proofs.taken_elsewhere.Goals as goal

pub returns : goal.returns
returns c = let a = c.args in
    any_from_yields_List (λ (i : ℕ). has_it (is_occupied a.marks.now i) i a.slot (get_or a.all.now i blank) a.address) _ _ c.any.result c.any.ensures.ran
    (YieldsList-from_range 0 slots slots refl refl) (λ x b q k. search (rules, tests))
    ∙ any_elsewhere a.marks.now a.all.now a.slot a.address slots 0
