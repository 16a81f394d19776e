-- `first_empty` meets its contract: the place of the first mark that is not set is what the search answers.
use Rattle.std.proofs.Common.{rules, ◌∙◌, not, false}
use Rattle.std.proofs.lemmas.Iterator.{YieldsList-from_slice}
use Rattle.std.proofs.lemmas.Iterator.Search.{position_from_yields_List}
use borrow.Author.Tests.{tests}
use Rattle.peripheral_set.proofs.Laws.{first_mark}
use Rattle.peripheral_set.proofs.first_empty.Goals as goal

pub returns : goal.returns
returns c =
    position_from_yields_List not _ _ _ c.position.ensures.ran (YieldsList-from_slice c.args.marks.now cc) (λ x b q k. search (rules, tests))
    ∙ first_mark false c.args.marks.now c.told-marks
