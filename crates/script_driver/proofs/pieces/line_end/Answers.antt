-- `line_end` meets its contract: the library's search goes over the bytes as the definition does.
use Rattle.std.proofs.Common.{ℕ, ◌-◌, ◌==◌, Option, rules, refl, sym, ap, ◌∙◌, get_or, length}
use Rattle.std.specs.Option.{unwrap_or}
use Rattle.std.proofs.lemmas.Iterator.{YieldsList-from_range}
use Rattle.std.proofs.lemmas.Iterator.Search.{find_from_yields_List}
use Rattle.std.proofs.lemmas.Iterator.Adapters.{option_map_id}
use borrow.Author.Tests.{tests}
use native.Mathlib.Omega.{arith}
use Rattle.script_driver.proofs.Laws.{newline_found}
use Rattle.script_driver.proofs.pieces.line_end.Goals as goal

pub returns : goal.returns
returns c = let s = c.args.s.now in
    let from = c.args.from in
    let n = length s - from in
    let found =
    sym (option_map_id c.find.result)
    ∙ find_from_yields_List (λ (i : ℕ). get_or s i 0 == 10) _ _ c.find.result c.find.ensures.ran (YieldsList-from_range from (length s) n refl refl) (λ x b q k. search (rules, tests)) in
    c.unwrap_or.ensures ∙ ap (λ (o : Option ℕ). unwrap_or o c.max.result) found ∙ newline_found s n from c.max.result (omega (arith, c.max.ensures))
