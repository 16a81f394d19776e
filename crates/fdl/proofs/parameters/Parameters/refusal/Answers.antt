-- `Parameters::refusal` meets its contract: its rows in turn.
use mathlib.Core.Path.{refl, ◌∙◌}
use Rattle.refusals.proofs.Laws.{in-order}
use Rattle.fdl.specs.Params.{creation_rows, creation_refusal}
use Rattle.fdl.proofs.parameters.Parameters.refusal.Goals as goal

pub returns : goal.returns
unfolding creation_refusal
returns c =
    (rw (c.and-5.ensures, c.and-4.ensures, c.and-3.ensures, c.and-2.ensures, c.and.ensures, c.parameter.ensures, c.parameter-2.ensures, c.parameter-3.ensures, c.parameter-4.ensures, c.parameter-5.ensures, c.parameter-6.ensures, c.parameter-7.ensures, c.from.ensures, c.from-2.ensures, c.from-3.ensures, c.from-4.ensures, c.from-5.ensures, c.from-6.ensures, c.from-7.ensures) at c.and-6.ensures)
    ∙ in-order (creation_rows c.args.self) refl
