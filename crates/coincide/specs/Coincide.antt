-- Any two results that a contract allows coincide.
-- From 01, "What the contracts have to say".
use Rattle.std.specs.Prelude.{ℕ, List}
use contract.Lifetimes.{Lfts}
use borrow.Fn.Kinds.{ParamKind, ResultKind, Out, Dens, res_t, ended_of}
use denote.Triple.Clauses.{AtExit}

-- n lifetimes, kinds ps of the parameters and r of the result, L what the contract says of the arguments, the result and the parameters at exit;
-- E what is to be equal of two results and two exits
abbrev pub Coincide : (n : ℕ) (ps : List (ParamKind n)) (r : ResultKind n) → Out n ps r
    → ((κs : Lfts n) → (res_t r κs).Denot → (res_t r κs).Denot → AtExit (ended_of n ps r) κs → AtExit (ended_of n ps r) κs → Type 0) → Type 0
Coincide n ps r L E = (κs : Lfts n) (a : Dens κs ps) (z y : (res_t r κs).Denot) (e f : AtExit (ended_of n ps r) κs) → L κs a z e → L κs a y f → E κs z y e f
