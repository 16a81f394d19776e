-- The part of an array that is lent, before and after.
-- The idea: a part that is as long as the pool at creation is its first bytes, however many were asked for.
use mathlib.Core.Path.{◌≡◌, refl, sym, ◌∙◌}
use mathlib.Core.List.{List}
use Prim.Native.Nat.{ℕ, ◌≤◌, ◌<◌, min}
use native.Mathlib.Omega.{arith}
use lib.ListN.{length, drop, length-take}
use lib.Seq.{take_all, take_at}
use lib.Dec.{leb}
use borrow.Author.Tests.{leb-true, leb-false}
use Rattle.parts.proofs.Laws.{by_test}
use Rattle.master.specs.Pools.{lend, back}

module _ (n p : ℕ) (pool : List ℕ) (e : length (lend n pool) ≡ p) where
  size : min n (length pool) ≡ p
  size = sym (length-take n pool) ∙ e

  pub lent_same : lend n pool ≡ lend p pool
  lent_same =
      let z = size in
      by_test (leb n (length pool))
      (λ l. let h : n ≤ length pool = leb-true n (length pool) l in let q : n ≡ p = omega arith in rw q refl)
      (λ l.
      let h : length pool < n = leb-false n (length pool) l in
      take_all n pool (omega arith) ∙ sym (take_all p pool (omega arith)))

  pub lent_back : (out : List ℕ) → length out ≡ length (lend n pool) → lend p (back n out pool) ≡ out
  lent_back out q = take_at out (drop n pool) p (q ∙ e)
