-- A call that answers done or a refusal: refused, or done.
-- The idea: the refusal has the number of the rows that gave it, and a refused call leaves the unit.
use mathlib.Core.Path.{◌≡◌, refl, sym, ◌∙◌}
use Prim.Native.Nat.{ℕ}
use borrow.Author.Tests.{ne_eqb}
use Rattle.std.specs.Prelude.{Ok, Err}
use Rattle.refusals.specs.declared.Refusal.{Refusal}
use Rattle.refusals.specs.Table.{refusal_number}
use Rattle.master.specs.declared.unit.DpMaster.{DpMaster}
use Rattle.master.specs.Unit.{Done, done_of}
use Rattle.master.specs.Handle.{done_by}

module _ (n k : ℕ) (changed m : DpMaster) (e : k ≡ n) where
  pub not_done : (k ≡ 0 → ⊥) → ◌≡◌ {A = Done} (record { refusal = k; master = m }) (done_by n changed m)
  not_done h = rw (← e, ne_eqb k 0 h) refl

  pub is_done : (after : DpMaster) → k ≡ 0 → after ≡ changed → ◌≡◌ {A = Done} (record { refusal = 0; master = after }) (done_by n changed m)
  is_done after z q = rw (← e, z, q) refl

-- the same of an answer
module _ (n : ℕ) (changed m : DpMaster) where
  pub refused_so : (r : Refusal) → (refusal_number r ≡ n) × (n ≡ 0 → ⊥) → done_of (Err r) m ≡ done_by n changed m
  refused_so r t = not_done n (refusal_number r) changed m t.0 (λ z. t.1 (sym t.0 ∙ z))

  pub done_so : (after : DpMaster) → n ≡ 0 → after ≡ changed → done_of (Ok tt) after ≡ done_by n changed m
  done_so after z q = is_done n n changed m refl after z q
