-- An add put together from its pieces, and one that is refused.
-- The idea: every part of the promise is the same test on the refusal.
use mathlib.Core.Path.{◌≡◌, refl, sym, ◌∙◌}
use mathlib.Core.List.{List}
use Prim.Native.Nat.{ℕ}
use borrow.Author.Tests.{ne_eqb}
use Rattle.std.specs.Prelude.{Err}
use Rattle.refusals.specs.declared.Refusal.{Refusal}
use Rattle.refusals.specs.Table.{or_else, refusal_number}
use Rattle.peripheral_set.specs.Marks.{first_empty}
use Rattle.cycle.specs.declared.refusal.Lengths.{Lengths}
use Rattle.cycle.specs.Refusal.{add_refusal}
use Rattle.master.specs.declared.unit.DpMaster.{DpMaster}
use Rattle.master.specs.declared.add.Addition.{Addition}
use Rattle.master.specs.Pools.{Pools, pools_of, pool_lengths}
use Rattle.master.specs.Add.{Added, added_of, newcomer, is_shared, room_refusal, refusal_of, setup_after, cleared, unit_added, Adds}
use Rattle.master.proofs.Checks.{in_two}

module _ (m : DpMaster) (a : Addition) (l : Lengths) (user config : List ℕ) (pools : Pools) where
  -- refused as n: the refusal e has this number
  refused : (n : ℕ) (e : Refusal) → refusal_of m a l pools ≡ n → (refusal_number e ≡ n) × (n ≡ 0 → ⊥)
      → Adds (refusal_of m a l pools) (newcomer m a l) m user config pools pools (added_of (Err e) m)
  refused n e en t = let z = ne_eqb n 0 t.1 in record { refusal = t.0 ∙ sym en; handle = rw (en, z) refl; after = rw (en, z) refl; written = rw (en, z) refl }

  -- before its ranges have a place
  pub add_refused : (e : Refusal) → let n = add_refusal m.parameters (pool_lengths pools) (first_empty m.occupied) a.address (is_shared m a) l in
      (refusal_number e ≡ n) × (n ≡ 0 → ⊥) → Adds (refusal_of m a l pools) (newcomer m a l) m user config pools pools (added_of (Err e) m)
  unfolding or_else
  add_refused e t = refused _ e (in_two m a l pools ∙ rw (ne_eqb _ 0 t.1) refl) t

  module _ (z : add_refusal m.parameters (pool_lengths pools) (first_empty m.occupied) a.address (is_shared m a) l ≡ 0) where
    then-room : refusal_of m a l pools ≡ room_refusal m.parameters (newcomer m a l)
    unfolding or_else
    then-room = in_two m a l pools ∙ rw z refl

    -- by its ranges
    pub room_refused : (e : Refusal) → let k = room_refusal m.parameters (newcomer m a l) in
        (refusal_number e ≡ k) × (k ≡ 0 → ⊥) → Adds (refusal_of m a l pools) (newcomer m a l) m user config pools pools (added_of (Err e) m)
    room_refused e t = refused _ e then-room t

    pub add-accepted : (setup inputs outputs diags : List ℕ) (r : Added) → room_refusal m.parameters (newcomer m a l) ≡ 0
        → r ≡ record { refusal = 0; handle = record { slot = first_empty m.occupied; address = a.address }; master = unit_added m (newcomer m a l) }
        → setup ≡ setup_after m.used.setup user config pools.setup → inputs ≡ cleared m.used.inputs l.inputs pools.inputs
        → outputs ≡ cleared m.used.outputs l.outputs pools.outputs → diags ≡ cleared m.used.diags l.room pools.diags
        → Adds (refusal_of m a l pools) (newcomer m a l) m user config pools (pools_of setup inputs outputs diags) r
    add-accepted setup inputs outputs diags r q er s i o d =
        let e : refusal_of m a l pools ≡ 0 = then-room ∙ q in
        record { refusal = rw (er, e) refl; handle = rw (e, er) refl; after = rw (e, er) refl; written = rw (e, s, i, o, d) refl }
