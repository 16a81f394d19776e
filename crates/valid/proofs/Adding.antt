-- An add keeps a unit valid.
-- The idea: the new ranges lie in their pools since no row of the table applied; they start where the used parts end, so they are apart from every other; and no other balance has the new one's address.
use mathlib.Core.Path.{◌≡◌, refl, sym, ◌∙◌, subst}
use mathlib.Core.Bool.{true, false, false≢true}
use mathlib.Core.Logic.{◌⊎◌, inl, inr, ⊎_elim}
use mathlib.Core.List.{List}
use Prim.Native.Nat.{ℕ, ◌<◌}
use native.Mathlib.Omega.{arith}
use lib.ListN.{get_or, length-set}
use lib.Seq.{get_or-set_same, get_or-set_other}
use lib.Dec.{eqb}
use borrow.Author.Tests.{eqb-true, eqb-false, not-true}
use Rattle.parts.proofs.Laws.{by_test}
use Rattle.peripheral.specs.declared.record.Peripheral.{Peripheral}
use Rattle.peripheral.specs.Record.{blank}
use Rattle.peripheral_set.specs.Marks.{slots, first_empty}
use Rattle.peripheral_set.proofs.Laws.{search_found}
use Rattle.cycle.specs.declared.refusal.Lengths.{Lengths}
use Rattle.cycle.specs.Refusal.{address_refusal, length_refusal}
use Rattle.cycle.proofs.Laws.{user-fits, config-fits, inputs-fit, outputs-fit, room_fits, add-slot, add-address, add_shared, add_lengths}
use Rattle.master.specs.declared.unit.DpMaster.{DpMaster}
use Rattle.master.specs.declared.add.Addition.{Addition}
use Rattle.master.specs.Pools.{Pools, pool_lengths}
use Rattle.master.specs.Add.{Added, newcomer, is_shared, room_refusal, used_after, unit_added, lengths_of, refusal_of, Adding}
use Rattle.master.proofs.Checks.{setup-room, input-room, output_room, diag_room, add_passed, room_passed}
use Rattle.valid.specs.Valid.{Sound, Placed, Apart, Before, Fits, Valid, occupied, balance}
use Rattle.valid.proofs.Stations.{sound_new}
use Rattle.valid.proofs.Balances.{nobody_else, standing_kept}

module _ (m : DpMaster) (a : Addition) (l : Lengths) (v : Valid m) where
  abbrev slot : ℕ
  slot = first_empty m.occupied

  abbrev fresh : Peripheral
  fresh = newcomer m a l

  abbrev after : DpMaster
  after = unit_added m (newcomer m a l)

  module _ (b : first_empty m.occupied < slots) (al : length_refusal l ≡ 0) where
    was_empty : get_or m.occupied slot false ≡ false
    was_empty = not-true _ (search_found slots false m.occupied slots 0 b)

    -- every slot is the new one, or is as it was
    which : (i : ℕ) → ((i ≡ slot) × (occupied after i) × (balance after i ≡ fresh))
        ⊎ ((i ≡ slot → ⊥) × (get_or after.occupied i false ≡ get_or m.occupied i false) × (balance after i ≡ balance m i))
    which i =
        by_test (eqb i slot)
        (λ e.
        let w : i ≡ slot = eqb-true i slot e in
        inl (w, rw (w, get_or-set_same m.occupied slot true false (omega (arith, v.marks))) refl, rw (w, get_or-set_same m.peripherals slot fresh blank (omega (arith, v.table))) refl))
        (λ e. let d = eqb-false i slot e in inr (d, get_or-set_other m.occupied slot i true false d, get_or-set_other m.peripherals slot i fresh blank d))

    -- what holds of the new balance and of each that was there holds of each that is there
    each : (P : Peripheral → Type 0) (i : ℕ) → occupied after i → (i ≡ slot → P fresh) → ((i ≡ slot → ⊥) → occupied m i → P (balance m i)) → P (balance after i)
    each P i o new old = ⊎_elim (λ w. subst P (sym w.2) (new w.0)) (λ w. subst P (sym w.2) (old w.0 (sym w.1 ∙ o))) (which i)

    -- the used parts grow
    old_before : (p : Peripheral) → Before p m.used → Before p (used_after fresh)
    old_before p g = record { setup = omega (arith, g.setup); inputs = omega (arith, g.inputs); outputs = omega (arith, g.outputs); diags = omega (arith, g.diags) }

    new_apart : (p : Peripheral) → Before p m.used → Apart fresh p
    new_apart p g = record { setup = inr g.setup; inputs = inr g.inputs; outputs = inr g.outputs; diags = inr g.diags }

    apart_new : (p : Peripheral) → Before p m.used → Apart p fresh
    apart_new p g = record { setup = inl g.setup; inputs = inl g.inputs; outputs = inl g.outputs; diags = inl g.diags }

    -- the slot of an open request was occupied, so it is another
    still_asked : (t k : ℕ) → occupied m t → Fits (balance m t).station k → (occupied after t) × Fits (balance after t).station k
    still_asked t k o f =
        ⊎_elim (λ w. absurd (false≢true (sym was_empty ∙ subst (occupied m) w.0 o))) (λ w. (w.1 ∙ o, subst (λ (p : Peripheral). Fits p.station k) (sym w.2) f)) (which t)

    module _ (user : a.options.has_user_parameters ≡ false → l.user ≡ 0) (config : a.options.has_config ≡ false → l.config ≡ 0) (ar : room_refusal m.parameters (newcomer m a l) ≡ 0) where
      new_placed : Placed m.parameters fresh
      new_placed =
          record {
            user = user-fits l al;
            config = config-fits l al;
            inputs = inputs-fit l al;
            outputs = outputs-fit l al;
            room = room_fits l al;
            no_user = user;
            no_config = config;
            setup_end = setup-room m.parameters fresh ar;
            input_end = input-room m.parameters fresh ar;
            output_end = output_room m.parameters fresh ar;
            diag_end = diag_room m.parameters fresh ar;
          }

      added : address_refusal m.parameters a.address ≡ 0 → is_shared m a ≡ false → Valid after
      added aa s =
          let n = new_placed in
          record {
            parameters = v.parameters;
            marks = simp length-set v.marks;
            table = simp length-set v.table;
            sound = λ i o. each (λ (p : Peripheral). Sound m.parameters.max_retry_limit p.ranges.diag_room p.station) i o (λ e. sound_new a.address m.parameters.max_retry_limit l.room) (λ d q. v.sound i q);
            address = λ i o. each (λ (p : Peripheral). address_refusal m.parameters p.station.address ≡ 0) i o (λ e. aa) (λ d q. v.address i q);
            differ = λ i j o r d.
                each (λ (p : Peripheral). p.station.address ≡ (balance after j).station.address → ⊥) i o
                (λ e. each (λ (p : Peripheral). fresh.station.address ≡ p.station.address → ⊥) j r (λ f. absurd (d (e ∙ sym f))) (λ f q g. nobody_else m v slot a.address s j q f (sym g)))
                (λ e p. each (λ (q : Peripheral). (balance m i).station.address ≡ q.station.address → ⊥) j r (λ f g. nobody_else m v slot a.address s i p e g) (λ f q. v.differ i j p q d));
            placed = λ i o. each (Placed m.parameters) i o (λ e. n) (λ d q. v.placed i q);
            apart = λ i j o r d.
                each (λ (p : Peripheral). Apart p (balance after j)) i o
                (λ e. each (Apart fresh) j r (λ f. absurd (d (e ∙ sym f))) (λ f q. new_apart (balance m j) (v.used j q)))
                (λ e p. each (Apart (balance m i)) j r (λ f. apart_new (balance m i) (v.used i p)) (λ f q. v.apart i j p q d));
            within = record { setup = n.setup_end; inputs = n.input_end; outputs = n.output_end; diags = n.diag_end };
            used = λ i o.
                each (λ (p : Peripheral). Before p (used_after fresh)) i o
                (λ e. record { setup = omega arith; inputs = omega arith; outputs = omega arith; diags = omega arith })
                (λ d q. old_before (balance m i) (v.used i q));
            empty = λ i e. ⊎_elim (λ w. absurd (false≢true (sym e ∙ w.1))) (λ w. w.2 ∙ v.empty i (sym w.1 ∙ e)) (which i);
            standing = standing_kept m (used_after fresh) after.occupied after.peripherals v.standing (still_asked m.state.open_slot m.state.open_kind);
          }

pub add_valid : (m : DpMaster) (a : Addition) (user config : List ℕ) (pools out : Pools) (r : Added) → Adding m a user config pools out r → Valid m → Valid r.master
add_valid m a user config pools out r c v =
    let l = lengths_of a user config in
    let n = refusal_of m a l pools in
    by_test (eqb n 0)
    (λ e.
    let z = eqb-true n 0 e in
    let q = add_passed m a l pools z in
    let u = m.parameters in
    let s = first_empty m.occupied in
    subst Valid (sym (c.after ∙ rw e refl))
    (added m a l v (add-slot u (pool_lengths pools) s a.address (is_shared m a) l q) (add_lengths u (pool_lengths pools) s a.address (is_shared m a) l q) (λ f. rw f refl) (λ f. rw f refl) (room_passed m a l pools z)
    (add-address u (pool_lengths pools) s a.address (is_shared m a) l q) (add_shared u (pool_lengths pools) s a.address (is_shared m a) l q)))
    (λ e. subst Valid (sym (c.after ∙ rw e refl)) v)
