-- A unit whose balances went on, each in its own slot, is valid again.
-- The idea: visits, replies, wishes and resets change stations alone, and of occupied slots alone; so ranges and what is said of them stay. Only a reset gives another address.
use mathlib.Core.Path.{◌≡◌, refl, sym, ◌∙◌}
use mathlib.Core.Bool.{Bool, true, false, false≢true}
use mathlib.Core.Logic.{inl, inr, ⊎_elim}
use mathlib.Core.List.{List}
use Prim.Native.Nat.{ℕ, ◌≤◌, ◌<◌}
use native.Mathlib.Omega.{arith}
use lib.ListN.{length, get_or, set, length-set, get_or-eq_default}
use lib.Seq.{get_or-set_same, get_or-set_other}
use lib.Dec.{eqb, ltb}
use borrow.Author.Tests.{eqb-true, eqb-false, eq-eqb, ltb-true, ltb-false, lt-ltb}
use Rattle.parts.proofs.Laws.{by_test}
use Rattle.fdl.specs.declared.parameters.Parameters.{Parameters}
use Rattle.station.specs.declared.record.Station.{Station}
use Rattle.station.specs.State.{state_of}
use Rattle.peripheral.specs.declared.record.Peripheral.{Peripheral}
use Rattle.peripheral.specs.Record.{blank, station_is}
use Rattle.peripheral_set.specs.Marks.{slots}
use Rattle.addresses.specs.Addresses.{elsewhere}
use Rattle.addresses.proofs.Laws.{none_elsewhere}
use Rattle.cycle.specs.declared.state.DpMasterState.{DpMasterState}
use Rattle.cycle.specs.Refusal.{address_refusal}
use Rattle.master.specs.declared.unit.DpMaster.{DpMaster}
use Rattle.master.specs.declared.unit.Used.{Used}
use Rattle.master.specs.Unit.{state_is, balances_are}
use Rattle.valid.specs.Valid.{Sound, Placed, Apart, Before, Fits, Opened, Standing, balance, occupied, Valid}
use Rattle.valid.proofs.Stations.{kind-among}

-- ---- a balance that went on

-- u: the unit's parameters; there: the slot is occupied. Ranges and options are as they were, a sound station is so again, and an empty slot is as it was
pub record Next (u : Parameters) (there : Bool) (p q : Peripheral) : Type 0 where
  pub ranges : q.ranges ≡ p.ranges
  pub options : q.options ≡ p.options
  pub sound : Sound u.max_retry_limit p.ranges.diag_room p.station → Sound u.max_retry_limit q.ranges.diag_room q.station
  pub empty : there ≡ false → q ≡ p

module _ (u : Parameters) (there : Bool) where
  pub next_same : (p : Peripheral) → Next u there p p
  next_same p = record { ranges = refl; options = refl; sound = λ g. g; empty = λ e. refl }

  pub next-next : (p q r : Peripheral) → Next u there p q → Next u there q r → Next u there p r
  next-next p q r a b =
      record {
        ranges = b.ranges ∙ a.ranges;
        options = b.options ∙ a.options;
        sound = λ g. b.sound (a.sound g);
        empty = λ e. b.empty e ∙ a.empty e;
      }

  -- another station in an occupied slot
  pub next_station : (p : Peripheral) (s : Station) → there ≡ true
      → (Sound u.max_retry_limit p.ranges.diag_room p.station → Sound u.max_retry_limit p.ranges.diag_room s) → Next u there p (station_is s p)
  next_station p s o g = record { ranges = refl; options = refl; sound = g; empty = λ e. absurd (false≢true (sym e ∙ o)) }

module _ (p q : Peripheral) (er : q.ranges ≡ p.ranges) (eo : q.options ≡ p.options) where
  pub placed_same : (u : Parameters) → Placed u p → Placed u q
  placed_same u g =
      record {
        user = rw eo g.user;
        config = rw eo g.config;
        inputs = rw er g.inputs;
        outputs = rw er g.outputs;
        room = rw er g.room;
        no_user = rw eo g.no_user;
        no_config = rw eo g.no_config;
        setup_end = rw (er, eo) g.setup_end;
        input_end = rw er g.input_end;
        output_end = rw er g.output_end;
        diag_end = rw er g.diag_end;
      }

  pub before_same : (used : Used) → Before p used → Before q used
  before_same used g = record { setup = rw (er, eo) g.setup; inputs = rw er g.inputs; outputs = rw er g.outputs; diags = rw er g.diags }

  module _ (r s : Peripheral) (fr : s.ranges ≡ r.ranges) (fo : s.options ≡ r.options) where
    pub apart_same : Apart p r → Apart q s
    apart_same g = record { setup = rw (er, eo, fr, fo) g.setup; inputs = rw (er, fr) g.inputs; outputs = rw (er, fr) g.outputs; diags = rw (er, fr) g.diags }

-- ---- a slot that is occupied is a slot

pub marked_in : (marks : List Bool) (i : ℕ) → get_or marks i false ≡ true → i < length marks
marked_in marks i o =
    by_test (ltb i (length marks)) (λ e. ltb-true i (length marks) e)
    (λ e. absurd (false≢true (sym (get_or-eq_default marks false (ltb-false i (length marks) e)) ∙ o)))

pub marked_below : (m : DpMaster) → Valid m → (i : ℕ) → occupied m i → i < slots
marked_below m v i o = omega (arith, v.marks, marked_in m.occupied i o)

-- where the search finds no other balance at an address, there is none
pub nobody_else : (m : DpMaster) → Valid m → (slot address : ℕ) → elsewhere m.occupied m.peripherals slot address ≡ false
    → (j : ℕ) → occupied m j → (j ≡ slot → ⊥) → (balance m j).station.address ≡ address → ⊥
nobody_else m v slot address s j o d e =
    let l = marked_below m v j o in
    none_elsewhere m.occupied m.peripherals slot address s j l (rw (lt-ltb j slots l, o) refl) d e

-- ---- all balances went on

abbrev pub GoneOn : Parameters → List Bool → List Peripheral → List Peripheral → Type 0
GoneOn u marks ps qs = (i : ℕ) → Next u (get_or marks i false) (get_or ps i blank) (get_or qs i blank)

-- one balance is put back: what holds of it in its slot, and of every other in its own, holds of all
pub each_set : (P : ℕ → Peripheral → Type 0) (ps : List Peripheral) (k : ℕ) (q : Peripheral) → k < length ps → P k q → ((i : ℕ) → (i ≡ k → ⊥) → P i (get_or ps i blank)) → (i : ℕ) → P i (get_or (set ps k q) i blank)
each_set P ps k q l new old i =
    by_test (eqb i k)
    (λ e. let w : i ≡ k = eqb-true i k e in rw (w, get_or-set_same ps k q blank l) new)
    (λ e. let d = eqb-false i k e in rw (get_or-set_other ps k i q blank d) (old i d))

pub on_set : (u : Parameters) (marks : List Bool) (ps : List Peripheral) (k : ℕ) (q : Peripheral) → k < length ps → Next u (get_or marks k false) (get_or ps k blank) q → GoneOn u marks ps (set ps k q)
on_set u marks ps k q l g = each_set (λ i p. Next u (get_or marks i false) (get_or ps i blank) p) ps k q l g (λ i d. next_same u (get_or marks i false) (get_or ps i blank))

-- ---- addresses

-- each balance has the address that it had
abbrev pub SameNames : List Peripheral → List Peripheral → Type 0
SameNames ps qs = (i : ℕ) → (get_or qs i blank).station.address ≡ (get_or ps i blank).station.address

pub same_set : (ps : List Peripheral) (k : ℕ) (q : Peripheral) → k < length ps → q.station.address ≡ (get_or ps k blank).station.address → SameNames ps (set ps k q)
same_set ps k q l g = each_set (λ i p. p.station.address ≡ (get_or ps i blank).station.address) ps k q l g (λ i d. refl)

-- ---- the unit

module _ (m : DpMaster) (v : Valid m) where
  valid_on : (qs : List Peripheral) (s : DpMasterState) → GoneOn m.parameters m.occupied m.peripherals qs
      → ((i : ℕ) → occupied m i → address_refusal m.parameters (get_or qs i blank).station.address ≡ 0)
      → ((i j : ℕ) → occupied m i → occupied m j → (i ≡ j → ⊥) → (get_or qs i blank).station.address ≡ (get_or qs j blank).station.address → ⊥)
      → length qs ≡ slots → Standing (state_is s (balances_are qs m)) → Valid (state_is s (balances_are qs m))
  valid_on qs s f a b n st =
      record {
        parameters = v.parameters;
        marks = v.marks;
        table = n;
        within = v.within;
        used = λ i o. before_same (get_or m.peripherals i blank) (get_or qs i blank) (f i).ranges (f i).options m.used (v.used i o);
        sound = λ i o. (f i).sound (v.sound i o);
        address = a;
        differ = b;
        placed = λ i o. placed_same (get_or m.peripherals i blank) (get_or qs i blank) (f i).ranges (f i).options m.parameters (v.placed i o);
        apart = λ i j o r d. apart_same (get_or m.peripherals i blank) (get_or qs i blank) (f i).ranges (f i).options (get_or m.peripherals j blank) (get_or qs j blank) (f j).ranges (f j).options (v.apart i j o r d);
        empty = λ i e. (f i).empty e ∙ v.empty i e;
        standing = st;
      }

  -- each with its address
  pub valid_kept : (qs : List Peripheral) (s : DpMasterState) → GoneOn m.parameters m.occupied m.peripherals qs → SameNames m.peripherals qs → length qs ≡ slots
      → Standing (state_is s (balances_are qs m)) → Valid (state_is s (balances_are qs m))
  valid_kept qs s f h n st = valid_on qs s f (λ i o. rw (h i) (v.address i o)) (λ i j o r d e. v.differ i j o r d (sym (h i) ∙ e ∙ h j)) n st

  -- one balance, in an occupied slot
  module _ (k : ℕ) (q : Peripheral) (s : DpMasterState) (o : occupied m k) (g : Next m.parameters (get_or m.occupied k false) (get_or m.peripherals k blank) q)
      (st : Standing (state_is s (balances_are (set m.peripherals k q) m))) where
    in_table : k < length m.peripherals
    in_table = omega (arith, v.table, marked_below m v k o)

    went_on : GoneOn m.parameters m.occupied m.peripherals (set m.peripherals k q)
    went_on = on_set m.parameters m.occupied m.peripherals k q in_table g

    pub valid_set : q.station.address ≡ (get_or m.peripherals k blank).station.address → Valid (state_is s (balances_are (set m.peripherals k q) m))
    valid_set h = valid_kept (set m.peripherals k q) s went_on (same_set m.peripherals k q in_table h) (simp length-set v.table) st

    -- at an address that no other balance has
    pub valid_moved : address_refusal m.parameters q.station.address ≡ 0 → ((j : ℕ) → occupied m j → (j ≡ k → ⊥) → (balance m j).station.address ≡ q.station.address → ⊥)
        → Valid (state_is s (balances_are (set m.peripherals k q) m))
    valid_moved a b =
        valid_on (set m.peripherals k q) s went_on
        (each_set (λ i p. occupied m i → address_refusal m.parameters p.station.address ≡ 0) m.peripherals k q in_table (λ c. a) (λ i d c. v.address i c))
        (λ i j c r.
        each_set (λ i p. occupied m i → (i ≡ j → ⊥) → p.station.address ≡ (get_or (set m.peripherals k q) j blank).station.address → ⊥) m.peripherals k q in_table
        (λ c d. each_set (λ j p. occupied m j → (k ≡ j → ⊥) → q.station.address ≡ p.station.address → ⊥) m.peripherals k q in_table (λ r d e. d refl) (λ j n r d e. b j r n (sym e)) j r d)
        (λ i n c d. each_set (λ j p. occupied m j → (i ≡ j → ⊥) → (balance m i).station.address ≡ p.station.address → ⊥) m.peripherals k q in_table (λ r d e. b i c n e) (λ j x r d e. v.differ i j c r d e) j r d)
        i c)
        (simp length-set v.table) st

-- ---- the open request

module _ (m : DpMaster) where
  -- with the same state, where the balance that was asked is still there and still fits
  pub standing_kept : (used : Used) (marks : List Bool) (ps : List Peripheral) → Standing m
      → let t = m.state.open_slot in (occupied m t → Fits (balance m t).station m.state.open_kind → (get_or marks t false ≡ true) × Fits (get_or ps t blank).station m.state.open_kind)
      → Standing (record { state = m.state; parameters = m.parameters; used = used; occupied = marks; peripherals = ps })
  standing_kept used marks ps g f =
      record {
        operating = g.operating;
        place = g.place;
        times = g.times;
        request = ⊎_elim (λ c. inl c) (λ o. let y = f o.there o.fit in inr (record { place = o.place; going = o.going; there = y.0; fit = y.1 })) g.request;
      }

  -- what is open has a kind, 1 to 4
  pub opened-kind : Opened m → (1 ≤ m.state.open_kind) × (m.state.open_kind ≤ 4)
  opened-kind o = let s = (balance m m.state.open_slot).station in kind-among m.state.open_kind s.diag_needed (state_of s.state) o.fit

  -- so the kind that is kept is that of one of the four requests, or 0
  pub kind_known : Valid m → m.state.open_kind ≤ 4
  kind_known v = ⊎_elim (λ c. rw c.kind (omega arith)) (λ o. (opened-kind o).1) v.standing.request

  -- and what has a kind is open
  pub open_there : Valid m → eqb m.state.open_kind 0 ≡ false → Opened m
  open_there v e = ⊎_elim (λ c. absurd (false≢true (sym e ∙ eq-eqb m.state.open_kind 0 c.kind))) (λ o. o) v.standing.request
