-- The visits of a turn, over any number of slots n.
-- The idea: an empty slot is passed, an occupied one is visited, and after one that sent nothing more happens;
-- so going from occupied slot to occupied slot is the same as going slot by slot.
use mathlib.Core.Path.{◌≡◌, refl, sym, ap, ◌∙◌}
use mathlib.Core.Bool.{Bool, true, false, ◌&&◌, cond}
use mathlib.Core.List.{List}
use Prim.Native.Nat.{ℕ, zero, suc, ◌+◌, ◌-◌, ◌≤◌, ◌<◌}
use native.Mathlib.Omega.{arith}
use lib.Dec.{ltb}
use borrow.Author.Tests.{ltb-true, ltb-false}
use lib.ListN.{get_or, set}
use Rattle.parts.proofs.Laws.{by_test, and_false}
use Rattle.peripheral.specs.declared.record.Peripheral.{Peripheral}
use Rattle.peripheral.specs.declared.visit.Visit.{Visit}
use Rattle.peripheral.specs.Record.{blank}
use Rattle.peripheral.specs.Visit.{visit_action, visited_by, visit_of}
use Rattle.peripheral_set.specs.Marks.{slots, slot_or_none, or_slots, at_or_after, search_from}
use Rattle.peripheral_set.proofs.Laws.{search_found, search-from, some_slot, at_or_after-again}
use Rattle.cycle.specs.declared.seen.Seen.{Seen}
use Rattle.cycle.specs.declared.seen.Sent.{Sent}
use Rattle.std.specs.Prelude.{Option, Some, None}
use Rattle.cycle.specs.Seen.{seen_by, idle, next_in}
use Rattle.master.specs.declared.unit.DpMaster.{DpMaster}
use Rattle.master.specs.Unit.{balances_are}
use Rattle.master.specs.Turn.{Swept, sweep_from}

module _ (limit : ℕ) (marks : List Bool) where
  -- with one slot more
  one_more : (k i : ℕ) (seen : Seen) (ps : List Peripheral)
      → sweep_from (suc k) limit marks i seen ps
      ≡ sweep_from k limit marks (i + 1) (cond (get_or marks i false && idle seen.sent) (seen_by i (visit_action limit (get_or ps i blank)) seen) seen)
      (cond (get_or marks i false && idle seen.sent) (set ps i (visited_by limit (get_or ps i blank))) ps)
  unfolding sweep_from
  one_more k i seen ps = refl

  pub sweep_skip : (k i : ℕ) (seen : Seen) (ps : List Peripheral) → get_or marks i false ≡ false → sweep_from (suc k) limit marks i seen ps ≡ sweep_from k limit marks (i + 1) seen ps
  sweep_skip k i seen ps e = one_more k i seen ps ∙ rw e refl

  pub sweep_visit : (k i : ℕ) (seen : Seen) (ps : List Peripheral) → get_or marks i false ≡ true → idle seen.sent ≡ true
      → sweep_from (suc k) limit marks i seen ps ≡ sweep_from k limit marks (i + 1) (seen_by i (visit_action limit (get_or ps i blank)) seen) (set ps i (visited_by limit (get_or ps i blank)))
  sweep_visit k i seen ps e f = one_more k i seen ps ∙ rw (e, f) refl

  pub sweep_stopped : (k i : ℕ) (seen : Seen) (ps : List Peripheral) → idle seen.sent ≡ false → sweep_from k limit marks i seen ps ≡ record { seen = seen; balances = ps }
  unfolding sweep_from
  sweep_stopped zero i seen ps f = refl
  sweep_stopped (suc k) i seen ps f = rw (and_false (get_or marks i false) (idle seen.sent) f) (sweep_stopped k (i + 1) seen ps f)

  pub sweep_none : (i : ℕ) (seen : Seen) (ps : List Peripheral) → sweep_from 0 limit marks i seen ps ≡ record { seen = seen; balances = ps }
  unfolding sweep_from
  sweep_none i seen ps = refl

  module _ (n : ℕ) (seen : Seen) (ps : List Peripheral) where
    sweep_end : (i : ℕ) → n ≤ i → sweep_from (n - i) limit marks i seen ps ≡ record { seen = seen; balances = ps }
    sweep_end i h = let z : n - i ≡ 0 = omega arith in rw z (sweep_none i seen ps)

    jump_by : (k i : ℕ) → i + k ≡ n → sweep_from k limit marks i seen ps ≡ sweep_from (n - search_from n true k marks i) limit marks (search_from n true k marks i) seen ps
    unfolding search_from
    jump_by zero i h = sweep_none i seen ps ∙ sym (sweep_end n (omega arith))
    jump_by (suc k) i h =
        let z : n - i ≡ suc k = omega arith in
        by_test (get_or marks i false) (λ e. rw e (rw z refl)) (λ e. rw e (sweep_skip k i seen ps e ∙ jump_by k (i + 1) (omega arith)))

    -- the slots before the next occupied one are passed
    pub sweep_jump : (i : ℕ) → sweep_from (n - i) limit marks i seen ps ≡ sweep_from (n - search_from n true (n - i) marks i) limit marks (search_from n true (n - i) marks i) seen ps
    unfolding search_from
    sweep_jump i =
        by_test (ltb i n) (λ l. jump_by (n - i) i (omega (arith, ltb-true i n l)))
        (λ l. let z : n - i ≡ 0 = omega (arith, ltb-false i n l) in rw z (sweep_none i seen ps ∙ sym (sweep_end n (omega arith))))

-- ---- what holds whenever the loop looks at slot i: what is left to visit gives what all visits give

pub record Sweeping (limit : ℕ) (marks : List Bool) (all : Swept) (m₀ m : DpMaster) (seen : Seen) (i : ℕ) : Type 0 where
  pub rest : m ≡ balances_are m.peripherals m₀
  pub whole : sweep_from (slots - i) limit marks i seen m.peripherals ≡ all
  pub marked : i < slots → get_or marks i false ≡ true
  pub waiting : i < slots → idle seen.sent ≡ true

module _ (limit : ℕ) (marks : List Bool) where
  found : (k i : ℕ) → search_from slots true k marks i < slots → get_or marks (search_from slots true k marks i) false ≡ true
  found k i h = search_found slots true marks k i h

  -- the loop starts at the first occupied slot
  pub sweeping_begins : (m : DpMaster) (seen : Seen) (start i : ℕ) → i ≡ search_from slots true (slots - start) marks start → idle seen.sent ≡ true
      → Sweeping limit marks (sweep_from (slots - i) limit marks i seen m.peripherals) m m seen i
  sweeping_begins m seen start i e w = record { rest = refl; whole = refl; marked = λ h. rw e (found (slots - start) start (rw e at h)); waiting = λ h. w }

  -- and gives what all visits from the place on give
  pub sweeping_all : (seen : Seen) (ps : List Peripheral) (start i : ℕ) → i ≡ search_from slots true (slots - start) marks start
      → sweep_from (slots - start) limit marks start seen ps ≡ sweep_from (slots - i) limit marks i seen ps
  sweeping_all seen ps start i e = rw e (sweep_jump limit marks slots seen ps start)

  next_later : (sent : Option Sent) (i : ℕ) → i < slots → i < next_in sent marks i
  next_later None i h = omega (arith, search-from slots true marks (slots - (i + 1)) (i + 1) (omega arith))
  next_later (Some x) i h = h

  pub falls : (sent : Option Sent) (i next : ℕ) → i < slots → next ≡ next_in sent marks i → slots - next < slots - i
  falls sent i next h e = rw e (omega (arith, next_later sent i h))

  next_whole : (sent : Option Sent) (seen : Seen) (ps : List Peripheral) (i : ℕ) → seen.sent ≡ sent → sweep_from (slots - next_in sent marks i) limit marks (next_in sent marks i) seen ps ≡ sweep_from (slots - (i + 1)) limit marks (i + 1) seen ps
  next_whole None seen ps i e = sym (sweep_jump limit marks slots seen ps (i + 1))
  next_whole (Some x) seen ps i e =
      sweep_none limit marks slots seen ps ∙ sym (sweep_stopped limit marks (slots - (i + 1)) (i + 1) seen ps (ap idle e))

  next-marked : (sent : Option Sent) (i : ℕ) → next_in sent marks i < slots → get_or marks (next_in sent marks i) false ≡ true
  next-marked None i h = found (slots - (i + 1)) (i + 1) h
  next-marked (Some x) i h = absurd (omega arith)

  next_waiting : (sent : Option Sent) (i : ℕ) → next_in sent marks i < slots → idle sent ≡ true
  next_waiting None i h = refl
  next_waiting (Some x) i h = absurd (omega arith)

  -- one visit v; next is the slot where the visits go on
  pub sweeping_goes_on : (all : Swept) (m₀ m : DpMaster) (seen seen' : Seen) (i next : ℕ) (v : Visit) → i < slots → Sweeping limit marks all m₀ m seen i
      → v ≡ visit_of limit (get_or m.peripherals i blank) → seen' ≡ seen_by i v.what seen → next ≡ next_in seen'.sent marks i
      → Sweeping limit marks all m₀ (balances_are (set m.peripherals i v.peripheral) m) seen' next
  sweeping_goes_on all m₀ m seen seen' i next v h s ev es en =
      let q : Peripheral = v.peripheral in
      let z : slots - i ≡ suc (slots - (i + 1)) = omega arith in
      let visit : sweep_from (slots - (i + 1)) limit marks (i + 1) seen' (set m.peripherals i q) ≡ all =
      rw (es, ev) (sym (sweep_visit limit marks (slots - (i + 1)) i seen m.peripherals (s.marked h) (s.waiting h)) ∙ (rw z at s.whole)) in
      record {
        rest = ap (balances_are (set m.peripherals i q)) s.rest;
        whole = rw en (next_whole seen'.sent seen' (set m.peripherals i q) i refl ∙ visit);
        marked = λ k. rw en (next-marked seen'.sent i (rw en at k));
        waiting = λ k. next_waiting seen'.sent i (rw en at k);
      }

  pub sweeping_ends : (all : Swept) (m₀ m : DpMaster) (seen : Seen) (i : ℕ) → slots ≤ i → Sweeping limit marks all m₀ m seen i → all ≡ record { seen = seen; balances = m.peripherals }
  sweeping_ends all m₀ m seen i h s = let z : slots - i ≡ 0 = omega arith in sym s.whole ∙ rw z (sweep_none limit marks i seen m.peripherals)

-- ---- the same with the next slot as an Option

pub record Going (limit : ℕ) (marks : List Bool) (all : Swept) (m₀ m : DpMaster) (seen : Seen) (next : Option ℕ) : Type 0 where
  pub sweeping : Sweeping limit marks all m₀ m seen (or_slots next)
  pub proper : next ≡ slot_or_none (or_slots next)

module _ (limit : ℕ) (marks : List Bool) where
  -- the number of an optional slot that a search answered
  found_at : (place : ℕ) (next : Option ℕ) → next ≡ slot_or_none (at_or_after marks place) → or_slots next ≡ at_or_after marks place
  found_at place next e = ap or_slots e ∙ at_or_after-again marks place

  pub going_begins : (m : DpMaster) (seen : Seen) (start : ℕ) (next : Option ℕ) → next ≡ slot_or_none (at_or_after marks start) → idle seen.sent ≡ true
      → Going limit marks (sweep_from (slots - or_slots next) limit marks (or_slots next) seen m.peripherals) m m seen next
  going_begins m seen start next e w =
      let i = found_at start next e in
      record { sweeping = sweeping_begins limit marks m seen start (or_slots next) i w; proper = e ∙ ap slot_or_none (sym i) }

  pub going_all : (seen : Seen) (ps : List Peripheral) (start : ℕ) (next : Option ℕ) → next ≡ slot_or_none (at_or_after marks start)
      → sweep_from (slots - start) limit marks start seen ps ≡ sweep_from (slots - or_slots next) limit marks (or_slots next) seen ps
  going_all seen ps start next e = sweeping_all limit marks seen ps start (or_slots next) (found_at start next e)

  -- the slot at hand is one
  pub at_hand : (i : ℕ) → Some i ≡ slot_or_none i → i < slots
  at_hand i p = (some_slot i i (sym p)).1

  next_at : (sent : Option Sent) (i : ℕ) (next : Option ℕ) → next ≡ slot_or_none (next_in sent marks i) → or_slots next ≡ next_in sent marks i
  next_at None i next e = found_at (i + 1) next e
  next_at (Some x) i next e = ap or_slots e

  pub going_falls : (sent : Option Sent) (i : ℕ) (next : Option ℕ) → Some i ≡ slot_or_none i → next ≡ slot_or_none (next_in sent marks i) → slots - or_slots next < slots - i
  going_falls sent i next p e = falls limit marks sent i (or_slots next) (at_hand i p) (next_at sent i next e)

  pub going_on : (all : Swept) (m₀ m : DpMaster) (seen seen' : Seen) (i : ℕ) (next : Option ℕ) (v : Visit) → Going limit marks all m₀ m seen (Some i)
      → v ≡ visit_of limit (get_or m.peripherals i blank) → seen' ≡ seen_by i v.what seen → next ≡ slot_or_none (next_in seen'.sent marks i)
      → Going limit marks all m₀ (balances_are (set m.peripherals i v.peripheral) m) seen' next
  going_on all m₀ m seen seen' i next v g ev es en =
      let n = next_at seen'.sent i next en in
      record {
        sweeping = sweeping_goes_on limit marks all m₀ m seen seen' i (or_slots next) v (at_hand i g.proper) g.sweeping ev es n;
        proper = en ∙ ap slot_or_none (sym n);
      }

  pub going_ends : (all : Swept) (m₀ m : DpMaster) (seen : Seen) → Going limit marks all m₀ m seen None → all ≡ record { seen = seen; balances = m.peripherals }
  going_ends all m₀ m seen g = sweeping_ends limit marks all m₀ m seen slots (omega arith) g.sweeping

  -- the marks stay
  pub same_marks : (all : Swept) (m₀ m : DpMaster) (seen : Seen) (next : Option ℕ) → Going limit marks all m₀ m seen next → m.occupied ≡ m₀.occupied
  same_marks all m₀ m seen next g = ap (λ (x : DpMaster). x.occupied) g.sweeping.rest
