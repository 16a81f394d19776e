-- The visits of one turn, seen from one slot.
-- The idea: visits before and after slot s leave what is said of s; its own visit decides it; after one that sent nothing more comes.
use mathlib.Core.Path.{◌≡◌, refl, sym, ap, ◌∙◌, subst}
use mathlib.Core.Bool.{Bool, true, false, ◌&&◌, false≢true, cond}
use mathlib.Core.Logic.{◌⊎◌, inl, inr, ⊎_elim}
use mathlib.Core.List.{List}
use mathlib.Core.Option.{Option, none, some}
use Rattle.std.specs.Prelude.{Option as CodeOption, Some, None}
use Prim.Native.Nat.{ℕ, zero, suc, ◌+◌, ◌-◌, ◌≤◌, ◌<◌, ◌^◌}
use native.Mathlib.Omega.{arith}
use native.Mathlib.Nat.{add-zero}
use lib.ListN.{length, get_or, set, length-set}
use lib.Seq.{get_or-set_same, get_or-set_other}
use lib.Dec.{eqb, ltb, leb}
use lib.Bits.{bit_or, or_lt}
use lib.Pow.{pow_pos, pow-lt}
use borrow.Author.Tests.{ltb-true, ltb-false, ne_eqb, eq-eqb, lt-ltb, le-leb, lt-leb, leb-true, leb-false}
use Rattle.parts.proofs.Laws.{by_test, and_left, and_right}
use Rattle.payloads.specs.declared.request.Request.{Request}
use Rattle.station.specs.declared.visit.Visited.{Visited}
use Rattle.station.specs.declared.visit.Visited.TheVariants.{Sends, Drops, Skips}
use Rattle.station.proofs.Visits.{drops}
use Rattle.peripheral.specs.declared.record.Peripheral.{Peripheral}
use Rattle.peripheral.specs.Record.{blank}
use Rattle.peripheral.specs.Visit.{visit_action, visited_by}
use Rattle.peripheral_set.specs.Marks.{slots}
use Rattle.cycle.specs.declared.seen.Seen.{Seen}
use Rattle.cycle.specs.declared.seen.Sent.{Sent}
use Rattle.cycle.specs.Seen.{bit_at, nothing_seen, seen_by, idle}
use Rattle.master.specs.Turn.{Swept, sweep_from}
use Rattle.master.proofs.Bits.{bit, or_bit, pow-bit_same, pow-bit_below, pow-bit-above, zero_bit}
use Rattle.master.proofs.Sweep.{sweep_skip, sweep_visit, sweep_stopped}
use Rattle.call_log.proofs.Lives.{kind_of}

-- what the visits leave where request k went to slot t; `Some` and `None` are the code's, `some` and `none` those of the log
abbrev pub sent_to : ℕ → Request → CodeOption Sent
sent_to t k = Some (record { slot = t; kind = k })

-- the request that went to slot s
abbrev pub kind_sent : ℕ → CodeOption Sent → Option Request
kind_sent s None = none
kind_sent s (Some x) = cond (eqb s x.slot) (some x.kind) none

-- the visits went at least up to slot s
abbrev pub went_to : ℕ → CodeOption Sent → Bool
went_to s None = true
went_to s (Some x) = leb s x.slot

idle_is : (x : CodeOption Sent) → idle x ≡ true → x ≡ None
idle_is None e = refl
idle_is (Some x) e = absurd (false≢true e)

-- ---- one visit

at_other : (i s : ℕ) → (i < s) ⊎ (s < i) → bit s (bit_at i) ≡ 0
at_other i s d = by_test (ltb i slots) (λ e. rw e (⊎_elim (pow-bit_below i s) (pow-bit-above i s) d)) (λ e. rw e (zero_bit s))

see_other : (v : Visited) (i s : ℕ) (seen : Seen) → (i < s) ⊎ (s < i) → bit s (seen_by i v seen).mask ≡ bit s seen.mask
see_other (Sends k) i s seen d = refl
see_other Drops i s seen d = or_bit seen.mask (bit_at i) s ∙ rw (at_other i s d) (omega arith)
see_other Skips i s seen d = refl

see_here : (v : Visited) (s : ℕ) (seen : Seen) → s < slots → bit s (seen_by s v seen).mask ≡ cond (drops v) 1 (bit s seen.mask)
see_here (Sends k) s seen h = refl
see_here Drops s seen h = or_bit seen.mask (bit_at s) s ∙ rw (lt-ltb s slots h, pow-bit_same s) (omega arith)
see_here Skips s seen h = refl

kind_here : (v : Visited) (s : ℕ) (seen : Seen) → idle seen.sent ≡ true → kind_sent s (seen_by s v seen).sent ≡ kind_of v
kind_here (Sends k) s seen e = rw (eq-eqb s s refl) refl
kind_here Drops s seen e = ap (kind_sent s) (idle_is seen.sent e)
kind_here Skips s seen e = ap (kind_sent s) (idle_is seen.sent e)

went_here : (v : Visited) (s : ℕ) (seen : Seen) → idle seen.sent ≡ true → went_to s (seen_by s v seen).sent ≡ true
went_here (Sends k) s seen e = le-leb s s (omega arith)
went_here Drops s seen e = ap (went_to s) (idle_is seen.sent e)
went_here Skips s seen e = ap (went_to s) (idle_is seen.sent e)

-- a visit to a later slot
kind_later : (v : Visited) (i s : ℕ) (seen : Seen) → s < i → idle seen.sent ≡ true → kind_sent s (seen_by i v seen).sent ≡ kind_sent s seen.sent
kind_later (Sends k) i s seen h e = rw (ne_eqb s i (λ q. omega arith)) (sym (ap (kind_sent s) (idle_is seen.sent e)))
kind_later Drops i s seen h e = refl
kind_later Skips i s seen h e = refl

went_later : (v : Visited) (i s : ℕ) (seen : Seen) → s < i → idle seen.sent ≡ true → went_to s (seen_by i v seen).sent ≡ went_to s seen.sent
went_later (Sends k) i s seen h e = le-leb s i (omega arith) ∙ sym (ap (went_to s) (idle_is seen.sent e))
went_later Drops i s seen h e = refl
went_later Skips i s seen h e = refl

-- ---- the visits after slot s

record Beside (s : ℕ) (seen : Seen) (ps : List Peripheral) (w : Swept) : Type 0 where
  balance : get_or w.balances s blank ≡ get_or ps s blank
  mask : bit s w.seen.mask ≡ bit s seen.mask
  kind : kind_sent s w.seen.sent ≡ kind_sent s seen.sent
  went : went_to s w.seen.sent ≡ went_to s seen.sent

module _ (limit : ℕ) (marks : List Bool) (s : ℕ) where
  one_later : (g : Bool) (i : ℕ) (seen : Seen) (ps : List Peripheral) → s < i → (g ≡ true → idle seen.sent ≡ true)
      → Beside s seen ps (record { seen = cond g (seen_by i (visit_action limit (get_or ps i blank)) seen) seen; balances = cond g (set ps i (visited_by limit (get_or ps i blank))) ps })
  one_later true i seen ps h f =
      record {
        balance = get_or-set_other ps i s (visited_by limit (get_or ps i blank)) blank (λ q. omega arith);
        mask = see_other (visit_action limit (get_or ps i blank)) i s seen (inr h);
        kind = kind_later (visit_action limit (get_or ps i blank)) i s seen h (f refl);
        went = went_later (visit_action limit (get_or ps i blank)) i s seen h (f refl);
      }
  one_later false i seen ps h f = record { balance = refl; mask = refl; kind = refl; went = refl }

  after-slot : (k i : ℕ) (seen : Seen) (ps : List Peripheral) → s < i → Beside s seen ps (sweep_from k limit marks i seen ps)
  unfolding sweep_from
  after-slot zero i seen ps h = record { balance = refl; mask = refl; kind = refl; went = refl }
  after-slot (suc k) i seen ps h =
      let g = get_or marks i false && idle seen.sent in
      let a = one_later g i seen ps h (λ e. and_right (get_or marks i false) (idle seen.sent) e) in
      let b = after-slot k (i + 1) (cond g (seen_by i (visit_action limit (get_or ps i blank)) seen) seen) (cond g (set ps i (visited_by limit (get_or ps i blank))) ps) (omega arith) in
      record { balance = b.balance ∙ a.balance; mask = b.mask ∙ a.mask; kind = b.kind ∙ a.kind; went = b.went ∙ a.went }

-- ---- what the visits of a turn leave of slot s: visited or not, and if so what its own visit did

pub record Sees (limit s : ℕ) (p : Peripheral) (old : ℕ) (w : Swept) : Type 0 where
  pub visited : Bool
  pub balance : get_or w.balances s blank ≡ cond visited (visited_by limit p) p
  pub mask : bit s w.seen.mask ≡ cond (visited && drops (visit_action limit p)) 1 old
  pub kind : kind_sent s w.seen.sent ≡ cond visited (kind_of (visit_action limit p)) none
  pub went : went_to s w.seen.sent ≡ visited

module _ (limit : ℕ) (marks : List Bool) (s : ℕ) (here : s < slots) (marked : get_or marks s false ≡ true) where
  at_slot : (k : ℕ) (seen : Seen) (ps : List Peripheral) → s < length ps → idle seen.sent ≡ true
      → Sees limit s (get_or ps s blank) (bit s seen.mask) (sweep_from (suc k) limit marks s seen ps)
  at_slot k seen ps h e =
      let p = get_or ps s blank in
      let v = visit_action limit p in
      let b = after-slot limit marks s k (s + 1) (seen_by s v seen) (set ps s (visited_by limit p)) (omega arith) in
      subst (Sees limit s p (bit s seen.mask)) (sym (sweep_visit limit marks k s seen ps marked e))
      (record {
        visited = true;
        balance = b.balance ∙ get_or-set_same ps s (visited_by limit p) blank h;
        mask = b.mask ∙ see_here v s seen here;
        kind = b.kind ∙ kind_here v s seen e;
        went = b.went ∙ went_here v s seen e;
      })

  -- where the slot before it sent
  stopped : (k i : ℕ) (seen : Seen) (ps : List Peripheral) (q : Request) (r : Peripheral) → i < s
      → Sees limit s (get_or ps s blank) (bit s seen.mask) (sweep_from k limit marks (i + 1) (seen_by i (Sends q) seen) (set ps i r))
  stopped k i seen ps q r h =
      subst (Sees limit s (get_or ps s blank) (bit s seen.mask)) (sym (sweep_stopped limit marks k (i + 1) (seen_by i (Sends q) seen) (set ps i r) refl))
      (record {
        visited = false;
        balance = get_or-set_other ps i s r blank (λ z. omega arith);
        mask = refl;
        kind = rw (ne_eqb s i (λ z. omega arith)) refl;
        went = lt-leb s i h;
      })

  -- what is known of the visits from slot i on: k of them
  Rest : ℕ → ℕ → Type 0
  Rest k i = (seen : Seen) (ps : List Peripheral) → s < length ps → idle seen.sent ≡ true → Sees limit s (get_or ps s blank) (bit s seen.mask) (sweep_from k limit marks i seen ps)

  module _ (k i : ℕ) (rest : Rest k (i + 1)) (seen : Seen) (ps : List Peripheral) (lt : i < s) (h : s < length ps) (e : idle seen.sent ≡ true) where
    go_on : (seen' : Seen) (r : Peripheral) → bit s seen'.mask ≡ bit s seen.mask → idle seen'.sent ≡ true
        → Sees limit s (get_or ps s blank) (bit s seen.mask) (sweep_from k limit marks (i + 1) seen' (set ps i r))
    unfolding Rest
    go_on seen' r em es =
        subst (λ (o : ℕ). Sees limit s (get_or ps s blank) o (sweep_from k limit marks (i + 1) seen' (set ps i r))) em
        (subst (λ (p : Peripheral). Sees limit s p (bit s seen'.mask) (sweep_from k limit marks (i + 1) seen' (set ps i r))) (get_or-set_other ps i s r blank (λ x. omega arith))
        (rest seen' (set ps i r) (simp length-set h) es))

    one : (v : Visited) (r : Peripheral) → Sees limit s (get_or ps s blank) (bit s seen.mask) (sweep_from k limit marks (i + 1) (seen_by i v seen) (set ps i r))
    one (Sends t) r = stopped k i seen ps t r lt
    one Drops r = go_on (seen_by i Drops seen) r (see_other Drops i s seen (inl lt)) e
    one Skips r = go_on seen r refl e

    one_before : Sees limit s (get_or ps s blank) (bit s seen.mask) (sweep_from (suc k) limit marks i seen ps)
    unfolding Rest
    one_before =
        by_test (get_or marks i false)
        (λ m. subst (Sees limit s (get_or ps s blank) (bit s seen.mask)) (sym (sweep_visit limit marks k i seen ps m e)) (one (visit_action limit (get_or ps i blank)) (visited_by limit (get_or ps i blank))))
        (λ m. subst (Sees limit s (get_or ps s blank) (bit s seen.mask)) (sym (sweep_skip limit marks k i seen ps m)) (rest seen ps h e))

  none_left : (k i : ℕ) → i + 0 ≡ s → Rest (0 + suc k) i
  unfolding Rest
  none_left k i q seen ps h e =
      let z : 0 + suc k ≡ suc k = omega arith in
      let y : i ≡ s = omega arith in
      rw (z, y) (at_slot k seen ps h e)

  some_left : (j k i : ℕ) → i + suc j ≡ s → Rest (j + suc k) (i + 1) → Rest (suc j + suc k) i
  unfolding Rest
  some_left j k i q rest seen ps h e = let z : suc j + suc k ≡ suc (j + suc k) = omega arith in rw z (one_before (j + suc k) i rest seen ps (omega arith) h e)

  moved : (i j : ℕ) → i + suc j ≡ s → (i + 1) + j ≡ s
  moved i j q = omega arith

  before-slot : (j k i : ℕ) → i + j ≡ s → Rest (j + suc k) i
  before-slot zero k i q = none_left k i q
  before-slot (suc j) k i q = some_left j k i q (before-slot j k (i + 1) (moved i j q))

-- ---- all visits of a turn

-- from: where they start; went is of a slot that is not before it
pub record Swung (limit from s : ℕ) (p : Peripheral) (w : Swept) : Type 0 where
  pub visited : Bool
  pub balance : get_or w.balances s blank ≡ cond visited (visited_by limit p) p
  pub mask : bit s w.seen.mask ≡ cond (visited && drops (visit_action limit p)) 1 0
  pub kind : kind_sent s w.seen.sent ≡ cond visited (kind_of (visit_action limit p)) none
  pub went : (leb from s && went_to s w.seen.sent) ≡ visited

pub all_visits : (limit : ℕ) (marks : List Bool) (from s : ℕ) (ps : List Peripheral) → s < slots → s < length ps → get_or marks s false ≡ true
    → Swung limit from s (get_or ps s blank) (sweep_from (slots - from) limit marks from nothing_seen ps)
unfolding Rest
all_visits limit marks from s ps h n m =
    by_test (leb from s)
    (λ l.
    let f : from ≤ s = leb-true from s l in
    let z : slots - from ≡ (s - from) + suc (slots - (s + 1)) = omega arith in
    let b : Sees limit s (get_or ps s blank) 0 (sweep_from (slots - from) limit marks from nothing_seen ps) =
    rw z (subst (λ (o : ℕ). Sees limit s (get_or ps s blank) o (sweep_from ((s - from) + suc (slots - (s + 1))) limit marks from nothing_seen ps)) (zero_bit s) (before-slot limit marks s h m (s - from) (slots - (s + 1)) from (omega arith) nothing_seen ps n refl)) in
    record { visited = b.visited; balance = b.balance; mask = b.mask; kind = b.kind; went = rw l b.went })
    (λ l.
    let f : s < from = leb-false from s l in
    let b = after-slot limit marks s (slots - from) from nothing_seen ps f in
    record { visited = false; balance = b.balance; mask = b.mask ∙ zero_bit s; kind = b.kind; went = rw l refl })

-- ---- the event of a turn: nobody fell, or it has the lowest bit of the mask; i is where the visits go on

pub record Lowest (i : ℕ) (seen : Seen) : Type 0 where
  pub first : ℕ
  pub is : seen.first ≡ Some first
  pub below : first < i
  pub own : bit first seen.mask ≡ 1
  pub lower : (s : ℕ) → s < first → bit s seen.mask ≡ 0

pub record Firsts (i : ℕ) (seen : Seen) : Type 0 where
  pub within : seen.mask < 2 ^ slots
  pub either : ((seen.first ≡ None) × (seen.mask ≡ 0)) ⊎ Lowest i seen

or_kept : (a b k : ℕ) → bit k a ≡ 1 → bit k (bit_or a b) ≡ 1
or_kept a b k e = or_bit a b k ∙ rw e (omega arith)

fell_first : (i : ℕ) (seen : Seen) → i < slots → ((seen.first ≡ None) × (seen.mask ≡ 0)) ⊎ Lowest i seen → Lowest (i + 1) (seen_by i Drops seen)
fell_first i seen h (inl e) =
    record { first = i; is = rw e.0 refl; below = omega arith; own = see_here Drops i seen h; lower = λ s t. see_other Drops i s seen (inr t) ∙ rw e.1 (zero_bit s) }
fell_first i seen h (inr f) =
    record {
      first = f.first;
      is = rw f.is refl;
      below = omega (arith, f.below);
      own = or_kept seen.mask (bit_at i) f.first f.own;
      lower = λ s t. see_other Drops i s seen (inr (omega (arith, f.below))) ∙ f.lower s t;
    }

later : (i : ℕ) (seen : Seen) → Firsts i seen → Firsts (i + 1) seen
later i seen f =
    record {
      within = f.within;
      either = ⊎_elim (λ e. inl e) (λ e. inr (record { first = e.first; is = e.is; below = omega (arith, e.below); own = e.own; lower = e.lower })) f.either;
    }

see_first : (v : Visited) (i : ℕ) (seen : Seen) → i < slots → Firsts i seen → Firsts (i + 1) (seen_by i v seen)
see_first (Sends k) i seen h f = let g = later i seen f in record { within = g.within; either = ⊎_elim (λ e. inl e) (λ e. inr (record { first = e.first; is = e.is; below = e.below; own = e.own; lower = e.lower })) g.either }
see_first Drops i seen h f = record { within = or_lt slots seen.mask (bit_at i) f.within (rw (lt-ltb i slots h) (pow-lt h)); either = inr (fell_first i seen h f.either) }
see_first Skips i seen h f = later i seen f

sweep_first : (limit : ℕ) (marks : List Bool) (k i : ℕ) (seen : Seen) (ps : List Peripheral) → i + k ≤ slots → Firsts i seen → Firsts (i + k) (sweep_from k limit marks i seen ps).seen
unfolding sweep_from
sweep_first limit marks zero i seen ps h f = rw add-zero f
sweep_first limit marks (suc k) i seen ps h f =
    let z : i + suc k ≡ (i + 1) + k = omega arith in
    rw z (sweep_first limit marks k (i + 1) _ _ (omega arith) (step (get_or marks i false && idle seen.sent)))
  where
    step : (g : Bool) → Firsts (i + 1) (cond g (seen_by i (visit_action limit (get_or ps i blank)) seen) seen)
    step true = see_first (visit_action limit (get_or ps i blank)) i seen (omega arith) f
    step false = later i seen f

pub all_first : (limit : ℕ) (marks : List Bool) (from : ℕ) (ps : List Peripheral) → from ≤ slots → Firsts slots (sweep_from (slots - from) limit marks from nothing_seen ps).seen
all_first limit marks from ps h =
    let z : from + (slots - from) ≡ slots = omega arith in
    rw z at (sweep_first limit marks (slots - from) from nothing_seen ps (omega arith) (record { within = pow_pos slots; either = inl (refl, refl) }))

-- ---- an empty slot has no bit

not_same : (i s : ℕ) → (i ≡ s → ⊥) → (i < s) ⊎ (s < i)
not_same i s d = by_test (ltb i s) (λ t. inl (ltb-true i s t)) (λ t. let u = ltb-false i s t in inr (omega (arith, d)))

pub empty-bit : (limit : ℕ) (marks : List Bool) (s k i : ℕ) (seen : Seen) (ps : List Peripheral) → get_or marks s false ≡ false
    → bit s (sweep_from k limit marks i seen ps).seen.mask ≡ bit s seen.mask
unfolding sweep_from
empty-bit limit marks s zero i seen ps e = refl
empty-bit limit marks s (suc k) i seen ps e = empty-bit limit marks s k (i + 1) _ _ e ∙ step (get_or marks i false && idle seen.sent) refl
  where
    step : (g : Bool) → (get_or marks i false && idle seen.sent) ≡ g → bit s (cond g (seen_by i (visit_action limit (get_or ps i blank)) seen) seen).mask ≡ bit s seen.mask
    step true q =
        see_other (visit_action limit (get_or ps i blank)) i s seen
        (not_same i s (λ z. false≢true (sym e ∙ subst (λ (n : ℕ). get_or marks n false ≡ true) z (and_left (get_or marks i false) (idle seen.sent) q))))
    step false q = refl
