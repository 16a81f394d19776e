-- The laws of `part`, `splice` and `put_in` that the proofs here and in the crates above cite.
-- The idea: a splice is three pieces, and a part of it lies in one of them; `put_in` is a splice or nothing, so its laws need no bounds.
use mathlib.Core.Path.{◌≡◌, refl, sym, ap, ◌∙◌, subst}
use mathlib.Core.Logic.{◌⊎◌, inl, inr, ⊎_elim}
use mathlib.Core.Bool.{Bool, true, false, ◌&&◌, false≢true, cond}
use mathlib.Core.List.{List, [], ◌++◌, append_assoc, append-nil}
use Prim.Native.Nat.{ℕ, ◌+◌, ◌-◌, ◌≤◌, ◌<◌}
use native.Mathlib.Nat.{add_assoc}
use native.Mathlib.Omega.{arith}
use lib.ListN.{length, take, drop, length-append, length-take, length-drop, take-append-drop, drop_of_length-le}
use lib.Seq.{length-take-le, take-append-le, drop-append-le, take-append_seam, drop_at, take_at, drop-drop, sets, sets-eq, take_all, take-add}
use lib.Dec.{leb}
use borrow.Author.Tests.{le-leb, lt-leb, leb-true, leb-false}
use denote.Ref.{Bor}
use borrow.Rule.Slice.PartMut.{put_mid}
use Rattle.parts.specs.Parts.{inside, part, View, Itself, SamePart, splice, room_for, put_in, Put}

-- ---- a test that is known, and one that is not

pub by_test {ℓ} : {P : Type ℓ} (b : Bool) → (b ≡ true → P) → (b ≡ false → P) → P
by_test true p q = p refl
by_test false p q = q refl

pub and_left : (a b : Bool) → (a && b) ≡ true → a ≡ true
and_left true b e = refl
and_left false b e = e

pub and_right : (a b : Bool) → (a && b) ≡ true → b ≡ true
and_right true b e = e
and_right false b e = absurd (false≢true e)

pub and_false : (a b : Bool) → b ≡ false → (a && b) ≡ false
and_false true b e = e
and_false false b e = refl

-- ---- a splice: its length, and what stands before, in and behind the new elements

pub length-splice : (at : ℕ) (new old : List ℕ) → at + length new ≤ length old → length (splice at new old) ≡ length old
unfolding splice
length-splice at new old h = simp (length-append, length-take, length-drop) (omega arith)

splice-within : (at : ℕ) (new old : List ℕ) → at ≤ length old → take (length new) (drop at (splice at new old)) ≡ new
unfolding splice
splice-within at new old h =
    ap (take (length new)) (drop_at (take at old) (new ++ drop (at + length new) old) at (length-take-le at old h))
    ∙ take-append_seam new (drop (at + length new) old)

front_window : (a n : ℕ) (p q : List ℕ) → a + n ≤ length p → take n (drop a (p ++ q)) ≡ take n (drop a p)
front_window a n p q h =
    ap (take n) (drop-append-le a p q (omega arith)) ∙ take-append-le n (drop a p) q (simp length-drop (omega arith))

splice-before : (a n at : ℕ) (new old : List ℕ) → a + n ≤ at → at ≤ length old → take n (drop a (splice at new old)) ≡ take n (drop a old)
unfolding splice
splice-before a n at new old h k =
    let l : a + n ≤ length (take at old) = subst (λ (m : ℕ). a + n ≤ m) (sym (length-take-le at old k)) h in
    front_window a n (take at old) (new ++ drop (at + length new) old) l
    ∙ sym (front_window a n (take at old) (drop at old) l)
    ∙ ap (λ (x : List ℕ). take n (drop a x)) (take-append-drop at old)

splice-behind : (a at : ℕ) (new old : List ℕ) → at + length new ≤ a → at ≤ length old → drop a (splice at new old) ≡ drop a old
unfolding splice
splice-behind a at new old h k =
    let e : a ≡ (at + length new) + (a - (at + length new)) = omega arith in
    let seam : drop (at + length new) (take at old ++ (new ++ drop (at + length new) old)) ≡ drop (at + length new) old =
    ap (drop (at + length new)) (sym (append_assoc (take at old) new (drop (at + length new) old)))
    ∙ drop_at (take at old ++ new) (drop (at + length new) old) (at + length new) (length-append (take at old) new ∙ ap (λ (m : ℕ). m + length new) (length-take-le at old k)) in
    ap (λ (m : ℕ). drop m (take at old ++ (new ++ drop (at + length new) old))) e
    ∙ sym (drop-drop (a - (at + length new)) (at + length new) (take at old ++ (new ++ drop (at + length new) old)))
    ∙ ap (drop (a - (at + length new))) seam
    ∙ drop-drop (a - (at + length new)) (at + length new) old
    ∙ ap (λ (m : ℕ). drop m old) (sym e)

splice_beside : (a n at : ℕ) (new old : List ℕ) → (a + n ≤ at) ⊎ (at + length new ≤ a) → at ≤ length old → take n (drop a (splice at new old)) ≡ take n (drop a old)
splice_beside a n at new old d k =
    ⊎_elim (λ h. splice-before a n at new old h k) (λ h. ap (take n) (splice-behind a at new old h k)) d

-- ---- `inside`

pub inside_yes : (at len : ℕ) (l : List ℕ) → at + len ≤ length l → inside at len l ≡ true
unfolding inside
inside_yes at len l h = le-leb _ _ h

pub inside_le : (at len : ℕ) (l : List ℕ) → inside at len l ≡ true → at + len ≤ length l
unfolding inside
inside_le at len l e = leb-true _ _ e

pub inside-leb : (at len : ℕ) (l : List ℕ) → leb (at + len) (length l) ≡ inside at len l
unfolding inside
inside-leb at len l = refl

pub inside-length : (at len : ℕ) (l m : List ℕ) → length l ≡ length m → inside at len l ≡ inside at len m
unfolding inside
inside-length at len l m e = ap (leb (at + len)) e

-- ---- `part`

pub part_in : (at len : ℕ) (l : List ℕ) → inside at len l ≡ true → part at len l ≡ take len (drop at l)
unfolding part
part_in at len l e = rw e

pub part_out : (at len : ℕ) (l : List ℕ) → inside at len l ≡ false → part at len l ≡ []
unfolding part
part_out at len l e = rw e

pub length_part : (at len : ℕ) (l : List ℕ) → length (part at len l) ≡ cond (inside at len l) len 0
length_part at len l =
    by_test (inside at len l)
    (λ e. ap length (part_in at len l e) ∙ length-take-le len (drop at l) (simp length-drop (omega (arith, inside_le at len l e))) ∙ rw e refl)
    (λ e. ap length (part_out at len l e) ∙ rw e refl)

-- two lists that agree where the range lies have the same part
part_by_window : (at len : ℕ) (l m : List ℕ) → length l ≡ length m → take len (drop at l) ≡ take len (drop at m) → part at len l ≡ part at len m
unfolding part
part_by_window at len l m e w = rw (inside-length at len l m e) (ap (λ (x : List ℕ). cond (inside at len m) x []) w)

-- a part `&l[a..e]`, as the borrow checker states it
pub span : (at end len : ℕ) (l : List ℕ) → end ≡ at + len → inside at len l ≡ true → take (end - at) (drop at l) ≡ part at len l
span at end len l q e = let w : end - at ≡ len = omega arith in rw w (sym (part_in at len l e))

-- ---- `Itself`

-- two parts that are one view of one slice are the same part
pub itself_same : {v : View} {src r s : Bor (List ℕ)} → Itself v src r → Itself v src s → SamePart r s
itself_same one two = (one.holds ∙ sym two.holds, (one.block ∙ sym two.block, one.offset ∙ sym two.offset))

-- ---- `room_for`

module _ (at room : ℕ) (new old : List ℕ) where
  pub room_new : room_for at room new old ≡ true → length new ≤ room
  unfolding room_for
  room_new e = leb-true (length new) room (and_left _ (inside at room old) e)

  pub room-inside : room_for at room new old ≡ true → inside at room old ≡ true
  unfolding room_for
  room-inside e = and_right (leb (length new) room) _ e

  pub room_old : room_for at room new old ≡ true → at + room ≤ length old
  room_old e = inside_le at room old (room-inside e)

  pub room_yes : length new ≤ room → inside at room old ≡ true → room_for at room new old ≡ true
  unfolding room_for
  room_yes a b = simp (le-leb _ _ a, b)

  pub room_too_long : room < length new → room_for at room new old ≡ false
  unfolding room_for
  room_too_long a = simp (lt-leb _ _ a)

  pub room_outside : inside at room old ≡ false → room_for at room new old ≡ false
  unfolding room_for
  room_outside b = and_false (leb (length new) room) _ b

-- ---- `put_in`

module _ (at room : ℕ) (new old : List ℕ) where
  pub put_done : room_for at room new old ≡ true → put_in at room new old ≡ splice at new old
  unfolding put_in
  put_done e = rw e

  pub put_kept : room_for at room new old ≡ false → put_in at room new old ≡ old
  unfolding put_in
  put_kept e = rw e

  -- what a function that found no room promises, and one that left a splice
  pub refused : room_for at room new old ≡ false → Put at room new old old false
  refused e = record { answer = sym e; bytes = sym (put_kept e) }

  pub stored : (out : List ℕ) → length new ≤ room → inside at room old ≡ true → out ≡ splice at new old → Put at room new old out true
  stored out a b q = let e = room_yes at room new old a b in record { answer = sym e; bytes = q ∙ sym (put_done e) }

  -- what the library leaves that wrote new over the part of k elements from at on
  pub written : (k : ℕ) (out : List ℕ) → k ≡ length new → out ≡ new → length new ≤ room → inside at room old ≡ true → Put at room new old (put_mid at k old out) true
  unfolding splice
  written k out n q a b = stored (put_mid at k old out) a b (rw (n, q) (ap (λ (x : List ℕ). take at old ++ (new ++ x)) (drop-drop (length new) at old)))

  pub length-put : length (put_in at room new old) ≡ length old
  length-put =
      by_test (room_for at room new old)
      (λ e. ap length (put_done e) ∙ length-splice at new old (omega (arith, room_new at room new old e, room_old at room new old e)))
      (λ e. ap length (put_kept e))

  pub inside-put : (a n : ℕ) → inside a n (put_in at room new old) ≡ inside a n old
  inside-put a n = inside-length a n (put_in at room new old) old length-put

  -- the part just written
  pub part-put : part at (length new) (put_in at room new old) ≡ cond (room_for at room new old) new (part at (length new) old)
  part-put =
      by_test (room_for at room new old)
      (λ e.
      part_in at (length new) (put_in at room new old) (inside_yes at (length new) (put_in at room new old) (omega (arith, length-put, room_new at room new old e, room_old at room new old e)))
      ∙ ap (λ (x : List ℕ). take (length new) (drop at x)) (put_done e)
      ∙ splice-within at new old (omega (arith, room_old at room new old e))
      ∙ rw e refl)
      (λ e. ap (part at (length new)) (put_kept e) ∙ rw e refl)

  -- any part beside the range
  pub part-put_other : (a n : ℕ) → (a + n ≤ at) ⊎ (at + room ≤ a) → part a n (put_in at room new old) ≡ part a n old
  part-put_other a n d =
      by_test (room_for at room new old)
      (λ e.
      part_by_window a n (put_in at room new old) old length-put
      (ap (λ (x : List ℕ). take n (drop a x)) (put_done e)
      ∙ splice_beside a n at new old (⊎_elim (λ h. inl h) (λ h. inr (omega (arith, room_new at room new old e))) d) (omega (arith, room_old at room new old e))))
      (λ e. ap (part a n) (put_kept e))

-- ---- what a callee put into a lent tail `&mut old[a..]`, said of the whole; left is that tail when it comes back

tail_room : (a at room : ℕ) (new old : List ℕ) → a ≤ length old → room_for at room new (drop a old) ≡ room_for (a + at) room new old
unfolding room_for inside
tail_room a at room new old h =
    by_test (leb ((a + at) + room) (length old))
    (λ e. ap (λ (b : Bool). leb (length new) room && b) (le-leb (at + room) (length (drop a old)) (simp length-drop (omega (arith, leb-true ((a + at) + room) (length old) e))) ∙ sym e))
    (λ e. ap (λ (b : Bool). leb (length new) room && b) (lt-leb (at + room) (length (drop a old)) (simp length-drop (omega (arith, leb-false ((a + at) + room) (length old) e))) ∙ sym e))

tail_splice : (a at : ℕ) (new old : List ℕ) → take a old ++ splice at new (drop a old) ≡ splice (a + at) new old
unfolding splice
tail_splice a at new old =
    sym (append_assoc (take a old) (take at (drop a old)) (new ++ drop (at + length new) (drop a old)))
    ∙ ap (λ (x : List ℕ). x ++ (new ++ drop (at + length new) (drop a old))) (sym (take-add a at old))
    ∙ ap (λ (x : List ℕ). take (a + at) old ++ (new ++ x)) (drop-drop (at + length new) a old ∙ ap (λ (k : ℕ). drop k old) (sym (add_assoc a at (length new))))

tail_put : (a at room : ℕ) (new old : List ℕ) → a ≤ length old → take a old ++ put_in at room new (drop a old) ≡ put_in (a + at) room new old
tail_put a at room new old h =
    let same = tail_room a at room new old h in
    by_test (room_for (a + at) room new old)
    (λ e. ap (λ (x : List ℕ). take a old ++ x) (put_done at room new (drop a old) (same ∙ e)) ∙ tail_splice a at new old ∙ sym (put_done (a + at) room new old e))
    (λ e. ap (λ (x : List ℕ). take a old ++ x) (put_kept at room new (drop a old) (same ∙ e)) ∙ take-append-drop a old ∙ sym (put_kept (a + at) room new old e))

-- the tail `&l[a..]`, as the borrow checker states it
pub rest : (a : ℕ) (l : List ℕ) → take (length l - a) (drop a l) ≡ drop a l
rest a l = take_all (length l - a) (drop a l) (simp length-drop (omega arith))

pub lent_put : (a at room : ℕ) (new old left : List ℕ) → a ≤ length old → left ≡ put_in at room new (take (length old - a) (drop a old))
    → take a old ++ (left ++ drop (length old - a) (drop a old)) ≡ put_in (a + at) room new old
lent_put a at room new old left h e =
    let none : drop (length old - a) (drop a old) ≡ [] = drop_of_length-le (drop a old) {i = length old - a} (simp length-drop (omega arith)) in
    ap (λ (x : List ℕ). take a old ++ (left ++ x)) none
    ∙ ap (λ (x : List ℕ). take a old ++ x) (append-nil left ∙ e ∙ ap (put_in at room new) (rest a old))
    ∙ tail_put a at room new old h

-- ---- what fills its room, nothing at all, a run of single stores, and a put right behind another

pub room-own : (at : ℕ) (new old : List ℕ) → room_for at (length new) new old ≡ inside at (length new) old
unfolding room_for
room-own at new old = rw (le-leb (length new) (length new) (omega arith))

pub put_nothing : (at : ℕ) (old : List ℕ) → put_in at 0 [] old ≡ old
unfolding splice
put_nothing at old =
    by_test (room_for at 0 [] old)
    (λ e. put_done at 0 [] old e ∙ (let w : at + 0 ≡ at = omega arith in rw w (take-append-drop at old)))
    (λ e. put_kept at 0 [] old e)

pub put_sets : (at : ℕ) (new old : List ℕ) → at + length new ≤ length old → sets old at new ≡ put_in at (length new) new old
unfolding splice
put_sets at new old h =
    sets-eq new old at h
    ∙ append_assoc (take at old) new (drop (at + length new) old)
    ∙ sym (put_done at (length new) new old (room_yes at (length new) new old (omega arith) (inside_yes at (length new) old h)))

splice-append : (at : ℕ) (a b old : List ℕ) → at + length a ≤ length old → splice (at + length a) b (splice at a old) ≡ splice at (a ++ b) old
unfolding splice
splice-append at a b old h =
    let p : List ℕ = take at old in
    let len : length (p ++ a) ≡ at + length a = length-append p a ∙ ap (λ (k : ℕ). k + length a) (length-take-le at old (omega arith)) in
    let front : take (at + length a) (p ++ (a ++ drop (at + length a) old)) ≡ p ++ a =
    ap (take (at + length a)) (sym (append_assoc p a (drop (at + length a) old))) ∙ take_at (p ++ a) (drop (at + length a) old) (at + length a) len in
    let back : drop ((at + length a) + length b) (p ++ (a ++ drop (at + length a) old)) ≡ drop (at + length (a ++ b)) old =
    splice-behind ((at + length a) + length b) at a old (omega arith) (omega arith)
    ∙ ap (λ (k : ℕ). drop k old) (add_assoc at (length a) (length b) ∙ ap (λ (k : ℕ). at + k) (sym (length-append a b))) in
    ap (λ (x : List ℕ). x ++ (b ++ drop ((at + length a) + length b) (p ++ (a ++ drop (at + length a) old)))) front
    ∙ ap (λ (x : List ℕ). (p ++ a) ++ (b ++ x)) back
    ∙ append_assoc p a (b ++ drop (at + length (a ++ b)) old)
    ∙ ap (λ (x : List ℕ). p ++ x) (sym (append_assoc a b (drop (at + length (a ++ b)) old)))

pub put-append : (at : ℕ) (a b old : List ℕ) → at + length (a ++ b) ≤ length old
    → put_in (at + length a) (length b) b (put_in at (length a) a old) ≡ put_in at (length (a ++ b)) (a ++ b) old
put-append at a b old h =
    let n : length (a ++ b) ≡ length a + length b = length-append a b in
    let first : put_in at (length a) a old ≡ splice at a old = put_done at (length a) a old (room-own at a old ∙ inside_yes at (length a) old (omega arith)) in
    let size : length (splice at a old) ≡ length old = length-splice at a old (omega arith) in
    ap (put_in (at + length a) (length b) b) first
    ∙ put_done (at + length a) (length b) b (splice at a old) (room-own (at + length a) b (splice at a old) ∙ inside_yes (at + length a) (length b) (splice at a old) (omega arith))
    ∙ splice-append at a b old (omega arith)
    ∙ sym (put_done at (length (a ++ b)) (a ++ b) old (room-own at (a ++ b) old ∙ inside_yes at (length (a ++ b)) old h))
