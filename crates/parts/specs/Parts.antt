-- The words for lent bytes: a part of a list, that part itself in a lent slice, and a list with something put into a range of it.
-- From 01, "The unit and its sizes" (ranges in pools), "Refusal numbers" (which bytes are kept) and the new form of `ManagedSlice` ("the caller gets the part itself").
-- Every word is total: a range that does not lie in the list reads as empty, and nothing is put there.
use Rattle.std.specs.Prelude.{◌≡◌, ℕ, ◌+◌, Bool, ◌&&◌, cond, List, [], ◌++◌, length, take, drop, replicate, leb}
use Rattle.std.specs.Borrow.{Bor}

-- the range of len elements from index at lies in l
unfoldable pub inside : ℕ → ℕ → List ℕ → Bool
inside at len l = leb (at + len) (length l)

-- the elements of that range; none where it does not lie in l
unfoldable pub part : ℕ → ℕ → List ℕ → List ℕ
part at len l = cond (inside at len l) (take len (drop at l)) []

-- a part with its place: where it starts in its list, and its elements
pub record View : Type 0 where
  pub start : ℕ
  pub bytes : List ℕ

-- the view of that range; at the front, and empty, where it does not lie in l
abbrev pub view_at : ℕ → ℕ → List ℕ → View
view_at at len l = record { start = cond (inside at len l) at 0; bytes = part at len l }

-- r is that view of the lent slice src itself, and no copy or other part with the same bytes: it lies in src's block, so far behind its start
pub record Itself (v : View) (src r : Bor (List ℕ)) : Type 0 where
  pub holds : r.now ≡ v.bytes
  pub block : r.ref_ptr.0 ≡ src.ref_ptr.0
  pub offset : r.ref_ptr.1 ≡ src.ref_ptr.1 + v.start

-- two parts are the same part: they hold the same bytes, and lie in the same place
abbrev pub SamePart : Bor (List ℕ) → Bor (List ℕ) → Type 0
SamePart r s = (r.now ≡ s.now) × ((r.ref_ptr.0 ≡ s.ref_ptr.0) × (r.ref_ptr.1 ≡ s.ref_ptr.1))

-- old, with the elements from index at on replaced by those of new
unfoldable pub splice : ℕ → List ℕ → List ℕ → List ℕ
splice at new old = take at old ++ (new ++ drop (at + length new) old)

-- new fits the range of room elements from index at, and the range lies in old
unfoldable pub room_for : ℕ → ℕ → List ℕ → List ℕ → Bool
room_for at room new old = leb (length new) room && inside at room old

-- old with new at the start of that range where it fits; else old as it is
unfoldable pub put_in : ℕ → ℕ → List ℕ → List ℕ → List ℕ
put_in at room new old = cond (room_for at room new old) (splice at new old) old

-- so many zero bytes
abbrev pub zeros : ℕ → List ℕ
zeros n = replicate n 0

-- what a function that puts new into a range of old promises: its answer says whether it fitted, and out is what stands there then
pub record Put (at room : ℕ) (new old out : List ℕ) (fitted : Bool) : Type 0 where
  pub answer : fitted ≡ room_for at room new old
  pub bytes : out ≡ put_in at room new old
