-- A handle that is refused or not, where a view lies, and an output write.
-- The idea: the handle's number is 0 exactly where its slot is occupied, and a view's length is its range's where that lies in the pool.
use mathlib.Core.Path.{◌≡◌, refl, sym, ◌∙◌}
use mathlib.Core.Bool.{Bool, true, false, not, cond}
use mathlib.Core.List.{List, [], ◌∷◌}
use Prim.Native.Nat.{ℕ, ◌+◌}
use native.Mathlib.Omega.{arith}
use lib.ListN.{length}
use lib.Dec.{leb, eqb}
use borrow.Author.Tests.{ne_eqb}
use denote.Ref.{Bor}
use Rattle.std.specs.Prelude.{Ok, Err}
use Rattle.parts.specs.Parts.{inside, View, view_at, Itself, put_in}
use Rattle.parts.proofs.Laws.{length_part, inside-leb}
use Rattle.refusals.specs.declared.Refusal.{Refusal}
use Rattle.refusals.specs.Table.{lent_row, write_row, said, or_else, outcome, given}
use Rattle.refusals.proofs.Laws.{passed, both}
use Rattle.peripheral_set.specs.declared.PeripheralHandle.{PeripheralHandle}
use Rattle.peripheral_set.specs.Marks.{is_occupied, handle_refusal}
use Rattle.master.specs.declared.unit.DpMaster.{DpMaster}
use Rattle.master.specs.Unit.{balance_at}
use Rattle.access.specs.declared.images.ImageRange.{ImageRange}
use Rattle.access.specs.Lookup.{found_in, pooled_rows, pooled_refusal, output_number, view_of, range_of, write_refusal, OutputsWritten}

occupied_by : (b : Bool) → ◌≡◌ {A = ℕ} (cond (not b) 4 0) 0 → b ≡ true
occupied_by true e = refl
occupied_by false e = absurd (omega arith)

-- a view by its number
module _ (n : ℕ) (v : View) (src r : Bor (List ℕ)) where
  pub unseen : (n ≡ 0 → ⊥) → Itself (record { start = 0; bytes = [] }) src r → Itself (view_of n v) src r
  unseen z i = rw (ne_eqb n 0 z) i

  pub seen : n ≡ 0 → Itself v src r → Itself (view_of n v) src r
  seen z i = rw z i

-- where a view lies that is not refused: at its range, or at the front
module _ (at len : ℕ) (l : List ℕ) (r : Bool) (e : r ≡ leb (at + len) (length l)) where
  lies : inside at len l ≡ r
  lies = sym (inside-leb at len l) ∙ sym e

  pub range_in : r ≡ true → ◌≡◌ {A = ImageRange} (record { start = at; len = len }) (record { start = (view_at at len l).start; len = length (view_at at len l).bytes })
  range_in t = rw (length_part at len l, lies ∙ t) refl

  pub range_out : r ≡ false → ◌≡◌ {A = ImageRange} (record { start = 0; len = 0 }) (record { start = (view_at at len l).start; len = length (view_at at len l).bytes })
  range_out t = rw (length_part at len l, lies ∙ t) refl

pub range_given : (n : ℕ) (v : View) (x : ImageRange) → n ≡ 0 → x ≡ record { start = v.start; len = length v.bytes } → Ok x ≡ range_of n (view_of n v)
unfolding given
range_given n v x z e = rw (z, e) refl

-- the record of a handle that is not refused
pub found : (m : DpMaster) (h : PeripheralHandle) → handle_refusal h m.occupied ≡ 0 → balance_at m.peripherals h.slot ≡ found_in m h
unfolding found_in
found m h z = rw (occupied_by (is_occupied m.occupied h.slot) z) refl

-- a lent pool that is as long as it should be leaves the number to the handle
pub pool_right : (lent pool : ℕ) (h : PeripheralHandle) (marks : List Bool) → said (lent_row lent pool) ≡ 0 → pooled_refusal lent pool h marks ≡ handle_refusal h marks
pool_right lent pool h marks z = rw (passed (lent_row lent pool ∷ []) refl z 0) refl

-- and one that is not is the answer
pub pool_wrong : (lent pool : ℕ) (h : PeripheralHandle) (marks : List Bool) {e : Refusal} → outcome (said (lent_row lent pool)) ≡ Err e → outcome (pooled_refusal lent pool h marks) ≡ Err e
unfolding given
pool_wrong lent pool h marks {e} p = by (not (eqb lent pool)) p
  where
    by : (b : Bool) → outcome (cond b 2 0) ≡ Err e → outcome (cond b 2 (handle_refusal h marks)) ≡ Err e
    by true p = p
    by false p = cc p

module _ (m : DpMaster) (h : PeripheralHandle) (bytes outputs : List ℕ) where
  -- the pool and the handle, and then the length
  in_two : write_refusal m h bytes outputs ≡ or_else (output_number m h outputs) (said (write_row (length bytes) (found_in m h).ranges.output_len))
  unfolding write_refusal
  in_two = both (pooled_rows (length outputs) m.parameters.output_pool h m.occupied) (write_row (length bytes) (found_in m h).ranges.output_len ∷ []) refl

  pub write_refused : (n : ℕ) → n ≡ output_number m h outputs → (n ≡ 0 → ⊥) → OutputsWritten m h bytes outputs outputs n
  unfolding or_else
  write_refused n en z =
      let e : write_refusal m h bytes outputs ≡ n = in_two ∙ rw (← en, ne_eqb n 0 z) refl in
      record { answer = sym e; pool = rw (e, ne_eqb n 0 z) refl }

  module _ (z : output_number m h outputs ≡ 0) where
    length-says : write_refusal m h bytes outputs ≡ said (write_row (length bytes) (found_in m h).ranges.output_len)
    unfolding or_else
    length-says = in_two ∙ rw z refl

    pub write_other : (k : ℕ) → k ≡ said (write_row (length bytes) (found_in m h).ranges.output_len) → (k ≡ 0 → ⊥) → OutputsWritten m h bytes outputs outputs k
    write_other k ek d = record { answer = ek ∙ sym length-says; pool = rw (length-says, ← ek, ne_eqb k 0 d) refl }

    pub write_done : (out : List ℕ) → said (write_row (length bytes) (found_in m h).ranges.output_len) ≡ 0
        → out ≡ put_in (found_in m h).ranges.outputs (found_in m h).ranges.output_len bytes outputs → OutputsWritten m h bytes outputs out 0
    write_done out q eo = let e : write_refusal m h bytes outputs ≡ 0 = length-says ∙ q in record { answer = sym e; pool = rw e eo }
