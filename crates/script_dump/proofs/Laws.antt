-- The slots of a dump: one more behind the first ones.
use mathlib.Core.Path.{◌≡◌, sym}
use mathlib.Core.Bool.{Bool, false}
use mathlib.Core.List.{List, ◌++◌, append_assoc, append-nil}
use Prim.Native.Nat.{ℕ, zero, suc, ◌+◌}
use native.Mathlib.Numerals.{add-one}
use native.Mathlib.Omega.{arith}
use lib.ListN.{get_or}
use Rattle.peripheral.specs.declared.record.Peripheral.{Peripheral}
use Rattle.peripheral.specs.Record.{blank}
use Rattle.script_dump.specs.Dump.{slot_if, slots_from}

-- the slot at i, where it is occupied
abbrev pub here : List Bool → List Peripheral → ℕ → List ℕ
here marks all i = slot_if (get_or marks i false) i (get_or all i blank)

slots_behind : (k : ℕ) (marks : List Bool) (all : List Peripheral) (i : ℕ) → slots_from (suc k) marks all i ≡ slots_from k marks all i ++ here marks all (i + k)
unfolding slots_from
slots_behind zero marks all i = let z : i + 0 ≡ i = omega arith in rw (z, append-nil)
slots_behind (suc k) marks all i =
    let e : i + 1 + k ≡ i + suc k = omega arith in
    rw (slots_behind k marks all (i + 1), e) (sym (append_assoc (here marks all i) (slots_from k marks all (i + 1)) (here marks all (i + suc k))))

pub slots_more : (k : ℕ) (marks : List Bool) (all : List Peripheral) → slots_from (k + 1) marks all 0 ≡ slots_from k marks all 0 ++ here marks all k
slots_more k marks all =
    let e : 0 + k ≡ k = omega arith in
    rw add-one (rw e at (slots_behind k marks all 0))
