-- `clear_at` meets its contract: a range outside is refused, and the library's fill of the part leaves the splice of zeros.
use mathlib.Core.Path.{◌≡◌, sym, ap, ◌∙◌}
use Prim.Native.Nat.{◌+◌, ◌-◌}
use native.Mathlib.Omega.{arith}
use lib.ListN.{length, take, drop, length-replicate, length-take, length-drop}
use Rattle.parts.specs.Parts.{zeros}
use Rattle.parts.proofs.Laws.{refused, written, room_outside, inside_le, inside-leb}
use Rattle.parts.proofs.clear_at.Goals as goal

pub returns-then-not-inside : goal.returns-then-not-inside
returns-then-not-inside c = let a = c.args in
    refused a.at a.len (zeros a.len) a.dst.now
    (room_outside a.at a.len (zeros a.len) a.dst.now (sym (inside-leb a.at a.len a.dst.now) ∙ sym c.inside.ensures ∙ c.if-not-inside.true))

pub returns : goal.returns
returns c = let a = c.args in
    let yes = sym (inside-leb a.at a.len a.dst.now) ∙ sym c.inside.ensures ∙ c.if-not-inside.false in
    let part : length (take (a.at + a.len - a.at) (drop a.at a.dst.now)) ≡ a.len = simp (length-take, length-drop) (omega (arith, inside_le a.at a.len a.dst.now yes)) in
    written a.at a.len (zeros a.len) a.dst.now _ _ (simp length-replicate (omega arith)) (c.fill.ensures.after (λ y e. e) ∙ ap zeros part) (simp length-replicate (omega arith)) yes
