-- `copy_at` meets its contract: what does not fit is refused, and the library's copy into the part leaves the splice.
use mathlib.Core.Path.{sym, ◌∙◌}
use native.Mathlib.Omega.{arith}
use Rattle.std.proofs.Common.{rules}
use Rattle.parts.proofs.Laws.{refused, written, room_too_long, room_outside, inside-leb}
use Rattle.parts.proofs.copy_at.Goals as goal
use Rattle.parts.proofs.copy_at.Goals.{then-room-src-via-then-room-src, then-room-src-via-else-room-src+then-not-inside}

pub returns-then-room-src : goal.returns-then-room-src
returns-then-room-src c = let a = c.args in
    elim c.then-room-src.branch [
      | then-room-src-via-then-room-src w ↦ refused a.at a.room a.src.now a.dst.now (room_too_long a.at a.room a.src.now a.dst.now w.if-room-src.true)
      | then-room-src-via-else-room-src+then-not-inside w ↦
          refused a.at a.room a.src.now a.dst.now
          (room_outside a.at a.room a.src.now a.dst.now (sym (inside-leb a.at a.room a.dst.now) ∙ sym w.inside.ensures ∙ w.if-not-inside.true))
    ]

pub returns : goal.returns
returns c = let a = c.args in
    written a.at a.room a.src.now a.dst.now _ _ (omega arith) (search rules) c.if-room-src.false
    (sym (inside-leb a.at a.room a.dst.now) ∙ sym c.inside.ensures ∙ c.if-not-inside.false)
