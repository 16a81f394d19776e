-- `room_refusal` meets its contract: its rows in turn.
use mathlib.Core.Path.{refl, ◌∙◌}
use Rattle.refusals.proofs.Laws.{in-order}
use Rattle.master.specs.Add.{room_rows, room_refusal}
use Rattle.master.proofs.add.room_refusal.Goals as goal

pub returns : goal.returns
unfolding room_refusal
returns c = let a = c.args in
    (rw (c.and-2.ensures, c.and.ensures, c.room.ensures, c.room-2.ensures, c.room-3.ensures, c.room-4.ensures, c.setup_len.ensures, c.from.ensures, c.from-2.ensures, c.from-3.ensures) at c.and-3.ensures)
    ∙ in-order (room_rows a.u a.p) refl
