-- `add` meets its contract: refused before its ranges have a place, refused by them, or done.
-- The idea: what was asked for is what the definitions read, and the new balance is the definitions' own.
use mathlib.Core.Path.{refl, sym, ◌∙◌}
use native.Mathlib.Omega.{arith}
use borrow.Author.Rules.{rules}
use Rattle.refusals.proofs.Laws.{passed_up, done_is, told}
use Rattle.cycle.proofs.Laws.{add-slot, add_lengths, add-told}
use Rattle.master.specs.Add.{lengths_of, newcomer, room_rows, room_refusal}
use Rattle.master.proofs.Adds.{add_refused, room_refused, add-accepted}
use Rattle.master.proofs.unit.DpMaster.add.Goals as goal

pub returns-in_err-add_refusal : goal.returns-in_err-add_refusal
returns-in_err-add_refusal c = let a = c.args in
    let e = rw (c.present-user_data.ensures, c.present-config_data.ensures, c.taken_elsewhere-elsewhere.ensures, c.first_empty-slot.ensures) at c.add_refusal.ensures in
    rw (passed_up _ _ c.from_residual.ensures.1) (add_refused a.self.now a.a _ _ _ _ _ (add-told _ _ _ _ _ _ (sym e ∙ c.in_err-add_refusal.was)))

pub options_held-requires : goal.options_held-requires
options_held-requires c = add_lengths _ _ _ _ _ _ (done_is _ (sym c.add_refusal.ensures ∙ c.in_ok-add_refusal.was))

pub ranges_at-requires : goal.ranges_at-requires
ranges_at-requires c = add_lengths _ _ _ _ _ _ (done_is _ (sym c.add_refusal.ensures ∙ c.in_ok-add_refusal.was))

pub returns-in_err-room_refusal : goal.returns-in_err-room_refusal
unfolding room_refusal
returns-in_err-room_refusal c = let a = c.args in
    let m = a.self.now in
    let e = rw (c.present-user_data.ensures, c.present-config_data.ensures, c.taken_elsewhere-elsewhere.ensures, c.first_empty-slot.ensures) at c.add_refusal.ensures in
    let k = rw (c.new-p.ensures, c.ranges_at.ensures, c.options_held.ensures, c.present-user_data.ensures, c.present-config_data.ensures) at c.room_refusal.ensures in
    rw (passed_up _ _ c.from_residual-in_err-room_refusal.ensures.1)
    (room_refused m a.a _ _ _ _ (done_is _ (sym e ∙ c.in_ok-add_refusal.was)) _ (told (room_rows m.parameters (newcomer m a.a (lengths_of a.a a.user.now a.config.now))) refl (sym k ∙ c.in_err-room_refusal.was)))

pub bounds-self-slot : goal.bounds-self-slot
bounds-self-slot c = add-slot _ _ _ _ _ _ (done_is _ (sym c.add_refusal.ensures ∙ c.in_ok-add_refusal.was))

pub bounds-self-slot-2 : goal.bounds-self-slot-2
bounds-self-slot-2 c = add-slot _ _ _ _ _ _ (done_is _ (sym c.add_refusal.ensures ∙ c.in_ok-add_refusal.was))

pub offset_bounds-self-slot : goal.offset_bounds-self-slot
offset_bounds-self-slot c = let h = add-slot _ _ _ _ _ _ (done_is _ (sym c.add_refusal.ensures ∙ c.in_ok-add_refusal.was)) in search rules

pub overflow_cast-result : goal.overflow_cast-result
overflow_cast-result c = let h = add-slot _ _ _ _ _ _ (done_is _ (sym c.add_refusal.ensures ∙ c.in_ok-add_refusal.was)) in omega arith

pub used_after-self-requires : goal.used_after-self-requires
used_after-self-requires c = done_is _ (sym c.room_refusal.ensures ∙ c.in_ok-room_refusal.was)

pub returns : goal.returns
returns c = let a = c.args in
    let e = rw (c.present-user_data.ensures, c.present-config_data.ensures, c.taken_elsewhere-elsewhere.ensures, c.first_empty-slot.ensures) at c.add_refusal.ensures in
    let k = rw (c.new-p.ensures, c.ranges_at.ensures, c.options_held.ensures, c.present-user_data.ensures, c.present-config_data.ensures) at c.room_refusal.ensures in
    add-accepted a.self.now a.a _ _ _ _ (done_is _ (sym e ∙ c.in_ok-add_refusal.was)) _ _ _ _ _ (done_is _ (sym k ∙ c.in_ok-room_refusal.was))
    (rw (c.used_after-self.ensures, c.new-p.ensures, c.ranges_at.ensures, c.options_held.ensures, c.present-user_data.ensures, c.present-config_data.ensures, c.first_empty-slot.ensures) refl)
    (rw (c.new-p.ensures, c.ranges_at.ensures, c.present-user_data.ensures, c.present-config_data.ensures) at c.store_setup.ensures)
    (rw (c.new-p.ensures, c.ranges_at.ensures) at c.clear.ensures)
    (rw (c.new-p.ensures, c.ranges_at.ensures) at c.clear-2.ensures)
    (rw (c.new-p.ensures, c.ranges_at.ensures) at c.clear-3.ensures)
