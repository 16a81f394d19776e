-- `judge` meets its contract: refused or not, and where it is not, by what the balance promises.
use mathlib.Core.Path.{refl, sym, ◌∙◌}
use borrow.Author.Tests.{eq-eqb, ne_eqb}
use Rattle.refusals.proofs.Laws.{done_is}
use Rattle.peripheral_set.proofs.Laws.{none_told}
use Rattle.cycle.proofs.Laws.{reply-told, answered_at}
use Rattle.answers.specs.ReplyAnswer.{judged_of, next_of}
use Rattle.answers.proofs.reply_answer.judge.Goals as goal

pub returns-in-Err : goal.returns-in-Err
unfolding judged_of
returns-in-Err c =
    let e = rw c.address.ensures at c.reply_refusal-refusal.ensures in
    let t = reply-told _ _ _ _ _ _ _ _ (sym e ∙ c.in-Err.is) in
    rw (ne_eqb _ _ t.1, c.refused.ensures, c.from.ensures, t.0) refl

pub returns : goal.returns
unfolding judged_of
returns c = let a = c.args in
    let asked = c.address.ensures in
    let e = rw asked at c.reply_refusal-refusal.ensures in
    let n = rw c.index.ensures.0 at c.next_after-next.ensures in
    let none = none_told (next_of a.marks.now a.s) _ (rw n at c.is_none.ensures) in
    let after = rw n at c.answered.ensures in
    rw (eq-eqb _ _ (done_is _ (sym e ∙ c.in_default.is)), after, answered_at (next_of a.marks.now a.s) a.s, none, c.event_handle.ensures, c.receive_reply-r.ensures, c.from-2.ensures, c.address-2.ensures) refl
