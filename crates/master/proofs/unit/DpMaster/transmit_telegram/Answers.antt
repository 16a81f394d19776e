-- `transmit_telegram` meets its contract: refused, or the visits and what is put together of them.
use mathlib.Core.Path.{◌≡◌, refl, sym, ap, ◌∙◌}
use Rattle.refusals.proofs.Laws.{done_is}
use Rattle.cycle.proofs.Laws.{turn-told}
use Rattle.answers.specs.Turn.{refused_turn}
use Rattle.master.specs.Unit.{state_is}
use Rattle.master.specs.Turn.{swept_by}
use Rattle.master.proofs.Sweep.{going_begins, going_all, going_falls, going_on, going_ends, at_hand}
use Rattle.master.proofs.Turns.{turn_refused, turn-accepted}
use Rattle.master.proofs.unit.DpMaster.transmit_telegram.Goals as goal

pub returns-in-Err : goal.returns-in-Err
returns-in-Err c = let a = c.args in
    let m = a.self.now in
    let t = turn-told _ _ _ _ _ _ (sym c.turn_refusal-refusal.ensures ∙ c.in-Err.is) in
    turn_refused _ _ _ m a.time a.setup.now a.outputs.now a.buf.now _ t.1 refl (c.refused.ensures ∙ ap refused_turn (c.from.ensures ∙ t.0))

pub loop-next-init : goal.loop-next-init
loop-next-init c = let m = c.args.self.now in
    going_begins m.parameters.max_retry_limit m.occupied m c.new-seen.result c.start.result c.at_or_after-next.result c.at_or_after-next.ensures (rw c.new-seen.ensures refl)

pub loop-next-smaller : goal.loop-next-smaller
loop-next-smaller c = let m = c.args.self.now in
    let l = c.loop-next in
    rw c.in-Some.is (going_falls m.parameters.max_retry_limit m.occupied c.seen_after-seen.result.sent c.in-Some.i c.next-next.result (rw c.in-Some.is at l.invariant.proper) c.next-next.ensures)

pub loop-next-preserved : goal.loop-next-preserved
loop-next-preserved c = let m = c.args.self.now in
    let l = c.loop-next in
    going_on m.parameters.max_retry_limit m.occupied _ m l.self l.seen c.seen_after-seen.result c.in-Some.i c.next-next.result c.visit-v.result
    (rw c.in-Some.is at l.invariant) c.visit-v.ensures c.seen_after-seen.ensures c.next-next.ensures

pub bounds-self-i : goal.bounds-self-i
bounds-self-i c = let l = c.loop-next in at_hand c.args.self.now.parameters.max_retry_limit c.args.self.now.occupied c.in-Some.i (rw c.in-Some.is at l.invariant.proper)

pub returns : goal.returns
unfolding swept_by
returns c = let a = c.args in
    let m = a.self.now in
    let l = c.loop-next in
    let e = c.step-step.ensures in
    let w : swept_by c.step-step.result m ≡ record { seen = l.seen; balances = l.self.peripherals } =
    rw (← c.start.ensures, ← c.new-seen.ensures) (going_all m.parameters.max_retry_limit m.occupied c.new-seen.result m.peripherals c.start.result c.at_or_after-next.result c.at_or_after-next.ensures)
    ∙ going_ends m.parameters.max_retry_limit m.occupied _ m l.self l.seen (rw c.in_default-next.is at l.invariant) in
    rw (← e) (turn-accepted _ c.step-step.result _ m a.time a.setup.now a.outputs.now a.buf.now l.seen l.self.peripherals c.fill-filled.result _ _ (done_is _ (sym c.turn_refusal-refusal.ensures ∙ c.in_default.is)) w
    (ap (state_is c.after_turn-self.result) l.invariant.sweeping.rest ∙ rw c.after_turn-self.ensures refl)
    (rw (c.sent_index.ensures.0, c.is_clear.ensures) at c.fill-filled.ensures)
    (c.of.ensures ∙ rw (c.address.ensures, c.first_index.ensures.0) refl))
