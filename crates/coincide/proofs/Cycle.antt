-- Any two results that a contract of `cycle` allows coincide: a statement for each public function.
-- The idea: a contract is an equation for the answer and for each lent buffer, so two of them have the same right-hand side.
use mathlib.Core.Path.{◌≡◌}
use Rattle.coincide.specs.Coincide.{Coincide}
use Rattle.coincide.proofs.Law.{same}
use Rattle.cycle.proofs.refusal.turn_refusal.Kinds as K·refusal-turn-refusal
use Rattle.cycle.proofs.refusal.turn_refusal.Reads as R·refusal-turn-refusal
use Rattle.cycle.proofs.refusal.reply_refusal.Kinds as K·refusal-reply-refusal
use Rattle.cycle.proofs.refusal.reply_refusal.Reads as R·refusal-reply-refusal
use Rattle.cycle.proofs.refusal.add_refusal.Kinds as K·refusal-add-refusal
use Rattle.cycle.proofs.refusal.add_refusal.Reads as R·refusal-add-refusal
use Rattle.cycle.proofs.seen.bit.Kinds as K·seen-bit
use Rattle.cycle.proofs.seen.bit.Reads as R·seen-bit
use Rattle.cycle.proofs.seen.index.Kinds as K·seen-index
use Rattle.cycle.proofs.seen.index.Reads as R·seen-index
use Rattle.cycle.proofs.seen.Seen.sent_index.Kinds as K·seen-Seen-sent-index
use Rattle.cycle.proofs.seen.Seen.sent_index.Reads as R·seen-Seen-sent-index
use Rattle.cycle.proofs.seen.Seen.first_index.Kinds as K·seen-Seen-first-index
use Rattle.cycle.proofs.seen.Seen.first_index.Reads as R·seen-Seen-first-index
use Rattle.cycle.proofs.seen.Seen.new.Kinds as K·seen-Seen-new
use Rattle.cycle.proofs.seen.Seen.new.Reads as R·seen-Seen-new
use Rattle.cycle.proofs.seen.Seen.seen_after.Kinds as K·seen-Seen-visited
use Rattle.cycle.proofs.seen.Seen.seen_after.Reads as R·seen-Seen-visited
use Rattle.cycle.proofs.seen.Seen.next.Kinds as K·seen-Seen-next
use Rattle.cycle.proofs.seen.Seen.next.Reads as R·seen-Seen-next
use Rattle.cycle.proofs.state.U8FromOperatingState.from.Kinds as K·state-U8FromOperatingState-from
use Rattle.cycle.proofs.state.U8FromOperatingState.from.Reads as R·state-U8FromOperatingState-from
use Rattle.cycle.proofs.state.OperatingStateFromU8.from.Kinds as K·state-OperatingStateFromU8-from
use Rattle.cycle.proofs.state.OperatingStateFromU8.from.Reads as R·state-OperatingStateFromU8-from
use Rattle.cycle.proofs.state.DpMasterState.new.Kinds as K·state-DpMasterState-new
use Rattle.cycle.proofs.state.DpMasterState.new.Reads as R·state-DpMasterState-new
use Rattle.cycle.proofs.state.DpMasterState.enter.Kinds as K·state-DpMasterState-enter
use Rattle.cycle.proofs.state.DpMasterState.enter.Reads as R·state-DpMasterState-enter
use Rattle.cycle.proofs.state.DpMasterState.is_open.Kinds as K·state-DpMasterState-is-open
use Rattle.cycle.proofs.state.DpMasterState.is_open.Reads as R·state-DpMasterState-is-open
use Rattle.cycle.proofs.state.DpMasterState.is_clear.Kinds as K·state-DpMasterState-is-clear
use Rattle.cycle.proofs.state.DpMasterState.is_clear.Reads as R·state-DpMasterState-is-clear
use Rattle.cycle.proofs.state.DpMasterState.control_due.Kinds as K·state-DpMasterState-control-due
use Rattle.cycle.proofs.state.DpMasterState.control_due.Reads as R·state-DpMasterState-control-due
use Rattle.cycle.proofs.state.DpMasterState.step.Kinds as K·state-DpMasterState-step
use Rattle.cycle.proofs.state.DpMasterState.step.Reads as R·state-DpMasterState-step
use Rattle.cycle.proofs.state.DpMasterState.start.Kinds as K·state-DpMasterState-start
use Rattle.cycle.proofs.state.DpMasterState.start.Reads as R·state-DpMasterState-start
use Rattle.cycle.proofs.state.DpMasterState.after_turn.Kinds as K·state-DpMasterState-after-turn
use Rattle.cycle.proofs.state.DpMasterState.after_turn.Reads as R·state-DpMasterState-after-turn
use Rattle.cycle.proofs.state.DpMasterState.answered.Kinds as K·state-DpMasterState-answered
use Rattle.cycle.proofs.state.DpMasterState.answered.Reads as R·state-DpMasterState-answered
use Rattle.cycle.proofs.state.DpMasterState.closed_for.Kinds as K·state-DpMasterState-closed-for
use Rattle.cycle.proofs.state.DpMasterState.closed_for.Reads as R·state-DpMasterState-closed-for

pub refusal-turn_refusal : Coincide 0 K·refusal-turn-refusal.ps K·refusal-turn-refusal.r R·refusal-turn-refusal.Learnt (λ κs z y e f. z ≡ y)
refusal-turn_refusal κs a z y e f p q = same p q

pub refusal-reply_refusal : Coincide 0 K·refusal-reply-refusal.ps K·refusal-reply-refusal.r R·refusal-reply-refusal.Learnt (λ κs z y e f. z ≡ y)
refusal-reply_refusal κs a z y e f p q = same p q

pub refusal-add_refusal : Coincide 0 K·refusal-add-refusal.ps K·refusal-add-refusal.r R·refusal-add-refusal.Learnt (λ κs z y e f. z ≡ y)
refusal-add_refusal κs a z y e f p q = same p q

pub seen-bit : Coincide 0 K·seen-bit.ps K·seen-bit.r R·seen-bit.Learnt (λ κs z y e f. z ≡ y)
seen-bit κs a z y e f p q = same p q

pub seen-index : Coincide 0 K·seen-index.ps K·seen-index.r R·seen-index.Learnt (λ κs z y e f. z ≡ y)
seen-index κs a z y e f p q = same p.0 q.0

pub seen-Seen-sent_index : Coincide 0 K·seen-Seen-sent-index.ps K·seen-Seen-sent-index.r R·seen-Seen-sent-index.Learnt (λ κs z y e f. z ≡ y)
seen-Seen-sent_index κs a z y e f p q = same p.0 q.0

pub seen-Seen-first_index : Coincide 0 K·seen-Seen-first-index.ps K·seen-Seen-first-index.r R·seen-Seen-first-index.Learnt (λ κs z y e f. z ≡ y)
seen-Seen-first_index κs a z y e f p q = same p.0 q.0

pub seen-Seen-new : Coincide 0 K·seen-Seen-new.ps K·seen-Seen-new.r R·seen-Seen-new.Learnt (λ κs z y e f. z ≡ y)
seen-Seen-new κs a z y e f p q = same p q

pub seen-Seen-seen_after : Coincide 0 K·seen-Seen-visited.ps K·seen-Seen-visited.r R·seen-Seen-visited.Learnt (λ κs z y e f. z ≡ y)
seen-Seen-seen_after κs a z y e f p q = same p q

pub seen-Seen-next : Coincide 1 K·seen-Seen-next.ps K·seen-Seen-next.r R·seen-Seen-next.Learnt (λ κs z y e f. z ≡ y)
seen-Seen-next κs a z y e f p q = same p q

pub state-U8FromOperatingState-from : Coincide 0 K·state-U8FromOperatingState-from.ps K·state-U8FromOperatingState-from.r R·state-U8FromOperatingState-from.Learnt (λ κs z y e f. z ≡ y)
state-U8FromOperatingState-from κs a z y e f p q = same p q

pub state-OperatingStateFromU8-from : Coincide 0 K·state-OperatingStateFromU8-from.ps K·state-OperatingStateFromU8-from.r R·state-OperatingStateFromU8-from.Learnt (λ κs z y e f. z ≡ y)
state-OperatingStateFromU8-from κs a z y e f p q = same p q

pub state-DpMasterState-new : Coincide 0 K·state-DpMasterState-new.ps K·state-DpMasterState-new.r R·state-DpMasterState-new.Learnt (λ κs z y e f. z ≡ y)
state-DpMasterState-new κs a z y e f p q = same p q

pub state-DpMasterState-enter : Coincide 0 K·state-DpMasterState-enter.ps K·state-DpMasterState-enter.r R·state-DpMasterState-enter.Learnt (λ κs z y e f. z ≡ y)
state-DpMasterState-enter κs a z y e f p q = same p q

pub state-DpMasterState-is_open : Coincide 0 K·state-DpMasterState-is-open.ps K·state-DpMasterState-is-open.r R·state-DpMasterState-is-open.Learnt (λ κs z y e f. z ≡ y)
state-DpMasterState-is_open κs a z y e f p q = same p q

pub state-DpMasterState-is_clear : Coincide 0 K·state-DpMasterState-is-clear.ps K·state-DpMasterState-is-clear.r R·state-DpMasterState-is-clear.Learnt (λ κs z y e f. z ≡ y)
state-DpMasterState-is_clear κs a z y e f p q = same p q

pub state-DpMasterState-control_due : Coincide 0 K·state-DpMasterState-control-due.ps K·state-DpMasterState-control-due.r R·state-DpMasterState-control-due.Learnt (λ κs z y e f. z ≡ y)
state-DpMasterState-control_due κs a z y e f p q = same p q

pub state-DpMasterState-step : Coincide 0 K·state-DpMasterState-step.ps K·state-DpMasterState-step.r R·state-DpMasterState-step.Learnt (λ κs z y e f. z ≡ y)
state-DpMasterState-step κs a z y e f p q = same p q

pub state-DpMasterState-start : Coincide 0 K·state-DpMasterState-start.ps K·state-DpMasterState-start.r R·state-DpMasterState-start.Learnt (λ κs z y e f. z ≡ y)
state-DpMasterState-start κs a z y e f p q = same p q

pub state-DpMasterState-after_turn : Coincide 0 K·state-DpMasterState-after-turn.ps K·state-DpMasterState-after-turn.r R·state-DpMasterState-after-turn.Learnt (λ κs z y e f. z ≡ y)
state-DpMasterState-after_turn κs a z y e f p q = same p q

pub state-DpMasterState-answered : Coincide 0 K·state-DpMasterState-answered.ps K·state-DpMasterState-answered.r R·state-DpMasterState-answered.Learnt (λ κs z y e f. z ≡ y)
state-DpMasterState-answered κs a z y e f p q = same p q

pub state-DpMasterState-closed_for : Coincide 0 K·state-DpMasterState-closed-for.ps K·state-DpMasterState-closed-for.r R·state-DpMasterState-closed-for.Learnt (λ κs z y e f. z ≡ y)
state-DpMasterState-closed_for κs a z y e f p q = same p q
