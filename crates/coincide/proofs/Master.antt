-- Any two results that a contract of `master` allows coincide: a statement for each public function.
-- The idea: a contract is an equation for the answer and for each lent buffer, so two of them have the same right-hand side.
use mathlib.Core.Path.{◌≡◌, refl, sym, ap, ◌∙◌}
use Rattle.std.specs.Prelude.{Result, Ok, Err}
use Rattle.refusals.specs.declared.Refusal.{Refusal}
use Rattle.refusals.specs.Table.{given, number_of}
use Rattle.refusals.proofs.Laws.{done, refused, given_err, same_number}
use Rattle.peripheral_set.specs.declared.PeripheralHandle.{PeripheralHandle}
use Rattle.peripheral_set.specs.Marks.{no_handle}
use Rattle.master.specs.declared.unit.DpMaster.{DpMaster}
use Rattle.master.specs.Unit.{Done, done_of}
use Rattle.master.specs.Add.{handle_given}
use Rattle.coincide.specs.Coincide.{Coincide}
use Rattle.master.specs.Pools.{Pools}
use Rattle.coincide.proofs.Law.{same}
use Rattle.master.proofs.unit.DpMaster.add.Kinds as K·unit-DpMaster-add
use Rattle.master.proofs.unit.DpMaster.add.Reads as R·unit-DpMaster-add
use Rattle.master.proofs.unit.DpMaster.reset_address.Kinds as K·unit-DpMaster-reset-address
use Rattle.master.proofs.unit.DpMaster.reset_address.Reads as R·unit-DpMaster-reset-address
use Rattle.master.proofs.unit.DpMaster.request_diagnostics.Kinds as K·unit-DpMaster-request-diagnostics
use Rattle.master.proofs.unit.DpMaster.request_diagnostics.Reads as R·unit-DpMaster-request-diagnostics
use Rattle.master.proofs.unit.DpMaster.receive_reply.Kinds as K·unit-DpMaster-receive-reply
use Rattle.master.proofs.unit.DpMaster.receive_reply.Reads as R·unit-DpMaster-receive-reply
use Rattle.master.proofs.unit.DpMaster.transmit_telegram.Kinds as K·unit-DpMaster-transmit-telegram
use Rattle.master.proofs.unit.DpMaster.transmit_telegram.Reads as R·unit-DpMaster-transmit-telegram
use Rattle.master.proofs.unit.DpMaster.new.Kinds as K·unit-DpMaster-new
use Rattle.master.proofs.unit.DpMaster.new.Reads as R·unit-DpMaster-new
use Rattle.master.proofs.unit.DpMaster.operating_state.Kinds as K·unit-DpMaster-operating-state
use Rattle.master.proofs.unit.DpMaster.operating_state.Reads as R·unit-DpMaster-operating-state
use Rattle.master.proofs.unit.DpMaster.enter_state.Kinds as K·unit-DpMaster-enter-state
use Rattle.master.proofs.unit.DpMaster.enter_state.Reads as R·unit-DpMaster-enter-state
use Rattle.master.proofs.unit.DpMaster.enter_stop.Kinds as K·unit-DpMaster-enter-stop
use Rattle.master.proofs.unit.DpMaster.enter_stop.Reads as R·unit-DpMaster-enter-stop
use Rattle.master.proofs.unit.DpMaster.enter_clear.Kinds as K·unit-DpMaster-enter-clear
use Rattle.master.proofs.unit.DpMaster.enter_clear.Reads as R·unit-DpMaster-enter-clear
use Rattle.master.proofs.unit.DpMaster.enter_operate.Kinds as K·unit-DpMaster-enter-operate
use Rattle.master.proofs.unit.DpMaster.enter_operate.Reads as R·unit-DpMaster-enter-operate

-- an add's answer follows from its number and its handle
given_back : (z : Result PeripheralHandle Refusal) → given (number_of z) (handle_given z) ≡ z
given_back (Ok h) = done
given_back (Err r) = given_err _ tt no_handle (refused r)

pub same_handle : (z y : Result PeripheralHandle Refusal) → number_of z ≡ number_of y → handle_given z ≡ handle_given y → z ≡ y
same_handle z y n h = sym (given_back z) ∙ (rw (n, h) refl) ∙ given_back y

-- and that of a call that is done or not from what it leaves
same_done : (z y : Result Unit Refusal) (m n : DpMaster) → done_of z m ≡ done_of y n → (z ≡ y) × (m ≡ n)
same_done z y m n e = (same_number z y (ap (λ (d : Done). d.refusal) e), ap (λ (d : Done). d.master) e)

pub unit-DpMaster-add : Coincide 7 K·unit-DpMaster-add.ps K·unit-DpMaster-add.r R·unit-DpMaster-add.Learnt (λ κs z y e f. (z ≡ y) × (e.0.now ≡ f.0.now) × (e.1.1.1.1.0.now ≡ f.1.1.1.1.0.now) × (e.1.1.1.1.1.0.now ≡ f.1.1.1.1.1.0.now) × (e.1.1.1.1.1.1.0.now ≡ f.1.1.1.1.1.1.0.now) × (e.1.1.1.1.1.1.1.0.now ≡ f.1.1.1.1.1.1.1.0.now))
unit-DpMaster-add κs a z y e f p q = (same_handle z y (same p.refusal q.refusal) (same p.handle q.handle), same p.after q.after, ap (λ (x : Pools). x.setup) (same p.written q.written), ap (λ (x : Pools). x.inputs) (same p.written q.written), ap (λ (x : Pools). x.outputs) (same p.written q.written), ap (λ (x : Pools). x.diags) (same p.written q.written))

pub unit-DpMaster-reset_address : Coincide 1 K·unit-DpMaster-reset-address.ps K·unit-DpMaster-reset-address.r R·unit-DpMaster-reset-address.Learnt (λ κs z y e f. (z ≡ y) × (e.0.now ≡ f.0.now))
unit-DpMaster-reset_address κs a z y e f p q = same_done z y _ _ (same p q)

pub unit-DpMaster-request_diagnostics : Coincide 1 K·unit-DpMaster-request-diagnostics.ps K·unit-DpMaster-request-diagnostics.r R·unit-DpMaster-request-diagnostics.Learnt (λ κs z y e f. (z ≡ y) × (e.0.now ≡ f.0.now))
unit-DpMaster-request_diagnostics κs a z y e f p q = same_done z y _ _ (same p q)

pub unit-DpMaster-receive_reply : Coincide 4 K·unit-DpMaster-receive-reply.ps K·unit-DpMaster-receive-reply.r R·unit-DpMaster-receive-reply.Learnt (λ κs z y e f. (z ≡ y) × (e.0.now ≡ f.0.now) × (e.1.1.1.1.0.now ≡ f.1.1.1.1.0.now) × (e.1.1.1.1.1.0.now ≡ f.1.1.1.1.1.0.now))
unit-DpMaster-receive_reply κs a z y e f p q = (same p.answer q.answer, same p.after q.after, same p.input_pool q.input_pool, same p.diag_pool q.diag_pool)

pub unit-DpMaster-transmit_telegram : Coincide 4 K·unit-DpMaster-transmit-telegram.ps K·unit-DpMaster-transmit-telegram.r R·unit-DpMaster-transmit-telegram.Learnt (λ κs z y e f. (z ≡ y) × (e.0.now ≡ f.0.now) × (e.1.1.1.1.1.0.now ≡ f.1.1.1.1.1.0.now))
unit-DpMaster-transmit_telegram κs a z y e f p q = (same p.answer q.answer, same p.after q.after, same p.bytes q.bytes)

pub unit-DpMaster-new : Coincide 0 K·unit-DpMaster-new.ps K·unit-DpMaster-new.r R·unit-DpMaster-new.Learnt (λ κs z y e f. z ≡ y)
unit-DpMaster-new κs a z y e f p q = same p q

pub unit-DpMaster-operating_state : Coincide 1 K·unit-DpMaster-operating-state.ps K·unit-DpMaster-operating-state.r R·unit-DpMaster-operating-state.Learnt (λ κs z y e f. z ≡ y)
unit-DpMaster-operating_state κs a z y e f p q = same p q

pub unit-DpMaster-enter_state : Coincide 1 K·unit-DpMaster-enter-state.ps K·unit-DpMaster-enter-state.r R·unit-DpMaster-enter-state.Learnt (λ κs z y e f. e.0.now ≡ f.0.now)
unit-DpMaster-enter_state κs a z y e f p q = same p q

pub unit-DpMaster-enter_stop : Coincide 1 K·unit-DpMaster-enter-stop.ps K·unit-DpMaster-enter-stop.r R·unit-DpMaster-enter-stop.Learnt (λ κs z y e f. e.0.now ≡ f.0.now)
unit-DpMaster-enter_stop κs a z y e f p q = same p q

pub unit-DpMaster-enter_clear : Coincide 1 K·unit-DpMaster-enter-clear.ps K·unit-DpMaster-enter-clear.r R·unit-DpMaster-enter-clear.Learnt (λ κs z y e f. e.0.now ≡ f.0.now)
unit-DpMaster-enter_clear κs a z y e f p q = same p q

pub unit-DpMaster-enter_operate : Coincide 1 K·unit-DpMaster-enter-operate.ps K·unit-DpMaster-enter-operate.r R·unit-DpMaster-enter-operate.Learnt (λ κs z y e f. e.0.now ≡ f.0.now)
unit-DpMaster-enter_operate κs a z y e f p q = same p q
