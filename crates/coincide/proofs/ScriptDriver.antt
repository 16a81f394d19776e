-- Any two results that a contract of `script_driver` allows coincide: a statement for each public function.
-- The idea: a contract is an equation for the answer and for each array, or for the lent front of an array and for the rest, which make the whole.
use mathlib.Core.Path.{◌≡◌, sym, ap, ◌∙◌, refl}
use mathlib.Core.List.{List, ◌++◌}
use Prim.Native.Nat.{ℕ}
use lib.ListN.{take, drop, take-append-drop}
use Rattle.parts.specs.Parts.{SamePart}
use Rattle.parts.proofs.Laws.{itself_same}
use Rattle.refusals.proofs.Laws.{same_number}
use Rattle.master.specs.declared.unit.DpMaster.{DpMaster}
use Rattle.script_driver.specs.declared.run.Run.{Run}
use Rattle.script_driver.specs.declared.arrays.Arrays.{Arrays}
use Rattle.script_driver.specs.Run.{unit_is}
use Rattle.script_driver.specs.Arrays.{pools_held, pools_are, payload_is, list_is}
use Rattle.coincide.specs.Coincide.{Coincide}
use Rattle.master.specs.Pools.{Pools}
use Rattle.coincide.proofs.Law.{same}
use Rattle.coincide.proofs.Master.{same_handle}
use Rattle.script_driver.proofs.run.Run.empty.Kinds as K·run-Run-empty
use Rattle.script_driver.proofs.run.Run.empty.Reads as R·run-Run-empty
use Rattle.script_driver.proofs.run.Run.new.Kinds as K·run-Run-new
use Rattle.script_driver.proofs.run.Run.new.Reads as R·run-Run-new
use Rattle.script_driver.proofs.run.Run.lend.Kinds as K·run-Run-lend
use Rattle.script_driver.proofs.run.Run.lend.Reads as R·run-Run-lend
use Rattle.script_driver.proofs.run.Run.after.Kinds as K·run-Run-after
use Rattle.script_driver.proofs.run.Run.after.Reads as R·run-Run-after
use Rattle.script_driver.proofs.run.call_made.Kinds as K·run-call-made
use Rattle.script_driver.proofs.run.call_made.Reads as R·run-call-made
use Rattle.script_driver.proofs.arrays.front.Kinds as K·arrays-front
use Rattle.script_driver.proofs.arrays.front.Reads as R·arrays-front
use Rattle.script_driver.proofs.arrays.lent.Kinds as K·arrays-lent
use Rattle.script_driver.proofs.arrays.lent.Reads as R·arrays-lent
use Rattle.script_driver.proofs.arrays.fill.Kinds as K·arrays-fill
use Rattle.script_driver.proofs.arrays.fill.Reads as R·arrays-fill
use Rattle.script_driver.proofs.arrays.fill_list.Kinds as K·arrays-fill-list
use Rattle.script_driver.proofs.arrays.fill_list.Reads as R·arrays-fill-list
use Rattle.script_driver.proofs.arrays.put_entries.Kinds as K·arrays-put-entries
use Rattle.script_driver.proofs.arrays.put_entries.Reads as R·arrays-put-entries
use Rattle.script_driver.proofs.pieces.line_end.Kinds as K·pieces-line-end
use Rattle.script_driver.proofs.pieces.line_end.Reads as R·pieces-line-end
use Rattle.script_driver.proofs.arrays.fill_pools.Kinds as K·arrays-fill-pools
use Rattle.script_driver.proofs.arrays.fill_pools.Reads as R·arrays-fill-pools
use Rattle.script_driver.proofs.arrays.fill_payload.Kinds as K·arrays-fill-payload
use Rattle.script_driver.proofs.arrays.fill_payload.Reads as R·arrays-fill-payload
use Rattle.script_driver.proofs.arrays.Arrays.fill_pools.Kinds as K·arrays-Arrays-fill-pools
use Rattle.script_driver.proofs.arrays.Arrays.fill_pools.Reads as R·arrays-Arrays-fill-pools
use Rattle.script_driver.proofs.arrays.Arrays.fill_payload.Kinds as K·arrays-Arrays-fill-payload
use Rattle.script_driver.proofs.arrays.Arrays.fill_payload.Reads as R·arrays-Arrays-fill-payload
use Rattle.script_driver.proofs.arrays.Arrays.clear.Kinds as K·arrays-Arrays-clear
use Rattle.script_driver.proofs.arrays.Arrays.clear.Reads as R·arrays-Arrays-clear
use Rattle.script_driver.proofs.arrays.sums.Kinds as K·arrays-sums
use Rattle.script_driver.proofs.arrays.sums.Reads as R·arrays-sums
use Rattle.script_driver.proofs.run.Run.add.Kinds as K·run-Run-add
use Rattle.script_driver.proofs.run.Run.add.Reads as R·run-Run-add
use Rattle.script_driver.proofs.run.Run.turn.Kinds as K·run-Run-turn
use Rattle.script_driver.proofs.run.Run.turn.Reads as R·run-Run-turn
use Rattle.script_driver.proofs.run.Run.reply.Kinds as K·run-Run-reply
use Rattle.script_driver.proofs.run.Run.reply.Reads as R·run-Run-reply
use Rattle.script_driver.proofs.run.Run.write.Kinds as K·run-Run-write
use Rattle.script_driver.proofs.run.Run.write.Reads as R·run-Run-write
use Rattle.script_driver.proofs.run.Run.inputs_refusal.Kinds as K·run-Run-inputs-refusal
use Rattle.script_driver.proofs.run.Run.inputs_refusal.Reads as R·run-Run-inputs-refusal
use Rattle.script_driver.proofs.run.Run.inputs.Kinds as K·run-Run-inputs
use Rattle.script_driver.proofs.run.Run.inputs.Reads as R·run-Run-inputs
use Rattle.script_driver.proofs.run.Run.outputs_refusal.Kinds as K·run-Run-outputs-refusal
use Rattle.script_driver.proofs.run.Run.outputs_refusal.Reads as R·run-Run-outputs-refusal
use Rattle.script_driver.proofs.run.Run.outputs.Kinds as K·run-Run-outputs
use Rattle.script_driver.proofs.run.Run.outputs.Reads as R·run-Run-outputs
use Rattle.script_driver.proofs.run.Run.diagnosis.Kinds as K·run-Run-diagnosis
use Rattle.script_driver.proofs.run.Run.diagnosis.Reads as R·run-Run-diagnosis
use Rattle.script_driver.proofs.run.Run.extended.Kinds as K·run-Run-extended
use Rattle.script_driver.proofs.run.Run.extended.Reads as R·run-Run-extended
use Rattle.script_driver.proofs.run.Run.listing.Kinds as K·run-Run-listing
use Rattle.script_driver.proofs.run.Run.listing.Reads as R·run-Run-listing
use Rattle.script_driver.proofs.pieces.Partial.append.Kinds as K·pieces-Partial-append
use Rattle.script_driver.proofs.pieces.Partial.append.Reads as R·pieces-Partial-append
use Rattle.script_driver.proofs.pieces.Partial.unfinished.Kinds as K·pieces-Partial-unfinished
use Rattle.script_driver.proofs.pieces.Partial.unfinished.Reads as R·pieces-Partial-unfinished
use Rattle.script_driver.proofs.room.next_at.Kinds as K·room-next-at
use Rattle.script_driver.proofs.room.next_at.Reads as R·room-next-at

-- lists with the same front and the same rest are the same
whole : (n : ℕ) {a b : List ℕ} → take n a ≡ take n b → drop n a ≡ drop n b → a ≡ b
whole n {a} {b} p q =
    sym (take-append-drop n a) ∙ ap (λ (x : List ℕ). x ++ drop n a) p ∙ ap (λ (x : List ℕ). take n b ++ x) q ∙ take-append-drop n b

-- a run that differs from another in its unit alone
run_left : (a x w : Run) → x ≡ unit_is x.unit a → w ≡ unit_is w.unit a → x.unit ≡ w.unit → x ≡ w
run_left a x w p q u = p ∙ ap (λ (m : DpMaster). unit_is m a) u ∙ sym q

-- four pool arrays with the same bytes
pools_same : (x w : Arrays) → x.setup.now ≡ w.setup.now → x.inputs.now ≡ w.inputs.now → x.outputs.now ≡ w.outputs.now → x.diags.now ≡ w.diags.now → pools_held x ≡ pools_held w
pools_same x w s i o d = rw (s, i, o, d) refl

pools_left : (a x w : Arrays) (p q : Pools) → x ≡ pools_are p a → w ≡ pools_are q a → p ≡ q → x ≡ w
pools_left a x w p q h k e = h ∙ ap (λ (o : Pools). pools_are o a) e ∙ sym k

-- a payload and a list with the same bytes
payload_list_same : (a : Arrays) {b c l m : List ℕ} → b ≡ c → l ≡ m → payload_is b (list_is l a) ≡ payload_is c (list_is m a)
payload_list_same a p q = rw (p, q) refl

pub run-Run-empty : Coincide 0 K·run-Run-empty.ps K·run-Run-empty.r R·run-Run-empty.Learnt (λ κs z y e f. z ≡ y)
run-Run-empty κs a z y e f p q = same p q

pub run-Run-new : Coincide 0 K·run-Run-new.ps K·run-Run-new.r R·run-Run-new.Learnt (λ κs z y e f. z ≡ y)
run-Run-new κs a z y e f p q = same p q

pub run-Run-lend : Coincide 1 K·run-Run-lend.ps K·run-Run-lend.r R·run-Run-lend.Learnt (λ κs z y e f. e.0.now ≡ f.0.now)
run-Run-lend κs a z y e f p q = same p q

pub run-Run-after : Coincide 1 K·run-Run-after.ps K·run-Run-after.r R·run-Run-after.Learnt (λ κs z y e f. e.0.now ≡ f.0.now)
run-Run-after κs a z y e f p q = same p q

pub run-call_made : Coincide 0 K·run-call-made.ps K·run-call-made.r R·run-call-made.Learnt (λ κs z y e f. z ≡ y)
run-call_made κs a z y e f p q = same p q

pub arrays-front : Coincide 0 K·arrays-front.ps K·arrays-front.r R·arrays-front.Learnt (λ κs z y e f. z ≡ y)
arrays-front κs a z y e f p q = same p q

pub arrays-lent : Coincide 1 K·arrays-lent.ps K·arrays-lent.r R·arrays-lent.Learnt (λ κs z y e f. SamePart z y)
arrays-lent κs a z y e f p q = itself_same p q

pub arrays-fill : Coincide 1 K·arrays-fill.ps K·arrays-fill.r R·arrays-fill.Learnt (λ κs z y e f. e.0.now ≡ f.0.now)
arrays-fill κs a z y e f p q = same p q

pub arrays-fill_list : Coincide 1 K·arrays-fill-list.ps K·arrays-fill-list.r R·arrays-fill-list.Learnt (λ κs z y e f. e.0.now ≡ f.0.now)
arrays-fill_list κs a z y e f p q = same p q

pub arrays-put_entries : Coincide 2 K·arrays-put-entries.ps K·arrays-put-entries.r R·arrays-put-entries.Learnt (λ κs z y e f. (z ≡ y) × (e.1.0.now ≡ f.1.0.now))
arrays-put_entries κs a z y e f p q = (same p.len q.len, same p.bytes q.bytes)

pub arrays-fill_pools : Coincide 4 K·arrays-fill-pools.ps K·arrays-fill-pools.r R·arrays-fill-pools.Learnt (λ κs z y e f. (e.1.0.now ≡ f.1.0.now) × (e.1.1.0.now ≡ f.1.1.0.now) × (e.1.1.1.0.now ≡ f.1.1.1.0.now) × (e.1.1.1.1.0.now ≡ f.1.1.1.1.0.now))
arrays-fill_pools κs a z y e f p q = (same p.setup_pool q.setup_pool, same p.input_pool q.input_pool, same p.output_pool q.output_pool, same p.diag_pool q.diag_pool)

pub arrays-fill_payload : Coincide 2 K·arrays-fill-payload.ps K·arrays-fill-payload.r R·arrays-fill-payload.Learnt (λ κs z y e f. (e.1.0.now ≡ f.1.0.now) × (e.1.1.0.now ≡ f.1.1.0.now))
arrays-fill_payload κs a z y e f p q = (same p.bytes q.bytes, same p.entries q.entries)

pub arrays-Arrays-fill_pools : Coincide 2 K·arrays-Arrays-fill-pools.ps K·arrays-Arrays-fill-pools.r R·arrays-Arrays-fill-pools.Learnt (λ κs z y e f. e.0.now ≡ f.0.now)
arrays-Arrays-fill_pools κs a z y e f p q = pools_left a.0.now e.0.now f.0.now _ _ p.1 q.1 (pools_same e.0.now f.0.now (same p.0.setup_pool q.0.setup_pool) (same p.0.input_pool q.0.input_pool) (same p.0.output_pool q.0.output_pool) (same p.0.diag_pool q.0.diag_pool))

pub arrays-Arrays-fill_payload : Coincide 2 K·arrays-Arrays-fill-payload.ps K·arrays-Arrays-fill-payload.r R·arrays-Arrays-fill-payload.Learnt (λ κs z y e f. e.0.now ≡ f.0.now)
arrays-Arrays-fill_payload κs a z y e f p q = let b : e.0.now.payload.now ≡ f.0.now.payload.now = same p.0.bytes q.0.bytes in let l : e.0.now.list.now ≡ f.0.now.list.now = same p.0.entries q.0.entries in p.1 ∙ payload_list_same a.0.now b l ∙ sym q.1

pub arrays-Arrays-clear : Coincide 2 K·arrays-Arrays-clear.ps K·arrays-Arrays-clear.r R·arrays-Arrays-clear.Learnt (λ κs z y e f. e.0.now ≡ f.0.now)
arrays-Arrays-clear κs a z y e f p q = pools_left (payload_is e.0.now.payload.now (list_is e.0.now.list.now a.0.now)) e.0.now f.0.now _ _ p.1.1 (q.1.1 ∙ ap (pools_are (pools_held f.0.now)) (sym (payload_list_same a.0.now (same p.1.0.0 q.1.0.0) (same p.1.0.1 q.1.0.1)))) (pools_same e.0.now f.0.now (same p.0.setup_pool q.0.setup_pool) (same p.0.input_pool q.0.input_pool) (same p.0.output_pool q.0.output_pool) (same p.0.diag_pool q.0.diag_pool))

pub arrays-sums : Coincide 4 K·arrays-sums.ps K·arrays-sums.r R·arrays-sums.Learnt (λ κs z y e f. z ≡ y)
arrays-sums κs a z y e f p q = same p q

pub run-Run-add : Coincide 7 K·run-Run-add.ps K·run-Run-add.r R·run-Run-add.Learnt (λ κs z y e f. (z ≡ y) × (e.0.now ≡ f.0.now) × (e.1.1.1.1.0.now ≡ f.1.1.1.1.0.now) × (e.1.1.1.1.1.0.now ≡ f.1.1.1.1.1.0.now) × (e.1.1.1.1.1.1.0.now ≡ f.1.1.1.1.1.1.0.now) × (e.1.1.1.1.1.1.1.0.now ≡ f.1.1.1.1.1.1.1.0.now))
run-Run-add κs a z y e f p q = (same_handle z y (same p.0.call.refusal q.0.call.refusal) (same p.0.call.handle q.0.call.handle), run_left a.0.now e.0.now f.0.now p.1 q.1 (same p.0.call.after q.0.call.after), whole a.0.now.lent.setup (ap (λ (x : Pools). x.setup) (same p.0.call.written q.0.call.written)) (same p.0.setup_pool q.0.setup_pool), whole a.0.now.lent.inputs (ap (λ (x : Pools). x.inputs) (same p.0.call.written q.0.call.written)) (same p.0.input_pool q.0.input_pool), whole a.0.now.lent.outputs (ap (λ (x : Pools). x.outputs) (same p.0.call.written q.0.call.written)) (same p.0.output_pool q.0.output_pool), whole a.0.now.lent.diags (ap (λ (x : Pools). x.diags) (same p.0.call.written q.0.call.written)) (same p.0.diag_pool q.0.diag_pool))

pub run-Run-turn : Coincide 4 K·run-Run-turn.ps K·run-Run-turn.r R·run-Run-turn.Learnt (λ κs z y e f. (z ≡ y) × (e.0.now ≡ f.0.now) × (e.1.1.1.1.1.0.now ≡ f.1.1.1.1.1.0.now))
run-Run-turn κs a z y e f p q = (same p.0.call.answer q.0.call.answer, run_left a.0.now e.0.now f.0.now p.1 q.1 (same p.0.call.after q.0.call.after), whole a.0.now.lent.payload (same p.0.call.bytes q.0.call.bytes) (same p.0.payload_array q.0.payload_array))

pub run-Run-reply : Coincide 4 K·run-Run-reply.ps K·run-Run-reply.r R·run-Run-reply.Learnt (λ κs z y e f. (z ≡ y) × (e.0.now ≡ f.0.now) × (e.1.1.1.1.0.now ≡ f.1.1.1.1.0.now) × (e.1.1.1.1.1.0.now ≡ f.1.1.1.1.1.0.now))
run-Run-reply κs a z y e f p q = (same p.0.call.answer q.0.call.answer, run_left a.0.now e.0.now f.0.now p.1 q.1 (same p.0.call.after q.0.call.after), whole a.0.now.lent.inputs (same p.0.call.input_pool q.0.call.input_pool) (same p.0.input_pool q.0.input_pool), whole a.0.now.lent.diags (same p.0.call.diag_pool q.0.call.diag_pool) (same p.0.diag_pool q.0.diag_pool))

pub run-Run-write : Coincide 3 K·run-Run-write.ps K·run-Run-write.r R·run-Run-write.Learnt (λ κs z y e f. (z ≡ y) × (e.1.1.1.0.now ≡ f.1.1.1.0.now))
run-Run-write κs a z y e f p q = (same_number z y (same p.call.answer q.call.answer), whole a.0.now.lent.outputs (same p.call.pool q.call.pool) (same p.output_pool q.output_pool))

pub run-Run-inputs_refusal : Coincide 2 K·run-Run-inputs-refusal.ps K·run-Run-inputs-refusal.r R·run-Run-inputs-refusal.Learnt (λ κs z y e f. z ≡ y)
run-Run-inputs_refusal κs a z y e f p q = same p q

pub run-Run-inputs : Coincide 2 K·run-Run-inputs.ps K·run-Run-inputs.r R·run-Run-inputs.Learnt (λ κs z y e f. SamePart z y)
run-Run-inputs κs a z y e f p q = itself_same p q

pub run-Run-outputs_refusal : Coincide 2 K·run-Run-outputs-refusal.ps K·run-Run-outputs-refusal.r R·run-Run-outputs-refusal.Learnt (λ κs z y e f. z ≡ y)
run-Run-outputs_refusal κs a z y e f p q = same p q

pub run-Run-outputs : Coincide 2 K·run-Run-outputs.ps K·run-Run-outputs.r R·run-Run-outputs.Learnt (λ κs z y e f. SamePart z y)
run-Run-outputs κs a z y e f p q = itself_same p q

pub run-Run-diagnosis : Coincide 2 K·run-Run-diagnosis.ps K·run-Run-diagnosis.r R·run-Run-diagnosis.Learnt (λ κs z y e f. z ≡ y)
run-Run-diagnosis κs a z y e f p q = same p q

pub run-Run-extended : Coincide 2 K·run-Run-extended.ps K·run-Run-extended.r R·run-Run-extended.Learnt (λ κs z y e f. SamePart z y)
run-Run-extended κs a z y e f p q = itself_same p q

pub run-Run-listing : Coincide 2 K·run-Run-listing.ps K·run-Run-listing.r R·run-Run-listing.Learnt (λ κs z y e f. (z ≡ y) × (e.1.0.now ≡ f.1.0.now))
run-Run-listing κs a z y e f p q = (same p.answer q.answer, same p.bytes q.bytes)

pub pieces-Partial-append : Coincide 3 K·pieces-Partial-append.ps K·pieces-Partial-append.r R·pieces-Partial-append.Learnt (λ κs z y e f. (e.0.now ≡ f.0.now) × (e.1.1.0.now ≡ f.1.1.0.now))
pieces-Partial-append κs a z y e f p q = (same p.came q.came, same p.bytes q.bytes)

pub pieces-Partial-unfinished : Coincide 1 K·pieces-Partial-unfinished.ps K·pieces-Partial-unfinished.r R·pieces-Partial-unfinished.Learnt (λ κs z y e f. z ≡ y)
pieces-Partial-unfinished κs a z y e f p q = same p q

pub pieces-line_end : Coincide 1 K·pieces-line-end.ps K·pieces-line-end.r R·pieces-line-end.Learnt (λ κs z y e f. z ≡ y)
pieces-line_end κs a z y e f p q = same p q

pub room-next_at : Coincide 0 K·room-next-at.ps K·room-next-at.r R·room-next-at.Learnt (λ κs z y e f. z ≡ y)
room-next_at κs a z y e f p q = same p q
