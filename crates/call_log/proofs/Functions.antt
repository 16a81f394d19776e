-- Whatever the contracts of the functions allow is what `step` says, and so whatever was made is a `run`.
-- The idea: what a caller learns from a contract is the relation of Ties.antt, at the arguments and at what the slices hold at entry and at exit; then one call after the other.
use mathlib.Core.Path.{◌≡◌, refl, sym, ◌∙◌, ap}
use Prim.Native.Nat.{ℕ, ◌+◌}
use native.Mathlib.Omega.{arith}
use mathlib.Core.Bool.{Bool, true}
use mathlib.Core.List.{List, []}
use lib.ListN.{length}
use Rattle.std.specs.Prelude.{Result, Ok, Err}
use Rattle.parts.specs.Parts.{splice}
use Rattle.refusals.specs.declared.Refusal.{Refusal}
use Rattle.refusals.specs.Table.{Row, first_of, outcome, number_of}
use Rattle.refusals.proofs.Laws.{known, done_is, told}
use Rattle.fdl.specs.declared.telegram.Telegram.{Telegram}
use Rattle.peripheral_set.specs.declared.PeripheralHandle.{PeripheralHandle}
use Rattle.cycle.specs.declared.state.OperatingState.{OperatingState}
use Rattle.cycle.specs.declared.state.OperatingState.TheVariants.{Stop, Clear, Operate}
use Rattle.cycle.specs.State.{entered}
use Rattle.master.specs.declared.unit.DpMaster.{DpMaster}
use Rattle.master.specs.declared.unit.Created.{Created}
use Rattle.master.specs.declared.add.Addition.{Addition}
use Rattle.master.specs.Unit.{done_of, state_is}
use Rattle.master.specs.Add.{Added, added_of, Adding}
use Rattle.master.specs.Turn.{Turn, Turned}
use Rattle.master.specs.Receive.{Answered, Received}
use Rattle.master.specs.Handle.{reset_done, wish_done}
use Rattle.access.specs.Lookup.{pooled_rows, input_number, output_number, inputs_seen, outputs_seen, OutputsWritten}
use Rattle.master.specs.Pools.{Pools, pools_of, lend, back}
use Rattle.call_log.specs.Calls.{World, Call, Outcome, enter, hand, number, unit_is, outputs_are, step}
use Rattle.call_log.specs.Entries.{Entry, slot_log}
use Rattle.call_log.specs.Words.{image_of}
use Rattle.call_log.specs.Run.{Run, after, run}
use Rattle.call_log.specs.Made.{by_add, by_enter_state, by_enter_stop, by_enter_clear, by_enter_operate, by_transmit_telegram, by_receive_reply, by_reset_address, by_request_diagnostics, by_write_outputs, by_pi_q_mut, Handed, by_pi_i, by_new, then}
use Rattle.call_log.specs.Promises.{AllowedIsStep, MadeIsRun, ReadTold}
use Rattle.call_log.proofs.Ties.{add_tied, enter_tied, turn_tied, reply_tied, reset_tied, wish_tied, write_tied, hand_tied}
use Rattle.call_log.proofs.Units.{Inv}
use Rattle.call_log.proofs.Promised.{inv_run, read_by}

-- ---- a contract, of the unit and the bytes that the function was given

adding : (m n : DpMaster) (a : Addition) (user config : List ℕ) (s t i j o p d q : List ℕ) (out : Pools) (r : Added) → n ≡ m → t ≡ s → j ≡ i → p ≡ o → q ≡ d
    → Adding m a user config (pools_of s i o d) out r → Adding n a user config (pools_of t j p q) out r
adding m n a user config s t i j o p d q out r em es ei eo ed c = rw (em, es, ei, eo, ed) c

turning : (m n : DpMaster) (time : ℕ) (high : Bool) (s t o p buf out : List ℕ) (r : Turn) → n ≡ m → t ≡ s → p ≡ o → Turned m time high s o buf out r → Turned n time high t p buf out r
turning m n time high s t o p buf out r em es eo c = rw (em, es, eo) c

receiving : (m n : DpMaster) (address : ℕ) (t : Telegram) (payload i j d q out_inputs out_diags : List ℕ) (r : Answered) → n ≡ m → j ≡ i → q ≡ d
    → Received m address t payload i d out_inputs out_diags r → Received n address t payload j q out_inputs out_diags r
receiving m n address t payload i j d q out_inputs out_diags r em ei ed c = rw (em, ei, ed) c

writing : (m n : DpMaster) (h : PeripheralHandle) (bytes o p out : List ℕ) (r : ℕ) → n ≡ m → p ≡ o → OutputsWritten m h bytes o out r → OutputsWritten n h bytes p out r
writing m n h bytes o p out r em eo c = rw (em, eo) c

entering : (w : World) (o : OperatingState) (z m : DpMaster) → w.unit ≡ m → z ≡ state_is (entered o m.state) m → step w (enter o) ≡ record { world = unit_is z w; answer = number 0 }
entering w o z m em c = enter_tied w o z (c ∙ ap (λ (x : DpMaster). state_is (entered o x.state) x) (sym em))

-- bytes that were written where a part lies
handing : (w : World) (h : PeripheralHandle) (nq k : ℕ) (bytes : List ℕ) (m : DpMaster) (o : List ℕ) (from to : ℕ) (seen : List ℕ) (n : ℕ) → w.unit ≡ m → lend nq w.pools.outputs ≡ o
    → seen ≡ (outputs_seen m h o).bytes → to ≡ from + (outputs_seen m h o).start → to ≡ from + k → length bytes ≡ length seen → n ≡ output_number w.unit h (lend nq w.pools.outputs)
    → step w (hand h bytes nq) ≡ record { world = outputs_are (back nq (splice k bytes (lend nq w.pools.outputs)) w.pools.outputs) w; answer = number n }
handing w h nq k bytes m o from to seen n em eo es et ek eb en =
    let start : k ≡ (outputs_seen m h o).start = omega (arith, et, ek) in
    rw en (hand_tied w h nq k bytes (rw (em, eo) start) (eb ∙ rw (em, eo) (ap length es)))

-- ---- what a call answers, by its number

numbered_so : (rows : List Row) → known rows ≡ true → (r : Result Unit Refusal) → r ≡ outcome (first_of rows) → number_of r ≡ first_of rows
numbered_so rows k (Ok v) e = sym (done_is (first_of rows) (sym e))
numbered_so rows k (Err x) e = (told rows k (sym e)).0

-- ---- the calls

pub allowed_step : AllowedIsStep
allowed_step w _ _ (by_add κs a z e c lent em es ei eo ed) =
    let r = added_of z e.0.now in add_tied w _ _ _ lent _ r (adding a.0.now w.unit _ _ _ _ _ _ _ _ _ _ _ _ r em es ei eo ed c)
allowed_step w _ _ (by_enter_state κs a z e c em) = entering w a.1.0 e.0.now a.0.now em c
allowed_step w _ _ (by_enter_stop κs a z e c em) = entering w Stop e.0.now a.0.now em c
allowed_step w _ _ (by_enter_clear κs a z e c em) = entering w Clear e.0.now a.0.now em c
allowed_step w _ _ (by_enter_operate κs a z e c em) = entering w Operate e.0.now a.0.now em c
allowed_step w _ _ (by_transmit_telegram κs a z e c ns nq em es eo) =
    let r : Turn = record { master = e.0.now; answer = z } in turn_tied w a.1.0 a.1.1.0 ns nq _ _ r (turning a.0.now w.unit _ _ _ _ _ _ _ _ r em es eo c)
allowed_step w _ _ (by_receive_reply κs a z e c ni nd em ei ed) =
    let r : Answered = record { master = e.0.now; answer = z } in reply_tied w a.1.0 a.1.1.0 _ ni nd _ _ r (receiving a.0.now w.unit _ _ _ _ _ _ _ _ _ r em ei ed c)
allowed_step w _ _ (by_reset_address κs a z e c em) = reset_tied w a.1.0 a.1.1.0 (done_of z e.0.now) (c ∙ ap (λ (m : DpMaster). reset_done m a.1.0 a.1.1.0) (sym em))
allowed_step w _ _ (by_request_diagnostics κs a z e c em) = wish_tied w a.1.0 (done_of z e.0.now) (c ∙ ap (λ (m : DpMaster). wish_done m a.1.0) (sym em))
allowed_step w _ _ (by_pi_q_mut κs a z e c λs b n f d nq k bytes em en eh eo ep ek eb) =
    handing w a.1.0 nq k bytes a.0.now a.1.1.0.now a.1.1.0.ref_ptr.1 z.ref_ptr.1 z.now (number_of n) em eo c.holds c.offset ek eb
    (numbered_so (pooled_rows (length (lend nq w.pools.outputs)) w.unit.parameters.output_pool a.1.0 w.unit.occupied) refl n (rw (en, ep, ← eh) d))
allowed_step w _ _ (by_write_outputs κs a z e c nq em eo) = write_tied w a.1.0 _ nq _ (number_of z) (writing a.0.now w.unit _ _ _ _ _ (number_of z) em eo c)

-- ---- what `pi_i` hands out

handed : (m n : DpMaster) (h : PeripheralHandle) (i j bytes : List ℕ) → n ≡ m → j ≡ i → bytes ≡ (inputs_seen m h i).bytes → bytes ≡ (inputs_seen n h j).bytes
handed m n h i j bytes em ei c = rw (em, ei) c

read_of : (w : World) (l : List Entry) (h : PeripheralHandle) (lent bytes : List ℕ) → Inv w l → Handed w h lent bytes → input_number w.unit h lent ≡ 0 → bytes ≡ image_of (slot_log h.slot l)
read_of w l _ _ _ i (by_pi_i κs a z e c ni em ei) q = handed a.0.now w.unit a.1.0 _ _ z.now em ei c.holds ∙ read_by w l i a.1.0 ni q

-- ---- one call after the other

next-call : (x : Run) (w : World) (l : List Entry) (c : Call) (o : Outcome) → x ≡ record { world = w; log = l } → step w c ≡ o → after c (step x.world c) x.log ≡ record { world = o.world; log = (after c o l).log }
next-call x w l c o e s = rw (e, s) refl

pub made-run : MadeIsRun
made-run _ _ _ _ _ (by_new κs a z e c pools) = ap (λ (d : Created). record { world = record { unit = d.master; pools = pools }; log = [] }) (sym c)
made-run _ _ _ _ _ (then u pools cs w l m c o s) = next-call (run u pools cs) w l c o (made-run u pools cs w l m) (allowed_step w c o s)

pub read_told : ReadTold
read_told u pools cs h lent bytes r q = read_of (run u pools cs).world (run u pools cs).log h lent bytes (inv_run u pools cs) r q
