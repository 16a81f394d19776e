-- Whatever a contract allows is what `step` says: for each call, over the parts of the pools that it is lent.
-- The idea: `step` is made of the right-hand sides of the contracts, so each equation of a contract is one field.
use mathlib.Core.Path.{◌≡◌, refl, sym, ◌∙◌, subst}
use Prim.Native.Nat.{ℕ, ◌+◌, ◌≤◌}
use native.Mathlib.Omega.{arith}
use mathlib.Core.Bool.{Bool, true, false, cond}
use mathlib.Core.List.{List, [], ◌∷◌}
use lib.ListN.{length}
use lib.Dec.{eqb}
use Rattle.parts.specs.Parts.{inside, part, splice, room_for, put_in}
use Rattle.parts.proofs.Laws.{by_test, inside_yes, length_part, room_yes, room_outside, put_done, put_kept, part-put}
use Rattle.peripheral.specs.Record.{output_image}
use Rattle.valid.specs.Valid.{Valid, balance, occupied}
use Rattle.fdl.specs.declared.telegram.Telegram.{Telegram}
use Rattle.peripheral_set.specs.declared.PeripheralHandle.{PeripheralHandle}
use Rattle.cycle.specs.declared.refusal.Lent.{Lent}
use Rattle.cycle.specs.declared.state.OperatingState.{OperatingState}
use Rattle.cycle.specs.State.{entered}
use Rattle.master.specs.declared.unit.DpMaster.{DpMaster}
use Rattle.master.specs.declared.add.Addition.{Addition}
use Rattle.master.specs.Unit.{Done, state_is}
use Rattle.master.specs.Pools.{Pools, lend, back, lend_all, back_all}
use Rattle.master.specs.Add.{Added, Adding}
use Rattle.master.specs.Turn.{Turn, Turned}
use Rattle.master.specs.Receive.{Answered, Received}
use Rattle.master.specs.Handle.{reset_done, wish_done}
use Rattle.access.specs.Lookup.{found_in, outputs_seen, OutputsWritten}
use Rattle.call_log.specs.Calls.{World, add, enter, turn, reply, reset, wish, write, hand, number, added, turned, replied, unit_is, outputs_are, hand_number, step}

module _ (w : World) where
  pub add_tied : (a : Addition) (user config : List ℕ) (lent : Lent) (out : Pools) (r : Added) → Adding w.unit a user config (lend_all lent w.pools) out r
      → step w (add a user config lent) ≡ record { world = record { unit = r.master; pools = back_all lent out w.pools }; answer = added r.refusal r.handle }
  unfolding step
  add_tied a user config lent out r c = rw (c.after, c.refusal, c.handle, c.written) refl

  pub enter_tied : (o : OperatingState) (r : DpMaster) → r ≡ state_is (entered o w.unit.state) w.unit → step w (enter o) ≡ record { world = unit_is r w; answer = number 0 }
  unfolding step
  enter_tied o r e = rw e refl

  pub turn_tied : (time : ℕ) (high : Bool) (ns nq : ℕ) (buf out : List ℕ) (r : Turn) → Turned w.unit time high (lend ns w.pools.setup) (lend nq w.pools.outputs) buf out r
      → step w (turn time high ns nq buf) ≡ record { world = unit_is r.master w; answer = turned r.answer out }
  unfolding step
  turn_tied time high ns nq buf out r c = rw (c.after, c.answer, c.bytes) refl

  pub reply_tied : (address : ℕ) (t : Telegram) (payload : List ℕ) (ni nd : ℕ) (out_inputs out_diags : List ℕ) (r : Answered)
      → Received w.unit address t payload (lend ni w.pools.inputs) (lend nd w.pools.diags) out_inputs out_diags r
      → step w (reply address t payload ni nd)
      ≡ record {
        world =
            record {
              unit = r.master;
              pools = record { setup = w.pools.setup; inputs = back ni out_inputs w.pools.inputs; outputs = w.pools.outputs; diags = back nd out_diags w.pools.diags };
            };
        answer = replied r.answer;
      }
  unfolding step
  reply_tied address t payload ni nd out_inputs out_diags r c = rw (c.after, c.answer, c.input_pool, c.diag_pool) refl

  pub reset_tied : (h : PeripheralHandle) (address : ℕ) (r : Done) → r ≡ reset_done w.unit h address → step w (reset h address) ≡ record { world = unit_is r.master w; answer = number r.refusal }
  unfolding step
  reset_tied h address r e = rw e refl

  pub wish_tied : (h : PeripheralHandle) (r : Done) → r ≡ wish_done w.unit h → step w (wish h) ≡ record { world = unit_is r.master w; answer = number r.refusal }
  unfolding step
  wish_tied h r e = rw e refl

  pub write_tied : (h : PeripheralHandle) (bytes : List ℕ) (nq : ℕ) (out : List ℕ) (r : ℕ) → OutputsWritten w.unit h bytes (lend nq w.pools.outputs) out r
      → step w (write h bytes nq)
      ≡ record {
        world =
            outputs_are (back nq out w.pools.outputs) w;
        answer = number r;
      }
  unfolding step
  write_tied h bytes nq out r c = rw (c.answer, c.pool) refl

  -- bytes that stand where the part lies: in the image where the number is 0 and the range lies in the pool, else there are none
  no_bytes : (bytes l : List ℕ) → length bytes ≡ 0 → splice 0 bytes l ≡ l
  unfolding splice
  no_bytes [] l e = refl
  no_bytes (x ∷ xs) l e = absurd (omega arith)

  lies_at : (ok : Bool) (at len : ℕ) (bytes lent : List ℕ) → length bytes ≡ length (cond ok (part at len lent) [])
      → cond ok (put_in at len bytes lent) lent ≡ splice (cond ok (cond (inside at len lent) at 0) 0) bytes lent
  lies_at true at len bytes lent e =
      by_test (inside at len lent)
      (λ q. rw q (put_done at len bytes lent (room_yes at len bytes lent (let n : length bytes ≡ len = e ∙ length_part at len lent ∙ rw q refl in omega arith) q)))
      (λ q. rw q (put_kept at len bytes lent (room_outside at len bytes lent q) ∙ sym (no_bytes bytes lent (e ∙ length_part at len lent ∙ rw q refl))))
  lies_at false at len bytes lent e = sym (no_bytes bytes lent e)

  pub hand_tied : (h : PeripheralHandle) (nq k : ℕ) (bytes : List ℕ) → let seen = outputs_seen w.unit h (lend nq w.pools.outputs) in
      k ≡ seen.start → length bytes ≡ length seen.bytes
      → step w (hand h bytes nq) ≡ record { world = outputs_are (back nq (splice k bytes (lend nq w.pools.outputs)) w.pools.outputs) w; answer = number (hand_number h nq w) }
  unfolding step
  hand_tied h nq k bytes ek eb =
      let p = found_in w.unit h in
      rw (ek, lies_at (eqb (hand_number h nq w) 0) p.ranges.outputs p.ranges.output_len bytes (lend nq w.pools.outputs) eb) refl

-- and any contents of an output image can be put there: bytes as long as the image
pub hand_any : (w : World) → Valid w.unit → (h : PeripheralHandle) (bytes : List ℕ) (nq : ℕ) → let p = balance w.unit h.slot in
    let lent = lend nq w.pools.outputs in
    occupied w.unit h.slot → length lent ≡ w.unit.parameters.output_pool → length bytes ≡ p.ranges.output_len
    → output_image p (put_in p.ranges.outputs p.ranges.output_len bytes lent) ≡ bytes
hand_any w v h bytes nq o n b =
    let p = balance w.unit h.slot in
    let lent = lend nq w.pools.outputs in
    let lies : p.ranges.outputs + p.ranges.output_len ≤ length lent = omega (arith, (v.placed h.slot o).output_end) in
    let room : room_for p.ranges.outputs p.ranges.output_len bytes lent ≡ true = room_yes p.ranges.outputs p.ranges.output_len bytes lent (omega arith) (inside_yes p.ranges.outputs p.ranges.output_len lent lies) in
    subst (λ (k : ℕ). part p.ranges.outputs k (put_in p.ranges.outputs p.ranges.output_len bytes lent) ≡ bytes) b (part-put p.ranges.outputs p.ranges.output_len bytes lent ∙ rw room refl)
