-- What can have been made of a unit: a creation and then calls of the functions, each with a result that the function's own contract allows.
-- From 01, "What the contracts have to say": answer, new record and the contents of every buffer follow from the call's inputs.
-- a: the arguments, z: the result, e: the lent unit and slices at exit; `Learnt` is what a caller learns of them from the contract, and nothing else is used.
use Rattle.std.specs.Prelude.{◌≡◌, ℕ, ◌+◌, List, [], ◌∷◌, length}
use contract.Lifetimes.{Lfts}
use borrow.Fn.Kinds.{Dens, res_t, ended_of}
use denote.Triple.Clauses.{AtExit}
use Rattle.parts.specs.Parts.{splice}
use Rattle.fdl.specs.declared.parameters.Parameters.{Parameters}
use Rattle.peripheral_set.specs.declared.PeripheralHandle.{PeripheralHandle}
use Rattle.cycle.specs.declared.refusal.Lent.{Lent}
use Rattle.cycle.specs.declared.state.OperatingState.TheVariants.{Stop, Clear, Operate}
use Rattle.refusals.specs.Table.{number_of}
use Rattle.master.specs.Pools.{Pools, lend, back}
use Rattle.master.specs.Add.{handle_given}
use Rattle.call_log.specs.Calls.{Call, add, enter, turn, reply, reset, wish, write, hand, number, added, turned, replied, World, Outcome, unit_is, outputs_are}
use Rattle.call_log.specs.Entries.{Entry}
use Rattle.call_log.specs.Run.{after}
use Rattle.master.proofs.unit.DpMaster.new.Kinds as K·new
use Rattle.master.proofs.unit.DpMaster.new.Reads as R·new
use Rattle.master.proofs.unit.DpMaster.add.Kinds as K·add
use Rattle.master.proofs.unit.DpMaster.add.Reads as R·add
use Rattle.master.proofs.unit.DpMaster.enter_state.Kinds as K·enter
use Rattle.master.proofs.unit.DpMaster.enter_state.Reads as R·enter
use Rattle.master.proofs.unit.DpMaster.enter_stop.Kinds as K·stop
use Rattle.master.proofs.unit.DpMaster.enter_stop.Reads as R·stop
use Rattle.master.proofs.unit.DpMaster.enter_clear.Kinds as K·clear
use Rattle.master.proofs.unit.DpMaster.enter_clear.Reads as R·clear
use Rattle.master.proofs.unit.DpMaster.enter_operate.Kinds as K·operate
use Rattle.master.proofs.unit.DpMaster.enter_operate.Reads as R·operate
use Rattle.master.proofs.unit.DpMaster.transmit_telegram.Kinds as K·turn
use Rattle.master.proofs.unit.DpMaster.transmit_telegram.Reads as R·turn
use Rattle.master.proofs.unit.DpMaster.receive_reply.Kinds as K·reply
use Rattle.master.proofs.unit.DpMaster.receive_reply.Reads as R·reply
use Rattle.master.proofs.unit.DpMaster.reset_address.Kinds as K·reset
use Rattle.master.proofs.unit.DpMaster.reset_address.Reads as R·reset
use Rattle.master.proofs.unit.DpMaster.request_diagnostics.Kinds as K·wish
use Rattle.master.proofs.unit.DpMaster.request_diagnostics.Reads as R·wish
use Rattle.access.proofs.images.write_outputs.Kinds as K·write
use Rattle.access.proofs.images.write_outputs.Reads as R·write
use Rattle.access.proofs.images.pi_q_mut.Kinds as K·hand
use Rattle.access.proofs.images.pi_q_mut.Reads as R·hand
use Rattle.access.proofs.images.pi_q_refusal.Kinds as K·number
use Rattle.access.proofs.images.pi_q_refusal.Reads as R·number
use Rattle.access.proofs.images.pi_i.Kinds as K·image
use Rattle.access.proofs.images.pi_i.Reads as R·image

-- a call of a function on the unit of w, lent the first so many bytes of its arrays, and what it leaves
pub data Allowed (w : World) : Call → Outcome → Type 0 where
  by_add : (κs : Lfts 7) (a : Dens κs K·add.ps) (z : (res_t K·add.r κs).Denot) (e : AtExit (ended_of 7 K·add.ps K·add.r) κs) → R·add.Learnt κs a z e
      → (lent : Lent) → w.unit ≡ a.0.now → lend lent.setup w.pools.setup ≡ a.1.1.1.1.0.now → lend lent.inputs w.pools.inputs ≡ a.1.1.1.1.1.0.now
      → lend lent.outputs w.pools.outputs ≡ a.1.1.1.1.1.1.0.now → lend lent.diags w.pools.diags ≡ a.1.1.1.1.1.1.1.0.now
      → Allowed w (add a.1.0 a.1.1.0.now a.1.1.1.0.now lent)
      (record {
        world =
            record {
              unit = e.0.now;
              pools =
                  record {
                    setup = back lent.setup e.1.1.1.1.0.now w.pools.setup;
                    inputs = back lent.inputs e.1.1.1.1.1.0.now w.pools.inputs;
                    outputs = back lent.outputs e.1.1.1.1.1.1.0.now w.pools.outputs;
                    diags = back lent.diags e.1.1.1.1.1.1.1.0.now w.pools.diags;
                  };
            };
        answer = added (number_of z) (handle_given z);
      })
  by_enter_state : (κs : Lfts 1) (a : Dens κs K·enter.ps) (z : (res_t K·enter.r κs).Denot) (e : AtExit (ended_of 1 K·enter.ps K·enter.r) κs) → R·enter.Learnt κs a z e
      → w.unit ≡ a.0.now → Allowed w (enter a.1.0) (record { world = unit_is e.0.now w; answer = number 0 })
  by_enter_stop : (κs : Lfts 1) (a : Dens κs K·stop.ps) (z : (res_t K·stop.r κs).Denot) (e : AtExit (ended_of 1 K·stop.ps K·stop.r) κs) → R·stop.Learnt κs a z e
      → w.unit ≡ a.0.now → Allowed w (enter Stop) (record { world = unit_is e.0.now w; answer = number 0 })
  by_enter_clear : (κs : Lfts 1) (a : Dens κs K·clear.ps) (z : (res_t K·clear.r κs).Denot) (e : AtExit (ended_of 1 K·clear.ps K·clear.r) κs) → R·clear.Learnt κs a z e
      → w.unit ≡ a.0.now → Allowed w (enter Clear) (record { world = unit_is e.0.now w; answer = number 0 })
  by_enter_operate : (κs : Lfts 1) (a : Dens κs K·operate.ps) (z : (res_t K·operate.r κs).Denot) (e : AtExit (ended_of 1 K·operate.ps K·operate.r) κs) → R·operate.Learnt κs a z e
      → w.unit ≡ a.0.now → Allowed w (enter Operate) (record { world = unit_is e.0.now w; answer = number 0 })
  by_transmit_telegram : (κs : Lfts 4) (a : Dens κs K·turn.ps) (z : (res_t K·turn.r κs).Denot) (e : AtExit (ended_of 4 K·turn.ps K·turn.r) κs) → R·turn.Learnt κs a z e
      → (ns nq : ℕ) → w.unit ≡ a.0.now → lend ns w.pools.setup ≡ a.1.1.1.0.now → lend nq w.pools.outputs ≡ a.1.1.1.1.0.now
      → Allowed w (turn a.1.0 a.1.1.0 ns nq a.1.1.1.1.1.0.now) (record { world = unit_is e.0.now w; answer = turned z e.1.1.1.1.1.0.now })
  by_receive_reply : (κs : Lfts 4) (a : Dens κs K·reply.ps) (z : (res_t K·reply.r κs).Denot) (e : AtExit (ended_of 4 K·reply.ps K·reply.r) κs) → R·reply.Learnt κs a z e
      → (ni nd : ℕ) → w.unit ≡ a.0.now → lend ni w.pools.inputs ≡ a.1.1.1.1.0.now → lend nd w.pools.diags ≡ a.1.1.1.1.1.0.now
      → Allowed w (reply a.1.0 a.1.1.0 a.1.1.1.0.now ni nd)
      (record {
        world =
            record {
              unit = e.0.now;
              pools =
                  record {
                    setup = w.pools.setup;
                    inputs = back ni e.1.1.1.1.0.now w.pools.inputs;
                    outputs = w.pools.outputs;
                    diags = back nd e.1.1.1.1.1.0.now w.pools.diags;
                  };
            };
        answer = replied z;
      })
  by_reset_address : (κs : Lfts 1) (a : Dens κs K·reset.ps) (z : (res_t K·reset.r κs).Denot) (e : AtExit (ended_of 1 K·reset.ps K·reset.r) κs) → R·reset.Learnt κs a z e
      → w.unit ≡ a.0.now → Allowed w (reset a.1.0 a.1.1.0) (record { world = unit_is e.0.now w; answer = number (number_of z) })
  by_request_diagnostics : (κs : Lfts 1) (a : Dens κs K·wish.ps) (z : (res_t K·wish.r κs).Denot) (e : AtExit (ended_of 1 K·wish.ps K·wish.r) κs) → R·wish.Learnt κs a z e
      → w.unit ≡ a.0.now → Allowed w (wish a.1.0) (record { world = unit_is e.0.now w; answer = number (number_of z) })
  by_write_outputs : (κs : Lfts 3) (a : Dens κs K·write.ps) (z : (res_t K·write.r κs).Denot) (e : AtExit (ended_of 3 K·write.ps K·write.r) κs) → R·write.Learnt κs a z e
      → (nq : ℕ) → w.unit ≡ a.0.now → lend nq w.pools.outputs ≡ a.1.1.1.0.now
      → Allowed w (write a.1.0 a.1.1.0.now nq) (record { world = outputs_are (back nq e.1.1.1.0.now w.pools.outputs) w; answer = number (number_of z) })
  -- `pi_q_mut`, and then bytes written through the part: they stand where it lies, k bytes behind the start of the lent pool; its number is that of `pi_q_refusal`
  by_pi_q_mut : (κs : Lfts 2) (a : Dens κs K·hand.ps) (z : (res_t K·hand.r κs).Denot) (e : AtExit (ended_of 2 K·hand.ps K·hand.r) κs) → R·hand.Learnt κs a z e
      → (λs : Lfts 2) (b : Dens λs K·number.ps) (n : (res_t K·number.r λs).Denot) (f : AtExit (ended_of 2 K·number.ps K·number.r) λs) → R·number.Learnt λs b n f
      → (nq k : ℕ) (bytes : List ℕ) → w.unit ≡ a.0.now → w.unit ≡ b.0.now → b.1.0 ≡ a.1.0 → lend nq w.pools.outputs ≡ a.1.1.0.now → lend nq w.pools.outputs ≡ b.1.1.0.now
      → z.ref_ptr.1 ≡ a.1.1.0.ref_ptr.1 + k → length bytes ≡ length z.now
      → Allowed w (hand a.1.0 bytes nq) (record { world = outputs_are (back nq (splice k bytes (lend nq w.pools.outputs)) w.pools.outputs) w; answer = number (number_of n) })

-- what `pi_i` hands out of the inputs of w, and what it was lent of them
pub data Handed (w : World) : PeripheralHandle → List ℕ → List ℕ → Type 0 where
  by_pi_i : (κs : Lfts 2) (a : Dens κs K·image.ps) (z : (res_t K·image.r κs).Denot) (e : AtExit (ended_of 2 K·image.ps K·image.r) κs) → R·image.Learnt κs a z e
      → (ni : ℕ) → w.unit ≡ a.0.now → lend ni w.pools.inputs ≡ a.1.1.0.now → Handed w a.1.0 (lend ni w.pools.inputs) z.now

-- whatever was made, newest call first: of these parameters and arrays the unit and the arrays are then w, and the log is l
pub data Made : Parameters → Pools → List Call → World → List Entry → Type 0 where
  by_new : (κs : Lfts 0) (a : Dens κs K·new.ps) (z : (res_t K·new.r κs).Denot) (e : AtExit (ended_of 0 K·new.ps K·new.r) κs) → R·new.Learnt κs a z e
      → (pools : Pools) → Made a.0 pools [] (record { unit = z.master; pools = pools }) []
  then : (u : Parameters) (pools : Pools) (cs : List Call) (w : World) (l : List Entry) → Made u pools cs w l
      → (c : Call) (o : Outcome) → Allowed w c o → Made u pools (c ∷ cs) o.world (after c o l).log
