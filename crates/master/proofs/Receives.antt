-- A reply put together from its pieces: judged, stored, kept.
-- The idea: a refusal hands the parts back, and a balance stored where it was taken out changes nothing; an accepted reply keeps in the pools what its balance makes of it.
use mathlib.Core.Path.{◌≡◌, ap, ◌∙◌}
use mathlib.Core.List.{List}
use Prim.Native.Nat.{ℕ}
use lib.Dec.{eqb}
use lib.ListN.{length, set}
use lib.Seq.{set-get_or}
use Rattle.parts.proofs.Laws.{by_test}
use Rattle.fdl.specs.declared.telegram.Telegram.{Telegram}
use Rattle.peripheral.specs.declared.record.Peripheral.{Peripheral}
use Rattle.peripheral.specs.Record.{blank}
use Rattle.peripheral.specs.Response.{Kept}
use Rattle.peripheral.proofs.Pools.{kept_inputs, kept_diags}
use Rattle.cycle.specs.Seen.{index_of}
use Rattle.answers.specs.declared.reply_answer.Judged.{Judged}
use Rattle.answers.specs.ReplyAnswer.{judged_by, judged_of}
use Rattle.master.specs.declared.unit.DpMaster.{DpMaster}
use Rattle.master.specs.Unit.{state_is, balances_are}
use Rattle.master.specs.Receive.{Answered, open_balance, open_request, reply_at, Replies, Received}

-- the unit with what was judged stored
abbrev pub stored_in : DpMaster → Judged → DpMaster
stored_in m j = state_is j.state (balances_are (set m.peripherals (index_of m.state.open_slot) j.peripheral) m)

module _ (t : Telegram) (m : DpMaster) (payload inputs diags out_inputs out_diags : List ℕ) (r : Answered) where
  by_refusal : (n : ℕ) → let j = judged_by n m.occupied m.state (open_balance m) (reply_at t m payload inputs diags) in
      Kept j.keeps (open_balance m) payload inputs diags out_inputs out_diags → r.master ≡ stored_in m j → r.answer ≡ j.answer
      → Replies n (reply_at t m payload inputs diags) t m payload inputs diags out_inputs out_diags r
  unfolding reply_at
  by_refusal n k em ea =
      by_test (eqb n 0)
      (λ e. record {
        after = rw e (rw e at em);
        answer = rw e (rw e at ea);
        input_pool = rw e (kept_inputs t (open_balance m) payload inputs diags out_inputs out_diags (open_request m) (rw e at k));
        diag_pool = rw e (kept_diags t (open_balance m) payload inputs diags out_inputs out_diags (open_request m) (rw e at k));
      })
      (λ e. record {
        after = rw e ((rw e at em) ∙ ap (λ (ps : List Peripheral). balances_are ps m) (set-get_or m.peripherals (index_of m.state.open_slot) blank));
        answer = rw e (rw e at ea);
        input_pool = rw e (rw e at k.input_pool);
        diag_pool = rw e (rw e at k.diag_pool);
      })

  pub received : (address : ℕ) → let j = judged_of m.parameters m.state (open_balance m) m.occupied address t payload (length inputs) (length diags) in
      Kept j.keeps (open_balance m) payload inputs diags out_inputs out_diags → r.master ≡ stored_in m j → r.answer ≡ j.answer
      → Received m address t payload inputs diags out_inputs out_diags r
  unfolding judged_of reply_at
  received address k em ea = by_refusal _ k em ea
