-- One reply: the unit, the answer and the two pools afterwards.
-- From 01, "One visit and one reply", its last line, with the refusals of "Refusal numbers".
use Rattle.std.specs.Prelude.{◌≡◌, cond, ℕ, List, length, set, eqb}
use Rattle.fdl.specs.Status.{carried}
use Rattle.fdl.specs.declared.telegram.Telegram.{Telegram}
use Rattle.payloads.specs.declared.request.Request.{Request}
use Rattle.payloads.specs.Request.{request_numbered}
use Rattle.peripheral.specs.declared.record.Peripheral.{Peripheral}
use Rattle.peripheral.specs.declared.response.Reply.{Reply}
use Rattle.peripheral.specs.Response.{reply_of, diagnosis_taken, inputs_of, diags_of}
use Rattle.cycle.specs.Seen.{index_of}
use Rattle.cycle.specs.State.{answered}
use Rattle.cycle.specs.Refusal.{reply_refusal}
use Rattle.master.specs.declared.unit.DpMaster.{DpMaster}
use Rattle.answers.specs.declared.reply_answer.ReplyAnswer.{ReplyAnswer}
use Rattle.answers.specs.ReplyAnswer.{next_of, accepted_reply, refused_reply}
use Rattle.master.specs.Unit.{state_is, balances_are, balance_at}

-- what a reply leaves, and what it answers
pub record Answered : Type 0 where
  pub master : DpMaster
  pub answer : ReplyAnswer

-- the balance with the open request
abbrev pub open_balance : DpMaster → Peripheral
open_balance m = balance_at m.peripherals m.state.open_slot

-- the request that is open, by its kept number
abbrev pub open_request : DpMaster → Request
open_request m = request_numbered m.state.open_kind

-- its reply
unfoldable pub reply_at : Telegram → DpMaster → List ℕ → List ℕ → List ℕ → Reply
reply_at t m payload inputs diags = reply_of (open_request m) t (open_balance m) payload (length inputs) (length diags)

-- the next occupied slot after the one that was asked
abbrev pub next_slot : DpMaster → ℕ
next_slot m = next_of m.occupied m.state

-- its answer
abbrev pub reply_answer : DpMaster → Reply → ReplyAnswer
reply_answer m r = accepted_reply m.occupied m.state (open_balance m) r

-- the unit after an accepted reply
abbrev pub unit_replied : DpMaster → Reply → DpMaster
unit_replied m r = state_is (answered (next_slot m) m.state) (balances_are (set m.peripherals (index_of m.state.open_slot) r.peripheral) m)

-- what a reply promises: n is its refusal, is what its balance makes of it
pub record Replies (n : ℕ) (is : Reply) (t : Telegram) (m : DpMaster) (payload inputs diags out_inputs out_diags : List ℕ) (r : Answered) : Type 0 where
  pub after : r.master ≡ cond (eqb n 0) (unit_replied m is) m
  pub answer : r.answer ≡ cond (eqb n 0) (reply_answer m is) (refused_reply n)
  pub input_pool : out_inputs ≡ cond (eqb n 0) (inputs_of is.event (carried t payload) (open_balance m) inputs) inputs
  pub diag_pool : out_diags ≡ cond (eqb n 0) (diags_of (diagnosis_taken (open_request m) t (open_balance m) (length payload)) (open_balance m) payload diags) diags

abbrev pub Received : DpMaster → ℕ → Telegram → List ℕ → List ℕ → List ℕ → List ℕ → List ℕ → Answered → Type 0
Received m address t payload inputs diags out_inputs out_diags r =
    Replies (reply_refusal m.parameters m.state (open_balance m).station.address address t (length payload) (length inputs) (length diags))
    (reply_at t m payload inputs diags) t m payload inputs diags out_inputs out_diags r
