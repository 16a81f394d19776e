-- Five units that could pass for one, each wrong at every call it is about. The inputs at which each is told from the promised one stand in Bench.antt.
-- From 01, "What the contracts have to say".
use Rattle.std.specs.Prelude.{ℕ, Bool, false, cond, set, eqb}
use Rattle.station.specs.declared.state.PeripheralState.TheVariants.{DataExchange}
use Rattle.station.specs.Record.{in_state}
use Rattle.peripheral.specs.declared.record.Peripheral.{Peripheral}
use Rattle.peripheral.specs.Record.{station_is}
use Rattle.cycle.specs.Seen.{index_of}
use Rattle.answers.specs.declared.turn.TurnAnswer.{TurnAnswer}
use Rattle.answers.specs.Turn.{refused_turn}
use Rattle.answers.specs.ReplyAnswer.{refused_reply}
use Rattle.master.specs.Unit.{balances_are, balance_at}
use Rattle.call_log.specs.Calls.{World, Call, add, enter, turn, reply, reset, wish, write, hand, Answer, number, added, turned, replied, Outcome, unit_is, step}

-- the number n to every call, a handle with slot and address h; nothing sent, no event
abbrev pub plain : ℕ → ℕ → Call → Answer
plain n h (add a user config lent) = added n (record { slot = h; address = h })
plain n h (enter o) = number n
plain n h (turn time high ns nq buf) = turned (refused_turn n) buf
plain n h (reply address t payload ni nd) = replied (refused_reply n)
plain n h (reset x address) = number n
plain n h (wish x) = number n
plain n h (write x bytes nq) = number n
plain n h (hand x bytes nq) = number n

-- refusing everything
abbrev pub refuses_all : World → Call → Outcome
refuses_all w c = record { world = w; answer = plain 2 255 c }

-- answering the same each time: done, slot 0, nothing sent; only its answers are wrong, what it does is as promised
abbrev pub same_answer : World → Call → Outcome
same_answer w c = record { world = (step w c).world; answer = plain 0 0 c }

-- doing nothing: only what it does is wrong, its answers are as promised
abbrev pub does_nothing : World → Call → Outcome
does_nothing w c = record { world = w; answer = (step w c).answer }

-- running all states at the first reply, and then pretending: after an accepted reply the balance that answered is in DataExchange, and the answer is the promised one
abbrev pub in_exchange : Peripheral → Peripheral
in_exchange p = station_is (in_state DataExchange p.station) p

abbrev pub pretending : ℕ → World → World
pretending slot w = unit_is (balances_are (set w.unit.peripherals (index_of slot) (in_exchange (balance_at w.unit.peripherals slot))) w.unit) w

abbrev pub reply_taken : Answer → Bool
reply_taken (number n) = false
reply_taken (added n h) = false
reply_taken (turned a buf) = false
reply_taken (replied a) = eqb a.refusal 0

abbrev pub runs_all : World → Call → Outcome
runs_all w c = let o : Outcome = step w c in record { world = cond (reply_taken o.answer) (pretending w.unit.state.open_slot o.world) o.world; answer = o.answer }

-- an invented Offline mask, at every turn
abbrev pub mask_invented : TurnAnswer → TurnAnswer
mask_invented a =
    record {
      refusal = a.refusal;
      cycle_completed = a.cycle_completed;
      offline = 4;
      event = a.event;
      handle = a.handle;
      len = a.len;
      transmission = a.transmission;
    }

abbrev pub answering : Answer → Answer
answering (number n) = number n
answering (added n h) = added n h
answering (turned a buf) = turned (mask_invented a) buf
answering (replied a) = replied a

abbrev pub invents_mask : World → Call → Outcome
invents_mask w c = record { world = (step w c).world; answer = answering (step w c).answer }
