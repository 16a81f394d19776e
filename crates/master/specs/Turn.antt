-- One turn: the visits, what is sent, the answer, the unit and the payload buffer afterwards.
-- From 01, "One turn", with the refusals of "Refusal numbers".
use Rattle.std.specs.Prelude.{◌≡◌, ℕ, zero, suc, ◌+◌, ◌-◌, Bool, false, ◌&&◌, cond, List, length, get_or, set, eqb}
use Rattle.parts.specs.Parts.{put_in}
use Rattle.peripheral.specs.declared.record.Peripheral.{Peripheral}
use Rattle.peripheral.specs.Record.{blank}
use Rattle.peripheral.specs.Visit.{visit_action, visited_by}
use Rattle.peripheral_set.specs.Marks.{slots}
use Rattle.cycle.specs.declared.seen.Seen.{Seen}
use Rattle.cycle.specs.declared.state.Step.{Step}
use Rattle.cycle.specs.Seen.{nothing_seen, seen_by, idle, sent_index, first_index}
use Rattle.cycle.specs.State.{operating_of, is_clear, control_due, step_of, start_of, after_turn}
use Rattle.cycle.specs.Refusal.{turn_refusal}
use Rattle.master.specs.declared.unit.DpMaster.{DpMaster}
use Rattle.answers.specs.declared.turn.TurnAnswer.{TurnAnswer}
use Rattle.answers.specs.Turn.{payload_sent, filled_of, refused_turn, answer_of}
use Rattle.master.specs.Unit.{state_is, balances_are}

-- ---- step 4: the visits

pub record Swept : Type 0 where
  pub seen : Seen
  pub balances : List Peripheral

-- n slots from i upward: each that is occupied is visited while nothing was sent yet
unfoldable pub sweep_from : ℕ → ℕ → List Bool → ℕ → Seen → List Peripheral → Swept
sweep_from zero limit marks i seen ps = record { seen = seen; balances = ps }
sweep_from (suc n) limit marks i seen ps =
    let go : Bool = get_or marks i false && idle seen.sent in
    let p : Peripheral = get_or ps i blank in
    sweep_from n limit marks (i + 1) (cond go (seen_by i (visit_action limit p) seen) seen) (cond go (set ps i (visited_by limit p)) ps)

-- ---- what a turn does

-- the step that a turn takes
abbrev pub step_at : ℕ → Bool → DpMaster → Step
step_at time high m = step_of (operating_of m.state.operating) (control_due time high m.parameters.slot_time m.state) m.state.completed

-- what the visits of a turn leave: they start at the place, and only step 4 has any
unfoldable pub swept_by : Step → DpMaster → Swept
swept_by step m =
    sweep_from (slots - start_of step m.state) m.parameters.max_retry_limit m.occupied (start_of step m.state) nothing_seen m.peripherals

-- ---- the turn

-- the unit after an accepted turn
abbrev pub unit_turned : Step → Swept → ℕ → DpMaster → DpMaster
unit_turned step w time m = state_is (after_turn step w.seen.sent time m.state) (balances_are w.balances m)

-- the balance that a request goes to
abbrev pub asked_in : Swept → Peripheral
asked_in w = get_or w.balances (sent_index w.seen.sent) blank

-- the payload that an accepted turn sends
unfoldable pub turn_payload : Step → Swept → DpMaster → List ℕ → List ℕ → List ℕ
turn_payload step w m setup outputs =
    payload_sent step w.seen.sent (asked_in w) m.parameters (is_clear (operating_of m.state.operating)) setup outputs

-- the answer of an accepted turn
unfoldable pub turn_answer : Step → Swept → DpMaster → List ℕ → List ℕ → TurnAnswer
turn_answer step w m payload buf =
    answer_of step w.seen (get_or w.balances (first_index w.seen.first) blank).station.address (filled_of step w.seen.sent (asked_in w) m.parameters payload buf)

-- what a turn leaves, and what it answers
pub record Turn : Type 0 where
  pub master : DpMaster
  pub answer : TurnAnswer

-- what a turn promises: n is its refusal, step what it does, w what its visits leave, payload what it sends
pub record Turns (n : ℕ) (step : Step) (w : Swept) (payload : List ℕ) (m : DpMaster) (time : ℕ) (buf out : List ℕ) (r : Turn) : Type 0 where
  pub after : r.master ≡ cond (eqb n 0) (unit_turned step w time m) m
  pub answer : r.answer ≡ cond (eqb n 0) (turn_answer step w m payload buf) (refused_turn n)
  pub bytes : out ≡ cond (eqb n 0) (put_in 0 (length payload) payload buf) buf

abbrev pub Turned : DpMaster → ℕ → Bool → List ℕ → List ℕ → List ℕ → List ℕ → Turn → Type 0
Turned m time high setup outputs buf out r =
    Turns (turn_refusal m.parameters m.state time (length setup) (length outputs) (length buf)) (step_at time high m) (swept_by (step_at time high m) m)
    (turn_payload (step_at time high m) (swept_by (step_at time high m) m) m setup outputs) m time buf out r
