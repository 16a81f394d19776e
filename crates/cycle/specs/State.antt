-- The master's own state: operating state, cycle place, open request, times; what a turn does, and what turns, replies and resets leave of it.
-- From 01, "The unit and its sizes" (a fresh unit), "Refusal numbers" (open requests) and "One turn".
use Rattle.std.specs.Prelude.{ℕ, ◌-◌, ◌*◌, Bool, true, false, not, ◌&&◌, cond, ltb, leb, eqb, Option, Some, None}
use Rattle.payloads.specs.Request.{kind_number}
use Rattle.peripheral_set.specs.Marks.{slots}
use Rattle.cycle.specs.declared.seen.Sent.{Sent}
use Rattle.cycle.specs.declared.state.DpMasterState.{DpMasterState}
use Rattle.cycle.specs.declared.state.OperatingState.{OperatingState}
use Rattle.cycle.specs.declared.state.OperatingState.TheVariants.{Stop, Clear, Operate}
use Rattle.cycle.specs.declared.state.Step.{Step}
use Rattle.cycle.specs.declared.state.Step.TheVariants.{Halt, Control, Back, Visits}

abbrev pub operating_number : OperatingState → ℕ
operating_number Stop = 0
operating_number Clear = 1
operating_number Operate = 2

-- any other number counts as Stop
abbrev pub operating_of : ℕ → OperatingState
operating_of n = cond (eqb n 1) Clear (cond (eqb n 2) Operate Stop)

abbrev pub is_clear : OperatingState → Bool
is_clear Stop = false
is_clear Clear = true
is_clear Operate = false

-- a request is open: its kind is not 0; a slot number that is no slot's counts as none (DECISIONS 27)
abbrev pub is_open : DpMasterState → Bool
is_open s = not (eqb s.open_kind 0) && ltb s.open_slot slots

-- a fresh unit is in Stop, its place at the first slot, nothing open
abbrev pub fresh_state : DpMasterState
fresh_state =
    record {
      last_turn = 0;
      last_control = 0;
      slot = 0;
      completed = false;
      open_slot = 0;
      open_kind = 0;
      has_turned = false;
      controlled = false;
      operating = operating_number Stop;
    }

-- setting a state: no global control was sent since; setting the same one counts, and no request is closed
abbrev pub entered : OperatingState → DpMasterState → DpMasterState
entered o s =
    record {
      last_turn = s.last_turn;
      last_control = 0;
      slot = s.slot;
      completed = s.completed;
      open_slot = s.open_slot;
      open_kind = s.open_kind;
      has_turned = s.has_turned;
      controlled = false;
      operating = operating_number o;
    }

-- ---- what a turn does

-- step 2: not `high_prio_only`, and either none was sent since the state was last set, or the time since is at least 50 slot times
unfoldable pub control_due : ℕ → Bool → ℕ → DpMasterState → Bool
control_due time high slot_time s = cond high false (cond s.controlled (leb (50 * slot_time) (time - s.last_control)) true)

-- steps 2 to 4
abbrev pub running_of : Bool → Bool → Step
running_of due completed = cond due Control (cond completed Back Visits)

-- steps 1 to 4
abbrev pub step_of : OperatingState → Bool → Bool → Step
step_of Stop due completed = Halt
step_of Clear due completed = running_of due completed
step_of Operate due completed = running_of due completed

-- the visits start at the place; no other step visits
abbrev pub start_of : Step → DpMasterState → ℕ
start_of Halt s = slots
start_of Control s = slots
start_of Back s = slots
start_of Visits s = s.slot

-- ---- what is left of the state: the words, of which each changes one thing

-- the time of an accepted turn
abbrev pub timed : ℕ → DpMasterState → DpMasterState
timed time s =
    record {
      last_turn = time;
      last_control = s.last_control;
      slot = s.slot;
      completed = s.completed;
      open_slot = s.open_slot;
      open_kind = s.open_kind;
      has_turned = true;
      controlled = s.controlled;
      operating = s.operating;
    }

-- the time of the global control
abbrev pub controlled_at : ℕ → DpMasterState → DpMasterState
controlled_at time s =
    record {
      last_turn = s.last_turn;
      last_control = time;
      slot = s.slot;
      completed = s.completed;
      open_slot = s.open_slot;
      open_kind = s.open_kind;
      has_turned = s.has_turned;
      controlled = true;
      operating = s.operating;
    }

-- the place, and whether the cycle is completed
abbrev pub place_is : ℕ → Bool → DpMasterState → DpMasterState
place_is slot completed s =
    record {
      last_turn = s.last_turn;
      last_control = s.last_control;
      slot = slot;
      completed = completed;
      open_slot = s.open_slot;
      open_kind = s.open_kind;
      has_turned = s.has_turned;
      controlled = s.controlled;
      operating = s.operating;
    }

-- the open request, to a slot and by the number of its kind
abbrev pub opened : ℕ → ℕ → DpMasterState → DpMasterState
opened slot kind s =
    record {
      last_turn = s.last_turn;
      last_control = s.last_control;
      slot = s.slot;
      completed = s.completed;
      open_slot = slot;
      open_kind = kind;
      has_turned = s.has_turned;
      controlled = s.controlled;
      operating = s.operating;
    }

-- no request is open: slot 0 and kind 0 (DECISIONS 26)
abbrev pub closed : DpMasterState → DpMasterState
closed s = opened 0 0 s

-- ---- what is left of the state after each call

-- step 4: the place is the slot that sent, whose request is open; or the first slot
abbrev pub after_visits : Option Sent → DpMasterState → DpMasterState
after_visits None s = place_is 0 false s
after_visits (Some sent) s = opened sent.slot (kind_number sent.kind) (place_is sent.slot false s)

-- what each step leaves besides
abbrev pub after_step : Step → Option Sent → ℕ → DpMasterState → DpMasterState
after_step Halt sent time s = s
after_step Control sent time s = controlled_at time s
after_step Back sent time s = place_is 0 false s
after_step Visits sent time s = after_visits sent s

-- an accepted turn records its time and closes any open request
abbrev pub after_turn : Step → Option Sent → ℕ → DpMasterState → DpMasterState
after_turn step sent time s = after_step step sent time (closed (timed time s))

-- an accepted reply closes the request; the place moves to the next occupied slot, with none the cycle is completed
abbrev pub answered : ℕ → DpMasterState → DpMasterState
answered next s = cond (ltb next slots) (place_is next false (closed s)) (place_is 0 true (closed s))

-- `reset_address` closes that balance's request
abbrev pub closed_for : ℕ → DpMasterState → DpMasterState
closed_for slot s = cond (eqb s.open_slot slot) (closed s) s
