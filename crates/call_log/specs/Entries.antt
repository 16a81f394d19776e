-- The log, and what follows from it but is no word of one slot's log: the slot that was asked last, the notes of each slot, operating state, occupied slots, place, and which slots a turn reached.
-- From 01, "Words of the log"; the place is from "One turn" and "One visit and one reply". A log is newest first, and so are the notes that it holds of one slot.
use Rattle.std.specs.Prelude.{◌≡◌, ℕ, ◌<◌, Bool, true, false, not, ◌&&◌, cond, List, [], ◌∷◌, T, eqb, ltb, leb, get_or, set, replicate}
use Rattle.std.proofs.Math.Option.{Option, none, some}
use Rattle.peripheral_set.specs.Marks.{slots, next_after}
use Rattle.cycle.specs.declared.state.OperatingState.{OperatingState}
use Rattle.cycle.specs.declared.state.OperatingState.TheVariants.{Stop, Clear, Operate}
use Rattle.answers.specs.declared.turn.TurnAnswer.{TurnAnswer}
use Rattle.answers.specs.declared.turn.Transmission.{Transmission}
use Rattle.answers.specs.declared.turn.Transmission.TheVariants.{Nothing, Control, Request as Asks}
use Rattle.call_log.specs.Calls.{Call, add, enter, turn, reply, reset, wish, write, hand, Answer}
use Rattle.call_log.specs.Notes.{turn_of, event_of, slot_given, slot_asked, reported_offline, Note, was_added, readdressed, wished, went_offline, got, note_if, note_at, note_asked}

-- an accepted call with its answer
pub record Entry : Type 0 where
  pub call : Call
  pub answer : Answer

-- ---- the place

-- where the visits of the next turn start; past: the cycle was completed by a reply, and no turn took the place back yet
pub record Place : Type 0 where
  pub slot : ℕ
  pub past : Bool

abbrev pub first_place : Place
first_place = record { slot = 0; past = false }

-- a turn that sent nothing and did not complete the cycle: in Stop the place is kept, else it is taken back to the first slot
abbrev pub quiet_place : OperatingState → Place → Place
quiet_place Stop p = p
quiet_place Clear p = first_place
quiet_place Operate p = first_place

-- the turn rules: at the slot that was asked; kept at a global control; the first slot past the last
abbrev pub place_turned : OperatingState → Bool → Transmission → Place → Place
place_turned m completed Nothing p = cond completed first_place (quiet_place m p)
place_turned m completed (Control header) p = p
place_turned m completed (Asks t k header) p = record { slot = t; past = false }

-- the reply rule: the next occupied slot; with none the cycle is completed
abbrev pub place_next : ℕ → Place
place_next next = cond (ltb next slots) (record { slot = next; past = false }) (record { slot = 0; past = true })

abbrev pub place_replied : List Bool → Option ℕ → Place → Place
place_replied marks none p = p
place_replied marks (some t) p = place_next (next_after marks t)

-- operating state, occupied slots, place
pub record Frame : Type 0 where
  pub mode : OperatingState
  pub marks : List Bool
  pub place : Place

-- ---- what an entry says

-- to the slot that was asked last; to the notes of slot s, t being the slot that was asked last; to operating state, occupied slots and place
pub record Saying : Type 0 where
  pub asks : Option ℕ → Option ℕ
  pub notes : (s : ℕ) (t : Option ℕ) → List Note → List Note
  pub frame : (t : Option ℕ) → Frame → Frame

abbrev pub says_nothing : Saying
says_nothing = record { asks = λ o. o; notes = λ s t l. l; frame = λ t f. f }

-- a note of one slot, and nothing else
abbrev pub one_note : ℕ → Note → Saying
one_note slot x = record { asks = λ o. o; notes = λ s t l. note_if (eqb s slot) x l; frame = λ t f. f }

-- each call, once
abbrev pub says : Call → Answer → Saying
says (add a user config lent) x =
    record {
      asks = λ o. o;
      notes = λ s t l. note_if (eqb s (slot_given x)) (was_added a) l;
      frame = λ t f. record { mode = f.mode; marks = set f.marks (slot_given x) true; place = f.place };
    }
says (enter m) x = record { asks = λ o. o; notes = λ s t l. l; frame = λ t f. record { mode = m; marks = f.marks; place = f.place } }
says (turn time high ns nq buf) x =
    record {
      asks = λ o. slot_asked (turn_of x).transmission;
      notes = λ s t l. cond (reported_offline s (turn_of x)) (went_offline ∷ l) (note_asked s (turn_of x).transmission l);
      frame = λ t f. record { mode = f.mode; marks = f.marks; place = place_turned f.mode (turn_of x).cycle_completed (turn_of x).transmission f.place };
    }
says (reply address r payload ni nd) x =
    record {
      asks = λ o. o;
      notes = λ s t l. note_at s t (got r payload (event_of x)) l;
      frame = λ t f. record { mode = f.mode; marks = f.marks; place = place_replied f.marks t f.place };
    }
says (reset h address) x = one_note h.slot readdressed
says (wish h) x = one_note h.slot wished
says (write h bytes nq) x = says_nothing
says (hand h bytes nq) x = says_nothing

-- the slot that the newest turn of the log asked: the next accepted reply is from there
abbrev pub target : List Entry → Option ℕ
target [] = none
target (e ∷ l) = (says e.call e.answer).asks (target l)

abbrev pub slot_log : ℕ → List Entry → List Note
slot_log s [] = []
slot_log s (e ∷ l) = (says e.call e.answer).notes s (target l) (slot_log s l)

abbrev pub frame_of : List Entry → Frame
frame_of [] = record { mode = Stop; marks = replicate slots false; place = first_place }
frame_of (e ∷ l) = (says e.call e.answer).frame (target l) (frame_of l)

-- ---- occupied slots, and which slots a turn reached

abbrev pub occupied_in : List Entry → ℕ → Bool
occupied_in l s = get_or (frame_of l).marks s false

-- the first empty slot: none before it is empty
pub record FirstEmpty (l : List Entry) (s : ℕ) : Type 0 where
  pub slot : s < slots
  pub empty : T (not (occupied_in l s))
  pub before : (t : ℕ) → t < s → T (occupied_in l t)

-- the place after a reply: at the next occupied slot after the one that the newest turn asked, with no occupied slot between; with none, the cycle is completed
pub record Moved (l : List Entry) (p : Place) : Type 0 where
  pub slot : ℕ
  pub newest : target l ≡ some slot
  pub next : p.past ≡ false → (slot < p.slot) × T (occupied_in l p.slot)
  pub between : (s : ℕ) → slot < s → s < cond p.past slots p.slot → T (not (occupied_in l s))

-- how far the visits went: up to the slot that was asked, or to the last when none was; in steps 1 to 3 nowhere
abbrev pub up_to : ℕ → Bool → Transmission → Bool
up_to s completed Nothing = completed
up_to s completed (Control header) = false
up_to s completed (Asks t k header) = leb s t

-- reached at a turn with this answer, after this log
abbrev pub reached : List Entry → TurnAnswer → ℕ → Bool
reached l a s = occupied_in l s && leb (frame_of l).place.slot s && up_to s a.cycle_completed a.transmission
