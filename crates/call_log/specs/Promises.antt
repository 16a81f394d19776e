-- The promises of demand 3, and what the proof gives beside them: over every creation, refused or not, every contents of the four pools, every list of calls,
-- refused ones included. The definitions of the words stand in Notes.antt, Entries.antt and Words.antt, those of calls and runs in Calls.antt and Run.antt; the proofs are in proofs/.
-- From 01, "Words of the log" and "What the contracts have to say".
use Rattle.std.specs.Prelude.{◌≡◌, ◌↔◌, ℕ, ◌<◌, ◌^◌, Bool, true, false, not, ◌&&◌, cond, List, T, eqb, ltb}
use Rattle.std.proofs.Math.Option.{some}
use Rattle.fdl.specs.declared.parameters.Parameters.{Parameters}
use Rattle.fdl.specs.Bits.{bit_of}
use Rattle.fdl.specs.declared.telegram.FrameCountBit.{FrameCountBit}
use Rattle.fdl.specs.declared.telegram.FrameCountBit.TheVariants.{Inactive}
use Rattle.fdl.specs.declared.telegram.Telegram.{Telegram}
use Rattle.station.specs.declared.state.PeripheralEvent.{PeripheralEvent}
use Rattle.station.specs.declared.state.PeripheralEvent.TheVariants.{NoEvent, Offline}
use Rattle.station.specs.Record.{is_running}
use Rattle.station.specs.Heard.{is_exchanged}
use Rattle.peripheral.specs.Record.{input_image}
use Rattle.peripheral_set.specs.declared.PeripheralHandle.{PeripheralHandle}
use Rattle.peripheral_set.specs.Marks.{slots}
use Rattle.cycle.specs.declared.refusal.Lent.{Lent}
use Rattle.cycle.specs.State.{operating_of}
use Rattle.answers.specs.declared.turn.Transmission.{Transmission}
use Rattle.answers.specs.declared.turn.Transmission.TheVariants.{Nothing, Control, Request as Asks}
use Rattle.answers.specs.declared.turn.TurnAnswer.{TurnAnswer}
use Rattle.answers.specs.Turn.{refused_turn}
use Rattle.master.specs.declared.unit.DpMaster.{DpMaster}
use Rattle.master.specs.declared.add.Addition.{Addition}
use Rattle.access.specs.Lookup.{input_number}
use Rattle.valid.specs.Valid.{Valid, Apart, balance}
use Rattle.master.specs.Pools.{Pools, lend}
use Rattle.call_log.specs.Calls.{Call, add, turn, reply, turned, World, Outcome, accepted, refusal, step}
use Rattle.call_log.specs.Notes.{turn_of, event_of, slot_given, slot_asked, is_offline, bit_set, reported_offline}
use Rattle.call_log.specs.Entries.{Entry, target, slot_log, Frame, frame_of, occupied_in, FirstEmpty, Moved, reached}
use Rattle.call_log.specs.Words.{last_asked, judged, brings_image, image_of, frame_bit, Due, Ready, Running, asks_data}
use Rattle.call_log.specs.Run.{run_by, run, accepted_of}
use Rattle.call_log.specs.Made.{Allowed, Handed, Made}

-- ---- what is read of a unit

-- the input image of a slot: its range of the part of the input pool that a call has to be lent
abbrev pub image_in : World → ℕ → List ℕ
image_in w s = input_image (balance w.unit s) (lend w.unit.parameters.input_pool w.pools.inputs)

-- its operating state, its occupied slots and its place
abbrev pub frame_in : DpMaster → Frame
frame_in m =
    record {
      mode = operating_of m.state.operating;
      marks = m.occupied;
      place = record { slot = m.state.slot; past = m.state.completed };
    }

-- ---- IMAGE: of every slot that the log says is occupied, the input image is the payload of the newest reply reported DataExchanged since the slot was added,
-- else zeros of its length

-- said of what calls do by f, so that it can be said of wrong units too
abbrev pub ImageAt : (World → Call → Outcome) → Parameters → Pools → List Call → Type 0
ImageAt f u pools cs = (s : ℕ) → let r = run_by f u pools cs in T (occupied_in r.log s) → image_in r.world s ≡ image_of (slot_log s r.log)

abbrev pub ImageBy : (World → Call → Outcome) → Type 0
ImageBy f = (u : Parameters) (pools : Pools) (cs : List Call) → ImageAt f u pools cs

abbrev pub ImageTold : Type 0
ImageTold = ImageBy step

-- and it is what `pi_i` hands out, where its number is 0: said of any result that its contract allows
abbrev pub ReadTold : Type 0
ReadTold = (u : Parameters) (pools : Pools) (cs : List Call) (h : PeripheralHandle) (lent bytes : List ℕ) → let r = run u pools cs in
    Handed r.world h lent bytes → input_number r.world.unit h lent ≡ 0 → bytes ≡ image_of (slot_log h.slot r.log)

-- ---- ASKED: at a turn that reaches it without reporting it Offline, a balance is asked for data exactly when no diagnosis is due and, since its last fall,
-- the log holds acknowledged parameters, later acknowledged configuration, later a clean diagnosis with no "SAP not enabled" after it

-- a is what the turn answers
abbrev pub AskedAt : (World → Call → Outcome) → Parameters → Pools → List Call → Type 0
AskedAt f u pools cs = (time : ℕ) (high : Bool) (ns nq : ℕ) (buf : List ℕ) (s : ℕ)
    → let log = (run_by f u pools cs).log in
    let a = turn_of (f (run_by f u pools cs).world (turn time high ns nq buf)).answer in
    T (reached log a s) → T (not (reported_offline s a)) → T (asks_data s a.transmission) ↔ ((Due (slot_log s log) → ⊥) × Ready (slot_log s log))

abbrev pub AskedBy : (World → Call → Outcome) → Type 0
AskedBy f = (u : Parameters) (pools : Pools) (cs : List Call) → AskedAt f u pools cs

abbrev pub AskedTold : Type 0
AskedTold = AskedBy step

-- and whom a turn asks, it reached
abbrev pub ReachedTold : Type 0
ReachedTold = (u : Parameters) (pools : Pools) (cs : List Call) (time : ℕ) (high : Bool) (ns nq : ℕ) (buf : List ℕ) (s : ℕ) → let r = run u pools cs in
    let a = turn_of (step r.world (turn time high ns nq buf)).answer in slot_asked a.transmission ≡ some s → T (reached r.log a s)

-- ---- DATA: an accepted reply is reported DataExchanged exactly when it answers a data request and is data with status 0, 8 or 10 as long as the slot's input image,
-- or a short confirmation where that image has 0 bytes: whatever is due, no weight is thrown away

-- e is what the reply to the slot asked last reports; l is the log before it
pub record Exchanged (l : List Entry) (t : Telegram) (payload : List ℕ) (e : PeripheralEvent) : Type 0 where
  pub slot : ℕ
  pub newest : target l ≡ some slot
  pub when : is_exchanged e ≡ (judged (last_asked (slot_log slot l)) && brings_image (image_of (slot_log slot l)) t payload)

abbrev pub DataTold : Type 0
DataTold = (u : Parameters) (pools : Pools) (cs : List Call) (address : ℕ) (t : Telegram) (payload : List ℕ) (ni nd : ℕ) → let r = run u pools cs in
    let x = (step r.world (reply address t payload ni nd)).answer in accepted x ≡ true → Exchanged r.log t payload (event_of x)

-- ---- MASK: at a turn, bit s of the Offline mask is set exactly when the turn reached slot s and its count was above the limit; the event is that of the lowest bit

-- the mask and the event of a turn's answer a; m is the unit before the turn
pub record MaskEvent (m : DpMaster) (a : TurnAnswer) : Type 0 where
  -- no bit above the slots
  pub above : a.offline < 2 ^ slots
  -- Offline exactly when a bit is set
  pub event : a.event ≡ cond (eqb a.offline 0) NoEvent Offline
  -- its slot has its bit, and none before it has
  pub own : T (is_offline a.event) → T (bit_set a.handle.slot a.offline)
  pub lowest : T (is_offline a.event) → (s : ℕ) → s < a.handle.slot → T (not (bit_set s a.offline))
  pub address : T (is_offline a.event) → a.handle.address ≡ (balance m a.handle.slot).station.address

-- l is the log before it
pub record Masked (l : List Entry) (m : DpMaster) (a : TurnAnswer) : Type 0 where
  pub bits : (s : ℕ) → bit_set s a.offline ≡ (reached l a s && ltb m.parameters.max_retry_limit (balance m s).station.retry_count)
  pub said : MaskEvent m a

abbrev pub MaskBy : (World → Call → Outcome) → Type 0
MaskBy f = (u : Parameters) (pools : Pools) (cs : List Call) (time : ℕ) (high : Bool) (ns nq : ℕ) (buf : List ℕ)
    → let r = run_by f u pools cs in Masked r.log r.world.unit (turn_of (f r.world (turn time high ns nq buf)).answer)

abbrev pub MaskTold : Type 0
MaskTold = MaskBy step

-- ---- BIT: of every slot that the log says is occupied, the frame bit in the record is the one that the slot's log says,
-- and so is the one in the header of every request that a turn sends to it, by the log before that turn

abbrev pub BitTold : Type 0
BitTold = (u : Parameters) (pools : Pools) (cs : List Call) (s : ℕ) → T (occupied_in (run u pools cs).log s)
    → bit_of (balance (run u pools cs).world.unit s).station.fcb ≡ frame_bit (slot_log s (run u pools cs).log)

abbrev pub bit_sent : Transmission → FrameCountBit
bit_sent Nothing = Inactive
bit_sent (Control header) = header.fcb
bit_sent (Asks slot k header) = header.fcb

abbrev pub SentBitTold : Type 0
SentBitTold = (u : Parameters) (pools : Pools) (cs : List Call) (time : ℕ) (high : Bool) (ns nq : ℕ) (buf : List ℕ) (s : ℕ)
    → let a = turn_of (step (run u pools cs).world (turn time high ns nq buf)).answer in
    slot_asked a.transmission ≡ some s → bit_sent a.transmission ≡ frame_bit (slot_log s (run u pools cs).log)

-- ---- beside them

-- a balance is in DataExchange exactly when the log says so
abbrev pub RunningTold : Type 0
RunningTold = (u : Parameters) (pools : Pools) (cs : List Call) (s : ℕ) → T (occupied_in (run u pools cs).log s)
    → T (is_running (balance (run u pools cs).world.unit s).station) ↔ Running (slot_log s (run u pools cs).log)

-- operating state, occupied slots and place are what the log says
abbrev pub FrameTold : Type 0
FrameTold = (u : Parameters) (pools : Pools) (cs : List Call) → frame_in (run u pools cs).world.unit ≡ frame_of (run u pools cs).log

-- an accepted add takes the first empty slot
abbrev pub FirstTold : Type 0
FirstTold = (u : Parameters) (pools : Pools) (cs : List Call) (a : Addition) (user config : List ℕ) (lent : Lent) → let r = run u pools cs in
    let x = (step r.world (add a user config lent)).answer in accepted x ≡ true → FirstEmpty r.log (slot_given x)

-- an accepted reply moves the place to the next occupied slot
abbrev pub NextTold : Type 0
NextTold = (u : Parameters) (pools : Pools) (cs : List Call) (address : ℕ) (t : Telegram) (payload : List ℕ) (ni nd : ℕ) → let r = run u pools cs in
    let o = step r.world (reply address t payload ni nd) in accepted o.answer ≡ true → Moved r.log (frame_in o.world.unit).place

-- a refused call changes neither the unit nor a byte of a pool, nor, if it is a turn, of the payload buffer
abbrev pub RefusedSame : Type 0
RefusedSame = (w : World) (c : Call) → accepted (step w c).answer ≡ false → (step w c).world ≡ w

abbrev pub BufferSame : Type 0
BufferSame = (w : World) (time : ℕ) (high : Bool) (ns nq : ℕ) (buf : List ℕ) → let x = (step w (turn time high ns nq buf)).answer in accepted x ≡ false → x ≡ turned (refused_turn (refusal x)) buf

-- so refused calls leave no trace: a run with them left out gives the same unit, pools and log
abbrev pub NoTrace : Type 0
NoTrace = (u : Parameters) (pools : Pools) (cs : List Call) → run u pools (accepted_of u pools cs) ≡ run u pools cs

-- `Valid` holds after any calls
abbrev pub AlwaysValid : Type 0
AlwaysValid = (u : Parameters) (pools : Pools) (cs : List Call) → Valid (run u pools cs).world.unit

-- the ranges of two slots that the log says are occupied never overlap, in none of the four pools
abbrev pub NeverOverlap : Type 0
NeverOverlap = (u : Parameters) (pools : Pools) (cs : List Call) (s t : ℕ) → T (occupied_in (run u pools cs).log s) → T (occupied_in (run u pools cs).log t)
    → (s ≡ t → ⊥) → Apart (balance (run u pools cs).world.unit s) (balance (run u pools cs).world.unit t)

-- the addresses of two different slots that the log says are occupied differ
abbrev pub AddressesDiffer : Type 0
AddressesDiffer = (u : Parameters) (pools : Pools) (cs : List Call) (s t : ℕ) → T (occupied_in (run u pools cs).log s) → T (occupied_in (run u pools cs).log t)
    → (s ≡ t → ⊥) → (balance (run u pools cs).world.unit s).station.address ≡ (balance (run u pools cs).world.unit t).station.address → ⊥

-- ---- how the functions stand to `step` and `run`

-- whatever the contract of a function allows is what `step` says
abbrev pub AllowedIsStep : Type 0
AllowedIsStep = (w : World) (c : Call) (o : Outcome) → Allowed w c o → step w c ≡ o

-- so whatever was made is a run, and every promise here is one of it
abbrev pub MadeIsRun : Type 0
MadeIsRun = (u : Parameters) (pools : Pools) (cs : List Call) (w : World) (l : List Entry) → Made u pools cs w l → run u pools cs ≡ record { world = w; log = l }
