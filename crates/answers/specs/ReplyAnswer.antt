-- What a reply makes of the parts of the unit that it touches, and its answer.
-- From 01, "Refusal numbers", and "One visit and one reply", its last line.
use Rattle.std.specs.Prelude.{ℕ, Bool, false, cond, List, length, eqb, leb}
use Rattle.fdl.specs.declared.parameters.Parameters.{Parameters}
use Rattle.fdl.specs.declared.telegram.Telegram.{Telegram}
use Rattle.payloads.specs.Request.{request_numbered}
use Rattle.station.specs.declared.state.PeripheralEvent.{PeripheralEvent}
use Rattle.station.specs.declared.state.PeripheralEvent.TheVariants.{NoEvent, Online, Configured, ConfigError, ParameterError, DataExchanged, Diagnostics, Offline as WentOffline}
use Rattle.peripheral.specs.declared.record.Peripheral.{Peripheral}
use Rattle.peripheral.specs.declared.response.Keeps.TheVariants.{Neither}
use Rattle.peripheral.specs.declared.response.Reply.{Reply}
use Rattle.peripheral.specs.Response.{reply_of}
use Rattle.peripheral_set.specs.declared.PeripheralHandle.{PeripheralHandle}
use Rattle.peripheral_set.specs.Marks.{no_handle, slots, next_after}
use Rattle.cycle.specs.declared.state.DpMasterState.{DpMasterState}
use Rattle.cycle.specs.Seen.{index_of}
use Rattle.cycle.specs.State.{answered}
use Rattle.cycle.specs.Refusal.{reply_refusal}
use Rattle.answers.specs.declared.reply_answer.Judged.{Judged}
use Rattle.answers.specs.declared.reply_answer.ReplyAnswer.{ReplyAnswer}

-- no event is no slot and no address
abbrev pub event_handle : PeripheralEvent → ℕ → ℕ → PeripheralHandle
event_handle NoEvent slot address = no_handle
event_handle Online slot address = record { slot = slot; address = address }
event_handle Configured slot address = record { slot = slot; address = address }
event_handle ConfigError slot address = record { slot = slot; address = address }
event_handle ParameterError slot address = record { slot = slot; address = address }
event_handle DataExchanged slot address = record { slot = slot; address = address }
event_handle Diagnostics slot address = record { slot = slot; address = address }
event_handle WentOffline slot address = record { slot = slot; address = address }

abbrev pub refused_reply : ℕ → ReplyAnswer
refused_reply n = record { refusal = n; cycle_completed = false; event = NoEvent; handle = no_handle }

-- the next occupied slot after the one that was asked
abbrev pub next_of : List Bool → DpMasterState → ℕ
next_of marks s = next_after marks (index_of s.open_slot)

-- with no next slot, cycle-completed is true; p is the balance that was asked
abbrev pub accepted_reply : List Bool → DpMasterState → Peripheral → Reply → ReplyAnswer
accepted_reply marks s p r =
    record {
      refusal = 0;
      cycle_completed = leb slots (next_of marks s);
      event = r.event;
      handle = event_handle r.event s.open_slot p.station.address;
    }

-- accepted: the balance as its reply leaves it; the request closed, the place at the next slot
abbrev pub judged_accepted : List Bool → DpMasterState → Peripheral → Reply → Judged
judged_accepted marks s p r =
    record { peripheral = r.peripheral; state = answered (next_of marks s) s; keeps = r.keeps; answer = accepted_reply marks s p r }

-- refused: everything stays
abbrev pub judged_refused : DpMasterState → Peripheral → ℕ → Judged
judged_refused s p n = record { peripheral = p; state = s; keeps = Neither; answer = refused_reply n }

-- by the refusal
abbrev pub judged_by : ℕ → List Bool → DpMasterState → Peripheral → Reply → Judged
judged_by n marks s p r = cond (eqb n 0) (judged_accepted marks s p r) (judged_refused s p n)

-- u, s, marks: the unit's parameters, state and marks; p: the balance with the open request
unfoldable pub judged_of : Parameters → DpMasterState → Peripheral → List Bool → ℕ → Telegram → List ℕ → ℕ → ℕ → Judged
judged_of u s p marks address t payload inputs diags =
    judged_by (reply_refusal u s p.station.address address t (length payload) inputs diags) marks s p (reply_of (request_numbered s.open_kind) t p payload inputs diags)
