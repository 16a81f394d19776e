-- Each row of the table has the number that 01 gives it, and comes out as 01 says.
-- The idea: both columns are computed, and are the same list.
use mathlib.Core.Path.{◌≡◌, refl}
use mathlib.Core.List.{map}
use Rattle.parts.specs.Parts.{part, inside, put_in, room_for, splice}
use Rattle.fdl.specs.Params.{creation_refusal, in_force}
use Rattle.payloads.specs.Payload.{param_head, control_payload}
use Rattle.payloads.specs.Diagnosis.{diagnosis_of}
use Rattle.station.specs.Record.{with_diagnosis}
use Rattle.station.specs.Visit.{action_of}
use Rattle.station.specs.Heard.{by_flags}
use Rattle.peripheral.specs.Visit.{payload_of}
use Rattle.peripheral.specs.Response.{part_fits, station_diagnosed, fits_image, answer_to, keeps_of, diagnosis_answer, diagnosis_keeps}
use Rattle.peripheral_set.specs.Marks.{search_from}
use Rattle.addresses.specs.Addresses.{elsewhere_from}
use Rattle.cycle.specs.State.{control_due}
use Rattle.cycle.specs.Refusal.{turn_refusal, reply_refusal}
use Rattle.master.specs.Unit.{empty_unit, created_of}
use Rattle.master.specs.Add.{refusal_of}
use Rattle.master.specs.Turn.{sweep_from, swept_by, turn_payload, turn_answer}
use Rattle.master.specs.Receive.{reply_at}
use Rattle.call_log.specs.Calls.{step}
use Rattle.trial_table.specs.Table.{table, line_of, marked, expected_in}

pub rows_hold : map line_of table ≡ expected_in marked table
unfolding step creation_refusal in_force created_of empty_unit refusal_of elsewhere_from part inside put_in room_for splice param_head control_payload diagnosis_of with_diagnosis action_of by_flags payload_of answer_to keeps_of diagnosis_answer diagnosis_keeps station_diagnosed part_fits fits_image search_from control_due turn_refusal reply_refusal sweep_from swept_by turn_payload turn_answer reply_at
rows_hold = refl
