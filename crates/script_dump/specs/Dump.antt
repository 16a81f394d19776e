-- The dump of a unit. From docs/SCRIPTS.md, "D": the ten groups of fields in their order.
use Rattle.std.specs.Prelude.{ℕ, zero, suc, ◌+◌, Bool, false, not, cond, List, [], ◌∷◌, ◌++◌, length, get_or, eqb}
use Rattle.fdl.specs.declared.parameters.Parameters.{Parameters}
use Rattle.station.specs.Record.{last_diagnosis, stored_part}
use Rattle.peripheral.specs.declared.record.Peripheral.{Peripheral}
use Rattle.peripheral.specs.Record.{blank}
use Rattle.peripheral_set.specs.Marks.{slots, listed}
use Rattle.master.specs.declared.unit.Used.{Used}
use Rattle.cycle.specs.declared.state.DpMasterState.{DpMasterState}
use Rattle.master.specs.declared.unit.DpMaster.{DpMaster}
use Rattle.script_dump.specs.declared.Sums.{Sums}
use Rattle.script_fields.specs.Write.{flag_number, field_text, fields_text, newline}

-- 1: `own retry slot wd f1 f2 tsdr ps pi pq pd`
unfoldable pub parameters_text : Parameters → List ℕ
parameters_text u =
    fields_text
    (u.address
    ∷ u.max_retry_limit
    ∷ u.slot_time
    ∷ flag_number u.watchdog
    ∷ u.watchdog_first
    ∷ u.watchdog_second
    ∷ u.min_tsdr_bits
    ∷ u.setup_pool
    ∷ u.input_pool
    ∷ u.output_pool
    ∷ u.diag_pool
    ∷ [])

-- 2 to 7: `op lt t lg g place open asked`; a time is 0, a place or a slot 255, and what was asked 0, where there is none
unfoldable pub state_text : DpMasterState → List ℕ
state_text s =
    fields_text
    (s.operating
    ∷ flag_number s.has_turned
    ∷ cond s.has_turned s.last_turn 0
    ∷ flag_number s.controlled
    ∷ cond s.controlled s.last_control 0
    ∷ cond (not s.completed) s.slot 255
    ∷ cond (not (eqb s.open_kind 0)) s.open_slot 255
    ∷ s.open_kind
    ∷ [])

-- 8 and 9: `us ui uq ud cs ci cq cd`
unfoldable pub pools_text : Used → Sums → List ℕ
pools_text used sums =
    fields_text
    (used.setup
    ∷ used.inputs
    ∷ used.outputs
    ∷ used.diags
    ∷ sums.setup
    ∷ sums.inputs
    ∷ sums.outputs
    ∷ sums.diags
    ∷ [])

-- the length of set-up data, `x` when absent
unfoldable pub setup_text : Bool → ℕ → List ℕ
setup_text present len = cond present (field_text len) (32 ∷ 120 ∷ [])

-- `slot addr state count bit due held flags ident master ext` `ident sync freeze groups failsafe user config in out room` `os oi oq od`
unfoldable pub slot_text : ℕ → Peripheral → List ℕ
slot_text i p =
    fields_text
    (i
    ∷ p.station.address
    ∷ p.station.state
    ∷ p.station.retry_count
    ∷ p.station.fcb
    ∷ flag_number p.station.diag_needed
    ∷ flag_number (last_diagnosis p.station).held
    ∷ (last_diagnosis p.station).flags
    ∷ (last_diagnosis p.station).ident_number
    ∷ (last_diagnosis p.station).master_address
    ∷ stored_part p.station
    ∷ p.options.ident_number
    ∷ flag_number p.options.sync_mode
    ∷ flag_number p.options.freeze_mode
    ∷ p.options.groups
    ∷ flag_number p.options.fail_safe
    ∷ [])
    ++ (setup_text p.options.has_user_parameters p.options.user_parameters
    ++ (setup_text p.options.has_config p.options.config
    ++ fields_text
    (p.ranges.input_len
    ∷ p.ranges.output_len
    ∷ p.ranges.diag_room
    ∷ p.ranges.setup
    ∷ p.ranges.inputs
    ∷ p.ranges.outputs
    ∷ p.ranges.diag
    ∷ [])))

unfoldable pub slot_if : Bool → ℕ → Peripheral → List ℕ
slot_if occupied i p = cond occupied (slot_text i p) []

-- the occupied among n slots from i on, rising
unfoldable pub slots_from : ℕ → List Bool → List Peripheral → ℕ → List ℕ
slots_from zero marks all i = []
slots_from (suc n) marks all i = slot_if (get_or marks i false) i (get_or all i blank) ++ slots_from n marks all (i + 1)

-- D, and 10: `n`, and each occupied slot
unfoldable pub dump_text : DpMaster → Sums → List ℕ
dump_text m sums =
    0x44
    ∷ (parameters_text m.parameters
    ++ (state_text m.state
    ++ (pools_text m.used sums
    ++ (field_text (length (listed m.occupied)) ++ (slots_from slots m.occupied m.peripherals 0 ++ newline)))))
