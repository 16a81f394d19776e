-- The unit and the lent lengths between two lines, and which call a line makes.
-- From docs/SCRIPTS.md, "What the program holds", "Fields" (what is no call) and "Calls" (L).
use Rattle.std.specs.Prelude.{Bool, true, false, Option, Some, None, if◌then◌else◌}
use Rattle.fdl.specs.declared.parameters.Parameters.{Parameters}
use Rattle.fdl.specs.Params.{lowest}
use Rattle.master.specs.declared.unit.DpMaster.{DpMaster}
use Rattle.master.specs.Unit.{created_of}
use Rattle.refusals.specs.Table.{outcome}
use Rattle.script_lines.specs.declared.Lent.{Lent}
use Rattle.script_lines.specs.declared.Call.{Call}
use Rattle.script_lines.specs.declared.Call.TheVariants.{New}
use Rattle.script_driver.specs.declared.run.Run.{Run}
use Rattle.script_driver.specs.declared.run.Made.{Made}

-- the lent lengths that N sets: the four pool lengths of the unit's record, payload 255, list 32
abbrev pub run_lent : Parameters → Lent
run_lent u = record { setup = u.setup_pool; inputs = u.input_pool; outputs = u.output_pool; diags = u.diag_pool; payload = 255; list = 32 }

-- a unit, and those lent lengths
abbrev pub run_with : Bool → DpMaster → Run
run_with made m = record { unit = m; made = made; own = run_lent m.parameters; lent = run_lent m.parameters }

-- before the first N: no unit was made, and what stands in its place is never seen
abbrev pub nothing_made : Run
nothing_made = record { unit = (created_of lowest).master; made = false; own = run_lent lowest; lent = run_lent lowest }

-- N: a new unit, also where creation is refused
abbrev pub made_of : Parameters → Made
made_of p = record { run = run_with true (created_of p).master; outcome = outcome (created_of p).refusal }

-- L: other lent lengths for the next call
abbrev pub lend_is : Lent → Run → Run
lend_is l run = record { unit = run.unit; made = run.made; own = run.own; lent = l }

-- after a call: its unit, and the lent lengths as N set them
abbrev pub after_call : DpMaster → Run → Run
after_call m run = record { unit = m; made = run.made; own = run.own; lent = run.own }

-- the same with another unit
abbrev pub unit_is : DpMaster → Run → Run
unit_is m run = record { unit = m; made = run.made; own = run.own; lent = run.lent }

-- the call of an N
abbrev pub is_new : Call → Bool
is_new (New p) = true
is_new c = false

-- before the first N a line is no call, unless it is an N
abbrev pub only_new : Option Call → Option Call
only_new None = None
only_new (Some c) = if is_new c then Some c else None

-- a line that is too long is no call
abbrev pub call_made : Bool → Bool → Option Call → Option Call
call_made made long call = if long then None else (if made then call else only_new call)
