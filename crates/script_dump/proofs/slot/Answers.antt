-- `slot` meets its contract: sixteen numbers, two lengths of set-up data, seven numbers.
use Rattle.script_dump.specs.Dump.{slot_text}
use Rattle.script_fields.proofs.Laws.{fields, then}
use Rattle.script_dump.proofs.slot.Goals as goal

pub returns : goal.returns
unfolding slot_text
returns c = then (fields (cc) c.fields.ensures) (then c.setup_len.ensures (then c.setup_len-2.ensures (fields (cc) c.fields-2.ensures)))
