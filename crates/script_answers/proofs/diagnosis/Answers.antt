-- `diagnosis` meets its contract: six numbers, the part, the newline.
use Rattle.script_answers.specs.Answer.{diagnosis_text}
use Rattle.script_fields.proofs.Laws.{then, fields}
use Rattle.script_answers.proofs.diagnosis.Goals as goal

pub returns : goal.returns
unfolding diagnosis_text
returns c = then c.put.ensures (then (fields (cc) c.fields.ensures) (then c.bytes.ensures c.put-2.ensures))
