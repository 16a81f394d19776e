-- `turn` meets its contract: seven numbers, what was sent, the newline.
use Rattle.script_answers.specs.Answer.{turn_text}
use Rattle.script_fields.proofs.Laws.{then, fields}
use Rattle.script_answers.proofs.turn.Goals as goal

pub returns : goal.returns
unfolding turn_text
returns c = then c.put.ensures
    (then (fields (cc) c.fields.ensures) (then c.transmission.ensures c.put-2.ensures))
