-- `reply` meets its contract: four numbers and the newline.
use Rattle.script_answers.specs.Answer.{reply_text}
use Rattle.script_fields.proofs.Laws.{then, fields}
use Rattle.script_answers.proofs.reply.Goals as goal

pub returns : goal.returns
unfolding reply_text
returns c = then c.put.ensures (then (fields (cc) c.fields.ensures) c.put-2.ensures)
