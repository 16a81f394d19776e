-- `image` meets its contract: two numbers, the part, the newline.
use Rattle.script_answers.specs.Answer.{image_text}
use Rattle.script_fields.proofs.Laws.{then, fields}
use Rattle.script_answers.proofs.image.Goals as goal

pub returns : goal.returns
unfolding image_text
returns c = then c.put.ensures (then (fields (cc) c.fields.ensures) (then c.bytes.ensures c.put-2.ensures))
