-- `header` meets its contract: seven numbers, and then the payload.
use Rattle.script_answers.specs.Answer.{header_text}
use Rattle.script_fields.proofs.Laws.{then, fields}
use Rattle.script_answers.proofs.header.Goals as goal

pub returns : goal.returns
unfolding header_text
returns c = then (fields (cc) c.fields.ensures) c.bytes.ensures
