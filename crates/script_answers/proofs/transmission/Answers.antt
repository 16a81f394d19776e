-- `transmission` meets its contract: nothing was sent.
use Rattle.script_fields.proofs.Laws.{wrote_none}
use Rattle.script_answers.proofs.transmission.Goals as goal

pub returns-in-Nothing : goal.returns-in-Nothing
returns-in-Nothing c = rw c.in-Nothing.is wrote_none
