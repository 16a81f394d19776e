-- `number` ends: it calls itself at fewer digits.
use Rattle.script_fields.proofs.write.Text.+number.Given as goal

abbrev pub decreases-number : goal.decreases-number
decreases-number l = l.n
