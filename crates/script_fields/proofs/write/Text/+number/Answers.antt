-- `number` meets its contract: the digits of n / 10, where there are more than one, and then the last one.
use native.Mathlib.Omega.{arith}
use Rattle.script_fields.proofs.Laws.{then, one_digit, more_digits}
use Rattle.script_fields.proofs.write.Text.+number.Goals.{then-n-ge10, else-n-ge10}
use Rattle.script_fields.proofs.write.Text.+number.Goals as goal

pub returns : goal.returns
returns t c =
    elim c.if-n-ge10.branch [
      | then-n-ge10 w ↦ rw (more_digits c.args.n (omega arith) w.if-n-ge10.true) (then w.number.ensures (rw w.self-is at c.put.ensures))
      | else-n-ge10 w ↦ rw (one_digit c.args.n w.if-n-ge10.false) (rw w.self-is at c.put.ensures)
    ]
