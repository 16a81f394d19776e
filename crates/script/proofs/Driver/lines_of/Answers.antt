-- `lines_of` is safe and ends: the end of a line is no further back than where it is looked for, and no further on than the chunk.
use native.Mathlib.Omega.{arith}
use Rattle.script_driver.proofs.Laws.{newline_from, newline_to}
use Rattle.script.proofs.Driver.lines_of.Goals as goal

pub overflow_sub-end : goal.overflow_sub-end
overflow_sub-end g c =
    omega (arith, c.line_end-end.ensures, newline_from, newline_to)

pub overflow_add-i : goal.overflow_add-i
overflow_add-i g c =
    omega (arith, c.line_end-end.ensures, newline_from, newline_to, c.well_formed, c.loop-i-test.true)

pub loop-i-smaller : goal.loop-i-smaller
loop-i-smaller g c =
    omega (arith, c.line_end-end.ensures, newline_from, newline_to, c.loop-i-test.true)
