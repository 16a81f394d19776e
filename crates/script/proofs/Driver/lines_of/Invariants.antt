-- `lines_of` ends: each turn passes a line's end.
use Rattle.std.proofs.Common.{length, ◌-◌}
use Rattle.script.proofs.Driver.lines_of.Given as goal

abbrev pub decreases-loop-i : goal.decreases-loop-i
decreases-loop-i g l = length l.chunk - l.i
