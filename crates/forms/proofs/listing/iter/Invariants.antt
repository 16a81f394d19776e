-- The loop's invariant: so many entries stand at the front of the rows.
use Rattle.std.proofs.Common.{◌≡◌, take, length}
use Rattle.forms.specs.Listing.{shown, overlay}
use Rattle.forms.proofs.listing.iter.Given as goal

abbrev pub invariant-loop-i : goal.invariant-loop-i
invariant-loop-i l = l.row-items ≡ overlay (take l.i (shown l.m (length l.fn.list))) l.initial.row-items
