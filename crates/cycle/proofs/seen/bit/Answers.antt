-- `bit` meets its contract: a shift of 1 is a power of 2.
use mathlib.Core.Path.{◌∙◌}
use borrow.Author.Tests.{lt-ltb, le-ltb}
use Prim.Native.Nat.{◌^◌}
use native.Mathlib.Omega.{arith}
use native.Mathlib.Nat.{one-mul}
use lib.Pow.{shl_exact}
use Rattle.cycle.proofs.seen.bit.Goals as goal

pub returns-then-slot-lt-SLOTS : goal.returns-then-slot-lt-SLOTS
returns-then-slot-lt-SLOTS c = rw (lt-ltb _ _ c.if-slot-lt-SLOTS.true) (shl_exact 1 c.args.slot 32 (omega arith) (omega arith) ∙ one-mul (2 ^ c.args.slot))

pub returns-else-slot-lt-SLOTS : goal.returns-else-slot-lt-SLOTS
returns-else-slot-lt-SLOTS c = rw (le-ltb _ _ c.if-slot-lt-SLOTS.false)
