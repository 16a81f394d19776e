-- `pairs` meets its contract. The loop's invariant is `Pairing`: what is left to read gives the whole.
use Rattle.std.proofs.Common.{rules}
use native.Mathlib.Omega.{arith}
use Rattle.script_fields.proofs.Reading.{pairing_stops, pairing_full, pairing_goes_on}
use Rattle.script_fields.proofs.read.pairs.Goals as goal

pub returns-in_default-clause-count : goal.returns-in_default-clause-count
returns-in_default-clause-count c = (pairing_stops _ _ _ _ _ c.loop-n.invariant (search rules)).0

pub returns-in_default-clause-bytes : goal.returns-in_default-clause-bytes
returns-in_default-clause-bytes c = (pairing_stops _ _ _ _ _ c.loop-n.invariant (search rules)).1

pub loop-n-preserved : goal.loop-n-preserved
loop-n-preserved c = pairing_goes_on _ _ _ _ _ c.loop-n.invariant c.in-Some.b c.loop-n-test.true c.in-Some.ensures

pub returns-clause-count : goal.returns-clause-count
returns-clause-count c = omega (arith, (pairing_full _ _ _ _ _ c.loop-n.invariant c.loop-n-test.false).0)

pub returns-clause-bytes : goal.returns-clause-bytes
returns-clause-bytes c = (pairing_full _ _ _ _ _ c.loop-n.invariant c.loop-n-test.false).1
