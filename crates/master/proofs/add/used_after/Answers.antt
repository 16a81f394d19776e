-- `used_after` meets its contract: each range lies in its pool.
use native.Mathlib.Omega.{arith}
use Rattle.master.proofs.Checks.{setup-room, input-room, output_room, diag_room}
use Rattle.master.proofs.add.used_after.Goals as goal

pub end_of-requires : goal.end_of-requires
end_of-requires c = omega (arith, setup-room c.args.u c.args.p c.requires)

pub end_of-requires-2 : goal.end_of-requires-2
end_of-requires-2 c = omega (arith, input-room c.args.u c.args.p c.requires)

pub end_of-requires-3 : goal.end_of-requires-3
end_of-requires-3 c = omega (arith, output_room c.args.u c.args.p c.requires)

pub end_of-requires-4 : goal.end_of-requires-4
end_of-requires-4 c = omega (arith, diag_room c.args.u c.args.p c.requires)
