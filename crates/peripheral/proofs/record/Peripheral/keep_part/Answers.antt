-- `keep_part` meets its contract: fewer than six bytes have no part from byte 6.
use Rattle.peripheral.proofs.Pools.{no_tail}
use Rattle.peripheral.proofs.record.Peripheral.keep_part.Goals as goal

pub returns-else-payload-ge6 : goal.returns-else-payload-ge6
returns-else-payload-ge6 c = no_tail c.args.self c.args.payload.now c.args.diags.now c.if-payload-ge6.false
