-- `put` meets its contract: there is room for the byte, or none.
use mathlib.Core.Path.{ap}
use Rattle.script_fields.specs.Write.{with_out}
use Rattle.script_fields.proofs.Laws.{put_in, put_out}
use Rattle.script_fields.proofs.write.Text.put.Goals as goal

pub returns-then-self : goal.returns-then-self
returns-then-self c = let t = c.args.self.now in record { text = ap (with_out t) (put_in c.args.b t.at t.out.now c.if-self.true) }

pub returns-else-self : goal.returns-else-self
returns-else-self c = let t = c.args.self.now in record { text = ap (with_out t) (put_out c.args.b t.at t.out.now c.if-self.false) }
