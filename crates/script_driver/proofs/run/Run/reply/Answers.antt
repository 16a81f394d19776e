-- `reply` meets its contract: the reply's own, on the lent fronts.
use Rattle.script_driver.proofs.Laws.{short_take, lent_front, lent_behind}
use Rattle.script_driver.proofs.run.Run.reply.Goals as goal

pub returns-clause-call : goal.returns-clause-call
returns-clause-call c = let l = c.args.self.now.lent in
    let a = c.args in
    let i = c.front-i in
    let d = c.front-d in
    let t = c.receive_reply in
    record {
      call = rw (lent_front l.inputs i.result a.inputs.now t.new.inputs i.ensures t.auto.inputs, lent_front l.diags d.result a.diags.now t.new.diags d.ensures t.auto.diags, ← short_take l.inputs i.result a.inputs.now i.ensures, ← short_take l.diags d.result a.diags.now d.ensures) t.ensures;
      input_pool = lent_behind l.inputs i.result a.inputs.now t.new.inputs i.ensures t.auto.inputs;
      diag_pool = lent_behind l.diags d.result a.diags.now t.new.diags d.ensures t.auto.diags;
    }
