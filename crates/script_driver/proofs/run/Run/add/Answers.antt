-- `add` meets its contract: the add's own, on the lent fronts.
use Rattle.script_driver.proofs.Laws.{short_take, lent_front, lent_behind}
use Rattle.script_driver.proofs.run.Run.add.Goals as goal

pub returns-clause-call : goal.returns-clause-call
returns-clause-call c = let l = c.args.self.now.lent in
    let a = c.args in
    let s = c.front-s in
    let i = c.front-i in
    let q = c.front-q in
    let d = c.front-d in
    let t = c.add in
    record {
      call =
          rw (
            lent_front l.setup s.result a.setup.now t.new.setup s.ensures t.auto.setup,
            lent_front l.inputs i.result a.inputs.now t.new.inputs i.ensures t.auto.inputs,
            lent_front l.outputs q.result a.outputs.now t.new.outputs q.ensures t.auto.outputs,
            lent_front l.diags d.result a.diags.now t.new.diags d.ensures t.auto.diags,
            ← short_take l.setup s.result a.setup.now s.ensures,
            ← short_take l.inputs i.result a.inputs.now i.ensures,
            ← short_take l.outputs q.result a.outputs.now q.ensures,
            ← short_take l.diags d.result a.diags.now d.ensures,
          )
          t.ensures;
      setup_pool = lent_behind l.setup s.result a.setup.now t.new.setup s.ensures t.auto.setup;
      input_pool = lent_behind l.inputs i.result a.inputs.now t.new.inputs i.ensures t.auto.inputs;
      output_pool = lent_behind l.outputs q.result a.outputs.now t.new.outputs q.ensures t.auto.outputs;
      diag_pool = lent_behind l.diags d.result a.diags.now t.new.diags d.ensures t.auto.diags;
    }
