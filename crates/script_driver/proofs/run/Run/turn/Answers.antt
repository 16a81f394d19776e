-- `turn` meets its contract: the turn's own, on the lent fronts.
use Rattle.script_driver.proofs.Laws.{short_take, lent_front, lent_behind}
use Rattle.script_driver.proofs.run.Run.turn.Goals as goal

pub returns-clause-call : goal.returns-clause-call
returns-clause-call c = let a = c.args in
    let n = a.self.now.lent.payload in
    let k = c.front-k in
    let t = c.transmit_telegram in
    record {
      call =
          rw (
            lent_front n k.result a.payload.now t.new.buf k.ensures t.auto.buf,
            ← c.lent.ensures.holds,
            ← c.lent-2.ensures.holds,
            ← short_take n k.result a.payload.now k.ensures,
          )
          t.ensures;
      payload_array = lent_behind n k.result a.payload.now t.new.buf k.ensures t.auto.buf;
    }
