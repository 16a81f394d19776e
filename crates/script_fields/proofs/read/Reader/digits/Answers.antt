-- `digits` meets its contract. The loop's invariant: what is left to read gives the whole.
use Rattle.std.proofs.Common.{arith, rules, sym, ◌∙◌}
use Rattle.script_fields.proofs.Reading.{digits_more}
use Rattle.script_fields.proofs.read.Reader.digits.Goals as goal

pub loop-b-preserved : goal.loop-b-preserved
loop-b-preserved c = record {
  counted = omega arith;
  limited = search rules;
  whole =
      digits_more c.args.limit c.loop-b.value _ c.loop-b.b-index _ c.in_ok-value.value _ (omega arith) c.loop-b-test.true
      (sym c.is_ascii_digit.ensures.value ∙ c.if-not-is_ascii_digit.false) c.in_ok-value.ensures
      ∙ c.loop-b.invariant.whole;
}
