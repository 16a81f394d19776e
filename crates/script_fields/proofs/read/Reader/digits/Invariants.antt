-- `digits` meets its contract. The loop's invariant: what is left to read gives the whole.
use Rattle.std.specs.Prelude.{◌≡◌, ◌≤◌, ◌+◌, drop}
use Rattle.script_fields.specs.Read.{digits_from}
use Rattle.script_fields.proofs.read.Reader.digits.Given as goal

abbrev pub invariant-loop-b : goal.invariant-loop-b
invariant-loop-b l = record {
  counted : l.len ≡ l.b-index;
  limited : l.value ≤ l.limit;
  whole : digits_from l.limit l.value (l.self.at + l.b-index) (drop l.b-index l.rest) ≡ digits_from l.limit 0 l.self.at l.rest;
}
