-- `pairs` meets its contract. The loop's invariant is `Pairing`: what is left to read gives the whole.
use lib.ListN.{length}
use Rattle.script_fields.specs.Read.{most, pairs_of, front}
use Rattle.script_fields.proofs.Reading.{Pairing}
use Rattle.script_fields.proofs.read.pairs.Given as goal

abbrev pub invariant-loop-n : goal.invariant-loop-n
invariant-loop-n l = Pairing l.rest (length (pairs_of most l.fn.text)) (front (pairs_of most l.fn.text) l.initial.out) l.out l.n
