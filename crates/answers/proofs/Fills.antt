-- What a function that fills the payload buffer leaves.
-- The idea: nothing sent is an empty payload, and an empty payload changes nothing.
use mathlib.Core.Path.{◌≡◌, refl, sym, ◌∙◌}
use mathlib.Core.List.{List, []}
use Prim.Native.Nat.{ℕ}
use Rattle.std.specs.Prelude.{Option}
use Rattle.parts.specs.Parts.{inside}
use Rattle.parts.proofs.Laws.{by_test, put_nothing}
use Rattle.fdl.specs.declared.parameters.Parameters.{Parameters}
use Rattle.payloads.specs.Payload.{Written}
use Rattle.peripheral.specs.declared.record.Peripheral.{Peripheral}
use Rattle.cycle.specs.declared.seen.Sent.{Sent}
use Rattle.cycle.specs.declared.state.Step.{Step}
use Rattle.answers.specs.declared.turn.Filled.{Filled}
use Rattle.answers.specs.declared.turn.Transmission.TheVariants.{Nothing as NothingSent}
use Rattle.answers.specs.Turn.{transmission_of, Filling}

pub nothing_filled : (step : Step) (sent : Option Sent) (p : Peripheral) (u : Parameters) (buf : List ℕ) (r : Filled) → transmission_of step sent p u ≡ NothingSent
    → r ≡ record { len = 0; transmission = NothingSent } → Filling step sent p u [] buf buf r
nothing_filled step sent p u buf r t e =
    record { answer = e ∙ rw t (by_test (inside 0 0 buf) (λ i. rw i refl) (λ i. rw i refl)); bytes = sym (put_nothing 0 buf) }

pub filled_by : (step : Step) (sent : Option Sent) (p : Peripheral) (u : Parameters) (payload buf out : List ℕ) (len : ℕ) (r : Filled) → Written payload buf out len
    → r ≡ record { len = len; transmission = transmission_of step sent p u } → Filling step sent p u payload buf out r
filled_by step sent p u payload buf out len r w e = record { answer = e ∙ rw w.len refl; bytes = w.bytes }
