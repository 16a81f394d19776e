-- A turn put together from its pieces or refused.
-- The idea: the visits are named by what the loop left, and everything else cites them.
use mathlib.Core.Path.{◌≡◌, refl, sym, ap, ◌∙◌, subst}
use mathlib.Core.List.{List}
use Prim.Native.Nat.{ℕ}
use lib.ListN.{get_or}
use borrow.Author.Tests.{eq-eqb, ne_eqb}
use Rattle.peripheral.specs.declared.record.Peripheral.{Peripheral}
use Rattle.peripheral.specs.Record.{blank}
use Rattle.cycle.specs.declared.seen.Seen.{Seen}
use Rattle.cycle.specs.declared.state.Step.{Step}
use Rattle.cycle.specs.Seen.{sent_index, first_index}
use Rattle.cycle.specs.State.{operating_of, is_clear, after_turn}
use Rattle.master.specs.declared.unit.DpMaster.{DpMaster}
use Rattle.answers.specs.declared.turn.Filled.{Filled}
use Rattle.master.specs.Unit.{state_is, balances_are}
use Rattle.answers.specs.Turn.{payload_sent, Filling, answer_of, refused_turn}
use Rattle.master.specs.Turn.{Turn, Swept, turn_payload, turn_answer, Turns}

-- ---- the turn

module _ (n : ℕ) (step : Step) (w : Swept) (m : DpMaster) (time : ℕ) (setup outputs buf : List ℕ) where
  pub turn_refused : (r : Turn) → (n ≡ 0 → ⊥) → r.master ≡ m → r.answer ≡ refused_turn n → Turns n step w (turn_payload step w m setup outputs) m time buf buf r
  turn_refused r h em ea = let e = ne_eqb n 0 h in record { after = rw e em; answer = rw e ea; bytes = rw e refl }

  module _ (seen : Seen) (ps : List Peripheral) where
    asked : Peripheral
    asked = get_or ps (sent_index seen.sent) blank

    pub turn-accepted : (filled : Filled) (out : List ℕ) (r : Turn) → n ≡ 0 → w ≡ record { seen = seen; balances = ps }
        → r.master ≡ state_is (after_turn step seen.sent time m.state) (balances_are ps m)
        → Filling step seen.sent (get_or ps (sent_index seen.sent) blank) m.parameters
        (payload_sent step seen.sent (get_or ps (sent_index seen.sent) blank) m.parameters (is_clear (operating_of m.state.operating)) setup outputs) buf out filled
        → r.answer ≡ answer_of step seen (get_or ps (first_index seen.first) blank).station.address filled
        → Turns n step w (turn_payload step w m setup outputs) m time buf out r
    unfolding turn_payload turn_answer
    turn-accepted filled out r z ew em f ea =
        let e = eq-eqb n 0 z in
        subst (λ (x : Swept). Turns n step x (turn_payload step x m setup outputs) m time buf out r) (sym ew)
        (record { after = rw e em; answer = rw e (ea ∙ ap (answer_of step seen (get_or ps (first_index seen.first) blank).station.address) f.answer); bytes = rw e f.bytes })
