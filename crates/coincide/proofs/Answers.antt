-- Any two results that a contract of `answers` allows coincide: a statement for each public function.
-- The idea: a contract is an equation for the answer and for each lent buffer, so two of them have the same right-hand side.
use mathlib.Core.Path.{◌≡◌}
use Rattle.coincide.specs.Coincide.{Coincide}
use Rattle.coincide.proofs.Law.{same}
use Rattle.answers.proofs.turn.fill.Kinds as K·turn-fill
use Rattle.answers.proofs.turn.fill.Reads as R·turn-fill
use Rattle.answers.proofs.turn.TurnAnswer.refused.Kinds as K·turn-TurnAnswer-refused
use Rattle.answers.proofs.turn.TurnAnswer.refused.Reads as R·turn-TurnAnswer-refused
use Rattle.answers.proofs.turn.TurnAnswer.of.Kinds as K·turn-TurnAnswer-of
use Rattle.answers.proofs.turn.TurnAnswer.of.Reads as R·turn-TurnAnswer-of
use Rattle.answers.proofs.reply_answer.judge.Kinds as K·reply-answer-judge
use Rattle.answers.proofs.reply_answer.judge.Reads as R·reply-answer-judge

pub turn-fill : Coincide 3 K·turn-fill.ps K·turn-fill.r R·turn-fill.Learnt (λ κs z y e f. (z ≡ y) × (e.1.1.1.1.1.1.1.0.now ≡ f.1.1.1.1.1.1.1.0.now))
turn-fill κs a z y e f p q = (same p.answer q.answer, same p.bytes q.bytes)

pub turn-TurnAnswer-refused : Coincide 0 K·turn-TurnAnswer-refused.ps K·turn-TurnAnswer-refused.r R·turn-TurnAnswer-refused.Learnt (λ κs z y e f. z ≡ y)
turn-TurnAnswer-refused κs a z y e f p q = same p q

pub turn-TurnAnswer-of : Coincide 0 K·turn-TurnAnswer-of.ps K·turn-TurnAnswer-of.r R·turn-TurnAnswer-of.Learnt (λ κs z y e f. z ≡ y)
turn-TurnAnswer-of κs a z y e f p q = same p q

pub reply_answer-judge : Coincide 2 K·reply-answer-judge.ps K·reply-answer-judge.r R·reply-answer-judge.Learnt (λ κs z y e f. z ≡ y)
reply_answer-judge κs a z y e f p q = same p q
