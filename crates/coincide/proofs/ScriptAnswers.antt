-- Any two results that a contract of `script_answers` allows coincide: a statement for each public function.
-- The idea: a contract is an equation for the answer and for each lent buffer, so two of them have the same right-hand side.
use mathlib.Core.Path.{◌≡◌}
use Rattle.coincide.specs.Coincide.{Coincide}
use Rattle.coincide.proofs.Law.{same}
use Rattle.script_answers.proofs.bare.Kinds as K·bare
use Rattle.script_answers.proofs.bare.Reads as R·bare
use Rattle.script_answers.proofs.numbered.Kinds as K·numbered
use Rattle.script_answers.proofs.numbered.Reads as R·numbered
use Rattle.script_answers.proofs.added.Kinds as K·added
use Rattle.script_answers.proofs.added.Reads as R·added
use Rattle.script_answers.proofs.turn.Kinds as K·turn
use Rattle.script_answers.proofs.turn.Reads as R·turn
use Rattle.script_answers.proofs.reply.Kinds as K·reply
use Rattle.script_answers.proofs.reply.Reads as R·reply
use Rattle.script_answers.proofs.image.Kinds as K·image
use Rattle.script_answers.proofs.image.Reads as R·image
use Rattle.script_answers.proofs.diagnosis.Kinds as K·diagnosis
use Rattle.script_answers.proofs.diagnosis.Reads as R·diagnosis
use Rattle.script_answers.proofs.listing.Kinds as K·listing
use Rattle.script_answers.proofs.listing.Reads as R·listing

pub bare : Coincide 2 K·bare.ps K·bare.r R·bare.Learnt (λ κs z y e f. e.0.now ≡ f.0.now)
bare κs a z y e f p q = same p.text q.text

pub numbered : Coincide 2 K·numbered.ps K·numbered.r R·numbered.Learnt (λ κs z y e f. e.0.now ≡ f.0.now)
numbered κs a z y e f p q = same p.text q.text

pub added : Coincide 2 K·added.ps K·added.r R·added.Learnt (λ κs z y e f. e.0.now ≡ f.0.now)
added κs a z y e f p q = same p.text q.text

pub turn : Coincide 3 K·turn.ps K·turn.r R·turn.Learnt (λ κs z y e f. e.0.now ≡ f.0.now)
turn κs a z y e f p q = same p.text q.text

pub reply : Coincide 2 K·reply.ps K·reply.r R·reply.Learnt (λ κs z y e f. e.0.now ≡ f.0.now)
reply κs a z y e f p q = same p.text q.text

pub image : Coincide 3 K·image.ps K·image.r R·image.Learnt (λ κs z y e f. e.0.now ≡ f.0.now)
image κs a z y e f p q = same p.text q.text

pub diagnosis : Coincide 3 K·diagnosis.ps K·diagnosis.r R·diagnosis.Learnt (λ κs z y e f. e.0.now ≡ f.0.now)
diagnosis κs a z y e f p q = same p.text q.text

pub listing : Coincide 4 K·listing.ps K·listing.r R·listing.Learnt (λ κs z y e f. e.0.now ≡ f.0.now)
listing κs a z y e f p q = same p.text q.text
