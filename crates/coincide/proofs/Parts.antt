-- Any two results that a contract of `parts` allows coincide: a statement for each public function.
-- The idea: a contract is an equation for the answer and for each lent buffer, so two of them have the same right-hand side.
use mathlib.Core.Path.{◌≡◌}
use denote.MutBor.{as_bor}
use Rattle.parts.specs.Parts.{SamePart}
use Rattle.parts.proofs.Laws.{itself_same}
use Rattle.coincide.specs.Coincide.{Coincide}
use Rattle.coincide.proofs.Law.{same}
use Rattle.parts.proofs.inside.Kinds as K·inside
use Rattle.parts.proofs.inside.Reads as R·inside
use Rattle.parts.proofs.byte_at.Kinds as K·byte-at
use Rattle.parts.proofs.byte_at.Reads as R·byte-at
use Rattle.parts.proofs.copy_at.Kinds as K·copy-at
use Rattle.parts.proofs.copy_at.Reads as R·copy-at
use Rattle.parts.proofs.clear_at.Kinds as K·clear-at
use Rattle.parts.proofs.clear_at.Reads as R·clear-at
use Rattle.parts.proofs.part.Kinds as K·part
use Rattle.parts.proofs.part.Reads as R·part
use Rattle.parts.proofs.part_mut.Kinds as K·part-mut
use Rattle.parts.proofs.part_mut.Reads as R·part-mut

pub inside : Coincide 0 K·inside.ps K·inside.r R·inside.Learnt (λ κs z y e f. z ≡ y)
inside κs a z y e f p q = same p q

pub byte_at : Coincide 1 K·byte-at.ps K·byte-at.r R·byte-at.Learnt (λ κs z y e f. z ≡ y)
byte_at κs a z y e f p q = same p q

pub copy_at : Coincide 2 K·copy-at.ps K·copy-at.r R·copy-at.Learnt (λ κs z y e f. (z ≡ y) × (e.0.now ≡ f.0.now))
copy_at κs a z y e f p q = (same p.answer q.answer, same p.bytes q.bytes)

pub clear_at : Coincide 1 K·clear-at.ps K·clear-at.r R·clear-at.Learnt (λ κs z y e f. (z ≡ y) × (e.0.now ≡ f.0.now))
clear_at κs a z y e f p q = (same p.answer q.answer, same p.bytes q.bytes)

pub part : Coincide 1 K·part.ps K·part.r R·part.Learnt (λ κs z y e f. SamePart z y)
part κs a z y e f p q = itself_same p q

pub part_mut : Coincide 1 K·part-mut.ps K·part-mut.r R·part-mut.Learnt (λ κs z y e f. SamePart (as_bor z) (as_bor y))
part_mut κs a z y e f p q = itself_same p q
