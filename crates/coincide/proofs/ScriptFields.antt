-- Any two results that a contract of `script_fields` allows coincide: a statement for each public function.
-- The idea: a contract is an equation for the answer and for each lent buffer, so two of them have the same right-hand side.
use mathlib.Core.Path.{◌≡◌, refl, sym, ap, ◌∙◌}
use Prim.Native.Nat.{ℕ}
use mathlib.Core.List.{List}
use denote.Ref.{Bor}
use Rattle.std.specs.Prelude.{Option, Some, None, IfNone, option_map, unwrap_or}
use Rattle.std.specs.Option.{option_map_or}
use Rattle.script_fields.specs.declared.read.Reader.{Reader}
use Rattle.script_fields.specs.Read.{with_place}
use Rattle.coincide.specs.Coincide.{Coincide}
use Rattle.coincide.proofs.Law.{same}
use Rattle.script_fields.proofs.read.Reader.digits.Kinds as K·read-Reader-digits
use Rattle.script_fields.proofs.read.Reader.digits.Reads as R·read-Reader-digits
use Rattle.script_fields.proofs.read.Reader.space.Kinds as K·read-Reader-space
use Rattle.script_fields.proofs.read.Reader.space.Reads as R·read-Reader-space
use Rattle.script_fields.proofs.read.Reader.number.Kinds as K·read-Reader-number
use Rattle.script_fields.proofs.read.Reader.number.Reads as R·read-Reader-number
use Rattle.script_fields.proofs.read.Reader.flag.Kinds as K·read-Reader-flag
use Rattle.script_fields.proofs.read.Reader.flag.Reads as R·read-Reader-flag
use Rattle.script_fields.proofs.read.Reader.bytes.Kinds as K·read-Reader-bytes
use Rattle.script_fields.proofs.read.Reader.bytes.Reads as R·read-Reader-bytes
use Rattle.script_fields.proofs.read.Reader.setup.Kinds as K·read-Reader-setup
use Rattle.script_fields.proofs.read.Reader.setup.Reads as R·read-Reader-setup
use Rattle.script_fields.proofs.read.Reader.ends.Kinds as K·read-Reader-ends
use Rattle.script_fields.proofs.read.Reader.ends.Reads as R·read-Reader-ends
use Rattle.script_fields.proofs.write.Text.put.Kinds as K·write-put
use Rattle.script_fields.proofs.write.Text.put.Reads as R·write-put
use Rattle.script_fields.proofs.write.Text.number.Kinds as K·write-number
use Rattle.script_fields.proofs.write.Text.number.Reads as R·write-number
use Rattle.script_fields.proofs.write.Text.field.Kinds as K·write-field
use Rattle.script_fields.proofs.write.Text.field.Reads as R·write-field
use Rattle.script_fields.proofs.write.Text.fields.Kinds as K·write-fields
use Rattle.script_fields.proofs.write.Text.fields.Reads as R·write-fields
use Rattle.script_fields.proofs.write.Text.bytes.Kinds as K·write-bytes
use Rattle.script_fields.proofs.write.Text.bytes.Reads as R·write-bytes
use Rattle.script_fields.proofs.write.sum_step.Kinds as K·write-sum-step
use Rattle.script_fields.proofs.write.sum_step.Reads as R·write-sum-step
use Rattle.script_fields.proofs.write.sum_from.Kinds as K·write-sum-from
use Rattle.script_fields.proofs.write.sum_from.Reads as R·write-sum-from
use Rattle.script_fields.proofs.write.sum.Kinds as K·write-sum
use Rattle.script_fields.proofs.write.sum.Reads as R·write-sum

-- readers of one line at one place are one
reader : (x w : Reader) → x.line ≡ w.line → x.at ≡ w.at → x ≡ w
reader x w p q = ap (λ (l : Bor (List ℕ)). record { line = l; at = x.at }) p ∙ ap (λ (n : ℕ). record { line = w.line; at = n }) q

-- two answers of a reader, and the readers that they leave
placed : {A : Type 0} (z y : Option A) (old : ℕ) (x w : Reader) → with_place z x.at ≡ with_place y w.at → IfNone z (x.at ≡ old) → IfNone y (w.at ≡ old) → x.line ≡ w.line
    → (z ≡ y) × (x ≡ w)
placed None None old x w e p q l = (refl, reader x w l (p ∙ sym q))
placed None (Some b) old x w e p q l = cc
placed (Some a) None old x w e p q l = cc
placed (Some a) (Some b) old x w e p q l = (ap (option_map (λ r. r.value)) e, reader x w l (ap (λ o. option_map_or (λ r. r.next) o 0) e))

-- the same, where a space was passed
passed : (z y : Option Unit) (old : ℕ) (x w : Reader) → option_map (λ _. x.at) z ≡ option_map (λ _. w.at) y → IfNone z (x.at ≡ old) → IfNone y (w.at ≡ old) → x.line ≡ w.line
    → (z ≡ y) × (x ≡ w)
passed None None old x w e p q l = (refl, reader x w l (p ∙ sym q))
passed None (Some b) old x w e p q l = cc
passed (Some a) None old x w e p q l = cc
passed (Some a) (Some b) old x w e p q l = (refl, reader x w l (ap (λ o. unwrap_or o 0) e))

pub read-Reader-digits : Coincide 2 K·read-Reader-digits.ps K·read-Reader-digits.r R·read-Reader-digits.Learnt (λ κs z y e f. (z ≡ y) × (e.0.now ≡ f.0.now))
read-Reader-digits κs a z y e f p q = placed z y _ _ _ (same p.0 q.0) p.1.1.0 q.1.1.0 (same p.1.1.1 q.1.1.1)

pub read-Reader-space : Coincide 2 K·read-Reader-space.ps K·read-Reader-space.r R·read-Reader-space.Learnt (λ κs z y e f. (z ≡ y) × (e.0.now ≡ f.0.now))
read-Reader-space κs a z y e f p q = passed z y _ _ _ (same p.0 q.0) p.1.0 q.1.0 (same p.1.1 q.1.1)

pub read-Reader-number : Coincide 2 K·read-Reader-number.ps K·read-Reader-number.r R·read-Reader-number.Learnt (λ κs z y e f. (z ≡ y) × (e.0.now ≡ f.0.now))
read-Reader-number κs a z y e f p q = placed z y _ _ _ (same p.0 q.0) p.1.1.0 q.1.1.0 (same p.1.1.1 q.1.1.1)

pub read-Reader-flag : Coincide 2 K·read-Reader-flag.ps K·read-Reader-flag.r R·read-Reader-flag.Learnt (λ κs z y e f. (z ≡ y) × (e.0.now ≡ f.0.now))
read-Reader-flag κs a z y e f p q = placed z y _ _ _ (same p.0 q.0) p.1.0 q.1.0 (same p.1.1 q.1.1)

pub read-Reader-bytes : Coincide 3 K·read-Reader-bytes.ps K·read-Reader-bytes.r R·read-Reader-bytes.Learnt (λ κs z y e f. (z ≡ y) × (e.0.now ≡ f.0.now) × (e.1.0.now ≡ f.1.0.now))
read-Reader-bytes κs a z y e f p q =
    let r = placed z y _ _ _ (same p.0.answer q.0.answer) p.1.0 q.1.0 (same p.1.1 q.1.1) in (r.0, r.1, same p.0.bytes q.0.bytes)

pub read-Reader-setup : Coincide 3 K·read-Reader-setup.ps K·read-Reader-setup.r R·read-Reader-setup.Learnt (λ κs z y e f. (z ≡ y) × (e.0.now ≡ f.0.now) × (e.1.0.now ≡ f.1.0.now))
read-Reader-setup κs a z y e f p q =
    let r = placed z y _ _ _ (same p.0.answer q.0.answer) p.1.0 q.1.0 (same p.1.1 q.1.1) in (r.0, r.1, same p.0.bytes q.0.bytes)

pub read-Reader-ends : Coincide 2 K·read-Reader-ends.ps K·read-Reader-ends.r R·read-Reader-ends.Learnt (λ κs z y e f. z ≡ y)
read-Reader-ends κs a z y e f p q = same p q

pub write-put : Coincide 2 K·write-put.ps K·write-put.r R·write-put.Learnt (λ κs z y e f. e.0.now ≡ f.0.now)
write-put κs a z y e f p q = same p.text q.text

pub write-number : Coincide 2 K·write-number.ps K·write-number.r R·write-number.Learnt (λ κs z y e f. e.0.now ≡ f.0.now)
write-number κs a z y e f p q = same p.text q.text

pub write-field : Coincide 2 K·write-field.ps K·write-field.r R·write-field.Learnt (λ κs z y e f. e.0.now ≡ f.0.now)
write-field κs a z y e f p q = same p.text q.text

pub write-fields : Coincide 3 K·write-fields.ps K·write-fields.r R·write-fields.Learnt (λ κs z y e f. e.0.now ≡ f.0.now)
write-fields κs a z y e f p q = same p.text q.text

pub write-bytes : Coincide 3 K·write-bytes.ps K·write-bytes.r R·write-bytes.Learnt (λ κs z y e f. e.0.now ≡ f.0.now)
write-bytes κs a z y e f p q = same p.text q.text

pub write-sum_step : Coincide 0 K·write-sum-step.ps K·write-sum-step.r R·write-sum-step.Learnt (λ κs z y e f. z ≡ y)
write-sum_step κs a z y e f p q = same p q

pub write-sum_from : Coincide 1 K·write-sum-from.ps K·write-sum-from.r R·write-sum-from.Learnt (λ κs z y e f. z ≡ y)
write-sum_from κs a z y e f p q = same p q

pub write-sum : Coincide 1 K·write-sum.ps K·write-sum.r R·write-sum.Learnt (λ κs z y e f. z ≡ y)
write-sum κs a z y e f p q = same p q
