-- The law: two results that are equal to the same thing are equal.
use mathlib.Core.Path.{◌≡◌, sym, ◌∙◌}

pub same {ℓ} : {A : Type ℓ} {x y f : A} → x ≡ f → y ≡ f → x ≡ y
same p q = p ∙ sym q
