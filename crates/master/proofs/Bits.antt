-- Bits of a mask, over any width.
-- The idea: a bit is a quotient's remainder, and an or goes bit by bit.
use mathlib.Core.Path.{◌≡◌}
use Prim.Native.Nat.{ℕ, suc, ◌+◌, ◌-◌, ◌/◌, ◌%◌, ◌<◌, ◌^◌, max}
use native.Mathlib.Omega.{arith}
use native.Mathlib.Nat.{mod-eq_of_lt, div_self, div-eq_of_lt, mul-div_cancel, mul-add-mod_self_right, mul-mod_left, pow-suc}
use lib.Pow.{pow_pos, pow-lt, pow-add}
use lib.Bits.{bit_or, or_shr, or_step}

-- bit k of a mask, 1 or 0
abbrev pub bit : ℕ → ℕ → ℕ
bit k mask = mask / 2 ^ k % 2

-- a bit of an or is set where it is set in either
pub or_bit : (a b k : ℕ) → bit k (bit_or a b) ≡ max (bit k a) (bit k b)
or_bit a b k = rw (or_shr a b k, or_step (a / 2 ^ k) (b / 2 ^ k), mul-add-mod_self_right) (mod-eq_of_lt (omega arith))

-- 2 ^ i has bit i and no other; 0 has none
pub pow-bit_same : (i : ℕ) → bit i (2 ^ i) ≡ 1
pow-bit_same i = rw (div_self (pow_pos i))

pub pow-bit_below : (i k : ℕ) → i < k → bit k (2 ^ i) ≡ 0
pow-bit_below i k h = rw (div-eq_of_lt (pow-lt h))

pub pow-bit-above : (i k : ℕ) → k < i → bit k (2 ^ i) ≡ 0
pow-bit-above i k h =
    let e : i ≡ suc (i - k - 1) + k = omega arith in
    rw (e, pow-add 2 (suc (i - k - 1)) k, mul-div_cancel (2 ^ suc (i - k - 1)) (pow_pos k), pow-suc) (mul-mod_left (2 ^ (i - k - 1)) 2)

pub zero_bit : (k : ℕ) → bit k 0 ≡ 0
zero_bit k = rw (div-eq_of_lt (pow_pos k))
