-- What the functions that write into lent bytes leave, said of the definitions; and what a mask does to the flags of a diagnosis.
-- The idea: `put_in` answers what fits by `room_for`, so each fact is one case of that test; a flag's weight is a power of 2, so a mask is its bit.
use mathlib.Core.Path.{◌≡◌, refl, sym, ap, ◌∙◌, subst}
use mathlib.Core.Bool.{Bool, true, false, not}
use mathlib.Core.List.{List, ◌++◌}
use Prim.Native.Nat.{ℕ, zero, suc, ◌+◌, ◌-◌, ◌*◌, ◌/◌, ◌%◌, ◌^◌, ◌≤◌, ◌<◌}
use native.Mathlib.Omega.{arith}
use lib.ListN.{length, take, drop, length-append}
use lib.Dec.{leb, eqb}
use borrow.Author.Tests.{lt-leb, leb-true, leb-false}
use Rattle.parts.specs.Parts.{inside, room_for, put_in, Put}
use Rattle.parts.proofs.Laws.{room-own, put_kept, inside_yes, inside-leb, length-put, lent_put, put-append}
use Rattle.fdl.specs.declared.parameters.Parameters.{Parameters}
use Rattle.payloads.specs.declared.options.PeripheralOptions.{PeripheralOptions}
use Rattle.payloads.specs.Payload.{param_head, Written}
use Rattle.payloads.specs.Diagnosis.{flag, flag_weight, without}
use Rattle.payloads.specs.declared.diagnosis.DiagnosticFlags.{DiagnosticFlags}
use Rattle.payloads.specs.declared.diagnosis.DiagnosticFlags.TheVariants.{StationNotReady, ConfigurationFault, ExtDiag, ParameterFault, ParameterRequired, PermanentBit}
use Rattle.std.specs.Int.{bit_at}
use Rattle.std.specs.Int.Bits.{bit_and}
use Rattle.std.proofs.lemmas.Nat.Bits.{and_pow, bit_at-lt}
use Rattle.std.proofs.lemmas.Nat.{and-not, and_comm, pow_pos}
use Rattle.std.proofs.lemmas.Bool.Decides.{nat_tests}
use Rattle.std.proofs.Common.{nat_eq}

-- ---- a payload at the front of the buffer

module _ (n : ℕ) (payload buf out : List ℕ) (fitted : Bool) (e : n ≡ length payload) (s : Put 0 n payload buf out fitted) where
  own : fitted ≡ inside 0 (length payload) buf
  own = s.answer ∙ ap (λ (k : ℕ). room_for 0 k payload buf) e ∙ room-own 0 payload buf

  bytes : out ≡ put_in 0 (length payload) payload buf
  bytes = s.bytes ∙ ap (λ (k : ℕ). put_in 0 k payload buf) e

  pub written : fitted ≡ true → Written payload buf out n
  written t = record { len = e ∙ rw (sym own ∙ t) refl; bytes = bytes }

  pub unwritten : fitted ≡ false → Written payload buf out 0
  unwritten t = record { len = rw (sym own ∙ t) refl; bytes = bytes }

module _ (payload buf : List ℕ) where
  unwritten_short : length buf < length payload → Written payload buf buf 0
  unwritten_short h =
      let o : inside 0 (length payload) buf ≡ false = sym (inside-leb 0 (length payload) buf) ∙ lt-leb (0 + length payload) (length buf) (omega arith) in
      record { len = rw o refl; bytes = sym (put_kept 0 (length payload) payload buf (room-own 0 payload buf ∙ o)) }

pub head_length : (u : Parameters) (o : PeripheralOptions) → length (param_head u o) ≡ 7
unfolding param_head
head_length u o = refl

module _ (u : Parameters) (o : PeripheralOptions) (user buf : List ℕ) where
  payload-length : length (param_head u o ++ user) ≡ 7 + length user
  payload-length = length-append (param_head u o) user ∙ ap (λ (k : ℕ). k + length user) (head_length u o)

  -- x is the buffer with the head, left what the copier left of the part from byte 7
  pub built : (x left : List ℕ) → leb (7 + length user) (length buf) ≡ true → x ≡ put_in 0 7 (param_head u o) buf
      → left ≡ put_in 0 (length user) user (take (length x - 7) (drop 7 x))
      → Written (param_head u o ++ user) buf (take 7 x ++ (left ++ drop (length x - 7) (drop 7 x))) (7 + length user)
  built x left t ex el =
      let h : 7 + length user ≤ length buf = leb-true _ _ t in
      let n = payload-length in
      let lx : length x ≡ length buf = ap length ex ∙ length-put 0 7 (param_head u o) buf in
      let all : 0 + length (param_head u o ++ user) ≤ length buf = omega arith in
      let seven : length (param_head u o) ≡ 7 = head_length u o in
      record {
        len = sym n ∙ rw (inside_yes 0 (length (param_head u o ++ user)) buf all) refl;
        bytes =
            lent_put 7 0 (length user) user x left (omega arith) el
            ∙ ap (put_in (7 + 0) (length user) user) ex
            ∙ subst (λ (k : ℕ). put_in (0 + k) (length user) user (put_in 0 k (param_head u o) buf) ≡ put_in 0 (length (param_head u o ++ user)) (param_head u o ++ user) buf) seven (put-append 0 (param_head u o) user buf all);
      }

  pub unbuilt : leb (7 + length user) (length buf) ≡ false → Written (param_head u o ++ user) buf buf 0
  unbuilt t = unwritten_short (param_head u o ++ user) buf (omega (arith, payload-length, leb-false (7 + length user) (length buf) t))

-- ---- a flag is read by a mask, and removed by one

bit_test : (w b : ℕ) → 0 < w → b < 2 → not (nat_eq (b * w) 0) ≡ eqb b 1
bit_test w zero h k = grind (arith, nat_tests)
bit_test w (suc zero) h k = grind (arith, nat_tests)
bit_test w (suc (suc b)) h k = absurd (omega arith)

bit_set : (n k : ℕ) → not (nat_eq (bit_and n (2 ^ k)) 0) ≡ flag (2 ^ k) n
bit_set n k = rw (and_pow n k) (bit_test (2 ^ k) (bit_at n k) (pow_pos k) (bit_at-lt n k))

pub masked : (f : DiagnosticFlags) (n : ℕ) → not (nat_eq (bit_and n (flag_weight f)) 0) ≡ flag (flag_weight f) n
masked StationNotReady n = bit_set n 1
masked ConfigurationFault n = bit_set n 2
masked ExtDiag n = bit_set n 3
masked ParameterFault n = bit_set n 6
masked ParameterRequired n = bit_set n 8
masked PermanentBit n = bit_set n 10

pub unmasked : (n : ℕ) → n < 65536 → bit_and n (65535 - 0x0400) ≡ without 0x0400 n
unmasked n h =
    let e : bit_and 64511 n + bit_and 0x0400 n ≡ n = and-not 16 0x0400 n (omega arith) h in
    let k : bit_and 0x0400 n ≡ n / 0x0400 % 2 * 0x0400 = and_comm 0x0400 n ∙ and_pow n 10 in
    and_comm n 64511 ∙ omega arith
