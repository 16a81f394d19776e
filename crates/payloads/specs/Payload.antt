-- The seven parameter bytes, and what writing a payload into the lent buffer leaves there.
-- From 01, "One visit and one reply", the paragraph on parameter bytes, and "Refusal numbers" on the payload buffer.
use Rattle.std.specs.Prelude.{◌≡◌, ℕ, ◌+◌, ◌/◌, ◌%◌, Bool, cond, List, [], ◌∷◌, length}
use Rattle.parts.specs.Parts.{inside, put_in}
use Rattle.fdl.specs.declared.parameters.Parameters.{Parameters}
use Rattle.payloads.specs.declared.options.PeripheralOptions.{PeripheralOptions}

-- 0x80, plus 0x20 sync, 0x10 freeze, 0x08 watchdog; two factors (zero when off); min Tsdr; ident, high byte first; groups
unfoldable pub param_head : Parameters → PeripheralOptions → List ℕ
param_head u o =
    (0x80 + cond o.sync_mode 0x20 0 + cond o.freeze_mode 0x10 0 + cond u.watchdog 0x08 0)
    ∷ cond u.watchdog u.watchdog_first 0
    ∷ cond u.watchdog u.watchdog_second 0
    ∷ u.min_tsdr_bits
    ∷ (o.ident_number / 256)
    ∷ (o.ident_number % 256)
    ∷ o.groups
    ∷ []

-- global control: 02 00 in Clear, 00 00 in Operate
unfoldable pub control_payload : Bool → List ℕ
control_payload clear = cond clear 0x02 0 ∷ 0 ∷ []

-- how much of the buffer it takes: its length, or 0 where it does not fit (DECISIONS 25)
abbrev pub length_in : List ℕ → List ℕ → ℕ
length_in payload buf = cond (inside 0 (length payload) buf) (length payload) 0

-- the payload stands at the front of the buffer and its length is answered; or it does not fit, nothing is written, and the answer is 0
pub record Written (payload buf out : List ℕ) (r : ℕ) : Type 0 where
  pub len : r ≡ length_in payload buf
  pub bytes : out ≡ put_in 0 (length payload) payload buf
