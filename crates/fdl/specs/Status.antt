-- The status of a data reply: the nine codes, those that are data, what a reply carries, and which replies can be used at all.
-- From 01, "One visit and one reply" ("a decision over the nine codes") and "Refusal numbers", No. 10.
use Rattle.std.specs.Prelude.{ℕ, Bool, true, false, ◌&&◌, ◌||◌, List, [], ◌∷◌, eqb, leb}
use Rattle.refusals.specs.Table.{max_payload}
use Rattle.fdl.specs.declared.telegram.Telegram.{Telegram}
use Rattle.fdl.specs.declared.telegram.Telegram.TheVariants.{ShortConfirmation, Data, Token, Request}

-- n is in the list
abbrev pub among : ℕ → List ℕ → Bool
among n [] = false
among n (x ∷ l) = eqb n x || among n l

-- the nine codes
abbrev pub codes : List ℕ
codes = 0 ∷ 1 ∷ 2 ∷ 3 ∷ 8 ∷ 9 ∷ 10 ∷ 12 ∷ 13 ∷ []

-- those that are data
abbrev pub data_codes : List ℕ
data_codes = 0 ∷ 8 ∷ 10 ∷ []

-- a short confirmation
abbrev pub is_short : Telegram → Bool
is_short ShortConfirmation = true
is_short (Data dsap ssap status) = false
is_short Token = false
is_short Request = false

-- the payload that a reply carries: none with a short confirmation, whatever is lent
abbrev pub carried : Telegram → List ℕ → List ℕ
carried ShortConfirmation payload = []
carried (Data dsap ssap status) payload = payload
carried Token payload = []
carried Request payload = []

-- the reply with so many payload bytes is not refused as 10
abbrev pub usable_reply : Telegram → ℕ → Bool
usable_reply ShortConfirmation n = true
usable_reply (Data dsap ssap status) n = among status codes && leb n max_payload
usable_reply Token n = false
usable_reply Request n = false
