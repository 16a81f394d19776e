-- The frame bit and the kinds of request, with the number of each.
-- From 01, "One visit and one reply" (First, Low, High, priorities) and "One turn" (inactive, SDN); the codes of the kinds are the standard's.
use Rattle.std.specs.Prelude.{cond, ℕ, eqb}
use Rattle.fdl.specs.declared.telegram.FrameCountBit.{FrameCountBit}
use Rattle.fdl.specs.declared.telegram.FrameCountBit.TheVariants.{First, Low, High, Inactive}
use Rattle.fdl.specs.declared.telegram.RequestType.{RequestType}
use Rattle.fdl.specs.declared.telegram.RequestType.TheVariants.{SdnLow, SrdLow, SrdHigh}

-- First to Low to High to Low; the inactive bit of global control stays as it is
abbrev pub cycled : FrameCountBit → FrameCountBit
cycled First = Low
cycled Low = High
cycled High = Low
cycled Inactive = Inactive

-- FCB
abbrev pub fcb_of : FrameCountBit → ℕ
fcb_of First = 1
fcb_of Low = 0
fcb_of High = 1
fcb_of Inactive = 0

-- FCV
abbrev pub fcv_of : FrameCountBit → ℕ
fcv_of First = 0
fcv_of Low = 1
fcv_of High = 1
fcv_of Inactive = 0

-- the number that stands for it in a record and in a script
abbrev pub bit_number : FrameCountBit → ℕ
bit_number Inactive = 0
bit_number First = 1
bit_number Low = 2
bit_number High = 3

-- the bit of a number; any other number counts as inactive
abbrev pub bit_of : ℕ → FrameCountBit
bit_of n = cond (eqb n 1) First (cond (eqb n 2) Low (cond (eqb n 3) High Inactive))

-- the low bits of the function code
abbrev pub request_number : RequestType → ℕ
request_number SdnLow = 0x04
request_number SrdLow = 0x0C
request_number SrdHigh = 0x0D
