-- The four requests, number and header, and the header of the global control.
-- From 01, "One visit and one reply", the table of requests, and "One turn" on global control; the numbers are ours, 0 stands for none.
use Rattle.std.specs.Prelude.{ℕ, Bool, true, false, cond, eqb, Option, Some, None}
use Rattle.fdl.specs.declared.telegram.FrameCountBit.{FrameCountBit}
use Rattle.fdl.specs.declared.telegram.FrameCountBit.TheVariants.{Inactive}
use Rattle.fdl.specs.declared.telegram.RequestType.{RequestType}
use Rattle.fdl.specs.declared.telegram.RequestType.TheVariants.{SdnLow, SrdLow, SrdHigh}
use Rattle.fdl.specs.declared.telegram.DataTelegramHeader.{DataTelegramHeader}
use Rattle.payloads.specs.declared.request.Request.{Request}
use Rattle.payloads.specs.declared.request.Request.TheVariants.{Diagnosis, Parameters, Configuration, Data}

abbrev pub kind_number : Request → ℕ
kind_number Diagnosis = 1
kind_number Parameters = 2
kind_number Configuration = 3
kind_number Data = 4

-- the request that a kept number stands for; a number that is none of the four counts as a diagnosis
abbrev pub request_numbered : ℕ → Request
request_numbered n = cond (eqb n 2) Parameters (cond (eqb n 3) Configuration (cond (eqb n 4) Data Diagnosis))

abbrev pub is_diagnosis : Request → Bool
is_diagnosis Diagnosis = true
is_diagnosis Parameters = false
is_diagnosis Configuration = false
is_diagnosis Data = false

abbrev pub is_data : Request → Bool
is_data Diagnosis = false
is_data Parameters = false
is_data Configuration = false
is_data Data = true

-- the table of requests: DSAP, SSAP, priority
abbrev pub dsap_of : Request → Option ℕ
dsap_of Diagnosis = Some 60
dsap_of Parameters = Some 61
dsap_of Configuration = Some 62
dsap_of Data = None

abbrev pub ssap_of : Request → Option ℕ
ssap_of Diagnosis = Some 62
ssap_of Parameters = Some 62
ssap_of Configuration = Some 62
ssap_of Data = None

abbrev pub priority_of : Request → RequestType
priority_of Diagnosis = SrdLow
priority_of Parameters = SrdLow
priority_of Configuration = SrdLow
priority_of Data = SrdHigh

-- from the station sa to the station da
abbrev pub header_of : Request → ℕ → ℕ → FrameCountBit → DataTelegramHeader
header_of k da sa bit = record { da = da; sa = sa; dsap = dsap_of k; ssap = ssap_of k; fcb = bit; req = priority_of k }

-- global control: address 0x7F, low-priority SDN, frame bit inactive, DSAP 58, SSAP 62
abbrev pub control_header : ℕ → DataTelegramHeader
control_header sa = record { da = 0x7F; sa = sa; dsap = Some 58; ssap = Some 62; fcb = Inactive; req = SdnLow }
