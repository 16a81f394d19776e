-- Service access points: absent or a number, and the number of each one that the Rust names and the DP master uses.
-- From 01, "One visit and one reply" (60, 61, 62, none) and "Global control is DSAP 58, SSAP 62".
use Rattle.std.specs.Prelude.{cond, ℕ, eqb, Option, Some, None}
use Rattle.fdl.specs.declared.consts.Service.{Service}
use Rattle.fdl.specs.declared.consts.Service.TheVariants.{MasterDataExchange, MasterMs0, SlaveDataExchange, SlaveGlobalControl, SlaveDiagnosis, SlaveSetPrm, SlaveChkCfg}

-- the number that stands for it: 255 is none
abbrev pub sap_number : Option ℕ → ℕ
sap_number None = 255
sap_number (Some n) = n

abbrev pub sap_of : ℕ → Option ℕ
sap_of n = cond (eqb n 255) None (Some n)

abbrev pub service_sap : Service → Option ℕ
service_sap MasterDataExchange = None
service_sap MasterMs0 = Some 62
service_sap SlaveDataExchange = None
service_sap SlaveGlobalControl = Some 58
service_sap SlaveDiagnosis = Some 60
service_sap SlaveSetPrm = Some 61
service_sap SlaveChkCfg = Some 62
