-- Runs: any calls on a unit just created, and the log that they leave. The calls are listed newest first, as the log is.
-- From 01, "Words of the log": the log holds accepted calls with their answers.
use Rattle.std.specs.Prelude.{cond, List, [], ◌∷◌}
use Rattle.fdl.specs.declared.parameters.Parameters.{Parameters}
use Rattle.master.specs.Unit.{created_of}
use Rattle.master.specs.Pools.{Pools}
use Rattle.call_log.specs.Calls.{Call, World, Outcome, accepted, step}
use Rattle.call_log.specs.Entries.{Entry}

pub record Run : Type 0 where
  pub world : World
  pub log : List Entry

-- only accepted calls are entered
abbrev pub after : Call → Outcome → List Entry → Run
after c o l = record { world = o.world; log = cond (accepted o.answer) (record { call = c; answer = o.answer } ∷ l) l }

-- from creation with these parameters, refused or not, and these pools; f is what a call does
abbrev pub run_by : (World → Call → Outcome) → Parameters → Pools → List Call → Run
run_by f u pools [] = record { world = record { unit = (created_of u).master; pools = pools }; log = [] }
run_by f u pools (c ∷ cs) = after c (f (run_by f u pools cs).world c) (run_by f u pools cs).log

-- by the definitions that the contracts cite
abbrev pub run : Parameters → Pools → List Call → Run
run u pools cs = run_by step u pools cs

-- the calls without those that were refused
abbrev pub accepted_of : Parameters → Pools → List Call → List Call
accepted_of u pools [] = []
accepted_of u pools (c ∷ cs) = cond (accepted (step (run u pools cs).world c).answer) (c ∷ accepted_of u pools cs) (accepted_of u pools cs)
