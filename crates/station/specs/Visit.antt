-- Which request a state is about; a visit: what it does, and the station afterwards.
-- From 01, "One visit and one reply", its first paragraph, and the list by state on what a reply is judged as.
use Rattle.std.specs.Prelude.{ℕ, Bool, true, not, cond, ltb, eqb}
use Rattle.payloads.specs.declared.request.Request.{Request}
use Rattle.payloads.specs.declared.request.Request.TheVariants.{Diagnosis, Parameters, Configuration, Data}
use Rattle.payloads.specs.Request.{is_data}
use Rattle.station.specs.declared.record.Station.{Station}
use Rattle.station.specs.declared.state.PeripheralState.{PeripheralState}
use Rattle.station.specs.declared.state.PeripheralState.TheVariants.{Offline, WaitForParam, WaitForConfig, ValidateConfig, PreDataExchange, DataExchange}
use Rattle.station.specs.declared.visit.Visited.{Visited}
use Rattle.station.specs.declared.visit.Visited.TheVariants.{Sends, Drops, Skips}
use Rattle.station.specs.State.{state_of}
use Rattle.station.specs.Record.{counting, fallen, one_more}

-- the request that a state is about; in the exchange states there are two, a diagnosis and data
abbrev pub request_in : PeripheralState → Bool → Request
request_in Offline diagnosis = Diagnosis
request_in WaitForParam diagnosis = Parameters
request_in WaitForConfig diagnosis = Configuration
request_in ValidateConfig diagnosis = Diagnosis
request_in PreDataExchange diagnosis = cond diagnosis Diagnosis Data
request_in DataExchange diagnosis = cond diagnosis Diagnosis Data

-- a visit sends it: in the exchange states a diagnosis if due, else data
abbrev pub request_of : Station → Request
request_of p = request_in (state_of p.state) p.diag_needed

-- a reply is judged as its answer: in the exchange states as data where data was asked, and as a diagnosis else, whatever is due
abbrev pub judged_as : Request → Station → Request
judged_as asked p = request_in (state_of p.state) (not (is_data asked))

-- it can be sent: Offline only with count 0, and set-up data (user, config) where it is needed
abbrev pub can_send : PeripheralState → ℕ → Bool → Bool → Bool
can_send Offline count user config = eqb count 0
can_send WaitForParam count user config = user
can_send WaitForConfig count user config = config
can_send ValidateConfig count user config = true
can_send PreDataExchange count user config = true
can_send DataExchange count user config = true

-- what a visit does, by the first line that applies: count above the limit; the request, where it can be sent; else a skip
unfoldable pub action_of : ℕ → Bool → Bool → Station → Visited
action_of limit user config p =
    cond (ltb limit p.retry_count) Drops
    (cond (can_send (state_of p.state) p.retry_count user config) (Sends (request_of p)) Skips)

-- sending adds 1 to the count; Offline, which is a fall, and a skip put it to 0
abbrev pub visited_of : Visited → Station → Station
visited_of (Sends k) p = counting (one_more p.retry_count) p
visited_of Drops p = fallen (counting 0 p)
visited_of Skips p = counting 0 p
