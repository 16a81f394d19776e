-- A visit to a balance: what it does, the balance afterwards, and what it sends.
-- From 01, "One visit and one reply": the first paragraph and the table of requests.
use Rattle.std.specs.Prelude.{ℕ, Bool, cond, List, [], ◌++◌, length}
use Rattle.parts.specs.Parts.{zeros}
use Rattle.fdl.specs.Bits.{bit_of}
use Rattle.fdl.specs.declared.parameters.Parameters.{Parameters as UnitParameters}
use Rattle.fdl.specs.declared.telegram.DataTelegramHeader.{DataTelegramHeader}
use Rattle.payloads.specs.declared.request.Request.{Request}
use Rattle.payloads.specs.declared.request.Request.TheVariants.{Diagnosis, Parameters, Configuration, Data}
use Rattle.payloads.specs.Request.{header_of}
use Rattle.payloads.specs.Payload.{param_head}
use Rattle.station.specs.declared.visit.Visited.{Visited}
use Rattle.station.specs.Visit.{action_of, visited_of}
use Rattle.peripheral.specs.declared.record.Peripheral.{Peripheral}
use Rattle.peripheral.specs.declared.visit.Visit.{Visit}
use Rattle.peripheral.specs.Record.{station_is, output_image, user_part, config_part}

-- what a visit does, by the balance's own set-up data
abbrev pub visit_action : ℕ → Peripheral → Visited
visit_action limit p = action_of limit p.options.has_user_parameters p.options.has_config p.station

-- a balance after a visit with a limit
abbrev pub visited_by : ℕ → Peripheral → Peripheral
visited_by limit p = station_is (visited_of (visit_action limit p) p.station) p

abbrev pub visit_of : ℕ → Peripheral → Visit
visit_of limit p = record { peripheral = visited_by limit p; what = visit_action limit p }

-- the header of a request from the station own
abbrev pub request_header : Request → ℕ → Peripheral → DataTelegramHeader
request_header k own p = header_of k p.station.address own (bit_of p.station.fcb)

-- how many zeros are a balance's Clear signal: as many bytes as its image has, and none where it is marked `fail_safe`
abbrev pub clear_length : Bool → ℕ → ℕ
clear_length fail_safe n = cond fail_safe 0 n

-- diagnosis: empty; parameters: 7 bytes, then user parameters; configuration: as stored;
-- data: the output image; in Clear zeros of that length, and nothing for a balance marked `fail_safe`
unfoldable pub payload_of : Request → UnitParameters → Bool → Peripheral → List ℕ → List ℕ → List ℕ
payload_of Diagnosis u clear p setup outputs = []
payload_of Parameters u clear p setup outputs = param_head u p.options ++ user_part p setup
payload_of Configuration u clear p setup outputs = config_part p setup
payload_of Data u clear p setup outputs =
    cond clear (zeros (clear_length p.options.fail_safe (length (output_image p outputs)))) (output_image p outputs)
