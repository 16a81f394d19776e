-- What the visits of a turn have seen: the mask of all slots reported Offline, the first of them, and what was sent.
-- From 01, "One turn", step 4 and the paragraph on the mask.
use Rattle.std.specs.Prelude.{ℕ, ◌^◌, Bool, true, false, cond, List, ltb, Option, Some, None}
use Rattle.std.specs.Option.{option_or}
use Rattle.std.specs.Int.Bits.{bit_or}
use Rattle.peripheral_set.specs.Marks.{slots, next_after}
use Rattle.station.specs.declared.visit.Visited.{Visited}
use Rattle.station.specs.declared.visit.Visited.TheVariants.{Sends, Drops, Skips}
use Rattle.cycle.specs.declared.seen.Seen.{Seen}
use Rattle.cycle.specs.declared.seen.Sent.{Sent}

-- the bit of a slot
abbrev pub bit_at : ℕ → ℕ
bit_at slot = cond (ltb slot slots) (2 ^ slot) 0

abbrev pub nothing_seen : Seen
nothing_seen = record { mask = 0; first = None; sent = None }

-- after the visit to a slot: each one that fell has its bit, and the first of them is the event
abbrev pub seen_by : ℕ → Visited → Seen → Seen
seen_by slot (Sends k) s = record { mask = s.mask; first = s.first; sent = Some (record { slot = slot; kind = k }) }
seen_by slot Drops s = record { mask = bit_or s.mask (bit_at slot); first = option_or s.first (Some slot); sent = s.sent }
seen_by slot Skips s = s

-- nothing was sent yet
abbrev pub idle : Option Sent → Bool
idle None = true
idle (Some sent) = false

-- where the visits go on: not after one that sent
abbrev pub next_in : Option Sent → List Bool → ℕ → ℕ
next_in None marks slot = next_after marks slot
next_in (Some sent) marks slot = slots

-- a slot number as an index; one that is no slot's counts as the first, since no record may stop the unit (DECISIONS 27)
abbrev pub index_of : ℕ → ℕ
index_of slot = cond (ltb slot slots) slot 0

abbrev pub sent_index : Option Sent → ℕ
sent_index None = 0
sent_index (Some sent) = index_of sent.slot

abbrev pub first_index : Option ℕ → ℕ
first_index None = 0
first_index (Some slot) = index_of slot
