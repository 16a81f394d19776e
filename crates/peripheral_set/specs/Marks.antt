-- Which slots are occupied: the first empty one, the next occupied one, the listing, and when a handle is refused.
-- From 01, "The unit and its sizes" (adding, handles), "One turn" (occupied slots upward), "Refusal numbers", No. 4, and "iter".
use Rattle.std.specs.Prelude.{ℕ, zero, suc, ◌+◌, ◌-◌, Bool, true, false, not, ◌&&◌, cond, List, [], ◌∷◌, get_or, ltb, Option, Some, None}
use Rattle.std.specs.Option.{unwrap_or}
use Rattle.refusals.specs.Table.{handle_row, first_of}
use Rattle.peripheral_set.specs.declared.PeripheralHandle.{PeripheralHandle}

-- the number of slots
abbrev pub slots : ℕ
slots = 32

-- a slot's number; none where it is no slot's
abbrev pub slot_or_none : ℕ → Option ℕ
slot_or_none i = cond (ltb i slots) (Some i) None

-- a slot that may be none, as a number; none is the number behind the last slot
abbrev pub or_slots : Option ℕ → ℕ
or_slots i = unwrap_or i slots

-- no slot and no address: what stands for a handle where there is none (DECISIONS 10)
abbrev pub no_handle : PeripheralHandle
no_handle = record { slot = 255; address = 255 }

-- a mark is the wanted one
abbrev pub same_mark : Bool → Bool → Bool
same_mark true m = m
same_mark false m = not m

-- among n slots from i on: the first whose mark is the wanted one, else none
unfoldable pub search_from : ℕ → Bool → ℕ → List Bool → ℕ → ℕ
search_from none want zero marks i = none
search_from none want (suc n) marks i = cond (same_mark want (get_or marks i false)) i (search_from none want n marks (i + 1))

-- the first empty slot, which adding takes; `slots` where all are occupied
abbrev pub first_empty : List Bool → ℕ
first_empty marks = search_from slots false slots marks 0

-- the first occupied slot from a place on; `slots` where there is none
abbrev pub at_or_after : List Bool → ℕ → ℕ
at_or_after marks place = search_from slots true (slots - place) marks place

-- the first occupied slot after a place; `slots` where there is none
abbrev pub next_after : List Bool → ℕ → ℕ
next_after marks place = search_from slots true (slots - (place + 1)) marks (place + 1)

-- there is such a slot, and it is occupied
abbrev pub is_occupied : List Bool → ℕ → Bool
is_occupied marks slot = ltb slot slots && get_or marks slot false

-- the occupied among n slots from i on, in rising order
unfoldable pub listed_from : ℕ → List Bool → ℕ → List ℕ
listed_from zero marks i = []
listed_from (suc n) marks i = let rest : List ℕ = listed_from n marks (i + 1) in cond (get_or marks i false) (i ∷ rest) rest

abbrev pub listed : List Bool → List ℕ
listed marks = listed_from slots marks 0

-- the handle's slot is empty, or above the last
abbrev pub handle_refusal : PeripheralHandle → List Bool → ℕ
handle_refusal h marks = first_of (handle_row (is_occupied marks h.slot) ∷ [])
