-- The table of refusals: its numbers and limits by name, a definition for each row, the number that a list of rows answers, and what a call answers for a number.
-- From 01, "Refusal numbers", with the limits of "The unit and its sizes".
use Rattle.std.specs.Prelude.{ℕ, ◌+◌, Bool, not, ◌||◌, cond, List, [], ◌∷◌, ltb, leb, eqb, Result, Ok, Err}
use Rattle.refusals.specs.declared.Refusal.{Refusal}
use Rattle.refusals.specs.declared.Refusal.TheVariants.{BadParameter, BadLent, EarlyTurn, BadHandle, TableFull, BadAddress, TooLong, NoRoom, NotAsked, Unusable, BadLength}

-- ---- the limits

-- the highest address of a station
abbrev pub max_address : ℕ
max_address = 125

abbrev pub max_retries : ℕ
max_retries = 254

-- in microseconds
abbrev pub max_slot_time : ℕ
max_slot_time = 1000000

-- the longest pool
abbrev pub max_pool : ℕ
max_pool = 16384

-- the shortest payload buffer
abbrev pub min_buffer : ℕ
min_buffer = 244

-- the longest payload of a reply
abbrev pub max_payload : ℕ
max_payload = 246

-- of a balance: user parameters, configuration, each image, and the room for extended diagnosis
abbrev pub max_user : ℕ
max_user = 237

abbrev pub max_config : ℕ
max_config = 244

abbrev pub max_image : ℕ
max_image = 244

abbrev pub max_room : ℕ
max_room = 238

-- ---- the numbers

abbrev pub bad_parameter : ℕ
bad_parameter = 1

abbrev pub bad_lent : ℕ
bad_lent = 2

abbrev pub early_turn : ℕ
early_turn = 3

abbrev pub bad_handle : ℕ
bad_handle = 4

abbrev pub table_full : ℕ
table_full = 5

abbrev pub bad_address : ℕ
bad_address = 6

abbrev pub too_long : ℕ
too_long = 7

abbrev pub no_room : ℕ
no_room = 8

abbrev pub not_asked : ℕ
not_asked = 9

abbrev pub unusable : ℕ
unusable = 10

abbrev pub bad_length : ℕ
bad_length = 11

abbrev pub refusal_number : Refusal → ℕ
refusal_number BadParameter = bad_parameter
refusal_number BadLent = bad_lent
refusal_number EarlyTurn = early_turn
refusal_number BadHandle = bad_handle
refusal_number TableFull = table_full
refusal_number BadAddress = bad_address
refusal_number TooLong = too_long
refusal_number NoRoom = no_room
refusal_number NotAsked = not_asked
refusal_number Unusable = unusable
refusal_number BadLength = bad_length

-- ---- the rows, in the table's order

-- a number, and whether its row applies to the call at hand
pub record Row : Type 0 where
  pub number : ℕ
  pub applies : Bool

-- creation: a parameter outside its range
abbrev pub parameter_row : ℕ → ℕ → ℕ → Row
parameter_row lowest highest value = record { number = bad_parameter; applies = ltb value lowest || ltb highest value }

-- a lent pool's length is not the one at creation
abbrev pub lent_row : ℕ → ℕ → Row
lent_row len pool = record { number = bad_lent; applies = not (eqb len pool) }

-- payload buffer under 244 bytes
abbrev pub buffer_row : ℕ → Row
buffer_row len = record { number = bad_lent; applies = ltb len min_buffer }

-- list with fewer entries than there are slots
abbrev pub list_row : ℕ → ℕ → Row
list_row slots entries = record { number = bad_lent; applies = ltb entries slots }

-- turn: time before that of the last accepted turn
abbrev pub turn_row : ℕ → ℕ → Row
turn_row last time = record { number = early_turn; applies = ltb time last }

-- handle's slot is empty or above the last
abbrev pub handle_row : Bool → Row
handle_row occupied = record { number = bad_handle; applies = not occupied }

-- add: all slots occupied; slot is the first empty one
abbrev pub full_row : ℕ → ℕ → Row
full_row slot slots = record { number = table_full; applies = leb slots slot }

-- add or reset: address above 125 or the master's own
abbrev pub address_row : ℕ → ℕ → Row
address_row address own = record { number = bad_address; applies = ltb max_address address || eqb address own }

-- add or reset: the address of another occupied slot
abbrev pub shared_row : Bool → Row
shared_row elsewhere = record { number = bad_address; applies = elsewhere }

-- add: a length above its limit
abbrev pub length_row : ℕ → ℕ → Row
length_row limit len = record { number = too_long; applies = ltb limit len }

-- add: a range passes its pool's end
abbrev pub room_row : ℕ → ℕ → ℕ → Row
room_row start len pool = record { number = no_room; applies = not (leb (start + len) pool) }

-- reply: no request open, or another address than the open one's
abbrev pub asked_row : Bool → ℕ → ℕ → Row
asked_row is_open address asked = record { number = not_asked; applies = not is_open || not (eqb address asked) }

-- reply: token, request telegram, status or payload length that is not usable
abbrev pub usable_row : Bool → Row
usable_row is_usable = record { number = unusable; applies = not is_usable }

-- output write: length is not the image's
abbrev pub write_row : ℕ → ℕ → Row
write_row len image = record { number = bad_length; applies = not (eqb len image) }

-- ---- what is answered

-- "Checks run down this table; the first that applies is the answer": its number, and 0 where none does
abbrev pub first_of : List Row → ℕ
first_of [] = 0
first_of (r ∷ rows) = cond r.applies r.number (first_of rows)

-- what one row says by itself
abbrev pub said : Row → ℕ
said r = cond r.applies r.number 0

-- the first of two numbers that is not 0
unfoldable pub or_else : ℕ → ℕ → ℕ
or_else n next = cond (eqb n 0) next n

-- ---- what a call answers

-- the refusal of a number of the table; no row has another number
abbrev pub refusal_numbered : ℕ → Refusal
refusal_numbered n =
    cond (eqb n bad_parameter) BadParameter
    (cond (eqb n bad_lent) BadLent
    (cond (eqb n early_turn) EarlyTurn
    (cond (eqb n bad_handle) BadHandle
    (cond (eqb n table_full) TableFull
    (cond (eqb n bad_address) BadAddress
    (cond (eqb n too_long) TooLong
    (cond (eqb n no_room) NoRoom
    (cond (eqb n not_asked) NotAsked
    (cond (eqb n unusable) Unusable BadLength)))))))))

-- a value where the number is 0, else the refusal of the number
unfoldable pub given : {A : Type 0} → ℕ → A → Result A Refusal
given n v = cond (eqb n 0) (Ok v) (Err (refusal_numbered n))

-- done where the number is 0, else the refusal of the number
abbrev pub outcome : ℕ → Result Unit Refusal
outcome n = given n tt

-- the number of an answer: 0 where it is done
abbrev pub number_of : {A : Type 0} → Result A Refusal → ℕ
number_of (Ok v) = 0
number_of (Err r) = refusal_number r
