-- Which call is refused, and with which number: the rows of each call, of which the first that applies is the answer.
-- From 01, "Refusal numbers".
use Rattle.std.specs.Prelude.{ℕ, Bool, List, [], ◌∷◌}
use Rattle.refusals.specs.Table.{Row, max_user, max_config, max_image, max_room, lent_row, buffer_row, turn_row, full_row, address_row, shared_row, length_row, asked_row, usable_row, first_of}
use Rattle.fdl.specs.Status.{usable_reply}
use Rattle.fdl.specs.declared.parameters.Parameters.{Parameters}
use Rattle.fdl.specs.declared.telegram.Telegram.{Telegram}
use Rattle.peripheral_set.specs.Marks.{slots}
use Rattle.cycle.specs.declared.state.DpMasterState.{DpMasterState}
use Rattle.cycle.specs.declared.refusal.Lent.{Lent}
use Rattle.cycle.specs.declared.refusal.Lengths.{Lengths}
use Rattle.cycle.specs.State.{is_open}

-- a turn: what is lent, and the time
abbrev pub turn_rows : Parameters → DpMasterState → ℕ → ℕ → ℕ → ℕ → List Row
turn_rows u s time setup outputs payload =
    lent_row setup u.setup_pool
    ∷ lent_row outputs u.output_pool
    ∷ buffer_row payload
    ∷ turn_row s.last_turn time
    ∷ []

unfoldable pub turn_refusal : Parameters → DpMasterState → ℕ → ℕ → ℕ → ℕ → ℕ
turn_refusal u s time setup outputs payload = first_of (turn_rows u s time setup outputs payload)

-- a reply: what is lent, the open request and the address of its balance, and the telegram
abbrev pub reply_rows : Parameters → DpMasterState → ℕ → ℕ → Telegram → ℕ → ℕ → ℕ → List Row
reply_rows u s asked address t payload inputs diags =
    lent_row inputs u.input_pool
    ∷ lent_row diags u.diag_pool
    ∷ asked_row (is_open s) address asked
    ∷ usable_row (usable_reply t payload)
    ∷ []

unfoldable pub reply_refusal : Parameters → DpMasterState → ℕ → ℕ → Telegram → ℕ → ℕ → ℕ → ℕ
reply_refusal u s asked address t payload inputs diags = first_of (reply_rows u s asked address t payload inputs diags)

-- an address by itself, which adding and a reset give a balance
unfoldable pub address_refusal : Parameters → ℕ → ℕ
address_refusal u address = first_of (address_row address u.address ∷ [])

-- the lengths that an add asks for
abbrev pub length_rows : Lengths → List Row
length_rows l =
    length_row max_user l.user
    ∷ length_row max_config l.config
    ∷ length_row max_image l.inputs
    ∷ length_row max_image l.outputs
    ∷ length_row max_room l.room
    ∷ []

unfoldable pub length_refusal : Lengths → ℕ
length_refusal l = first_of (length_rows l)

-- an add, before its ranges have a place: what is lent, the table (slot is the first empty one), the address (and whether another balance has it) and the lengths
abbrev pub add_rows : Parameters → Lent → ℕ → ℕ → Bool → Lengths → List Row
add_rows u lent slot address elsewhere l =
    lent_row lent.setup u.setup_pool
    ∷ lent_row lent.inputs u.input_pool
    ∷ lent_row lent.outputs u.output_pool
    ∷ lent_row lent.diags u.diag_pool
    ∷ full_row slot slots
    ∷ address_row address u.address
    ∷ shared_row elsewhere
    ∷ length_rows l

unfoldable pub add_refusal : Parameters → Lent → ℕ → ℕ → Bool → Lengths → ℕ
add_refusal u lent slot address elsewhere l = first_of (add_rows u lent slot address elsewhere l)
