-- No answer is longer than `longest`, so none is cut off: the place that `next_at` answers has room for it.
-- The idea: a field has at most 21 bytes whatever its number is, so an answer is bounded by how many fields it has.
use mathlib.Core.Path.{◌≡◌, refl, sym, ap, ◌∙◌}
use mathlib.Core.Bool.{Bool, true, false}
use mathlib.Core.List.{List, [], ◌∷◌, ◌++◌}
use Prim.Native.Nat.{ℕ, zero, suc, ◌+◌, ◌*◌, ◌/◌, ◌≤◌}
use native.Mathlib.Omega.{arith}
use lib.ListN.{length, length-append, length-set, set, get_or}
use lib.Dec.{leb, ltb, eqb}
use borrow.Author.Tests.{leb-true}
use Rattle.parts.proofs.Laws.{by_test}
use Rattle.script_fields.specs.Write.{Out, written, decimal_in, digit_of, field_text, fields_text, hex_text, bytes_text, newline, sum_of}
use Rattle.script_fields.proofs.Laws.{put_in}
use Rattle.fdl.specs.declared.telegram.DataTelegramHeader.{DataTelegramHeader}
use Rattle.fdl.specs.declared.parameters.Parameters.{Parameters}
use Rattle.payloads.specs.declared.diagnosis.DiagnosticsInfo.{DiagnosticsInfo}
use Rattle.peripheral_set.specs.declared.PeripheralHandle.{PeripheralHandle}
use Rattle.peripheral_set.specs.Marks.{slots, listed}
use Rattle.peripheral.specs.declared.record.Peripheral.{Peripheral}
use Rattle.peripheral.specs.Record.{blank}
use Rattle.master.specs.declared.unit.Used.{Used}
use Rattle.cycle.specs.declared.state.DpMasterState.{DpMasterState}
use Rattle.answers.specs.declared.turn.Transmission.{Transmission}
use Rattle.answers.specs.declared.turn.Transmission.TheVariants.{Nothing, Control, Request}
use Rattle.answers.specs.declared.turn.TurnAnswer.{TurnAnswer}
use Rattle.answers.specs.declared.reply_answer.ReplyAnswer.{ReplyAnswer}
use Rattle.master.specs.declared.unit.DpMaster.{DpMaster}
use Rattle.script_answers.specs.Answer.{bare_text, numbered_text, added_text, header_text, transmission_text, turn_text, reply_text, image_text, diagnosis_text, listing_text}
use Rattle.script_dump.specs.declared.Sums.{Sums}
use Rattle.script_dump.specs.Dump.{parameters_text, state_text, pools_text, setup_text, slot_text, slot_if, slots_from, dump_text}
use Rattle.script_driver.specs.Room.{longest, next_at, Whole}

-- ---- fields

decimal-most : (k n : ℕ) → length (decimal_in k n) ≤ k
unfolding decimal_in
decimal-most zero n = omega arith
decimal-most (suc k) n =
    by_test (ltb n 10) (λ e. rw e (omega arith))
    (λ e. rw e (omega (arith, length-append (decimal_in k (n / 10)) (digit_of n ∷ []), decimal-most k (n / 10))))

field_most : (n : ℕ) → length (field_text n) ≤ 21
field_most n = omega (arith, decimal-most 20 n)

fields_most : (l : List ℕ) → length (fields_text l) ≤ 21 * length l
unfolding fields_text
fields_most [] = omega arith
fields_most (n ∷ l) = omega (arith, length-append (field_text n) (fields_text l), field_most n, fields_most l)

hex_length : (l : List ℕ) → length (hex_text l) ≡ 2 * length l
unfolding hex_text
hex_length [] = refl
hex_length (b ∷ l) = omega (arith, hex_length l)

bytes_most : (l : List ℕ) → length (bytes_text l) ≤ 1 + 2 * length l
bytes_most [] = omega arith
bytes_most (b ∷ l) = omega (arith, hex_length (b ∷ l))

-- n numbers and a text t behind them
line_most : (l t : List ℕ) (n k : ℕ) → length l ≡ n → length t ≤ k → length (fields_text l ++ t) ≤ 21 * n + k
line_most l t n k e h = omega (arith, length-append (fields_text l) t, fields_most l)

-- BYTES and the newline
tail_most : (part : List ℕ) → length ((32 ∷ bytes_text part) ++ newline) ≤ 3 + 2 * length part
tail_most part = omega (arith, length-append (32 ∷ bytes_text part) newline, bytes_most part)

-- ---- the answers

-- a letter, n numbers, and a text of at most k bytes with the newline
line_fits : (letter : ℕ) (l t : List ℕ) (n k : ℕ) → length l ≡ n → length t ≤ k → 1 + 21 * n + k ≤ longest → length (letter ∷ (fields_text l ++ t)) ≤ longest
line_fits letter l t n k e h w = omega (arith, line_most l t n k e h)

pub bare_fits : (letter : ℕ) → length (bare_text letter) ≤ longest
bare_fits letter = omega arith

pub numbered_fits : (letter n : ℕ) → length (numbered_text letter n) ≤ longest
numbered_fits letter n = omega (arith, length-append (field_text n) newline, field_most n)

pub added-fits : (refusal : ℕ) (h : PeripheralHandle) → length (added_text refusal h) ≤ longest
unfolding added_text
added-fits refusal h =
    by_test (eqb refusal 0) (λ e. rw e (line_fits 0x41 _ newline 3 1 refl (omega arith) (omega arith))) (λ e. rw e (numbered_fits 0x41 refusal))

header_most : (h : DataTelegramHeader) (to : ℕ) (payload : List ℕ) → length payload ≤ 300 → length (header_text h to payload) ≤ 749
unfolding header_text
header_most h to payload p = line_most _ (32 ∷ bytes_text payload) 7 602 refl (omega (arith, bytes_most payload))

sent_most : (t : Transmission) (payload : List ℕ) → length payload ≤ 300 → length (transmission_text t payload) ≤ 749
sent_most Nothing payload p = omega arith
sent_most (Control h) payload p = header_most h 255 payload p
sent_most (Request slot kind h) payload p = header_most h slot payload p

pub turn-fits : (a : TurnAnswer) (payload : List ℕ) → length payload ≤ 300 → length (turn_text a payload) ≤ longest
unfolding turn_text
turn-fits a payload p =
    let s = transmission_text a.transmission payload in
    line_fits 0x54 _ (s ++ newline) 7 750 refl (omega (arith, length-append s newline, sent_most a.transmission payload p)) (omega arith)

pub reply-fits : (a : ReplyAnswer) → length (reply_text a) ≤ longest
unfolding reply_text
reply-fits a = line_fits 0x52 _ newline 4 1 refl (omega arith) (omega arith)

pub image-fits : (letter refusal : ℕ) (part : List ℕ) → length part ≤ 255 → length (image_text letter refusal part) ≤ longest
unfolding image_text
image-fits letter refusal part p =
    line_fits letter _ ((32 ∷ bytes_text part) ++ newline) 2 513 refl (omega (arith, tail_most part)) (omega arith)

pub diagnosis-fits : (refusal : ℕ) (d : DiagnosticsInfo) (part : List ℕ) → length part ≤ 255 → length (diagnosis_text refusal d part) ≤ longest
unfolding diagnosis_text
diagnosis-fits refusal d part p =
    line_fits 0x47 _ ((32 ∷ bytes_text part) ++ newline) 6 513 refl (omega (arith, tail_most part)) (omega arith)

pub listing_fits : (refusal : ℕ) (entries all : List ℕ) → length entries ≤ 120 → length (listing_text refusal entries all) ≤ longest
unfolding listing_text
listing_fits refusal entries all p =
    let s = field_text (sum_of all) ++ newline in
    let h : length s ≤ 22 = omega (arith, length-append (field_text (sum_of all)) newline, field_most (sum_of all)) in
    let w : length (fields_text entries ++ s) ≤ 2542 = omega (arith, line_most entries s (length entries) 22 refl h) in
    line_fits 0x48 _ (fields_text entries ++ s) 2 2542 refl w (omega arith)

-- ---- the dump

setup-most : (present : Bool) (len : ℕ) → length (setup_text present len) ≤ 21
unfolding setup_text
setup-most true len = field_most len
setup-most false len = omega arith

slot-most : (i : ℕ) (p : Peripheral) → length (slot_text i p) ≤ 525
unfolding slot_text
slot-most i p =
    let o = p.options in
    let r = p.ranges in
    let behind = r.input_len ∷ r.output_len ∷ r.diag_room ∷ r.setup ∷ r.inputs ∷ r.outputs ∷ r.diag ∷ [] in
    let user = setup_text o.has_user_parameters o.user_parameters in
    let config = setup_text o.has_config o.config in
    let h : length (user ++ (config ++ fields_text behind)) ≤ 189 =
    omega (
      arith,
      length-append user (config ++ fields_text behind),
      length-append config (fields_text behind),
      setup-most o.has_user_parameters o.user_parameters,
      setup-most o.has_config o.config,
      fields_most behind,
    ) in
    line_most _ (user ++ (config ++ fields_text behind)) 16 189 refl h

slot_if_most : (occupied : Bool) (i : ℕ) (p : Peripheral) → length (slot_if occupied i p) ≤ 525
unfolding slot_if
slot_if_most true i p = slot-most i p
slot_if_most false i p = omega arith

slots-most : (n : ℕ) (marks : List Bool) (all : List Peripheral) (i : ℕ) → length (slots_from n marks all i) ≤ 525 * n
unfolding slots_from
slots-most zero marks all i = omega arith
slots-most (suc n) marks all i =
    omega (arith, length-append (slot_if (get_or marks i false) i (get_or all i blank)) (slots_from n marks all (i + 1)), slot_if_most (get_or marks i false) i (get_or all i blank), slots-most n marks all (i + 1))

parameters-most : (u : Parameters) → length (parameters_text u) ≤ 231
unfolding parameters_text
parameters-most u = fields_most _

state-most : (s : DpMasterState) → length (state_text s) ≤ 168
unfolding state_text
state-most s = fields_most _

pools-most : (used : Used) (sums : Sums) → length (pools_text used sums) ≤ 168
unfolding pools_text
pools-most used sums = fields_most _

pub dump_fits : (m : DpMaster) (sums : Sums) → length (dump_text m sums) ≤ longest
unfolding dump_text
dump_fits m sums =
    let p = parameters_text m.parameters in
    let s = state_text m.state in
    let q = pools_text m.used sums in
    let n = field_text (length (listed m.occupied)) in
    let l = slots_from slots m.occupied m.peripherals 0 in
    omega (
      arith,
      length-append p (s ++ (q ++ (n ++ (l ++ newline)))),
      length-append s (q ++ (n ++ (l ++ newline))),
      length-append q (n ++ (l ++ newline)),
      length-append n (l ++ newline),
      length-append l newline,
      parameters-most m.parameters,
      state-most m.state,
      pools-most m.used sums,
      field_most (length (listed m.occupied)),
      slots-most slots m.occupied m.peripherals 0,
    )

-- ---- nothing is left out

written_whole : (w : List ℕ) (at : ℕ) (out : List ℕ) → at + length w ≤ length out → Whole w at out
unfolding written
written_whole [] at out h = omega arith
written_whole (b ∷ w) at out h =
    ap (λ (o : Out). (written w o).at) (sym (put_in b at out (omega arith)))
    ∙ written_whole w (at + 1) (set out at b) (omega (arith, length-set out at b))
    ∙ omega arith

-- at the place of the next answer there is room for it
pub answered_whole : (w : List ℕ) (at : ℕ) (out : List ℕ) → length w ≤ longest → longest ≤ length out → Whole w (next_at (length out) at) out
answered_whole w at out h k =
    by_test (leb (at + longest) (length out)) (λ e. rw e (written_whole w at out (omega (arith, leb-true (at + longest) (length out) e))))
    (λ e. rw e (written_whole w 0 out (omega arith)))
