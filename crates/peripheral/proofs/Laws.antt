-- What a reply does to the two pools, for the crates above.
-- The idea: the input pool changes only where DataExchanged is reported, and then only in the image's range; a part that does not fit its room changes nothing.
use mathlib.Core.Path.{◌≡◌, refl, sym, ◌∙◌}
use mathlib.Core.Bool.{true, false, ◌&&◌, false≢true, cond}
use mathlib.Core.Logic.{◌⊎◌}
use mathlib.Core.List.{List, []}
use Prim.Native.Nat.{ℕ, ◌+◌, ◌≤◌}
use native.Mathlib.Omega.{arith}
use lib.ListN.{length, drop, length-drop}
use lib.Dec.{leb, eqb}
use borrow.Author.Tests.{eqb-true, leb-true, leb-false, le-leb, lt-leb}
use Rattle.parts.specs.Parts.{inside, part, room_for}
use Rattle.parts.proofs.Laws.{by_test, and_left, and_right, room-own, part-put, part-put_other, length-put, put_kept, inside-leb}
use Rattle.fdl.specs.Status.{carried}
use Rattle.fdl.specs.declared.telegram.Telegram.{Telegram}
use Rattle.fdl.specs.declared.telegram.Telegram.TheVariants.{ShortConfirmation, Data as DataReply, Token, Request as RequestTelegram}
use Rattle.payloads.specs.Diagnosis.{taken, extended, diagnosis_of, flag}
use Rattle.payloads.specs.declared.request.Request.{Request}
use Rattle.payloads.specs.declared.request.Request.TheVariants.{Diagnosis, Parameters, Configuration, Data}
use Rattle.station.specs.declared.state.PeripheralEvent.{PeripheralEvent}
use Rattle.station.specs.Visit.{judged_as}
use Rattle.station.specs.Heard.{is_exchanged}
use Rattle.station.proofs.Rows.{heard_for}
use Rattle.peripheral.specs.declared.record.Peripheral.{Peripheral}
use Rattle.peripheral.specs.Record.{input_image}
use Rattle.peripheral.specs.Response.{part_fits, diagnosis_answer, station_diagnosed, fits_image, answer_to, reply_of, with_image, with_part, inputs_of, diags_of}
use Rattle.peripheral.proofs.Pools.{exchanged-fits}

-- ---- what a balance makes of a reply is what its station makes of it

pub answer_heard : (k : Request) (t : Telegram) (p : Peripheral) (payload : List ℕ) (inputs diags : ℕ)
    → answer_to k t p payload inputs diags ≡ heard_for k t (taken t (length payload)) (station_diagnosed p payload diags) (fits_image t p (length payload) inputs) p.station
unfolding answer_to diagnosis_answer
answer_heard Diagnosis t p payload inputs diags = refl
answer_heard Parameters t p payload inputs diags = refl
answer_heard Configuration t p payload inputs diags = refl
answer_heard Data t p payload inputs diags = refl

-- ---- the input pool

module _ (e : PeripheralEvent) (came : List ℕ) (p : Peripheral) (inputs : List ℕ) where
  pub inputs_kept : is_exchanged e ≡ false → inputs_of e came p inputs ≡ inputs
  inputs_kept k = rw k refl

  pub inputs-length : length (inputs_of e came p inputs) ≡ length inputs
  inputs-length = by_test (is_exchanged e) (λ k. rw k (length-put p.ranges.inputs p.ranges.input_len came inputs)) (λ k. rw k refl)

  -- any part beside the image's range
  pub inputs_other : (a n : ℕ) → (a + n ≤ p.ranges.inputs) ⊎ (p.ranges.inputs + p.ranges.input_len ≤ a) → part a n (inputs_of e came p inputs) ≡ part a n inputs
  inputs_other a n d = by_test (is_exchanged e) (λ k. rw k (part-put_other p.ranges.inputs p.ranges.input_len came inputs a n d)) (λ k. rw k refl)

-- ---- with DataExchanged the image is what the reply carried

none_of : (at : ℕ) (l : List ℕ) → part at 0 l ≡ []
unfolding part
none_of at l = by_test (inside at 0 l) (λ e. rw e refl) (λ e. rw e refl)

image_of : (t : Telegram) (p : Peripheral) (payload inputs : List ℕ) → fits_image t p (length payload) (length inputs) ≡ true
    → input_image p (with_image p (carried t payload) inputs) ≡ carried t payload
unfolding fits_image
image_of ShortConfirmation p payload inputs e = rw (eqb-true p.ranges.input_len 0 e) (none_of p.ranges.inputs _)
image_of (DataReply dsap ssap status) p payload inputs e =
    let at = p.ranges.inputs in
    let n : length payload ≡ p.ranges.input_len = eqb-true (length payload) p.ranges.input_len (and_left _ (leb (at + p.ranges.input_len) (length inputs)) e) in
    let lies : inside at p.ranges.input_len inputs ≡ true = sym (inside-leb at p.ranges.input_len inputs) ∙ and_right (eqb (length payload) p.ranges.input_len) _ e in
    let holds : room_for at (length payload) payload inputs ≡ true = room-own at payload inputs ∙ (rw (← n) at lies) in
    rw (← n) (part-put at (length payload) payload inputs ∙ (rw holds refl))
image_of Token p payload inputs e = absurd (false≢true e)
image_of RequestTelegram p payload inputs e = absurd (false≢true e)

module _ (t : Telegram) (p : Peripheral) (payload inputs diags : List ℕ) where
  pub exchanged-image : (asked : Request) → is_exchanged (reply_of asked t p payload (length inputs) (length diags)).event ≡ true
      → input_image p (inputs_of (reply_of asked t p payload (length inputs) (length diags)).event (carried t payload) p inputs) ≡ carried t payload
  exchanged-image asked x = rw x (image_of t p payload inputs (exchanged-fits t p payload inputs diags (judged_as asked p.station) x))

-- ---- the pool for diagnosis

module _ (p : Peripheral) (payload diags : List ℕ) where
  -- a part that is handed on and is not stored does not fit its room
  unfit : 6 ≤ length payload → (leb (length payload) (p.ranges.diag_room + 6) && leb (p.ranges.diag + p.ranges.diag_room) (length diags)) ≡ false
      → room_for p.ranges.diag p.ranges.diag_room (drop 6 payload) diags ≡ false
  unfolding room_for
  unfit h e =
      let n = length-drop 6 payload in
      by_test (leb (length payload) (p.ranges.diag_room + 6))
      (λ s. let shorter : leb (length (drop 6 payload)) p.ranges.diag_room ≡ true = le-leb (length (drop 6 payload)) p.ranges.diag_room (omega (arith, n, leb-true (length payload) (p.ranges.diag_room + 6) s)) in
      rw shorter (sym (inside-leb p.ranges.diag p.ranges.diag_room diags) ∙ (rw s at e)))
      (λ s. let longer : leb (length (drop 6 payload)) p.ranges.diag_room ≡ false = lt-leb (length (drop 6 payload)) p.ranges.diag_room (omega (arith, n, leb-false (length payload) (p.ranges.diag_room + 6) s)) in rw longer refl)

  -- a taken diagnosis puts the part where it is handed on; a put that does not fit leaves the pool alone
  pub diags-put : 6 ≤ length payload → diags_of true p payload diags ≡ cond (extended payload) (with_part p payload diags) diags
  unfolding part_fits
  diags-put h =
      by_test (flag 0x0008 (diagnosis_of payload).flags)
      (λ f. by_test (leb (length payload) (p.ranges.diag_room + 6) && leb (p.ranges.diag + p.ranges.diag_room) (length diags)) (λ e. rw (f, e) refl)
      (λ e. rw (f, e) (sym (put_kept p.ranges.diag p.ranges.diag_room (drop 6 payload) diags (unfit h e)))))
      (λ f. rw f refl)
