-- Which replies are reported DataExchanged, by the log alone.
-- The idea: the request that is open is the one asked last, and the reply is judged as its answer; the image's range lies in the lent pool, so that only the length decides.
use mathlib.Core.Path.{◌≡◌, refl, sym, ap, ◌∙◌}
use Prim.Native.Nat.{ℕ, ◌+◌}
use mathlib.Core.Bool.{Bool, true, false, ◌&&◌, false≢true, and-true, or-false}
use mathlib.Core.List.{List}
use mathlib.Core.Option.{some}
use lib.Dec.{eqb, leb}
use lib.ListN.{length}
use borrow.Author.Tests.{le-leb}
use Rattle.parts.specs.Parts.{inside}
use Rattle.parts.proofs.Laws.{length_part, inside-leb}
use Rattle.fdl.specs.declared.telegram.Telegram.{Telegram}
use Rattle.fdl.specs.declared.telegram.Telegram.TheVariants.{ShortConfirmation, Data as DataReply, Token, Request as RequestTelegram}
use Rattle.payloads.specs.declared.request.Request.{Request}
use Rattle.payloads.specs.declared.request.Request.TheVariants.{Diagnosis, Parameters, Configuration, Data}
use Rattle.payloads.specs.Request.{is_data}
use Rattle.station.specs.Visit.{judged_as}
use Rattle.station.specs.Heard.{is_exchanged}
use Rattle.station.proofs.Heards.{carries_data}
use Rattle.peripheral.specs.declared.record.Peripheral.{Peripheral}
use Rattle.peripheral.specs.Response.{fits_image, answer_to}
use Rattle.peripheral.proofs.Pools.{exchanged-when}
use Rattle.master.specs.Receive.{open_request, reply_at}
use Rattle.master.specs.Pools.{lend}
use Rattle.valid.specs.Valid.{balance}
use Rattle.call_log.specs.Calls.{World, reply_number, reply_step, step}
use Rattle.call_log.specs.Notes.{event_of}
use Rattle.call_log.specs.Entries.{Entry, slot_log}
use Rattle.call_log.specs.Words.{last_asked, judged, brings_image, image_of}
use Rattle.call_log.specs.Run.{run}
use Rattle.call_log.specs.Promises.{Exchanged, DataTold}
use Rattle.call_log.proofs.Lives.{last-asked, judged_is}
use Rattle.call_log.proofs.Stations.{image_is}
use Rattle.call_log.proofs.Units.{Inv}
use Rattle.call_log.proofs.Replying.{is_open, pool-length, there, index_is, seen, asked_here}
use Rattle.call_log.proofs.Promised.{inv_run, reply_done}

-- a request for data, as the log says it
asked_data : (k : Request) → judged (some k) ≡ is_data k
asked_data Diagnosis = refl
asked_data Parameters = refl
asked_data Configuration = refl
asked_data Data = refl

-- the image, where its range lies in the pool
brought : (t : Telegram) (p : Peripheral) (payload image : List ℕ) (inputs : ℕ) → leb (p.ranges.inputs + p.ranges.input_len) inputs ≡ true → length image ≡ p.ranges.input_len
    → (carries_data t && fits_image t p (length payload) inputs) ≡ brings_image image t payload
unfolding fits_image
brought ShortConfirmation p payload image inputs e n = rw n (sym (or-false (eqb p.ranges.input_len 0)))
brought (DataReply dsap ssap c) p payload image inputs e n = rw (e, n, or-false (eqb c 10), and-true (eqb (length payload) p.ranges.input_len)) refl
brought Token p payload image inputs e n = refl
brought RequestTelegram p payload image inputs e n = refl

module _ (w : World) (l : List Entry) (i : Inv w l) (address : ℕ) (r : Telegram) (payload : List ℕ) (ni nd : ℕ) (z : reply_number address r payload ni nd w ≡ 0) where
  slot : ℕ
  slot = w.unit.state.open_slot

  p : Peripheral
  p = balance w.unit w.unit.state.open_slot

  pool : List ℕ
  pool = lend ni w.pools.inputs

  -- its range lies in the lent pool
  lies : leb (p.ranges.inputs + p.ranges.input_len) (length pool) ≡ true
  unfolding p pool
  lies = rw (pool-length w l i address r payload ni nd z) (le-leb _ _ (i.valid.placed w.unit.state.open_slot (there w l i address r payload ni nd z)).input_end)

  image-length : length (image_of (slot_log slot l)) ≡ p.ranges.input_len
  unfolding slot p pool
  image-length =
      let lived = seen w l i address r payload ni nd z slot (there w l i address r payload ni nd z) in
      let within : inside p.ranges.inputs p.ranges.input_len pool ≡ true = sym (inside-leb p.ranges.inputs p.ranges.input_len pool) ∙ lies in
      sym (ap (λ (im : List ℕ). length im) (image_is lived)) ∙ (length_part p.ranges.inputs p.ranges.input_len pool ∙ rw within refl)

  event_is : (diags : List ℕ) → is_exchanged (answer_to (judged_as (open_request w.unit) p.station) r p payload (length pool) (length diags)).event ≡ (judged (last_asked (slot_log slot l)) && brings_image (image_of (slot_log slot l)) r payload)
  unfolding slot p
  event_is diags =
      let k = open_request w.unit in
      let lived = seen w l i address r payload ni nd z slot (there w l i address r payload ni nd z) in
      let opened = asked_here w l i address r payload ni nd z in
      exchanged-when r p payload pool diags (judged_as k p.station)
      ∙ rw (judged_is lived opened, last-asked lived opened, asked_data k) (ap (λ (b : Bool). is_data k && b) (brought r p payload (image_of (slot_log slot l)) (length pool) lies image-length))

  pub exchanged : (b : Bool) → b ≡ true → Exchanged l r payload (event_of (reply_step b 0 (reply_at r w.unit payload (lend ni w.pools.inputs) (lend nd w.pools.diags)) r payload ni nd w).answer)
  unfolding reply_at slot p pool
  exchanged true t = record { slot = slot; newest = i.aimed (is_open w l i address r payload ni nd z); when = rw (index_is w l i address r payload ni nd z) (event_is (lend nd w.pools.diags)) }
  exchanged false t = absurd (false≢true t)

pub data_told : DataTold
unfolding step
data_told u pools cs address t payload ni nd e =
    let w = (run u pools cs).world in
    let z = reply_done w address t payload ni nd e in
    rw z (exchanged w (run u pools cs).log (inv_run u pools cs) address t payload ni nd z true refl)
