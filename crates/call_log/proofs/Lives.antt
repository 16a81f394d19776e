-- The life of one slot: all that calls can do to its open request, its balance, its input image and its notes, one line each.
-- The idea: that calls do nothing else is shown once (Units, Adding, Turning, Replying); a fact of slots is then a walk over these eight lines.
use mathlib.Core.Path.{◌≡◌, refl}
use Prim.Native.Nat.{ℕ}
use mathlib.Core.List.{List, ◌∷◌}
use mathlib.Core.Bool.{Bool, true, not, cond}
use mathlib.Core.Option.{Option, none, some}
use lib.Dec.{T}
use lib.ListN.{length}
use Rattle.parts.specs.Parts.{zeros}
use Rattle.fdl.specs.Status.{carried}
use Rattle.fdl.specs.declared.telegram.Telegram.{Telegram}
use Rattle.fdl.specs.declared.telegram.Telegram.TheVariants.{ShortConfirmation, Data as DataReply, Token, Request as RequestTelegram}
use Rattle.payloads.specs.declared.request.Request.{Request}
use Rattle.payloads.specs.declared.request.Request.TheVariants.{Diagnosis, Parameters, Configuration, Data}
use Rattle.payloads.specs.Request.{kind_number, is_data}
use Rattle.payloads.specs.Diagnosis.{diagnosis_of, taken}
use Rattle.station.specs.declared.visit.Visited.{Visited}
use Rattle.station.specs.declared.visit.Visited.TheVariants.{Sends, Drops, Skips}
use Rattle.station.specs.declared.record.Station.{Station}
use Rattle.station.specs.declared.heard.Heard.{Heard}
use Rattle.station.specs.declared.state.PeripheralState.{PeripheralState}
use Rattle.station.specs.declared.state.PeripheralState.TheVariants.{Offline, WaitForParam, WaitForConfig, ValidateConfig, PreDataExchange, DataExchange}
use Rattle.station.specs.State.{state_of}
use Rattle.station.specs.Record.{due_is, with_diagnosis}
use Rattle.station.specs.Visit.{request_in, judged_as, visited_of}
use Rattle.station.specs.Heard.{is_exchanged}
use Rattle.station.proofs.Rows.{coded, ReplyRow, reply_row}
use Rattle.peripheral.specs.declared.record.Peripheral.{Peripheral}
use Rattle.peripheral.specs.Record.{reset_of, station_is}
use Rattle.peripheral.specs.Visit.{visit_action, visited_by}
use Rattle.peripheral.specs.Response.{payload_stored, station_diagnosed, fits_image, answer_to}
use Rattle.peripheral.proofs.Laws.{answer_heard}
use Rattle.valid.specs.Valid.{fits, Fits}
use Rattle.valid.proofs.Stations.{action_fits, fits-due}
use Rattle.cycle.specs.declared.refusal.Lengths.{Lengths}
use Rattle.master.specs.declared.unit.DpMaster.{DpMaster}
use Rattle.master.specs.declared.add.Addition.{Addition}
use Rattle.master.specs.Add.{newcomer, lengths_of}
use Rattle.call_log.specs.Notes.{Note, was_added, readdressed, wished, went_offline, asked, got}
use Rattle.call_log.specs.Words.{last_asked, has_status}

-- a slot: its open request, its balance, its input image
pub record Slot : Type 0 where
  pub request : Option Request
  pub balance : Peripheral
  pub image : List ℕ

abbrev pub slot_of : Option Request → Peripheral → List ℕ → Slot
slot_of k p im = record { request = k; balance = p; image = im }

-- with its request as given, and another station
abbrev pub stays : Option Request → Station → Slot → Slot
stays k s x = slot_of k (station_is s x.balance) x.image

-- as newly added, at another address, after a reply t
abbrev pub new_slot : DpMaster → Addition → Lengths → Slot
new_slot m a sizes = slot_of none (newcomer m a sizes) (zeros a.input_len)

abbrev pub moved_slot : ℕ → Slot → Slot
moved_slot address x = slot_of none (reset_of x.balance address) x.image

abbrev pub heard_slot : Telegram → List ℕ → Heard → Slot → Slot
heard_slot t payload h x = slot_of none (station_is h.station x.balance) (cond (is_exchanged h.event) (carried t payload) x.image)

-- a reply to a balance, in the words of its notes; n: how many bytes of a diagnosis are stored
abbrev pub RowOf : Station → Telegram → List ℕ → ℕ → Request → Heard → Type 0
RowOf s t payload n k h = ReplyRow s (with_diagnosis (diagnosis_of payload) n s) t (taken t (length payload)) (has_status 3 t) (has_status 10 t) k h

-- limit: the unit's `max_retry_limit`; then the slot and its notes
pub data Lives (limit : ℕ) : Slot → List Note → Type 0 where
  -- added
  joins : (a : Addition) (user config : List ℕ) (m : DpMaster) (l : List Note) → Lives limit (new_slot m a (lengths_of a user config)) (was_added a ∷ l)
  -- its address is reset
  moves : {x : Slot} {l : List Note} → Lives limit x l → (address : ℕ) → Lives limit (moved_slot address x) (readdressed ∷ l)
  -- a caller wishes for a diagnosis
  wishes : {x : Slot} {l : List Note} → Lives limit x l → Lives limit (stays x.request (due_is true x.balance.station) x) (wished ∷ l)
  -- a turn visits it
  sends : {x : Slot} {l : List Note} {q : Request} → Lives limit x l → visit_action limit x.balance ≡ Sends q → Lives limit (stays (some q) (visited_of (Sends q) x.balance.station) x) (asked q ∷ l)
  lost : {x : Slot} {l : List Note} → Lives limit x l → visit_action limit x.balance ≡ Drops → Lives limit (stays none (visited_of Drops x.balance.station) x) (went_offline ∷ l)
  skips : {x : Slot} {l : List Note} → Lives limit x l → visit_action limit x.balance ≡ Skips → Lives limit (stays none (visited_of Skips x.balance.station) x) l
  -- a turn does not visit it, or the reply is another slot's: no request stays open
  rests : {x : Slot} {l : List Note} → Lives limit x l → Lives limit (slot_of none x.balance x.image) l
  -- its request is answered
  gets : {x : Slot} {l : List Note} {q : Request} {t : Telegram} {payload : List ℕ} {h : Heard} → Lives limit x l → x.request ≡ some q → (n : ℕ) → RowOf x.balance.station t payload n q h
      → Lives limit (heard_slot t payload h x) (got t payload h.event ∷ l)

-- ---- a visit

abbrev pub visit_note : Visited → List Note → List Note
visit_note (Sends k) l = asked k ∷ l
visit_note Drops l = went_offline ∷ l
visit_note Skips l = l

abbrev pub kind_of : Visited → Option Request
kind_of (Sends k) = some k
kind_of Drops = none
kind_of Skips = none

module _ {limit : ℕ} {x : Slot} {l : List Note} (i : Lives limit x l) where
  visit_lives : (v : Visited) → visit_action limit x.balance ≡ v → Lives limit (stays (kind_of v) (visited_of v x.balance.station) x) (visit_note v l)
  visit_lives (Sends q) e = sends i e
  visit_lives Drops e = lost i e
  visit_lives Skips e = skips i e

  pub lives_visited : Lives limit (slot_of (kind_of (visit_action limit x.balance)) (visited_by limit x.balance) x.image) (visit_note (visit_action limit x.balance) l)
  lives_visited = visit_lives (visit_action limit x.balance) refl

-- ---- a reply to the open request is judged as its answer, and is in a row

fits-judged : (k : Request) (x : PeripheralState) (d : Bool) → T (fits x d (kind_number k)) → request_in x (not (is_data k)) ≡ k
fits-judged Diagnosis Offline d h = refl
fits-judged Diagnosis WaitForParam d h = absurd h
fits-judged Diagnosis WaitForConfig d h = absurd h
fits-judged Diagnosis ValidateConfig d h = refl
fits-judged Diagnosis PreDataExchange d h = refl
fits-judged Diagnosis DataExchange d h = refl
fits-judged Parameters Offline d h = absurd h
fits-judged Parameters WaitForParam d h = refl
fits-judged Parameters WaitForConfig d h = absurd h
fits-judged Parameters ValidateConfig d h = absurd h
fits-judged Parameters PreDataExchange d h = absurd h
fits-judged Parameters DataExchange d h = absurd h
fits-judged Configuration Offline d h = absurd h
fits-judged Configuration WaitForParam d h = absurd h
fits-judged Configuration WaitForConfig d h = refl
fits-judged Configuration ValidateConfig d h = absurd h
fits-judged Configuration PreDataExchange d h = absurd h
fits-judged Configuration DataExchange d h = absurd h
fits-judged Data Offline d h = absurd h
fits-judged Data WaitForParam d h = absurd h
fits-judged Data WaitForConfig d h = absurd h
fits-judged Data ValidateConfig d h = absurd h
fits-judged Data PreDataExchange d h = refl
fits-judged Data DataExchange d h = refl

status_is : (n : ℕ) (t : Telegram) → coded n t ≡ has_status n t
status_is n ShortConfirmation = refl
status_is n (DataReply dsap ssap c) = refl
status_is n Token = refl
status_is n RequestTelegram = refl

module _ (t : Telegram) (p : Peripheral) (payload : List ℕ) (inputs diags : ℕ) where
  pub replied_row : (k : Request) → Fits p.station (kind_number k) → RowOf p.station t payload (payload_stored p payload diags) k (answer_to (judged_as k p.station) t p payload inputs diags)
  unfolding station_diagnosed
  replied_row k f =
      let e = fits-judged k (state_of p.station.state) p.station.diag_needed f in
      let row = reply_row p.station (station_diagnosed p payload diags) t (taken t (length payload)) (fits_image t p (length payload) inputs) k in
      rw (e, ← status_is 3 t, ← status_is 10 t, answer_heard k t p payload inputs diags) (rw e at row)

-- ---- the open request is the one that was asked last, and fits the state

abbrev pub AskedLast : Option Request → Station → List Note → Type 0
AskedLast none s l = T true
AskedLast (some q) s l = (last_asked l ≡ some q) × Fits s (kind_number q)

opened-wished : (k : Option Request) (s : Station) (l : List Note) → AskedLast k s l → AskedLast k (due_is true s) (wished ∷ l)
opened-wished none s l h = tt
opened-wished (some q) s l h = (h.0, fits-due (kind_number q) s.diag_needed (state_of s.state) h.1)

pub opened : {limit : ℕ} {x : Slot} {l : List Note} → Lives limit x l → AskedLast x.request x.balance.station l
opened (joins a user config m l) = tt
opened (moves v a) = tt
opened (wishes {x = x} {l = l} v) = opened-wished x.request x.balance.station l (opened v)
opened {limit} (sends {x = x} v e) = (refl, rw e at (action_fits x.balance.options.has_user_parameters x.balance.options.has_config x.balance.station limit))
opened (lost v e) = tt
opened (skips v e) = tt
opened (rests v) = tt
opened (gets v o n r) = tt

module _ {limit : ℕ} {x : Slot} {l : List Note} {q : Request} (v : Lives limit x l) (o : x.request ≡ some q) where
  open_is : AskedLast (some q) x.balance.station l
  open_is = rw o at (opened v)

  pub last-asked : last_asked l ≡ some q
  last-asked = open_is.0

  pub judged_is : judged_as q x.balance.station ≡ q
  judged_is = fits-judged q (state_of x.balance.station.state) x.balance.station.diag_needed open_is.1

  -- the request that is open is answered
  pub replies : (t : Telegram) (payload : List ℕ) (inputs diags : ℕ) → let h = answer_to (judged_as q x.balance.station) t x.balance payload inputs diags in Lives limit (heard_slot t payload h x) (got t payload h.event ∷ l)
  replies t payload inputs diags = gets v o (payload_stored x.balance payload diags) (replied_row t x.balance payload inputs diags q open_is.1)

-- ---- a fact of slots, as its laws; each may use what is known of the slot before

pub record SlotFact (limit : ℕ) (P : Slot → List Note → Type 0) : Type 0 where
  pub on_added : (a : Addition) (user config : List ℕ) (m : DpMaster) (l : List Note) → P (new_slot m a (lengths_of a user config)) (was_added a ∷ l)
  pub on_reset : {x : Slot} {l : List Note} → Lives limit x l → P x l → (address : ℕ) → P (moved_slot address x) (readdressed ∷ l)
  pub on_wish : {x : Slot} {l : List Note} → Lives limit x l → P x l → P (stays x.request (due_is true x.balance.station) x) (wished ∷ l)
  pub on_sent : {x : Slot} {l : List Note} → Lives limit x l → P x l → (q : Request) → visit_action limit x.balance ≡ Sends q → P (stays (some q) (visited_of (Sends q) x.balance.station) x) (asked q ∷ l)
  pub on_fell : {x : Slot} {l : List Note} → Lives limit x l → P x l → visit_action limit x.balance ≡ Drops → P (stays none (visited_of Drops x.balance.station) x) (went_offline ∷ l)
  pub on_skipped : {x : Slot} {l : List Note} → Lives limit x l → P x l → visit_action limit x.balance ≡ Skips → P (stays none (visited_of Skips x.balance.station) x) l
  pub on_rest : {x : Slot} {l : List Note} → Lives limit x l → P x l → P (slot_of none x.balance x.image) l
  pub on_reply : {x : Slot} {l : List Note} → Lives limit x l → P x l → (q : Request) (t : Telegram) (payload : List ℕ) (n : ℕ) (h : Heard) → x.request ≡ some q → RowOf x.balance.station t payload n q h
      → P (heard_slot t payload h x) (got t payload h.event ∷ l)

module _ {limit : ℕ} {P : Slot → List Note → Type 0} (f : SlotFact limit P) where
  pub always : {x : Slot} {l : List Note} → Lives limit x l → P x l
  always (joins a user config m l) = f.on_added a user config m l
  always (moves v a) = f.on_reset v (always v) a
  always (wishes v) = f.on_wish v (always v)
  always (sends v e) = f.on_sent v (always v) _ e
  always (lost v e) = f.on_fell v (always v) e
  always (skips v e) = f.on_skipped v (always v) e
  always (rests v) = f.on_rest v (always v)
  always (gets v o n r) = f.on_reply v (always v) _ _ _ n _ o r
