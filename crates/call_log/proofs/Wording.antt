-- The wordings by positions and the walks from the oldest note say the same.
-- The idea: a walk gains one note at a time, and each position moves on by one.
use mathlib.Core.Path.{◌≡◌, refl}
use mathlib.Core.Logic.{◌↔◌, ◌⊎◌, inl, inr}
use Prim.Native.Nat.{ℕ, zero, suc, ◌≤◌, ◌<◌}
use native.Mathlib.Nat.{le_of_suc-le-suc, not-suc-le-zero}
use native.Mathlib.Omega.{arith}
use mathlib.Core.Bool.{Bool, true, false, not, ◌&&◌, ◌||◌}
use mathlib.Core.List.{List, [], ◌∷◌}
use lib.Dec.{T}
use lib.ListN.{drop}
use mathlib.Core.Option.{Option, none, some}
use Rattle.payloads.specs.declared.request.Request.{Request}
use Rattle.payloads.specs.declared.request.Request.TheVariants.{Diagnosis, Parameters, Configuration, Data}
use Rattle.fdl.specs.declared.telegram.Telegram.{Telegram}
use Rattle.call_log.specs.Notes.{Note, Incoming, content_of, given}
use Rattle.call_log.specs.Words.{last_asked, denies, cleans, makes_due, ends_due, due_of, fall, acknowledged, clean, not_enabled, due_made, due_ended, Due, Ready}

-- ---- the walks

-- parameters acknowledged since the last fall
abbrev pub has_param : List Note → Bool
has_param [] = false
has_param (x ∷ l) = not (fall (x ∷ l)) && (acknowledged Parameters (x ∷ l) || has_param l)

-- and configuration later
abbrev pub has_config : List Note → Bool
has_config [] = false
has_config (x ∷ l) = not (fall (x ∷ l)) && (has_config l || (has_param l && acknowledged Configuration (x ∷ l)))

-- and a clean diagnosis later, with no "SAP not enabled" after it
abbrev pub ready : List Note → Bool
ready [] = false
ready (x ∷ l) = not (fall (x ∷ l)) && (not (not_enabled (x ∷ l)) && (ready l || (has_config l && clean (x ∷ l))))

-- ---- tests

pub and_l : (a b : Bool) → T (a && b) → T a
and_l true b h = tt
and_l false b h = absurd h

pub and_r : (a b : Bool) → T (a && b) → T b
and_r true b h = h
and_r false b h = absurd h

pub is_true : (b : Bool) → T b → b ≡ true
is_true true h = refl
is_true false h = absurd h

pub and_i : (a b : Bool) → T a → T b → T (a && b)
and_i true b x y = y
and_i false b x y = x

pub or_e : (a b : Bool) → T (a || b) → T a ⊎ T b
or_e true b h = inl tt
or_e false b h = inr h

pub or_l : (a b : Bool) → T a → T (a || b)
or_l true b h = tt
or_l false b h = absurd h

pub or_r : (a b : Bool) → T b → T (a || b)
or_r true b h = tt
or_r false b h = h

-- ---- to positions

Upright : ℕ → List Note → Type 0
Upright p l = (i : ℕ) → i ≤ p → T (not (fall (drop i l)))

now_upright : (x : Note) (l : List Note) → T (not (fall (x ∷ l))) → Upright 0 (x ∷ l)
unfolding Upright
now_upright x l h zero q = h
now_upright x l h (suc i) q = absurd (not-suc-le-zero q)

more_upright : (x : Note) (l : List Note) (p : ℕ) → T (not (fall (x ∷ l))) → Upright p l → Upright (suc p) (x ∷ l)
unfolding Upright
more_upright x l p h u zero q = h
more_upright x l p h u (suc i) q = u i (le_of_suc-le-suc q)

record AtParam (l : List Note) : Type 0 where
  p : ℕ
  is : T (acknowledged Parameters (drop p l))
  up : Upright p l

at_param : (l : List Note) → T (has_param l) → AtParam l
at_param [] h = absurd h
at_param (x ∷ l) h = go (at_param l) (or_e (acknowledged Parameters (x ∷ l)) (has_param l) (and_r (not (fall (x ∷ l))) _ h))
  where
    ok : T (not (fall (x ∷ l)))
    ok = and_l (not (fall (x ∷ l))) _ h

    go : (T (has_param l) → AtParam l) → T (acknowledged Parameters (x ∷ l)) ⊎ T (has_param l) → AtParam (x ∷ l)
    go f (inl a) = record { p = 0; is = a; up = now_upright x l ok }
    go f (inr a) = record { p = suc (f a).p; is = (f a).is; up = more_upright x l (f a).p ok (f a).up }

record AtConfig (l : List Note) : Type 0 where
  c : ℕ
  p : ℕ
  c<p : c < p
  is : T (acknowledged Configuration (drop c l))
  isp : T (acknowledged Parameters (drop p l))
  up : Upright p l

at-config : (l : List Note) → T (has_config l) → AtConfig l
at-config [] h = absurd h
at-config (x ∷ l) h = go (at-config l) (or_e (has_config l) (has_param l && acknowledged Configuration (x ∷ l)) (and_r (not (fall (x ∷ l))) _ h))
  where
    ok : T (not (fall (x ∷ l)))
    ok = and_l (not (fall (x ∷ l))) _ h

    go : (T (has_config l) → AtConfig l) → T (has_config l) ⊎ T (has_param l && acknowledged Configuration (x ∷ l)) → AtConfig (x ∷ l)
    go f (inl a) = record { c = suc (f a).c; p = suc (f a).p; c<p = omega (arith, (f a).c<p); is = (f a).is; isp = (f a).isp; up = more_upright x l (f a).p ok (f a).up }
    go f (inr a) =
        let q = at_param l (and_l (has_param l) _ a) in
        record { c = 0; p = suc q.p; c<p = omega arith; is = and_r (has_param l) _ a; isp = q.is; up = more_upright x l q.p ok q.up }

pub to_positions : (l : List Note) → T (ready l) → Ready l
unfolding Upright
to_positions [] h = absurd h
to_positions (x ∷ l) h = go (to_positions l) (or_e (ready l) (has_config l && clean (x ∷ l)) (and_r (not (not_enabled (x ∷ l))) _ (and_r (not (fall (x ∷ l))) _ h)))
  where
    ok : T (not (fall (x ∷ l)))
    ok = and_l (not (fall (x ∷ l))) _ h

    en : T (not (not_enabled (x ∷ l)))
    en = and_l (not (not_enabled (x ∷ l))) _ (and_r (not (fall (x ∷ l))) _ h)

    more : (d : ℕ) → ((i : ℕ) → i < d → T (not (not_enabled (drop i l)))) → (i : ℕ) → i < suc d → T (not (not_enabled (drop i (x ∷ l))))
    more d f zero q = en
    more d f (suc i) q = f i (le_of_suc-le-suc q)

    go : (T (ready l) → Ready l) → T (ready l) ⊎ T (has_config l && clean (x ∷ l)) → Ready (x ∷ l)
    go f (inl a) =
        let q = f a in
        record {
          d = suc q.d;
          c = suc q.c;
          p = suc q.p;
          d<c = omega (arith, q.d<c);
          c<p = omega (arith, q.c<p);
          parameters = q.parameters;
          configuration = q.configuration;
          diagnosis = q.diagnosis;
          no_fall = more_upright x l q.p ok q.no_fall;
          enabled = more q.d q.enabled;
        }
    go f (inr a) =
        let q = at-config l (and_l (has_config l) _ a) in
        record {
          d = 0;
          c = suc q.c;
          p = suc q.p;
          d<c = omega arith;
          c<p = omega (arith, q.c<p);
          parameters = q.isp;
          configuration = q.is;
          diagnosis = and_r (has_config l) _ a;
          no_fall = more_upright x l q.p ok q.up;
          enabled = λ i z. absurd (not-suc-le-zero z);
        }

-- ---- and back

has-param : (l : List Note) (p : ℕ) → T (acknowledged Parameters (drop p l)) → Upright p l → T (has_param l)
unfolding Upright
has-param [] zero a u = absurd a
has-param [] (suc p) a u = absurd a
has-param (x ∷ l) zero a u = and_i (not (fall (x ∷ l))) _ (u 0 (omega arith)) (or_l (acknowledged Parameters (x ∷ l)) (has_param l) a)
has-param (x ∷ l) (suc p) a u = and_i (not (fall (x ∷ l))) _ (u 0 (omega arith)) (or_r (acknowledged Parameters (x ∷ l)) (has_param l) (has-param l p a (λ i q. u (suc i) (omega arith))))

has-config : (l : List Note) (c p : ℕ) → c < p → T (acknowledged Configuration (drop c l)) → T (acknowledged Parameters (drop p l)) → Upright p l → T (has_config l)
unfolding Upright
has-config [] zero p q a b u = absurd a
has-config [] (suc c) p q a b u = absurd a
has-config (x ∷ l) c zero q a b u = absurd (not-suc-le-zero q)
has-config (x ∷ l) zero (suc p) q a b u =
    and_i (not (fall (x ∷ l))) _ (u 0 (omega arith)) (or_r (has_config l) (has_param l && acknowledged Configuration (x ∷ l)) (and_i (has_param l) (acknowledged Configuration (x ∷ l)) (has-param l p b (λ i q. u (suc i) (omega arith))) a))
has-config (x ∷ l) (suc c) (suc p) q a b u = and_i (not (fall (x ∷ l))) _ (u 0 (omega arith)) (or_l (has_config l) (has_param l && acknowledged Configuration (x ∷ l)) (has-config l c p (le_of_suc-le-suc q) a b (λ i q. u (suc i) (omega arith))))

-- one reply is not both: a clean diagnosis answers a diagnosis request, "SAP not enabled" a data request
not_both : (k : Option Request) (t : Telegram) (payload : List ℕ) → T (cleans k t payload) → T (not (denies k t))
not_both none t payload h = absurd h
not_both (some Diagnosis) t payload h = tt
not_both (some Parameters) t payload h = absurd h
not_both (some Configuration) t payload h = absurd h
not_both (some Data) t payload h = absurd h

clean-enabled : (l : List Note) → T (clean l) → T (not (not_enabled l))
clean-enabled [] h = tt
clean-enabled (x ∷ l) h = of (content_of x).reply h
  where
    of : (r : Option Incoming) → T (given false (λ (r : Incoming). cleans (last_asked l) r.telegram r.payload) r) → T (not (given false (λ (r : Incoming). denies (last_asked l) r.telegram) r))
    of none h = tt
    of (some r) h = not_both (last_asked l) r.telegram r.payload h

is_ready : (l : List Note) (d c p : ℕ) → d < c → c < p → T (clean (drop d l)) → T (acknowledged Configuration (drop c l)) → T (acknowledged Parameters (drop p l)) → Upright p l →
    ((i : ℕ) → i < d → T (not (not_enabled (drop i l)))) → T (ready l)
unfolding Upright
is_ready [] zero c p q r k a b u e = absurd k
is_ready [] (suc d) c p q r k a b u e = absurd k
is_ready (x ∷ l) d zero p q r k a b u e = absurd (not-suc-le-zero q)
is_ready (x ∷ l) d (suc c) zero q r k a b u e = absurd (not-suc-le-zero r)
is_ready (x ∷ l) zero (suc c) (suc p) q r k a b u e =
    and_i (not (fall (x ∷ l))) _ (u 0 (omega arith)) (and_i (not (not_enabled (x ∷ l))) _ (clean-enabled (x ∷ l) k) (or_r (ready l) (has_config l && clean (x ∷ l))
    (and_i (has_config l) (clean (x ∷ l)) (has-config l c p (le_of_suc-le-suc r) a b (λ i q. u (suc i) (omega arith))) k)))
is_ready (x ∷ l) (suc d) (suc c) (suc p) q r k a b u e =
    and_i (not (fall (x ∷ l))) _ (u 0 (omega arith)) (and_i (not (not_enabled (x ∷ l))) _ (e 0 (omega arith)) (or_l (ready l) (has_config l && clean (x ∷ l))
    (is_ready l d c p (le_of_suc-le-suc q) (le_of_suc-le-suc r) k a b (λ i q. u (suc i) (omega arith)) (λ i q. e (suc i) (omega arith)))))

pub wording : (l : List Note) → T (ready l) ↔ Ready l
unfolding Upright
wording l = (to_positions l, λ q. is_ready l q.d q.c q.p q.d<c q.c<p q.diagnosis q.configuration q.parameters q.no_fall q.enabled)

-- ---- diagnosis due

later : (x : Note) (l : List Note) → T (not (ends_due x)) → Due l → Due (x ∷ l)
later x l h q = record { wish = suc q.wish; made = q.made; since = more }
  where
    more : (i : ℕ) → i ≤ suc q.wish → T (not (due_ended (drop i (x ∷ l))))
    more zero z = h
    more (suc i) z = q.since i (le_of_suc-le-suc z)

here : (x : Note) (l : List Note) → T (makes_due (last_asked l) x) → T (not (ends_due x)) → Due (x ∷ l)
here x l m h = record { wish = 0; made = m; since = only }
  where
    only : (i : ℕ) → i ≤ 0 → T (not (due_ended (drop i (x ∷ l))))
    only zero z = h
    only (suc i) z = absurd (not-suc-le-zero z)

due-at : (l : List Note) → T (due_of l) → Due l
due-at [] h = absurd h
due-at (x ∷ l) h = go (due-at l) (or_e (makes_due (last_asked l) x) (due_of l) (and_r (not (ends_due x)) _ h))
  where
    ok : T (not (ends_due x))
    ok = and_l (not (ends_due x)) _ h

    go : (T (due_of l) → Due l) → T (makes_due (last_asked l) x) ⊎ T (due_of l) → Due (x ∷ l)
    go f (inl a) = here x l a ok
    go f (inr a) = later x l ok (f a)

at-due : (l : List Note) (w : ℕ) → T (due_made (drop w l)) → ((i : ℕ) → i ≤ w → T (not (due_ended (drop i l)))) → T (due_of l)
at-due [] zero m s = absurd m
at-due [] (suc w) m s = absurd m
at-due (x ∷ l) zero m s = and_i (not (ends_due x)) _ (s 0 (omega arith)) (or_l (makes_due (last_asked l) x) (due_of l) m)
at-due (x ∷ l) (suc w) m s =
    and_i (not (ends_due x)) _ (s 0 (omega arith)) (or_r (makes_due (last_asked l) x) (due_of l) (at-due l w m (λ i q. s (suc i) (omega arith))))

pub due_wording : (l : List Note) → T (due_of l) ↔ Due l
due_wording l = (due-at l, λ q. at-due l q.wish q.made q.since)
