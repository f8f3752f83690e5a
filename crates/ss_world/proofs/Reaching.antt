-- Worlds that events lead to.
use Rattle.std.proofs.Common.{◌≡◌, ℕ, zero, suc, List, [], ◌∷◌, ◌++◌, map, slice_get, Option, Some, None, MatchOption}
use Rattle.std.proofs.Common.{Bool, sym, subst, refl, ap, inl, inr, ◌∙◌}
use Rattle.std.specs.Prelude.{Result, Ok, Err, IfErr, OnOk}
use Rattle.std.specs.List.{All}
use Rattle.std.proofs.lemmas.List.Elements.{All-get_or}
use Rattle.std.proofs.lemmas.Option.{none-some, same_Some, get_or_from_slice_get, slice_get_within}
use Rattle.ss_bso.specs.Changes.{account_at_opening}
use Rattle.ss_bso.specs.Validity.{IsValid, SameAccount}
use Rattle.ss_query.specs.Api.{api}
use Rattle.ss_account.specs.Opening.{IsGood}
use Rattle.ss_device.specs.Device.{DeviceView, IsDevice}
use Rattle.ss_client.specs.Asking.{ask, awaits}
use Rattle.ss_client.specs.Runs.{MachineView}
use Rattle.ss_serving.specs.Asking.{told_by}
use Rattle.ss_world.specs.declared.events.Event.{Event}
use Rattle.ss_world.specs.declared.events.Event.TheVariants.{Start, Deliver, LoseRequest, LoseReply, Anew, Change}
use Rattle.ss_world.specs.declared.events.Event.TheVariants.{Other, Tick, Reopen}
use Rattle.ss_world.specs.declared.faults.WorldFault.{WorldFault}
use Rattle.ss_world.specs.Worlds.{Seat, Idle, Syncs, WorldView}
use Rattle.ss_world.specs.Happening.{At, Delivers, Happens, IsLost, Runs, Step, ReadsClock, last}
use Rattle.ss_world.specs.Promises.{AreAll, AreTrustedSteps, EndsWell, IsTrustedEvent, OneTree, StandsForOne}
use Rattle.ss_world.specs.Promises.{fetched_at}
use Rattle.ss_world.specs.Promises.{first_rows, rows}
use Rattle.ss_world.specs.Stepping.{Fails, IsCutShort, IsUnheard}
use Rattle.ss_world.specs.Reaching.{IsOpenable, IsReachedWorld, IsWellDelivered, IsWholeFetch, KeepsPromises}
use Rattle.ss_world.proofs.Promised.{ends, fetches, stands, turns}

-- ---- one step more

runs_more : (w : WorldView) (steps : List Step) (step : Step) → Runs w steps → Happens (last w steps) step.event step.world → Runs w (steps ++ step ∷ [])
runs_more w [] step r h = (h, tt)
runs_more w (s ∷ steps) step r h = (r.0, runs_more s.world steps step r.1 h)

trusted_more : (trusts : ℕ → Bool) (steps : List Step) (step : Step) → AreTrustedSteps trusts steps → IsTrustedEvent trusts step.event → AreTrustedSteps trusts (steps ++ step ∷ [])
trusted_more trusts [] step r h = (h, tt)
trusted_more trusts (s ∷ steps) step r h = (r.0, trusted_more trusts steps step r.1 h)

last_more : (w : WorldView) (steps : List Step) (step : Step) → last w (steps ++ step ∷ []) ≡ step.world
last_more w [] step = refl
last_more w (s ∷ steps) step = last_more s.world steps step

pub reached_more : (trusts : ℕ → Bool) (w : WorldView) (event : Event) (v : WorldView) → IsReachedWorld trusts w → Happens w event v → IsTrustedEvent trusts event → IsReachedWorld trusts v
reached_more trusts w event v r h ok = record {
  opening = r.opening;
  steps = r.steps ++ record { event = event; world = v } ∷ [];
  opens = r.opens;
  runs = runs_more r.opening r.steps (record { event = event; world = v }) r.runs (subst (λ x. Happens x event v) (sym r.here) h);
  trusted = trusted_more trusts r.steps (record { event = event; world = v }) r.trusted ok;
  here = last_more r.opening r.steps (record { event = event; world = v });
}

-- ---- what holds of a reached world

stands_here : (trusts : ℕ → Bool) (w : WorldView) → IsReachedWorld trusts w → StandsForOne (rows w)
stands_here trusts w r = subst (λ x. StandsForOne (rows x)) r.here (stands trusts r.opening r.steps r.opens r.runs r.trusted)

turns_here : (trusts : ℕ → Bool) (w : WorldView) (event : Event) (v : WorldView) → IsReachedWorld trusts w → Happens w event v → OneTree w event v
turns_here trusts w event v r h = subst (λ x. Happens x event v → OneTree x event v) r.here (turns trusts r.opening r.steps r.opens r.runs r.trusted event v) h

pub promised : (trusts : ℕ → Bool) (w : WorldView) (event : Event) (v : WorldView) → IsReachedWorld trusts w → IsTrustedEvent trusts event → Happens w event v → KeepsPromises trusts w event v
promised trusts w event v r ok h =
    let next = reached_more trusts w event v r h ok in record { reached = next; stands = stands_here trusts v next; turns = turns_here trusts w event v r h }

-- ---- after a fault

-- the clock alone was read
of_tick : (w v : WorldView) (now : ℕ) (event : Event) → OneTree w (Tick now) v → OneTree w event v
of_tick w v now event (inl e) = inl e
of_tick w v now event (inr u) = elim u.event_is [ inl e ↦ cc | inr e ↦ cc ]

-- the reply was lost
of_lost : (w v : WorldView) (n now : ℕ) → OneTree w (LoseReply n now) v → OneTree w (Deliver n now) v
of_lost w v n now (inl e) = inl e
of_lost w v n now (inr u) = elim u.event_is [
  | inl e ↦ cc
  | inr e ↦ inr (record {
    device = u.device;
    now = u.now;
    machine = u.machine;
    upload = u.upload;
    stamp = u.stamp;
    there = u.there;
    stage = u.stage;
    last = u.last;
    event_is = inl (same e);
    written = u.written;
    all = u.all;
    joined = u.joined;
    stands = u.stands;
  })
]
  where
    same : {m k : ℕ} → ◌≡◌ {A = Event} (LoseReply n now) (LoseReply m k) → ◌≡◌ {A = Event} (Deliver n now) (Deliver m k)
    same e = cc

module _ (trusts : ℕ → Bool) (w v : WorldView) (r : IsReachedWorld trusts w) where
  -- nothing happened
  left : (event : Event) → v ≡ w → KeepsPromises trusts w event v
  left event same = let here = subst (IsReachedWorld trusts) (sym same) r in record { reached = here; stands = stands_here trusts v here; turns = inl (ap rows same) }

  ticked : (now : ℕ) (event : Event) → ReadsClock w now v → KeepsPromises trusts w event v
  ticked now event t = let p = promised trusts w (Tick now) v r tt t in record { reached = p.reached; stands = p.stands; turns = of_tick w v now event p.turns }

  lost : (n now : ℕ) → At w n v (IsLost w n now v) → KeepsPromises trusts w (Deliver n now) v
  lost n now h = let p = promised trusts w (LoseReply n now) v r tt h in record { reached = p.reached; stands = p.stands; turns = of_lost w v n now p.turns }

  -- a reply that couldn't be handed on is lost
  unheard_lost : (n now : ℕ) → At w n v (IsUnheard w n now v) → At w n v (IsLost w n now v)
  unheard_lost n now h = go (slice_get w.seats n) h
    where
      go : (o : Option Seat) → MatchOption o (v ≡ w) (IsUnheard w n now v) → MatchOption o (v ≡ w) (IsLost w n now v)
      go None e = e
      go (Some (Idle d)) e = e
      go (Some (Syncs m)) e = e.0

  cut : (event : Event) → IsCutShort w event v → KeepsPromises trusts w event v
  cut (Deliver n now) (inl same) = left (Deliver n now) same
  cut (Deliver n now) (inr (inl t)) = ticked now (Deliver n now) t
  cut (Deliver n now) (inr (inr h)) = lost n now (unheard_lost n now h)
  cut (LoseReply n now) (inl same) = left (LoseReply n now) same
  cut (LoseReply n now) (inr t) = ticked now (LoseReply n now) t
  cut (Other now request) (inl same) = left (Other now request) same
  cut (Other now request) (inr t) = ticked now (Other now request) t
  cut (Start n fetch) none = absurd none
  cut (LoseRequest n) none = absurd none
  cut (Anew n) none = absurd none
  cut (Change n now edit) same = left (Change n now edit) same
  cut (Tick now) none = absurd none
  cut Reopen same = left Reopen same

  pub failed : (event : Event) (e : WorldFault) → Fails w event v e → KeepsPromises trusts w event v
  failed event e (inl h) = cut event h.1.left
  failed event e (inr h) = left event h.left

-- ---- what a delivery leads to

pub understood : (trusts : ℕ → Bool) (w : WorldView) (event : Event) (v : WorldView) → IsReachedWorld trusts w → IsWellDelivered w event v
understood trusts w event v r = λ n now m is there e.
    subst (λ x. (i k : ℕ) (mm : MachineView) (y : WorldView) → slice_get x.seats i ≡ Some (Syncs mm) → (d : Delivers x i k mm y) → EndsWell x mm d.next y) r.here
    (λ i k mm y t d. ends trusts r.opening r.steps r.opens r.runs r.trusted i k mm y t d) n now m v there e

pub whole : (trusts : ℕ → Bool) (w : WorldView) (r : IsReachedWorld trusts w) (event : Event) (v : WorldView) → Happens w event v → IsWholeFetch trusts w r event v
whole trusts w r event v h = λ n now m fetched is there f.
    subst (λ (x : Event). AreAll fetched (rows v) × (first_rows n r.opening (r.steps ++ record { event = x; world = v } ∷ []) [] ≡ rows v)) (sym is)
    (subst (λ x. slice_get x.seats n ≡ Some (Syncs m) → Happens x (Deliver n now) v → fetched_at m (told_by (awaits m.stage) (api x.server.account now (ask m)).reply) m.stage ≡ Some fetched
    → AreAll fetched (rows v) × (first_rows n r.opening (r.steps ++ record { event = Deliver n now; world = v } ∷ []) [] ≡ rows v)) r.here
    (λ t d g. fetches trusts r.opening r.steps r.opens r.runs r.trusted n now m v fetched t d g) there (subst (λ (x : Event). Happens w x v) is h) f)

-- ---- an opening

seat_device : (devices : List DeviceView) (n : ℕ) (s : Seat) → slice_get (map Idle devices) n ≡ Some s → (d : DeviceView) × (s ≡ Idle d) × (slice_get devices n ≡ Some d)
seat_device [] n s e = absurd (none-some s e)
seat_device (d ∷ ds) zero s e = (d, sym (same_Some (Idle d) s e), refl)
seat_device (d ∷ ds) (suc n) s e = seat_device ds n s e

-- each device of an opening is valid
devices_valid : (devices : List DeviceView) → All IsDevice devices → (n : ℕ) (d : DeviceView) → slice_get devices n ≡ Some d → IsDevice d
devices_valid devices valid n d e = subst IsDevice (get_or_from_slice_get devices n d d e) (All-get_or IsDevice devices n d (slice_get_within devices n d e) valid)

pub opening_reached : (trusts : ℕ → Bool) (w : WorldView) (devices : List DeviceView) → IsValid w.server.account → SameAccount (account_at_opening w.server.kept) w.server.account → IsGood w.server.kept → w.seats ≡ map Idle devices → All IsDevice devices
    → IsOpenable trusts w → IsReachedWorld trusts w
opening_reached trusts w devices valid same good seats sound o = record {
  opening = w;
  steps = [];
  opens = record {
    valid = valid;
    opened = same;
    kept = good;
    lasts = o.lasts;
    below = o.below;
    stands = o.stands;
    idle = λ n s e. let d = seat_device devices n s (subst (λ (xs : List Seat). slice_get xs n ≡ Some s) seats e) in (d.0, d.1, devices_valid devices sound n d.0 d.2, λ t. o.faithful n d.0 (e ∙ ap Some d.1) t);
  };
  runs = tt;
  trusted = tt;
  here = refl;
}

-- ---- a step

pub stepped : {X : Type 0} (result : Result X WorldFault) (trusts : ℕ → Bool) (w : WorldView) (event : Event) (v : WorldView) → IsReachedWorld trusts w → IsTrustedEvent trusts event → OnOk result (Happens w event v) → IfErr result (Fails w event v) → KeepsPromises trusts w event v
stepped (Ok x) trusts w event v r ok h f = promised trusts w event v r ok h
stepped (Err e) trusts w event v r ok h f = failed trusts w v r event e f
