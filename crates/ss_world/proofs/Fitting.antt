-- What holds of each machine of a world, and what the account's steps do to it.
use Rattle.std.proofs.Common.{◌≡◌, ℕ, ◌+◌, ◌*◌, ◌<◌, ◌≤◌, List, [], ◌∷◌, length, take, drop, Option, Some, None, Bool}
use Rattle.std.proofs.Common.{true, cond, sym, refl, ap, ◌∙◌, subst, inl, inr, arith}
use Rattle.std.proofs.lemmas.Option.{none-some, same_Some}
use Rattle.std.specs.List.{All}
use Rattle.std.proofs.lemmas.List.Elements.{All-take, All-drop}
use Rattle.ss_record.specs.declared.readings.Sheet.{Sheet}
use Rattle.ss_bso.specs.declared.parts.Part.{Part}
use Rattle.ss_route.specs.Sending.{IsUpload}
use Rattle.ss_plan.specs.declared.limits.Limits.{Limits}
use Rattle.ss_sync.specs.Joined.{IsJoinedTree}
use Rattle.ss_hearing.specs.declared.answer.Answer.{Answer}
use Rattle.ss_hearing.specs.declared.answer.Answer.TheVariants.{Configured, Paged, Listed, Held, Written, Failed}
use Rattle.ss_hearing.specs.declared.answer.Answer.TheVariants.{Changed, Refused, Unread}
use Rattle.ss_device.specs.Device.{DeviceView, dead_ids}
use Rattle.ss_client.specs.declared.runs.Listing.{Listing}
use Rattle.ss_client.specs.declared.runs.Stage.{Stage}
use Rattle.ss_client.specs.declared.runs.Stage.TheVariants.{Asks, Opens, Pages, Lists, Uploads}
use Rattle.ss_client.specs.Leaves.{UploadView, PagingView, LeavesStanding}
use Rattle.ss_client.specs.Runs.{MachineView, sent_of, post_of, rest_of}
use Rattle.ss_serving.specs.Bookmarks.{ShownAccount, Server, shown_by}
use Rattle.ss_serving.specs.Asking.{IsAskable}
use Rattle.ss_serving.specs.Serving.{IsLater, IsQuiet, Ages, IsPage, AreIdsOf, newer, Writes, Begins, Appends, Commits}
use Rattle.ss_serving.specs.Serving.{Serves}
use Rattle.ss_world.specs.Worlds.{asks, post_ask}
use Rattle.ss_world.specs.Promises.{AreAll, IsFaithful}

-- What was fetched under a condition: where the collection has not changed, P holds of the rows.
abbrev pub IsFresh : ShownAccount → ℕ → (List Sheet → Type 0) → Type 0
IsFresh a time P = (time ≤ a.target) × (time ≡ a.target → P a.rows)

pub fresh_later : (P : List Sheet → Type 0) (a b : ShownAccount) (time : ℕ) → IsLater a b → IsFresh a time P → IsFresh b time P
fresh_later P a b time l h = let g : a.target ≤ b.target = l.target in let k : time ≤ a.target = h.0 in (
  (let r : time ≤ b.target = omega arith in r),
  (λ e. elim l.rows [
    | inl m ↦ absurd (omega arith)
    | inr m ↦ subst P (sym m) (h.1 (omega arith))
  ]),
)

-- under a condition that holds
pub now : (P : List Sheet → Type 0) (a : ShownAccount) (time : ℕ) → a.target ≤ time → IsFresh a time P → P a.rows
now P a time le h = let g = h.0 in h.1 (omega arith)

pub quiet_later : (a b : ShownAccount) → IsQuiet a b → IsLater a b
quiet_later a b q = record { target = q.target; rows = inr q.rows; counter = q.counter }

pub begins_later : (x : List Part) (a b : ShownAccount) (n : ℕ) → Begins x a b n → IsLater a b
begins_later x a b n h = record { target = h.target; rows = inr h.rows; counter = (let g = h.number in let k = h.counter in omega arith) }

pub appends_later : (n : ℕ) (x : List Part) (a b : ShownAccount) → Appends n x a b → IsLater a b
appends_later n x a b h = record { target = h.target; rows = inr h.rows; counter = h.counter }

-- ---- the batch that only the machine in this stage may change

abbrev pub own_batch : Stage → Option ℕ
own_batch (Uploads u) = u.batch
own_batch Asks = None
own_batch Opens = None
own_batch (Pages p) = None
own_batch (Lists l) = None

abbrev pub IsOwn : Stage → ℕ → Type 0
IsOwn stage n = own_batch stage ≡ Some n

-- what each step leaves to the other machines
pub record Leaves (stage : Stage) (a b : ShownAccount) : Type 0 where
  pub later : IsLater a b
  pub others : (n : ℕ) (ps : List Part) → n ≤ a.counter → (IsOwn stage n → ⊥) → b.staged n ≡ Some ps → a.staged n ≡ Some ps

pub quiet_leaves : (stage : Stage) (a b : ShownAccount) → IsQuiet a b → Leaves stage a b
quiet_leaves stage a b q = record { later = quiet_later a b q; others = λ n ps le ne e. q.staged n ps e }

-- ---- the ten ways in which a machine's request is answered

module _ (a b : ShownAccount) (m : MachineView) where
  abbrev pub since_of : Option ℕ
  since_of = cond m.run.newer (Some m.device.stamp) None

  pub record Cases (P : Stage → Answer → Type 0) : Type 0 where
    pub refused : (stage : Stage) (s : ℕ) → IsQuiet a b → P stage (Refused s)
    pub changed : (stage : Stage) (t : ℕ) → IsQuiet a b → P stage (Changed t)
    pub configured : (limits : Limits) → IsQuiet a b → P Asks (Configured limits)
    pub opened : (rows : List Sheet) (next : Option ℕ) (time : ℕ) → IsQuiet a b → time ≡ b.target → IsPage (newer since_of b.rows) 0 rows next → P Opens (Paged rows next time)
    pub paged : (p : PagingView) (rows : List Sheet) (next : Option ℕ) (time : ℕ) → IsQuiet a b → b.target ≤ p.time → IsPage (newer since_of b.rows) p.offset rows next → P (Pages p) (Paged rows next time)
    pub listed : (l : Listing) (ids : List (List ℕ)) → IsQuiet a b → b.target ≤ l.time → AreIdsOf b.rows ids → P (Lists l) (Listed ids)
    pub begun : (u : UploadView) (x : Part) (rest : List Part) (n : ℕ) → u.batch ≡ None → rest_of u ≡ x ∷ rest → a.target ≤ u.time → Begins (post_of u) a b n → P (Uploads u) (Held n)
    pub written : (u : UploadView) (s : ℕ) → u.batch ≡ None → rest_of u ≡ [] → a.target ≤ u.time → Writes (post_of u) a b s → P (Uploads u) (Written s)
    pub appended : (u : UploadView) (x : Part) (rest : List Part) (n k : ℕ) → u.batch ≡ Some n → rest_of u ≡ x ∷ rest → a.target ≤ u.time → Appends n (post_of u) a b → P (Uploads u) (Held k)
    pub committed : (u : UploadView) (n s : ℕ) → u.batch ≡ Some n → rest_of u ≡ [] → a.target ≤ u.time → Commits n (post_of u) a b s → P (Uploads u) (Written s)

  posts : (P : Stage → Answer → Type 0) → Cases P → (u : UploadView) (o : Option ℕ) (rest : List Part) → u.batch ≡ o → rest_of u ≡ rest → (answer : Answer) → Serves a (post_ask u.time o (post_of u) rest) b answer → P (Uploads u) answer
  posts P k u o rest i j (Refused s) h = k.refused (Uploads u) s h
  posts P k u o rest i j (Changed t) h = k.changed (Uploads u) t h
  posts P k u None [] i j (Written s) h = k.written u s i j h.0 h.1
  posts P k u None (x ∷ rest) i j (Held n) h = k.begun u x rest n i j h.0 h.1
  posts P k u (Some n) [] i j (Written s) h = k.committed u n s i j h.0 h.1
  posts P k u (Some n) (x ∷ rest) i j (Held m) h = k.appended u x rest n m i j h.0 h.1
  posts P k u None [] i j (Configured limits) h = absurd h
  posts P k u None [] i j (Paged rows next time) h = absurd h
  posts P k u None [] i j (Listed ids) h = absurd h
  posts P k u None [] i j (Held n) h = absurd h
  posts P k u None [] i j (Failed status id) h = absurd h
  posts P k u None [] i j Unread h = absurd h
  posts P k u None (x ∷ rest) i j (Configured limits) h = absurd h
  posts P k u None (x ∷ rest) i j (Paged rows next time) h = absurd h
  posts P k u None (x ∷ rest) i j (Listed ids) h = absurd h
  posts P k u None (x ∷ rest) i j (Written s) h = absurd h
  posts P k u None (x ∷ rest) i j (Failed status id) h = absurd h
  posts P k u None (x ∷ rest) i j Unread h = absurd h
  posts P k u (Some n) [] i j (Configured limits) h = absurd h
  posts P k u (Some n) [] i j (Paged rows next time) h = absurd h
  posts P k u (Some n) [] i j (Listed ids) h = absurd h
  posts P k u (Some n) [] i j (Held m) h = absurd h
  posts P k u (Some n) [] i j (Failed status id) h = absurd h
  posts P k u (Some n) [] i j Unread h = absurd h
  posts P k u (Some n) (x ∷ rest) i j (Configured limits) h = absurd h
  posts P k u (Some n) (x ∷ rest) i j (Paged rows next time) h = absurd h
  posts P k u (Some n) (x ∷ rest) i j (Listed ids) h = absurd h
  posts P k u (Some n) (x ∷ rest) i j (Written s) h = absurd h
  posts P k u (Some n) (x ∷ rest) i j (Failed status id) h = absurd h
  posts P k u (Some n) (x ∷ rest) i j Unread h = absurd h

  pub by_cases : (P : Stage → Answer → Type 0) → Cases P → (stage : Stage) (answer : Answer) → Serves a (asks m stage) b answer → P stage answer
  by_cases P k (Uploads u) answer h = posts P k u u.batch (rest_of u) refl refl answer h
  by_cases P k Asks (Refused s) h = k.refused Asks s h
  by_cases P k Asks (Changed t) h = k.changed Asks t h
  by_cases P k Asks (Configured limits) h = k.configured limits h.0
  by_cases P k Opens (Refused s) h = k.refused Opens s h
  by_cases P k Opens (Changed t) h = k.changed Opens t h
  by_cases P k Opens (Paged rows next time) h = k.opened rows next time h.0 h.1 h.2
  by_cases P k (Pages p) (Refused s) h = k.refused (Pages p) s h
  by_cases P k (Pages p) (Changed t) h = k.changed (Pages p) t h
  by_cases P k (Pages p) (Paged rows next time) h = k.paged p rows next time h.0 h.1 h.2
  by_cases P k (Lists l) (Refused s) h = k.refused (Lists l) s h
  by_cases P k (Lists l) (Changed t) h = k.changed (Lists l) t h
  by_cases P k (Lists l) (Listed ids) h = k.listed l ids h.0 h.1 h.2
  by_cases P k stage answer h = absurd h

  pub leaves : (stage : Stage) (answer : Answer) → Serves a (asks m stage) b answer → Leaves stage a b
  leaves = by_cases (λ stage answer. Leaves stage a b) (record {
    refused = λ stage s q. quiet_leaves stage a b q;
    changed = λ stage t q. quiet_leaves stage a b q;
    configured = λ limits q. quiet_leaves Asks a b q;
    opened = λ rows next time q e g. quiet_leaves Opens a b q;
    paged = λ p rows next time q e g. quiet_leaves (Pages p) a b q;
    listed = λ l ids q e g. quiet_leaves (Lists l) a b q;
    begun = λ u x rest n i j le h. record { later = begins_later (post_of u) a b n h; others = λ k ps le ne e. h.others k ps le e };
    written = λ u s i j le h. record { later = h.later; others = λ k ps le ne e. h.staged k ps e };
    appended = λ u x rest n k i j le h. record { later = appends_later n (post_of u) a b h; others = λ z ps le ne e. h.others z ps (λ q. ne (i ∙ ap Some (sym q))) e };
    committed = λ u n s i j le h. record { later = h.wrote.later; others = λ k ps le ne e. h.wrote.staged k ps e };
  })

-- ---- a faithful device stays faithful

pub faithful_later : (d : DeviceView) (one other : Server) → Ages (shown_by one) (shown_by other) → IsFaithful d one → IsFaithful d other
faithful_later d one other g (inl z) = inl z
faithful_later d one other g (inr h) = let up : one.account.store ≤ other.account.store = g.store in let le : d.stamp ≤ one.account.store = h.0 in inr (
  (let r : d.stamp ≤ other.account.store = omega arith in r),
  (λ x s at low. elim (g.rows x s at) [
    | inl was ↦ h.1 x s was low
    | inr new ↦ absurd (let lt : one.account.store < s.modified = new in omega arith)
  ]),
)

-- ---- the invariant of one machine

-- of an upload's batch: before it is begun nothing was sent; its number was given out since the opening, and it has what was sent
abbrev pub BatchFits : ℕ → ShownAccount → UploadView → Option ℕ → Type 0
BatchFits first a u None = u.sent ≡ 0
BatchFits first a u (Some n) = (n ≤ a.counter) × (first < n) × ((ps : List Part) → a.staged n ≡ Some ps → ps ≡ sent_of u)

pub record UploadFits (first : ℕ) (a : ShownAccount) (d : DeviceView) (u : UploadView) : Type 0 where
  pub fresh : IsFresh a u.time (AreAll u.rows)
  pub joined : IsJoinedTree d.mirror d.tree (dead_ids d.dead) u.rows u.merged
  pub standing : LeavesStanding u.rows u.parts u.merged
  pub uploads : All IsUpload u.parts
  pub within : u.sent + u.count ≤ length u.parts
  pub batch : BatchFits first a u u.batch

abbrev pub since_by : DeviceView → Bool → Option ℕ
since_by d is_newer = cond is_newer (Some d.stamp) None

-- `old`: the rows at the fetch's first page
abbrev pub Fits : ℕ → ShownAccount → List Sheet → DeviceView → Bool → Stage → Type 0
Fits first a old d is_newer Asks = Unit {0}
Fits first a old d is_newer Opens = Unit {0}
Fits first a old d is_newer (Pages p) = IsFresh a p.time (λ rows. (p.rows ≡ take p.offset (newer (since_by d is_newer) rows)) × (old ≡ rows)) × (p.offset ≡ 1000 * p.pages)
Fits first a old d is_newer (Lists l) = IsFresh a l.time (λ rows. (l.rows ≡ newer (Some d.stamp) rows) × (old ≡ rows)) × (is_newer ≡ true)
Fits first a old d is_newer (Uploads u) = UploadFits first a d u

batch_later : (first : ℕ) (a b : ShownAccount) (u : UploadView) (o : Option ℕ) → IsLater a b → ((n : ℕ) (ps : List Part) → o ≡ Some n → n ≤ a.counter → b.staged n ≡ Some ps → a.staged n ≡ Some ps) → BatchFits first a u o → BatchFits first b u o
batch_later first a b u None l s h = h
batch_later first a b u (Some n) l s h = ((let g : a.counter ≤ b.counter = l.counter in let k : n ≤ a.counter = h.0 in omega arith), h.1, (λ ps e. h.2 ps (s n ps refl h.0 e)))

-- a step of another machine, or of nobody, keeps it
pub fits_later : (first : ℕ) (a b : ShownAccount) (old : List Sheet) (d : DeviceView) (is_newer : Bool) (stage : Stage) → IsLater a b
    → ((n : ℕ) (ps : List Part) → IsOwn stage n → n ≤ a.counter → b.staged n ≡ Some ps → a.staged n ≡ Some ps) → Fits first a old d is_newer stage → Fits first b old d is_newer stage
fits_later first a b old d is_newer Asks l s h = tt
fits_later first a b old d is_newer Opens l s h = tt
fits_later first a b old d is_newer (Pages p) l s h = (fresh_later (λ rows. (p.rows ≡ take p.offset (newer (since_by d is_newer) rows)) × (old ≡ rows)) a b p.time l h.0, h.1)
fits_later first a b old d is_newer (Lists q) l s h = (fresh_later (λ rows. (q.rows ≡ newer (Some d.stamp) rows) × (old ≡ rows)) a b q.time l h.0, h.1)
fits_later first a b old d is_newer (Uploads u) l s h = record {
  fresh = fresh_later (AreAll u.rows) a b u.time l h.fresh;
  joined = h.joined;
  standing = h.standing;
  uploads = h.uploads;
  within = h.within;
  batch = batch_later first a b u u.batch l s h.batch;
}

-- what it asks goes on with a batch of its own, and puts payloads alone
pub askable : (first : ℕ) (a : ShownAccount) (old : List Sheet) (m : MachineView) (stage : Stage) → Fits first a old m.device m.run.newer stage → IsAskable first (asks m stage)
askable first a old m Asks h = tt
askable first a old m Opens h = tt
askable first a old m (Pages p) h = tt
askable first a old m (Lists l) h = tt
askable first a old m (Uploads u) h = by u.batch (rest_of u) h.batch
  where
    ups : All IsUpload (post_of u)
    ups = All-take IsUpload u.count (drop u.sent u.parts) (All-drop IsUpload u.sent u.parts h.uploads)

    by : (o : Option ℕ) (rest : List Part) → BatchFits first a u o → IsAskable first (post_ask u.time o (post_of u) rest)
    by None [] k = ups
    by None (x ∷ rest) k = ups
    by (Some n) [] k = (k.1, ups)
    by (Some n) (x ∷ rest) k = (k.1, ups)

-- a batch whose number a machine has isn't above the counter
pub known : (first : ℕ) (a : ShownAccount) (old : List Sheet) (d : DeviceView) (is_newer : Bool) (stage : Stage) (n : ℕ) → Fits first a old d is_newer stage → IsOwn stage n → n ≤ a.counter
known first a old d is_newer Asks n f o = absurd (none-some n o)
known first a old d is_newer Opens n f o = absurd (none-some n o)
known first a old d is_newer (Pages p) n f o = absurd (none-some n o)
known first a old d is_newer (Lists l) n f o = absurd (none-some n o)
known first a old d is_newer (Uploads u) n f o = by u.batch o f.batch
  where
    by : (q : Option ℕ) → q ≡ Some n → BatchFits first a u q → n ≤ a.counter
    by None e k = absurd (none-some n e)
    by (Some k) e h = subst (λ (j : ℕ). j ≤ a.counter) (same_Some k n e) h.0
