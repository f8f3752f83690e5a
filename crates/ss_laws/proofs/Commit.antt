-- A commit that isn't refused does what one plain POST of its batch's parts and its own does.
use Rattle.std.specs.Prelude.{◌≡◌, ℕ, Bool, true, false, ◌&&◌, cond, List, [], ◌∷◌, ◌++◌, Option, Some, None, nat_le}
use Rattle.std.specs.Prelude.{refl}
use Rattle.std.proofs.Common.{ap, sym, subst, ◌∙◌}
use Rattle.ss_text.specs.Time.{last_stamp}
use Rattle.ss_text.specs.declared.stamps.Cond.{Cond}
use Rattle.ss_bso.specs.declared.parts.Part.{Part}
use Rattle.ss_bso.specs.declared.parts.Records.{Records}
use Rattle.ss_bso.specs.declared.account.Plain.{Plain}
use Rattle.ss_bso.specs.declared.account.Staged.{Staged}
use Rattle.ss_query.specs.declared.requests.Request.{Request}
use Rattle.ss_query.specs.declared.requests.Request.TheVariants.{Post}
use Rattle.ss_query.specs.declared.requests.Mode.TheVariants.{Plain as PlainPost, Commit}
use Rattle.ss_query.specs.Refused.{Refusal, NoItem, NoMoreBatches, NoBatch, BatchFull, ClockEnded, AccountFull}
use Rattle.ss_query.specs.Refused.{staged_parts}
use Rattle.ss_query.specs.Effect.{effect, is_write, is_over}
use Rattle.ss_query.specs.Api.{refusal, first_some, where_so, misses_item, condition_cause, lacks_room, misses_batch}
use Rattle.ss_query.specs.Api.{overfills_batch}
use Rattle.ss_laws.proofs.Shown.{Shown, shown, account_of, shown-write_some}

-- a list of causes of which none applies
pub record SkipsFirst (test : Bool) (others : List (Option Refusal)) : Type 0 where
  pub first : test ≡ false
  pub rest : first_some others ≡ None

pub skips_first : (test : Bool) (why : Refusal) (others : List (Option Refusal)) → first_some (where_so test why ∷ others) ≡ None → SkipsFirst test others
skips_first true why others e = cc
skips_first false why others e = record { first = refl; rest = e }

pub skip : (test : Bool) (why : Refusal) (others : List (Option Refusal)) → test ≡ false → first_some others ≡ None → first_some (where_so test why ∷ others) ≡ None
skip true why others e f = cc
skip false why others e f = f

-- the same, where the first is a cause by itself
pub record SkipsCause (cause : Option Refusal) (others : List (Option Refusal)) : Type 0 where
  pub first : cause ≡ None
  pub rest : first_some others ≡ None

skips_cause : (cause : Option Refusal) (others : List (Option Refusal)) → first_some (cause ∷ others) ≡ None → SkipsCause cause others
skips_cause None others e = record { first = refl; rest = e }
skips_cause (Some why) others e = cc

skip_cause : (cause : Option Refusal) (others : List (Option Refusal)) → cause ≡ None → first_some others ≡ None → first_some (cause ∷ others) ≡ None
skip_cause None others e f = f
skip_cause (Some why) others e f = cc

-- no test refuses the request
pub record Passes (account : Plain) (request : Request) : Type 0 where
  pub item : misses_item account request ≡ false
  pub condition : condition_cause account request ≡ None
  pub room : lacks_room account request ≡ false
  pub batch : misses_batch account request ≡ false
  pub full : overfills_batch account request ≡ false
  pub clock : (is_write account request && nat_le last_stamp account.store) ≡ false
  pub over : (is_write account request && is_over (effect account request)) ≡ false

pub passes : (account : Plain) (request : Request) → refusal account request ≡ None → Passes account request
passes account request e =
    let one = skips_first (misses_item account request) NoItem _ e in
    let two = skips_cause (condition_cause account request) _ one.rest in
    let three = skips_first (lacks_room account request) NoMoreBatches _ two.rest in
    let four = skips_first (misses_batch account request) NoBatch _ three.rest in
    let five = skips_first (overfills_batch account request) BatchFull _ four.rest in
    let six = skips_first (is_write account request && nat_le last_stamp account.store) ClockEnded _ five.rest in
    let seven = skips_first (is_write account request && is_over (effect account request)) AccountFull [] six.rest in
    record {
      item = one.first;
      condition = two.first;
      room = three.first;
      batch = four.first;
      full = five.first;
      clock = six.first;
      over = seven.first;
    }

pub passed : (account : Plain) (request : Request) → Passes account request → refusal account request ≡ None
passed account request p =
    skip (misses_item account request) NoItem _ p.item
    (skip_cause (condition_cause account request) _ p.condition
    (skip (lacks_room account request) NoMoreBatches _ p.room
    (skip (misses_batch account request) NoBatch _ p.batch
    (skip (overfills_batch account request) BatchFull _ p.full
    (skip (is_write account request && nat_le last_stamp account.store) ClockEnded _ p.clock
    (skip (is_write account request && is_over (effect account request)) AccountFull [] p.over refl))))))

-- the plain POST that stands for a commit, with all the parts
abbrev pub plain_post : List ℕ → Records → Cond → List Part → Request
plain_post collection records cond parts = Post collection (record records { parts = parts }) PlainPost cond

abbrev pub whole : Plain → List ℕ → ℕ → Records → List Part
whole account collection number records = staged_parts account collection number ++ records.parts

pub shown-commit : (s : Shown) (n m : ℕ) (bs cs : List Staged) (collection : List ℕ) (records : Records) (number : ℕ) (cond : Cond)
    → shown (effect (account_of s n bs) (Post collection records (Commit number) cond))
    ≡ shown (effect (account_of s m cs) (plain_post collection records cond (whole (account_of s n bs) collection number records)))
shown-commit s n m bs cs collection records number cond = shown-write_some s n m bs cs collection (whole (account_of s n bs) collection number records)

over-commit : (s : Shown) (n m : ℕ) (bs cs : List Staged) (collection : List ℕ) (records : Records) (number : ℕ) (cond : Cond)
    → is_over (effect (account_of s n bs) (Post collection records (Commit number) cond))
    ≡ is_over (effect (account_of s m cs) (plain_post collection records cond (whole (account_of s n bs) collection number records)))
over-commit s n m bs cs collection records number cond = ap (λ (t : Shown). is_over (account_of t 0 [])) (shown-commit s n m bs cs collection records number cond)

commit-passes : (s : Shown) (n m : ℕ) (bs cs : List Staged) (collection : List ℕ) (records : Records) (number : ℕ) (cond : Cond)
    → Passes (account_of s n bs) (Post collection records (Commit number) cond)
    → Passes (account_of s m cs) (plain_post collection records cond (whole (account_of s n bs) collection number records))
commit-passes s n m bs cs collection records number cond p = record {
  item = refl;
  condition = p.condition;
  room = refl;
  batch = refl;
  full = refl;
  clock = p.clock;
  over = ap (λ over. is_write (account_of s n bs) (Post collection records (Commit number) cond) && over)
      (sym (over-commit s n m bs cs collection records number cond)) ∙ p.over;
}

-- a commit that isn't refused, and the plain POST of all its parts over an account that shows the same
pub record Commits (one other : Plain) (collection : List ℕ) (number : ℕ) (records : Records) (cond : Cond) : Type 0 where
  pub passed : refusal other (plain_post collection records cond (whole one collection number records)) ≡ None
  pub account : shown (effect one (Post collection records (Commit number) cond)) ≡ shown (effect other (plain_post collection records cond (whole one collection number records)))

commits_at : (one other : Plain) (t : Shown) (collection : List ℕ) (number : ℕ) (records : Records) (cond : Cond) → shown one ≡ t
    → refusal one (Post collection records (Commit number) cond) ≡ None → Commits one (account_of t other.counter other.batches) collection number records cond
commits_at one other t collection number records cond e f =
    subst (λ (u : Shown). Commits one (account_of u other.counter other.batches) collection number records cond) e
    (record {
      passed = passed (account_of (shown one) other.counter other.batches) (plain_post collection records cond (whole one collection number records))
          (commit-passes (shown one) one.counter other.counter one.batches other.batches collection records number cond (passes one (Post collection records (Commit number) cond) f));
      account = shown-commit (shown one) one.counter other.counter one.batches other.batches collection records number cond;
    })

pub commits : (one other : Plain) (collection : List ℕ) (number : ℕ) (records : Records) (cond : Cond) → shown one ≡ shown other
    → refusal one (Post collection records (Commit number) cond) ≡ None → Commits one other collection number records cond
commits one other collection number records cond e f = commits_at one other (shown other) collection number records cond e f
