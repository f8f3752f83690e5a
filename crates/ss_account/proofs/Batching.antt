-- The batches of an account as a stage: which refusals come of it, and what is reached.
use Rattle.std.specs.Prelude.{◌≡◌, ◌≢◌, ℕ, ◌+◌, ◌≤◌, Bool, true, false, not, cond, ◌&&◌, ◌||◌, ◌==◌, nat_le, nat_lt}
use Rattle.std.specs.Prelude.{List, [], ◌∷◌, ◌++◌, length, min, bytes_eq, Option, Some, None, option_map, is_none}
use Rattle.std.specs.Prelude.{IsSome, Result, Ok, Err, refl}
use Rattle.std.specs.Option.{option_map_or}
use Rattle.std.proofs.Common.{sym, ap, subst, ◌∙◌, arith}
use Rattle.std.proofs.lemmas.Bool.Decides.{nat_tests}
use Rattle.ss_text.specs.Time.{last_stamp, stops}
use Rattle.ss_text.specs.declared.stamps.Cond.{Cond}
use Rattle.ss_bso.specs.declared.parts.Part.{Part}
use Rattle.ss_bso.specs.declared.parts.Records.{Records}
use Rattle.ss_bso.specs.declared.account.Plain.{Plain}
use Rattle.ss_bso.specs.declared.account.Staged.{Staged}
use Rattle.ss_bso.specs.Batches.{batch_in, batches_without, fit}
use Rattle.ss_bso.specs.Write.{write}
use Rattle.ss_bso.specs.Limits.{most_batch_records, most_batch_bytes, most_live_batches, part_bytes}
use Rattle.ss_bso.specs.Validity.{IsValid}
use Rattle.ss_batch.specs.declared.faults.StageFault.{StageFault}
use Rattle.ss_batch.specs.declared.faults.StageFault.TheVariants.{NotLive, OtherCollection, TooManyRecords}
use Rattle.ss_batch.specs.declared.faults.StageFault.TheVariants.{TooManyBytes, TooManyBatches, Memory}
use Rattle.ss_batch.specs.Stage.{append_fault, begin_fault, has_room, more, most_counted, live_batch, reach, live_parts}
use Rattle.ss_batch.specs.Stage.{size_fault}
use Rattle.ss_query.specs.declared.requests.Request.{Request}
use Rattle.ss_query.specs.declared.requests.Request.TheVariants.{Post}
use Rattle.ss_query.specs.declared.requests.Mode.TheVariants.{Begin, Append, Commit}
use Rattle.ss_query.specs.declared.replies.Body.{Body}
use Rattle.ss_query.specs.Fit.{IsFitRequest}
use Rattle.ss_query.specs.Refused.{Refusal, NoItem, NoMoreBatches, NoBatch, BatchFull, ClockEnded, AccountFull}
use Rattle.ss_query.specs.Refused.{batch_of, condition_of, said_by, staged_parts, is_there, target_time, IsLive}
use Rattle.ss_query.specs.Effect.{effect, is_empty, is_over, is_write, stamp_in}
use Rattle.ss_query.specs.Api.{condition_cause, first_some, lacks_room, misses_batch, misses_item, outcome}
use Rattle.ss_query.specs.Api.{overfills_batch, refusal, where_so, why_stopped}
use Rattle.ss_account.specs.Steps.{batch_cause, account_after_commit, fault_body, late_refusal, plain_reply, stage_of}
use Rattle.ss_bso.proofs.Lists.{Pairs-from_AllPairs}
use Rattle.ss_bso.specs.Lists.{Each, Pairs}

-- a batch is of a number and a collection, where no other has the number
abbrev chosen : List ℕ → Option Staged → Option Staged
chosen collection None = None
chosen collection (Some batch) = cond (bytes_eq batch.collection collection) (Some batch) None

none-other : (number : ℕ) (collection : List ℕ) (first : Staged) (batches : List Staged) → first.number ≡ number → Each (λ (other : Staged). first.number ≢ other.number) batches → batch_in collection number batches ≡ None
none-other number collection first [] same others = refl
none-other number collection first (batch ∷ batches) same others =
    elim (batch.number == number) as (λ v. (batch.number == number) ≡ v → cond (v && bytes_eq batch.collection collection) (Some batch) (batch_in collection number batches) ≡ None) [
      | true ↦ (λ t. absurd (others.0 (same ∙ sym (same_number batch.number number t))))
      | false ↦ (λ t. none-other number collection first batches same others.1)
    ] refl
  where
    same_number : (m n : ℕ) → (m == n) ≡ true → m ≡ n
    same_number m n = grind (arith, nat_tests)

chosen-in : (number : ℕ) (collection : List ℕ) (batches : List Staged) → Pairs (λ (batch other : Staged). batch.number ≢ other.number) batches → batch_in collection number batches ≡ chosen collection (live_batch number batches)
chosen-in number collection [] distinct = refl
chosen-in number collection (batch ∷ batches) distinct =
    elim (batch.number == number) as (λ v. (batch.number == number) ≡ v
    → cond (v && bytes_eq batch.collection collection) (Some batch) (batch_in collection number batches) ≡ chosen collection (cond v (Some batch) (live_batch number batches))) [
      | true ↦ (λ t. elim (bytes_eq batch.collection collection) as (λ w. cond w (Some batch) (batch_in collection number batches) ≡ cond w (Some batch) None)
          [ true ↦ refl | false ↦ none-other number collection batch batches (same_number batch.number number t) distinct.0 ])
      | false ↦ (λ t. chosen-in number collection batches distinct.1)
    ] refl
  where
    same_number : (m n : ℕ) → (m == n) ≡ true → m ≡ n
    same_number m n = grind (arith, nat_tests)

batch_of-chosen : (account : Plain) (collection : List ℕ) (number : ℕ) → IsValid account → batch_of account collection number ≡ chosen collection (live_batch number account.batches)
batch_of-chosen account collection number valid =
    chosen-in number collection account.batches (Pairs-from_AllPairs (λ (batch other : Staged). batch.number ≢ other.number) account.batches valid.numbers)

-- the parts that are reached, or none
abbrev pub parts_or_none : Result (List Part) StageFault → List Part
parts_or_none (Ok parts) = parts
parts_or_none (Err fault) = []

pub staged-reached : (account : Plain) (collection : List ℕ) (number : ℕ) → IsValid account → staged_parts account collection number ≡ parts_or_none (live_parts (stage_of account) number collection)
staged-reached account collection number valid =
    ap (λ o. option_map_or (λ (batch : Staged). batch.parts) o []) (batch_of-chosen account collection number valid) ∙ by (live_batch number account.batches)
  where
    by : (o : Option Staged) → option_map_or (λ (batch : Staged). batch.parts) (chosen collection o) [] ≡ parts_or_none (reach collection o)
    by None = refl
    by (Some batch) =
        elim (bytes_eq batch.collection collection) as (λ v. option_map_or (λ (one : Staged). one.parts) (cond v (Some batch) None) [] ≡ parts_or_none (cond v (Ok batch.parts) (Err OtherCollection)))
        [ true ↦ refl | false ↦ refl ]

-- a live batch has its number
pub live-numbered : (account : Plain) (collection : List ℕ) (number : ℕ) → IsValid account → IsLive account collection number → IsSome (live_batch number account.batches)
live-numbered account collection number valid live = by (live_batch number account.batches) (subst (λ o. IsSome o) (batch_of-chosen account collection number valid) live)
  where
    by : (o : Option Staged) → IsSome (chosen collection o) → IsSome o
    by None h = h
    by (Some batch) h = refl

-- the refusal that a fault stands for
abbrev verdict : Option StageFault → Option Refusal
verdict None = None
verdict (Some (TooManyRecords n)) = Some BatchFull
verdict (Some (TooManyBytes n)) = Some BatchFull
verdict (Some NotLive) = Some NoBatch
verdict (Some OtherCollection) = Some NoBatch
verdict (Some TooManyBatches) = Some NoBatch
verdict (Some Memory) = Some NoBatch

beyond : (m n : ℕ) → nat_lt m n ≡ not (nat_le n m)
beyond m n = grind (arith, nat_tests)

size-verdict : (parts : List Part) → verdict (size_fault parts) ≡ where_so (not (fit parts)) BatchFull
size-verdict parts =
    let records = length parts in
    let bytes = part_bytes parts in
    (λ i. verdict (cond (beyond most_batch_records records i) (Some (TooManyRecords records)) (cond (beyond most_batch_bytes bytes i) (Some (TooManyBytes (min bytes most_counted))) None)))
    ∙ by (nat_le records most_batch_records) (nat_le bytes most_batch_bytes)
  where
    by : (p q : Bool) → verdict (cond (not p) (Some (TooManyRecords (length parts))) (cond (not q) (Some (TooManyBytes (min (part_bytes parts) most_counted))) None)) ≡ where_so (not (p && q)) BatchFull
    by true true = refl
    by true false = refl
    by false true = refl
    by false false = refl

-- the causes against a request that continues a batch
abbrev continuing : Plain → List ℕ → ℕ → List Part → Option Refusal
continuing account collection number parts = first_some (
    None
    ∷ where_so (is_none (batch_of account collection number)) NoBatch
    ∷ where_so (not (fit (staged_parts account collection number ++ parts))) BatchFull
    ∷ [])

continuing-verdict : (account : Plain) (collection : List ℕ) (number : ℕ) (parts : List Part) → IsValid account → continuing account collection number parts ≡ verdict (append_fault (stage_of account) number collection parts)
continuing-verdict account collection number parts valid =
    (λ i. first_some (None ∷ where_so (is_none (batch_of-chosen account collection number valid i)) NoBatch
    ∷ where_so (not (fit (option_map_or (λ (batch : Staged). batch.parts) (batch_of-chosen account collection number valid i) [] ++ parts))) BatchFull ∷ []))
    ∙ by (live_batch number account.batches)
  where
    last : (o : Option Refusal) → first_some (None ∷ None ∷ o ∷ []) ≡ o
    last None = refl
    last (Some why) = refl

    by : (o : Option Staged) → first_some (None ∷ where_so (is_none (chosen collection o)) NoBatch ∷ where_so (not (fit (option_map_or (λ (batch : Staged). batch.parts) (chosen collection o) [] ++ parts))) BatchFull ∷ [])
        ≡ verdict (more parts (reach collection o))
    by None = refl
    by (Some batch) =
        elim (bytes_eq batch.collection collection) as (λ v. first_some (None ∷ where_so (is_none (cond v (Some batch) None)) NoBatch
        ∷ where_so (not (fit (option_map_or (λ (one : Staged). one.parts) (cond v (Some batch) None) [] ++ parts))) BatchFull ∷ [])
        ≡ verdict (more parts (cond v (Ok batch.parts) (Err OtherCollection)))) [
          | true ↦ last (where_so (not (fit (batch.parts ++ parts))) BatchFull) ∙ sym (size-verdict (batch.parts ++ parts))
          | false ↦ refl
        ]

verdict-none : (fault : Option StageFault) → verdict fault ≡ None → fault ≡ None
verdict-none None e = refl
verdict-none (Some NotLive) e = cc
verdict-none (Some OtherCollection) e = cc
verdict-none (Some (TooManyRecords n)) e = cc
verdict-none (Some (TooManyBytes n)) e = cc
verdict-none (Some TooManyBatches) e = cc
verdict-none (Some Memory) e = cc

verdict-body : (fault : StageFault) → option_map said_by (verdict (Some fault)) ≡ Some (fault_body fault)
verdict-body NotLive = refl
verdict-body OtherCollection = refl
verdict-body (TooManyRecords n) = refl
verdict-body (TooManyBytes n) = refl
verdict-body TooManyBatches = refl
verdict-body Memory = refl

-- what is told of a request that continues a batch
verdict-said : (fault : Option StageFault) → option_map said_by (verdict fault) ≡ option_map fault_body fault
verdict-said None = refl
verdict-said (Some fault) = verdict-body fault

pub append-said : (account : Plain) (collection : List ℕ) (records : Records) (number : ℕ) (condition : Cond) → IsValid account
    → option_map fault_body (append_fault (stage_of account) number collection records.parts) ≡ option_map said_by (batch_cause account (Post collection records (Append number) condition))
append-said account collection records number condition valid =
    sym (ap (option_map said_by) (continuing-verdict account collection number records.parts valid) ∙ verdict-said (append_fault (stage_of account) number collection records.parts))

pub commit-said : (account : Plain) (collection : List ℕ) (records : Records) (number : ℕ) (condition : Cond) → IsValid account
    → option_map fault_body (append_fault (stage_of account) number collection records.parts) ≡ option_map said_by (batch_cause account (Post collection records (Commit number) condition))
commit-said account collection records number condition valid =
    sym (ap (option_map said_by) (continuing-verdict account collection number records.parts valid) ∙ verdict-said (append_fault (stage_of account) number collection records.parts))

-- and back: what the passed tests say
pub append-free : (account : Plain) (collection : List ℕ) (records : Records) (number : ℕ) (condition : Cond) → IsValid account → batch_cause account (Post collection records (Append number) condition) ≡ None
    → append_fault (stage_of account) number collection records.parts ≡ None
append-free account collection records number condition valid e =
    verdict-none (append_fault (stage_of account) number collection records.parts) (sym (continuing-verdict account collection number records.parts valid) ∙ e)

pub commit-live : (account : Plain) (collection : List ℕ) (records : Records) (number : ℕ) (condition : Cond) → batch_cause account (Post collection records (Commit number) condition) ≡ None → IsLive account collection number
commit-live account collection records number condition e = by (batch_of account collection number) _ e
  where
    by : (o : Option Staged) (others : List (Option Refusal)) → first_some (None ∷ where_so (is_none o) NoBatch ∷ others) ≡ None → IsSome o
    by None others h = cc
    by (Some batch) others h = refl

room-passes : (room : Bool) → first_some (where_so (not room) NoMoreBatches ∷ None ∷ None ∷ []) ≡ cond room None (Some NoMoreBatches)
room-passes true = refl
room-passes false = refl

not-not : (b : Bool) → b ≡ not (not b)
not-not true = refl
not-not false = refl

pub begin-cause : (account : Plain) (collection : List ℕ) (records : Records) (condition : Cond) → batch_cause account (Post collection records Begin condition) ≡ cond (has_room (stage_of account)) None (Some NoMoreBatches)
begin-cause account collection records condition =
    ap (λ b. first_some (where_so b NoMoreBatches ∷ None ∷ None ∷ [])) (not-not (nat_le most_live_batches (length account.batches) || nat_le last_stamp account.counter))
    ∙ room-passes (has_room (stage_of account))

pub begin-free : (account : Plain) (collection : List ℕ) (records : Records) (condition : Cond) → IsFitRequest (Post collection records Begin condition) → batch_cause account (Post collection records Begin condition) ≡ None
    → begin_fault (stage_of account) records.parts ≡ None
begin-free account collection records condition fits e =
    by (has_room (stage_of account)) (sym (begin-cause account collection records condition) ∙ e)
  where
    small : size_fault records.parts ≡ None
    small =
        let number : length records.parts + length records.failed ≤ 100 = fits.0 in
        let bytes : part_bytes records.parts ≤ 2097152 = fits.1 in
        let few : nat_lt most_batch_records (length records.parts) ≡ false = grind (arith, nat_tests) in
        let light : nat_lt most_batch_bytes (part_bytes records.parts) ≡ false = grind (arith, nat_tests) in
        λ i. cond (few i) (Some (TooManyRecords (length records.parts))) (cond (light i) (Some (TooManyBytes (min (part_bytes records.parts) most_counted))) None)

    by : (room : Bool) → cond room None (Some NoMoreBatches) ≡ None → cond room (size_fault records.parts) (Some TooManyBatches) ≡ None
    by true h = small
    by false h = cc

-- a commit that is a write does it
pub committed-effect : (account : Plain) (collection : List ℕ) (records : Records) (number : ℕ) (condition : Cond) → is_write account (Post collection records (Commit number) condition) ≡ true
    → account_after_commit account collection records.parts number (stamp_in account) ≡ effect account (Post collection records (Commit number) condition)
committed-effect account collection records number condition e = by (is_empty (staged_parts account collection number ++ records.parts)) refl e
  where
    by : (empty : Bool) → is_empty (staged_parts account collection number ++ records.parts) ≡ empty → not empty ≡ true
        → account_after_commit account collection records.parts number (stamp_in account) ≡ effect account (Post collection records (Commit number) condition)
    by true is h = cc
    by false is h = sym (ap (λ b. record (cond b account (write account collection (staged_parts account collection number ++ records.parts) (stamp_in account))) { batches = batches_without number account.batches; counter = account.counter }) is)

-- a commit with staged parts is a write, and so is one with parts of its own
pub commit-writes : (account : Plain) (collection : List ℕ) (records : Records) (number : ℕ) (condition : Cond) (staged : List Part) (empty : Bool) → staged ≡ staged_parts account collection number → empty ≡ (length staged == 0) → not empty ≡ true
    → is_write account (Post collection records (Commit number) condition) ≡ true
commit-writes account collection records number condition staged empty e f g =
    ap (λ parts. not (is_empty (parts ++ records.parts))) (sym e) ∙ by staged (sym (ap not f) ∙ g)
  where
    by : (parts : List Part) → not (length parts == 0) ≡ true → not (is_empty (parts ++ records.parts)) ≡ true
    by [] h = cc
    by (part ∷ parts) h = refl

pub commit-writes-own : (account : Plain) (collection : List ℕ) (records : Records) (number : ℕ) (condition : Cond) (empty : Bool) → empty ≡ (length records.parts == 0) → not empty ≡ true
    → is_write account (Post collection records (Commit number) condition) ≡ true
commit-writes-own account collection records number condition empty f g = by (staged_parts account collection number) records.parts (sym (ap not f) ∙ g)
  where
    by : (staged parts : List Part) → not (length parts == 0) ≡ true → not (is_empty (staged ++ parts)) ≡ true
    by (part ∷ staged) parts h = refl
    by [] [] h = cc
    by [] (part ∷ parts) h = refl

-- the refusals by batch in the midst of the others
after-batch : (a b c : Option Refusal) (others : List (Option Refusal)) → first_some (a ∷ b ∷ c ∷ []) ≡ None → first_some (a ∷ b ∷ c ∷ others) ≡ first_some others
after-batch None None None others e = refl
after-batch None None (Some why) others e = cc
after-batch None (Some why) c others e = cc
after-batch (Some why) b c others e = cc

by-batch : (a b c : Option Refusal) (others : List (Option Refusal)) (why : Refusal) → first_some (a ∷ b ∷ c ∷ []) ≡ Some why → first_some (a ∷ b ∷ c ∷ others) ≡ Some why
by-batch None None None others why e = cc
by-batch None None (Some other) others why e = e
by-batch None (Some other) c others why e = e
by-batch (Some other) b c others why e = e

-- the tests before those of batches are passed
pub record ComesIn (account : Plain) (request : Request) : Type 0 where
  pub item : misses_item account request ≡ false
  pub free : stops (condition_of request) (is_there account request) (target_time account request) ≡ None

first-two : (missing : Bool) (cause : Option Refusal) (others : List (Option Refusal)) → missing ≡ false → cause ≡ None → first_some (where_so missing NoItem ∷ cause ∷ others) ≡ first_some others
first-two true cause others e f = cc
first-two false None others e f = refl
first-two false (Some why) others e f = cc

-- the tests after those of batches
abbrev last_two : Plain → Request → List (Option Refusal)
last_two account request =
    where_so (is_write account request && nat_le last_stamp account.store) ClockEnded
    ∷ where_so (is_write account request && is_over (effect account request)) AccountFull
    ∷ []

enters : (account : Plain) (request : Request) → ComesIn account request → refusal account request ≡ first_some (
    where_so (lacks_room account request) NoMoreBatches
    ∷ where_so (misses_batch account request) NoBatch
    ∷ where_so (overfills_batch account request) BatchFull
    ∷ last_two account request)
enters account request in_first = first-two (misses_item account request) (condition_cause account request) _ in_first.item (ap (option_map why_stopped) in_first.free)

pub admitted : (account : Plain) (request : Request) → ComesIn account request → batch_cause account request ≡ None → refusal account request ≡ late_refusal account request
admitted account request in_first e =
    enters account request in_first
    ∙ after-batch (where_so (lacks_room account request) NoMoreBatches) (where_so (misses_batch account request) NoBatch) (where_so (overfills_batch account request) BatchFull) (last_two account request) e

-- a refusal by batch has the status 400 and shows no time
pub record IsRefusedSo (account : Plain) (request : Request) (body : Body) : Type 0 where
  pub reply : plain_reply account.moment 400 None body ≡ (outcome account request (refusal account request)).reply
  pub account_left : (outcome account request (refusal account request)).account ≡ account
  pub refuses : is_none (refusal account request) ≡ false

told : (account : Plain) (request : Request) (p q r : Bool) (body : Body) (why : Refusal) → first_some (where_so p NoMoreBatches ∷ where_so q NoBatch ∷ where_so r BatchFull ∷ []) ≡ Some why → body ≡ said_by why
    → plain_reply account.moment 400 None body ≡ (outcome account request (Some why)).reply
told account request true q r body why e f =
    let same : NoMoreBatches ≡ why = cc in ap (plain_reply account.moment 400 None) (f ∙ ap said_by (sym same)) ∙ ap (λ w. (outcome account request (Some w)).reply) same
told account request false true r body why e f =
    let same : NoBatch ≡ why = cc in ap (plain_reply account.moment 400 None) (f ∙ ap said_by (sym same)) ∙ ap (λ w. (outcome account request (Some w)).reply) same
told account request false false true body why e f =
    let same : BatchFull ≡ why = cc in ap (plain_reply account.moment 400 None) (f ∙ ap said_by (sym same)) ∙ ap (λ w. (outcome account request (Some w)).reply) same
told account request false false false body why e f = cc

pub refused-by_batch : (account : Plain) (request : Request) (body : Body) → ComesIn account request → Some body ≡ option_map said_by (batch_cause account request) → IsRefusedSo account request body
refused-by_batch account request body in_first e = by (batch_cause account request) refl e
  where
    by : (cause : Option Refusal) → batch_cause account request ≡ cause → Some body ≡ option_map said_by cause → IsRefusedSo account request body
    by None is h = cc
    by (Some why) is h =
        let same : body ≡ said_by why = cc in
        let refused : refusal account request ≡ Some why = enters account request in_first
        ∙ by-batch (where_so (lacks_room account request) NoMoreBatches) (where_so (misses_batch account request) NoBatch) (where_so (overfills_batch account request) BatchFull) (last_two account request) why is in
        record {
          reply = told account request (lacks_room account request) (misses_batch account request) (overfills_batch account request) body why is same ∙ ap (λ w. (outcome account request w).reply) (sym refused);
          account_left = ap (λ w. (outcome account request w).account) refused;
          refuses = ap is_none refused;
        }

-- where an item isn't missed the time is the target's
pub found_time : (missed : Bool) (time target : ℕ) → Some time ≡ cond missed None (Some target) → (missed ≡ false) × (time ≡ target)
found_time true time target e = cc
found_time false time target e = (refl, cc)

-- a request whose target has a time that its condition lets pass comes in
pub comes_in : (account : Plain) (request : Request) (time : ℕ) → Some time ≡ cond (misses_item account request) None (Some (target_time account request))
    → stops (condition_of request) (is_there account request) time ≡ None → ComesIn account request
comes_in account request time found free =
    let at = found_time (misses_item account request) time (target_time account request) found in
    record { item = at.0; free = subst (λ t. stops (condition_of request) (is_there account request) t ≡ None) at.1 free }
