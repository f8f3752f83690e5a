-- The batch law, by induction on the list of asks.
use Rattle.std.specs.Prelude.{◌≡◌, ◌≢◌, ℕ, ◌≤◌, Bool, false, cond, List, [], ◌∷◌, ◌++◌, Option, Some, None, IsTrue}
use Rattle.std.specs.Prelude.{flat_map, refl, if◌then◌else◌, ◌==◌}
use Rattle.std.specs.List.{AllZip}
use Rattle.std.specs.Option.{option_map_or}
use Rattle.std.proofs.Common.{ap, sym, ◌∙◌, arith}
use Rattle.std.proofs.lemmas.List.{append-nil}
use Rattle.ss_text.specs.declared.stamps.Cond.{Cond}
use Rattle.ss_bso.specs.declared.parts.Part.{Part}
use Rattle.ss_bso.specs.declared.parts.Records.{Records}
use Rattle.ss_bso.specs.declared.account.Plain.{Plain}
use Rattle.ss_bso.specs.declared.account.Staged.{Staged}
use Rattle.ss_bso.specs.Account.{tick, is_open}
use Rattle.ss_bso.specs.Validity.{IsValid, IsValidBatch}
use Rattle.ss_query.specs.declared.requests.Request.{Request}
use Rattle.ss_query.specs.declared.requests.Request.TheVariants.{Info, DeleteAll, List as ListOf, Post}
use Rattle.ss_query.specs.declared.requests.Request.TheVariants.{DeleteCollection, DeleteIds, Get, Put, Delete}
use Rattle.ss_query.specs.declared.requests.Mode.TheVariants.{Plain as PlainPost, Begin, Append, Commit}
use Rattle.ss_query.specs.Refused.{Refusal, NoItem, NotModified, WasModified, NoMoreBatches, NoBatch, BatchFull}
use Rattle.ss_query.specs.Refused.{ClockEnded, AccountFull, staged_parts}
use Rattle.ss_query.specs.Api.{refusal, outcome}
use Rattle.ss_query.specs.Flat.{Ask, Turn, after_ask, reply_to, after_all, turns, gathered_parts, is_answered_200}
use Rattle.ss_query.specs.Flat.{flat_request, flat_ask, flat_after}
use Rattle.ss_laws.specs.Laws.{is_of_batch, is_outside, HaveCountedBatches, BatchLaw}
use Rattle.ss_laws.proofs.Shown.{Shown, shown, api-shown, tick-shown}
use Rattle.ss_laws.proofs.Commit.{plain_post, commits, passes}
use Rattle.ss_laws.proofs.Staging.{Gathers, IsGathered, gathers-filter, gathers-quiet, gathers-turned, found, turn_of}
use Rattle.ss_laws.proofs.Staging.{differ, agree}
use Rattle.ss_bso.proofs.Lists.{All-from_Each, Each-imp, Each-and, Each-from_All, Pairs-from_AllPairs}
use Rattle.ss_bso.specs.Lists.{Each, Pairs}

-- one ask keeps that each batch has what was gathered for it
gathers-ask : (opening : Plain) (past : List Turn) (account : Plain) (ask : Ask) → Gathers opening past account.counter account.batches
    → Gathers opening (past ++ record { ask = ask; reply = reply_to account ask } ∷ []) (after_ask account ask).counter (after_ask account ask).batches
gathers-ask opening past account ask g =
    let ticked = gathers-filter opening past account.counter (is_open (tick account ask.now).moment) account.batches g in
    elim ask.request as (λ request. let at : Ask = record { now = ask.now; request = request } in
    Gathers opening (past ++ record { ask = at; reply = reply_to account at } ∷ []) (after_ask account at).counter (after_ask account at).batches) [
      | None ↦ gathers-quiet opening past (record { ask = record { now = ask.now; request = None }; reply = None }) account.counter (tick account ask.now).batches (λ n. refl) ticked
      | Some request ↦ gathers-turned opening past ask.now (tick account ask.now) request (refusal (tick account ask.now) request) refl ticked
    ]

-- the account after a flat request, once the clock has ticked
abbrev after_ticked : Plain → Option Request → Plain
after_ticked ticked request = option_map_or (λ r. (outcome ticked r (refusal ticked r)).account) request ticked

-- a begin and an append show nothing
shown-staging : (account : Plain) (collection : List ℕ) (records : Records) (cond : Cond) (why : Option Refusal) → shown (outcome account (Post collection records Begin cond) why).account ≡ shown account
shown-staging account collection records cond None = refl
shown-staging account collection records cond (Some why) = refl

shown-appending : (account : Plain) (collection : List ℕ) (records : Records) (number : ℕ) (cond : Cond) (why : Option Refusal) → shown (outcome account (Post collection records (Append number) cond) why).account ≡ shown account
shown-appending account collection records number cond None = refl
shown-appending account collection records number cond (Some why) = refl

-- a commit shows what stands for it in the flat list
shown-committing : (parts_for : ℕ → List Part) (one other : Plain) (now : ℕ) (collection : List ℕ) (records : Records) (number : ℕ) (cond : Cond) (why : Option Refusal)
    → refusal one (Post collection records (Commit number) cond) ≡ why → shown one ≡ shown other
    → (refusal one (Post collection records (Commit number) cond) ≡ None → staged_parts one collection number ≡ parts_for number)
    → shown (outcome one (Post collection records (Commit number) cond) why).account
    ≡ shown (after_ticked other (flat_request parts_for (is_answered_200 (turn_of now (Post collection records (Commit number) cond) (outcome one (Post collection records (Commit number) cond) why).reply)) (Post collection records (Commit number) cond)))
shown-committing parts_for one other now collection records number cond (Some NoItem) e same whole_parts = same
shown-committing parts_for one other now collection records number cond (Some NotModified) e same whole_parts = same
shown-committing parts_for one other now collection records number cond (Some WasModified) e same whole_parts = same
shown-committing parts_for one other now collection records number cond (Some NoMoreBatches) e same whole_parts = same
shown-committing parts_for one other now collection records number cond (Some NoBatch) e same whole_parts = same
shown-committing parts_for one other now collection records number cond (Some BatchFull) e same whole_parts = same
shown-committing parts_for one other now collection records number cond (Some ClockEnded) e same whole_parts = same
shown-committing parts_for one other now collection records number cond (Some AccountFull) e same whole_parts = same
shown-committing parts_for one other now collection records number cond None e same whole_parts =
    let both = commits one other collection number records cond same e in
    let post : List Part → Request = λ parts. plain_post collection records cond (parts ++ records.parts) in
    both.account
    ∙ ap (λ why. shown (outcome other (post (staged_parts one collection number)) why).account) (sym both.passed)
    ∙ ap (λ parts. shown (outcome other (post parts) (refusal other (post parts))).account) (whole_parts e)

flat_request-outside : (parts_for : ℕ → List Part) (ok : Bool) (request : Request) → is_of_batch request ≡ false → flat_request parts_for ok request ≡ Some request
flat_request-outside parts_for ok (Info what cond) e = refl
flat_request-outside parts_for ok (DeleteAll cond) e = refl
flat_request-outside parts_for ok (ListOf collection query cond) e = refl
flat_request-outside parts_for ok (Post collection records PlainPost cond) e = refl
flat_request-outside parts_for ok (Post collection records Begin cond) e = cc
flat_request-outside parts_for ok (Post collection records (Append number) cond) e = cc
flat_request-outside parts_for ok (Post collection records (Commit number) cond) e = cc
flat_request-outside parts_for ok (DeleteCollection collection cond) e = refl
flat_request-outside parts_for ok (DeleteIds collection ids cond) e = refl
flat_request-outside parts_for ok (Get collection id cond) e = refl
flat_request-outside parts_for ok (Put collection id fields cond) e = refl
flat_request-outside parts_for ok (Delete collection id cond) e = refl

-- an ask with its reply
abbrev turn_at : Plain → Ask → Turn
turn_at account ask = record { ask = ask; reply = reply_to account ask }

-- one ask, and what stands for it in the flat list
record Steps (one other : Plain) (ask flat : Ask) : Type 0 where
  account : shown (after_ask one ask) ≡ shown (after_ask other flat)
  reply : IsTrue (is_outside ask) → turn_at other flat ≡ turn_at one ask

steps-outside : (parts_for : ℕ → List Part) (one other : Plain) (now : ℕ) (request : Request) → shown one ≡ shown other → is_of_batch request ≡ false
    → Steps one other (record { now = now; request = Some request }) (record { now = now; request = Some request })
steps-outside parts_for one other now request same outside =
    let both = api-shown one other now request same outside in
    record {
      account = both.account;
      reply = λ _. ap (λ reply. turn_of now request reply) (sym both.reply);
    }

steps-request : (opening : Plain) (past : List Turn) (one other : Plain) (now : ℕ) (request : Request) → shown one ≡ shown other
    → Gathers opening past one.counter one.batches
    → Steps one other (record { now = now; request = Some request }) (flat_ask (gathered_parts opening past) (turn_at one (record { now = now; request = Some request })))
steps-request opening past one other now (Post collection records PlainPost cond) same g = steps-outside (gathered_parts opening past) one other now (Post collection records PlainPost cond) same refl
steps-request opening past one other now (Post collection records Begin cond) same g = record {
  account = shown-staging (tick one now) collection records cond (refusal (tick one now) (Post collection records Begin cond)) ∙ tick-shown one other now same;
  reply = λ h. cc;
}
steps-request opening past one other now (Post collection records (Append number) cond) same g = record {
  account = shown-appending (tick one now) collection records number cond (refusal (tick one now) (Post collection records (Append number) cond)) ∙ tick-shown one other now same;
  reply = λ h. cc;
}
steps-request opening past one other now (Post collection records (Commit number) cond) same g = record {
  account = shown-committing (gathered_parts opening past) (tick one now) (tick other now) now collection records number cond
      (refusal (tick one now) (Post collection records (Commit number) cond)) refl (tick-shown one other now same)
      (λ none. (found opening past (tick one now) collection number (passes (tick one now) (Post collection records (Commit number) cond) none).batch
      (gathers-filter opening past one.counter (is_open (tick one now).moment) one.batches g)).are);
  reply = λ h. cc;
}
steps-request opening past one other now (Info what cond) same g = steps-outside (gathered_parts opening past) one other now (Info what cond) same refl
steps-request opening past one other now (DeleteAll cond) same g = steps-outside (gathered_parts opening past) one other now (DeleteAll cond) same refl
steps-request opening past one other now (ListOf collection query cond) same g = steps-outside (gathered_parts opening past) one other now (ListOf collection query cond) same refl
steps-request opening past one other now (DeleteCollection collection cond) same g = steps-outside (gathered_parts opening past) one other now (DeleteCollection collection cond) same refl
steps-request opening past one other now (DeleteIds collection ids cond) same g = steps-outside (gathered_parts opening past) one other now (DeleteIds collection ids cond) same refl
steps-request opening past one other now (Get collection id cond) same g = steps-outside (gathered_parts opening past) one other now (Get collection id cond) same refl
steps-request opening past one other now (Put collection id fields cond) same g = steps-outside (gathered_parts opening past) one other now (Put collection id fields cond) same refl
steps-request opening past one other now (Delete collection id cond) same g = steps-outside (gathered_parts opening past) one other now (Delete collection id cond) same refl

steps : (opening : Plain) (past : List Turn) (one other : Plain) (ask : Ask) → shown one ≡ shown other → Gathers opening past one.counter one.batches
    → Steps one other ask (flat_ask (gathered_parts opening past) (turn_at one ask))
steps opening past one other ask same g =
    elim ask.request as (λ request. let at : Ask = record { now = ask.now; request = request } in Steps one other at (flat_ask (gathered_parts opening past) (turn_at one at))) [
      | None ↦ record { account = tick-shown one other ask.now same; reply = λ _. refl }
      | Some request ↦ steps-request opening past one other ask.now request same g
    ]

-- a list of asks, and what stands for it in the flat list, after the same past
record Runs (opening : Plain) (past : List Turn) (one other : Plain) (asks : List Ask) : Type 0 where
  account : shown (after_all one asks) ≡ shown (after_all other (flat_after opening past (turns one asks)))
  replies : AllZip (λ (turn plain : Turn). IsTrue (is_outside turn.ask) → plain ≡ turn) (turns one asks) (turns other (flat_after opening past (turns one asks)))

runs : (opening : Plain) (past : List Turn) (one other : Plain) (asks : List Ask) → shown one ≡ shown other → Gathers opening past one.counter one.batches → Runs opening past one other asks
runs opening past one other [] same g = record { account = same; replies = tt }
runs opening past one other (ask ∷ asks) same g =
    let step = steps opening past one other ask same g in
    let rest = runs opening (past ++ turn_at one ask ∷ []) (after_ask one ask) (after_ask other (flat_ask (gathered_parts opening past) (turn_at one ask))) asks step.account (gathers-ask opening past one ask g) in
    record { account = rest.account; replies = (step.reply, rest.replies) }

-- the parts that a list of batches has for a number
abbrev listed : List Staged → ℕ → List Part
listed batches number = flat_map (λ (batch : Staged). if batch.number == number then batch.parts else []) batches

listed-none : (batches : List Staged) (n : ℕ) → Each (λ (batch : Staged). batch.number ≢ n) batches → listed batches n ≡ []
listed-none [] n e = refl
listed-none (batch ∷ batches) n e = ap (λ front. front ++ listed batches n) (differ batch.number n batch.parts e.0) ∙ listed-none batches n e.1

listed-each : (batches : List Staged) → Pairs (λ (batch other : Staged). batch.number ≢ other.number) batches → Each (λ (batch : Staged). batch.parts ≡ listed batches batch.number) batches
listed-each [] p = tt
listed-each (batch ∷ batches) p = (
  sym (ap (λ front. front ++ listed batches batch.number) (agree batch.number batch.parts)
      ∙ ap (λ rest. batch.parts ++ rest) (listed-none batches batch.number (Each-imp (λ (other : Staged). batch.number ≢ other.number) (λ (other : Staged). other.number ≢ batch.number) (λ other h e. h (sym e)) batches p.0))
      ∙ append-nil batch.parts),
  Each-imp (λ (other : Staged). (batch.number ≢ other.number) × (other.parts ≡ listed batches other.number)) (λ (other : Staged). other.parts ≡ listed (batch ∷ batches) other.number)
      (λ other h. h.1 ∙ sym (ap (λ front. front ++ listed batches other.number) (differ batch.number other.number batch.parts h.0)))
      batches (Each-and (λ (other : Staged). batch.number ≢ other.number) (λ (other : Staged). other.parts ≡ listed batches other.number) batches p.0 (listed-each batches p.1)),
)

-- at the opening each batch has what was gathered for it, since numbers are distinct and were given out
starts : (opening : Plain) → HaveCountedBatches opening → Gathers opening [] opening.counter opening.batches
starts opening valid =
    let IsCounted : Staged → Type 0 = λ batch. batch.number ≤ opening.counter in
    let counted : Each IsCounted opening.batches = Each-from_All IsCounted opening.batches valid.counted in
    record {
      staged = Each-imp (λ (batch : Staged). IsCounted batch × (batch.parts ≡ listed opening.batches batch.number)) (IsGathered opening [] opening.counter)
          (λ batch h. record { parts = h.1 ∙ sym (append-nil (listed opening.batches batch.number)); counted = h.0 }) opening.batches
          (Each-and IsCounted (λ (batch : Staged). batch.parts ≡ listed opening.batches batch.number) opening.batches counted
          (listed-each opening.batches (Pairs-from_AllPairs (λ (batch other : Staged). batch.number ≢ other.number) opening.batches valid.numbers)));
      fresh = λ n lt. append-nil (listed opening.batches n)
          ∙ listed-none opening.batches n (Each-imp IsCounted (λ (batch : Staged). batch.number ≢ n) (λ batch h e. let below : batch.number ≤ opening.counter = h in absurd (omega arith)) opening.batches counted);
    }

-- the batches of a valid account are so
pub valid-counted : (account : Plain) → IsValid account → HaveCountedBatches account
valid-counted account valid = record {
  numbers = valid.numbers;
  counted = All-from_Each (λ (batch : Staged). batch.number ≤ account.counter) account.batches
      (Each-imp (IsValidBatch account) (λ (batch : Staged). batch.number ≤ account.counter) (λ batch h. h.counted) account.batches
      (Each-from_All (IsValidBatch account) account.batches valid.batches));
}

pub batch_law : (opening : Plain) (asks : List Ask) → HaveCountedBatches opening → BatchLaw opening asks
batch_law opening asks valid =
    let all = runs opening [] opening opening asks refl (starts opening valid) in
    record {
      account = record {
        rows = ap (λ (s : Shown). s.rows) all.account;
        collections = ap (λ (s : Shown). s.collections) all.account;
        store = ap (λ (s : Shown). s.store) all.account;
        last_delete = ap (λ (s : Shown). s.last_delete) all.account;
        moment = ap (λ (s : Shown). s.moment) all.account;
      };
      replies = all.replies;
    }
