-- The parts of each live batch are those that the flat list gathers for it.
use Rattle.std.specs.Prelude.{◌≡◌, ◌≢◌, ℕ, ◌<◌, ◌≤◌, Bool, true, false, not, ◌&&◌, cond, List, [], ◌∷◌, ◌++◌, Option}
use Rattle.std.specs.Prelude.{Some, None, is_none, is_some, find, filter, map, flat_map, bytes_eq, refl, if◌then◌else◌}
use Rattle.std.specs.Prelude.{◌+◌, ◌==◌}
use Rattle.std.specs.Option.{option_map_or}
use Rattle.std.proofs.Common.{ap, sym, ◌∙◌, arith}
use Rattle.std.proofs.lemmas.Bool.Decides.{nat_tests}
use Rattle.std.proofs.lemmas.Grind.{flat_map-append}
use Rattle.std.proofs.lemmas.List.{append_assoc, append-nil}
use Rattle.ss_bso.specs.declared.rows.Row.{Row}
use Rattle.ss_bso.specs.declared.parts.Part.{Part}
use Rattle.ss_bso.specs.Account.{row_at, time_of}
use Rattle.ss_bso.specs.Write.{account_after_write, rows_without}
use Rattle.ss_bso.specs.declared.account.Plain.{Plain}
use Rattle.ss_bso.specs.declared.account.Staged.{Staged}
use Rattle.ss_query.specs.declared.requests.Request.{Request}
use Rattle.ss_query.specs.declared.requests.Request.TheVariants.{Info, DeleteAll, List as ListOf, Post}
use Rattle.ss_query.specs.declared.requests.Request.TheVariants.{DeleteCollection, DeleteIds, Get, Put, Delete}
use Rattle.ss_query.specs.declared.requests.Info.{Info as InfoKind}
use Rattle.ss_query.specs.declared.requests.Info.TheVariants.{Collections, Counts, Usage, Quota, Configuration}
use Rattle.ss_query.specs.declared.requests.Mode.TheVariants.{Plain as PlainPost, Begin, Append, Commit}
use Rattle.ss_query.specs.declared.replies.Body.TheVariants.{Rows, Ids, One, Empty}
use Rattle.ss_query.specs.declared.replies.Reply.{Reply}
use Rattle.ss_query.specs.Refused.{Refusal, NoItem, NotModified, WasModified, NoMoreBatches, NoBatch, BatchFull}
use Rattle.ss_query.specs.Refused.{ClockEnded, AccountFull, said_by, staged_parts, batch_of}
use Rattle.ss_bso.specs.Batches.{grown}
use Rattle.ss_query.specs.Effect.{stamp_in, effect}
use Rattle.ss_query.specs.Told.{info_body, body_of, picked_rows}
use Rattle.ss_query.specs.Api.{refusal, outcome, done_outcome, time_told}
use Rattle.ss_query.specs.Flat.{Turn, gathered_parts, staged_by, batch_named, parts_sent}
use Rattle.ss_laws.proofs.Commit.{passes}
use Rattle.ss_bso.proofs.Lists.{Each-filter, Each-map, Each-imp, Each-append, Each-find, find-passes}
use Rattle.ss_bso.specs.Lists.{Each}
use Rattle.ss_text.proofs.Basics.{both_left}

-- a batch has what was gathered for it, and its number was given out
pub record IsGathered (opening : Plain) (past : List Turn) (counter : ℕ) (batch : Staged) : Type 0 where
  pub parts : batch.parts ≡ gathered_parts opening past batch.number
  pub counted : batch.number ≤ counter

-- so has each batch, and nothing was gathered yet for a number that wasn't given out
pub record Gathers (opening : Plain) (past : List Turn) (counter : ℕ) (batches : List Staged) : Type 0 where
  pub staged : Each (IsGathered opening past counter) batches
  pub fresh : (n : ℕ) → counter < n → gathered_parts opening past n ≡ []

pub gathered-more : (opening : Plain) (past : List Turn) (turn : Turn) (n : ℕ) → gathered_parts opening (past ++ turn ∷ []) n ≡ gathered_parts opening past n ++ staged_by n turn
gathered-more opening past turn n =
    let first : List Part = flat_map (λ (batch : Staged). if batch.number == n then batch.parts else []) opening.batches in
    ap (λ more. first ++ more) (flat_map-append (staged_by n) past (turn ∷ []))
    ∙ sym (append_assoc first (flat_map (staged_by n) past) (staged_by n turn ++ []))
    ∙ ap (λ more. (first ++ flat_map (staged_by n) past) ++ more) (append-nil (staged_by n turn))

pub gathered-quiet : (opening : Plain) (past : List Turn) (turn : Turn) (n : ℕ) → staged_by n turn ≡ [] → gathered_parts opening (past ++ turn ∷ []) n ≡ gathered_parts opening past n
gathered-quiet opening past turn n e =
    gathered-more opening past turn n ∙ ap (λ more. gathered_parts opening past n ++ more) e ∙ append-nil (gathered_parts opening past n)

-- a turn that stages nothing
pub gathers-quiet : (opening : Plain) (past : List Turn) (turn : Turn) (counter : ℕ) (batches : List Staged) → ((n : ℕ) → staged_by n turn ≡ [])
    → Gathers opening past counter batches → Gathers opening (past ++ turn ∷ []) counter batches
gathers-quiet opening past turn counter batches quiet g = record {
  staged = Each-imp (IsGathered opening past counter) (IsGathered opening (past ++ turn ∷ []) counter)
      (λ batch h. record { parts = h.parts ∙ sym (gathered-quiet opening past turn batch.number (quiet batch.number)); counted = h.counted }) batches g.staged;
  fresh = λ n lt. gathered-quiet opening past turn n (quiet n) ∙ g.fresh n lt;
}

pub gathers-filter : (opening : Plain) (past : List Turn) (counter : ℕ) (p : Staged → Bool) (batches : List Staged) → Gathers opening past counter batches → Gathers opening past counter (filter p batches)
gathers-filter opening past counter p batches g = record { staged = Each-filter (IsGathered opening past counter) p batches g.staged; fresh = g.fresh }

pub gathers-nil : (opening : Plain) (past : List Turn) (counter : ℕ) (batches : List Staged) → Gathers opening past counter batches → Gathers opening past counter []
gathers-nil opening past counter batches g = record { staged = tt; fresh = g.fresh }

-- the test of one number by another
pub differ : (m n : ℕ) (parts : List Part) → m ≢ n → (if m == n then parts else []) ≡ []
differ m n parts h = grind (arith, nat_tests)

pub agree : (n : ℕ) (parts : List Part) → (if n == n then parts else []) ≡ parts
agree n parts = grind (arith, nat_tests)

-- a begin
pub gathers-begin : (opening : Plain) (past : List Turn) (turn : Turn) (counter : ℕ) (batches : List Staged) (new : Staged) → new.number ≡ counter + 1
    → ((n : ℕ) → staged_by n turn ≡ (if (counter + 1) == n then new.parts else []))
    → Gathers opening past counter batches → Gathers opening (past ++ turn ∷ []) (counter + 1) (batches ++ new ∷ [])
gathers-begin opening past turn counter batches new is stages g = record {
  staged = Each-append (IsGathered opening (past ++ turn ∷ []) (counter + 1)) batches (new ∷ [])
      (Each-imp (IsGathered opening past counter) (IsGathered opening (past ++ turn ∷ []) (counter + 1))
      (λ batch h.
      let other : (counter + 1) ≢ batch.number = omega (arith, h.counted) in
      record {
        parts = h.parts ∙ sym (gathered-quiet opening past turn batch.number (stages batch.number ∙ differ (counter + 1) batch.number new.parts other));
        counted = omega (arith, h.counted);
      })
      batches g.staged) (
        record {
          parts = sym (gathered-more opening past turn new.number
              ∙ ap (λ n. gathered_parts opening past n ++ staged_by n turn) is
              ∙ ap (λ front. front ++ staged_by (counter + 1) turn) (g.fresh (counter + 1) (omega arith))
              ∙ stages (counter + 1) ∙ agree (counter + 1) new.parts);
          counted = omega (arith, is);
        },
        tt,
      );
  fresh = λ n lt.
      let other : (counter + 1) ≢ n = omega arith in
      gathered-quiet opening past turn n (stages n ∙ differ (counter + 1) n new.parts other) ∙ g.fresh n (omega arith);
}

-- an append
grown-gathered : (opening : Plain) (past : List Turn) (turn : Turn) (counter number : ℕ) (parts : List Part)
    → ((n : ℕ) → staged_by n turn ≡ (if number == n then parts else []))
    → (batch : Staged) → IsGathered opening past counter batch → IsGathered opening (past ++ turn ∷ []) counter (grown number parts batch)
grown-gathered opening past turn counter number parts stages batch h =
    elim (batch.number == number) as (λ v. (batch.number == number) ≡ v → IsGathered opening (past ++ turn ∷ []) counter (cond v (record batch { parts = batch.parts ++ parts }) batch)) [
      | true ↦ (λ t.
          let same : number ≡ batch.number = grind (arith, nat_tests) in
          record {
            parts = ap (λ front. front ++ parts) h.parts
                ∙ ap (λ more. gathered_parts opening past batch.number ++ more) (sym (stages batch.number ∙ ap (λ n. if n == batch.number then parts else []) same ∙ agree batch.number parts))
                ∙ sym (gathered-more opening past turn batch.number);
            counted = h.counted;
          })
      | false ↦ (λ t.
          let other : number ≢ batch.number = grind (arith, nat_tests) in
          record { parts = h.parts ∙ sym (gathered-quiet opening past turn batch.number (stages batch.number ∙ differ number batch.number parts other)); counted = h.counted })
    ] refl

pub gathers-append : (opening : Plain) (past : List Turn) (turn : Turn) (counter : ℕ) (batches : List Staged) (number : ℕ) (parts : List Part) → number ≤ counter
    → ((n : ℕ) → staged_by n turn ≡ (if number == n then parts else []))
    → Gathers opening past counter batches → Gathers opening (past ++ turn ∷ []) counter (map (grown number parts) batches)
gathers-append opening past turn counter batches number parts counted stages g = record {
  staged = Each-map (IsGathered opening past counter) (IsGathered opening (past ++ turn ∷ []) counter) (grown number parts)
      (grown-gathered opening past turn counter number parts stages) batches g.staged;
  fresh = λ n lt.
      let other : number ≢ n = omega arith in
      gathered-quiet opening past turn n (stages n ∙ differ number n parts other) ∙ g.fresh n lt;
}

-- what is known of a batch that is found by number and collection
pub record IsFound (opening : Plain) (past : List Turn) (counter : ℕ) (number : ℕ) (parts : List Part) : Type 0 where
  pub are : parts ≡ gathered_parts opening past number
  pub counted : number ≤ counter

found_at : (opening : Plain) (past : List Turn) (counter : ℕ) (batches : List Staged) (collection : List ℕ) (number : ℕ) (found : Option Staged)
    → find (λ (batch : Staged). batch.number == number && bytes_eq batch.collection collection) batches ≡ found → is_none found ≡ false
    → Gathers opening past counter batches → IsFound opening past counter number (option_map_or (λ (batch : Staged). batch.parts) found [])
found_at opening past counter batches collection number None e f g = cc
found_at opening past counter batches collection number (Some batch) e f g =
    let p : Staged → Bool = λ batch. batch.number == number && bytes_eq batch.collection collection in
    let known = Each-find (IsGathered opening past counter) p batches batch e g.staged in
    let test : (batch.number == number) ≡ true = both_left (batch.number == number) (bytes_eq batch.collection collection) (find-passes p batches batch e) in
    let same : batch.number ≡ number = grind (arith, nat_tests) in
    record { are = known.parts ∙ ap (λ n. gathered_parts opening past n) same; counted = omega (arith, known.counted) }

pub found : (opening : Plain) (past : List Turn) (account : Plain) (collection : List ℕ) (number : ℕ) → is_none (batch_of account collection number) ≡ false
    → Gathers opening past account.counter account.batches → IsFound opening past account.counter number (staged_parts account collection number)
found opening past account collection number f g = found_at opening past account.counter account.batches collection number (batch_of account collection number) refl f g

-- which replies name a batch
named-refused : (why : Refusal) → batch_named (said_by why) ≡ None
named-refused NoItem = refl
named-refused NotModified = refl
named-refused WasModified = refl
named-refused NoMoreBatches = refl
named-refused NoBatch = refl
named-refused BatchFull = refl
named-refused ClockEnded = refl
named-refused AccountFull = refl

named-info : (account : Plain) (what : InfoKind) → batch_named (info_body account what) ≡ None
named-info account Collections = refl
named-info account Counts = refl
named-info account Usage = refl
named-info account Quota = refl
named-info account Configuration = refl

named-rows : (full : Bool) (x : List Row) (y : List (List ℕ)) → batch_named (cond full (Rows x) (Ids y)) ≡ None
named-rows true x y = refl
named-rows false x y = refl

named-item : (found : Option Row) → batch_named (option_map_or (λ row. One row) found Empty) ≡ None
named-item None = refl
named-item (Some row) = refl

-- whether a request asks to stage parts: a begin or an append
abbrev pub asks_to_stage : Request → Bool
asks_to_stage (Post collection records PlainPost cond) = false
asks_to_stage (Post collection records Begin cond) = true
asks_to_stage (Post collection records (Append number) cond) = true
asks_to_stage (Post collection records (Commit number) cond) = false
asks_to_stage _ = false

named-done : (account : Plain) (request : Request) (time : ℕ) → asks_to_stage request ≡ false → batch_named (body_of account request time) ≡ None
named-done account (Info what cond) time e = named-info account what
named-done account (DeleteAll cond) time e = refl
named-done account (ListOf collection query cond) time e = named-rows query.full (picked_rows account collection query).rows (map (λ row. row.id) (picked_rows account collection query).rows)
named-done account (Post collection records PlainPost cond) time e = refl
named-done account (Post collection records Begin cond) time e = cc
named-done account (Post collection records (Append number) cond) time e = cc
named-done account (Post collection records (Commit number) cond) time e = refl
named-done account (DeleteCollection collection cond) time e = refl
named-done account (DeleteIds collection ids cond) time e = refl
named-done account (Get collection id cond) time e = named-item (row_at collection id account.rows)
named-done account (Put collection id fields cond) time e = refl
named-done account (Delete collection id cond) time e = refl

-- the turn of a request and its reply
abbrev pub turn_of : ℕ → Request → Reply → Turn
turn_of now request reply = record { ask = record { now = now; request = Some request }; reply = Some reply }

staged_by-unnamed : (n now : ℕ) (request : Request) (reply : Reply) → batch_named reply.body ≡ None → staged_by n (turn_of now request reply) ≡ []
staged_by-unnamed n now request reply e =
    ap (λ named. cond (option_map_or (λ m. m == n) named false) (parts_sent request) []) e

gathers-cond : (opening : Plain) (past : List Turn) (b : Bool) (x y : Plain) → Gathers opening past x.counter x.batches → Gathers opening past y.counter y.batches
    → Gathers opening past (cond b x y).counter (cond b x y).batches
gathers-cond opening past true x y g h = g
gathers-cond opening past false x y g h = h

-- what is done to the batches by a request that stages nothing
gathers-done : (opening : Plain) (past : List Turn) (account : Plain) (request : Request) → asks_to_stage request ≡ false
    → Gathers opening past account.counter account.batches → Gathers opening past (effect account request).counter (effect account request).batches
gathers-done opening past account (Info what cond) e g = g
gathers-done opening past account (DeleteAll cond) e g = gathers-nil opening past account.counter account.batches g
gathers-done opening past account (ListOf collection query cond) e g = g
gathers-done opening past account (Post collection records PlainPost cond) e g = g
gathers-done opening past account (Post collection records Begin cond) e g = cc
gathers-done opening past account (Post collection records (Append number) cond) e g = cc
gathers-done opening past account (Post collection records (Commit number) cond) e g = gathers-filter opening past account.counter (λ batch. not (batch.number == number)) account.batches g
gathers-done opening past account (DeleteCollection collection cond) e g = gathers-filter opening past account.counter (λ batch. not (bytes_eq batch.collection collection)) account.batches g
gathers-done opening past account (DeleteIds collection ids cond) e g =
    gathers-cond opening past (is_some (time_of collection account.collections)) (account_after_write account collection (stamp_in account) (rows_without collection ids account.rows)) account g g
gathers-done opening past account (Get collection id cond) e g = g
gathers-done opening past account (Put collection id fields cond) e g = g
gathers-done opening past account (Delete collection id cond) e g = g

gathers-silent : (opening : Plain) (past : List Turn) (now : ℕ) (account : Plain) (request : Request) → asks_to_stage request ≡ false
    → Gathers opening past account.counter account.batches
    → Gathers opening (past ++ turn_of now request (done_outcome account request).reply ∷ []) (effect account request).counter (effect account request).batches
gathers-silent opening past now account request e g =
    gathers-quiet opening past (turn_of now request (done_outcome account request).reply) (effect account request).counter (effect account request).batches
    (λ n. staged_by-unnamed n now request (done_outcome account request).reply (named-done account request (time_told account request) e))
    (gathers-done opening past account request e g)

-- a turn keeps that each batch has what was gathered for it
pub gathers-turned : (opening : Plain) (past : List Turn) (now : ℕ) (account : Plain) (request : Request) (why : Option Refusal) → refusal account request ≡ why
    → Gathers opening past account.counter account.batches
    → Gathers opening (past ++ turn_of now request (outcome account request why).reply ∷ []) (outcome account request why).account.counter (outcome account request why).account.batches
gathers-turned opening past now account request (Some why) e g =
    gathers-quiet opening past (turn_of now request (outcome account request (Some why)).reply) account.counter account.batches
    (λ n. staged_by-unnamed n now request (outcome account request (Some why)).reply (named-refused why)) g
gathers-turned opening past now account (Post collection records Begin cond) None e g =
    gathers-begin opening past (turn_of now (Post collection records Begin cond) (outcome account (Post collection records Begin cond) None).reply) account.counter account.batches
    (record { number = account.counter + 1; collection = collection; begun = account.moment; parts = records.parts }) refl (λ n. refl) g
gathers-turned opening past now account (Post collection records (Append number) cond) None e g =
    let known = found opening past account collection number (passes account (Post collection records (Append number) cond) e).batch g in
    gathers-append opening past (turn_of now (Post collection records (Append number) cond) (outcome account (Post collection records (Append number) cond) None).reply) account.counter account.batches
    number records.parts known.counted (λ n. refl) g
gathers-turned opening past now account (Post collection records PlainPost cond) None e g = gathers-silent opening past now account (Post collection records PlainPost cond) refl g
gathers-turned opening past now account (Post collection records (Commit number) cond) None e g = gathers-silent opening past now account (Post collection records (Commit number) cond) refl g
gathers-turned opening past now account (Info what cond) None e g = gathers-silent opening past now account (Info what cond) refl g
gathers-turned opening past now account (DeleteAll cond) None e g = gathers-silent opening past now account (DeleteAll cond) refl g
gathers-turned opening past now account (ListOf collection query cond) None e g = gathers-silent opening past now account (ListOf collection query cond) refl g
gathers-turned opening past now account (DeleteCollection collection cond) None e g = gathers-silent opening past now account (DeleteCollection collection cond) refl g
gathers-turned opening past now account (DeleteIds collection ids cond) None e g = gathers-silent opening past now account (DeleteIds collection ids cond) refl g
gathers-turned opening past now account (Get collection id cond) None e g = gathers-silent opening past now account (Get collection id cond) refl g
gathers-turned opening past now account (Put collection id fields cond) None e g = gathers-silent opening past now account (Put collection id fields cond) refl g
gathers-turned opening past now account (Delete collection id cond) None e g = gathers-silent opening past now account (Delete collection id cond) refl g
