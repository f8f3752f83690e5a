-- An account with its keeper stays steady, and serves a sync client.
use Rattle.std.specs.Prelude.{◌≡◌, ℕ, ◌≤◌, Bool, true, false, ◌&&◌, ◌||◌, List, [], ◌∷◌, ◌++◌, Option, Some, None}
use Rattle.std.specs.Prelude.{option_map, is_none, refl}
use Rattle.std.proofs.Common.{sym, ap, subst, ◌∙◌, inr, arith}
use Rattle.std.proofs.lemmas.Bool.{false≢true}
use Rattle.ss_bso.specs.declared.parts.Part.{Part}
use Rattle.ss_bso.specs.declared.account.Plain.{Plain}
use Rattle.ss_bso.specs.declared.account.Staged.{Staged}
use Rattle.ss_bso.specs.declared.changes.Kept.{Kept}
use Rattle.ss_bso.specs.Account.{tick, is_open}
use Rattle.ss_bso.specs.Batches.{batch_in}
use Rattle.ss_bso.specs.Changes.{account_at_opening, plain_of}
use Rattle.ss_bso.specs.Lists.{Each, Pairs}
use Rattle.ss_bso.specs.Validity.{IsValid, SameAccount}
use Rattle.ss_bso.proofs.Lists.{Each-imp, Each-from_All, Pairs-from_AllPairs}
use Rattle.ss_bso.proofs.Reordering.{reordered-sym, Pairs-reordered, same-back}
use Rattle.ss_text.specs.Time.{after as clock}
use Rattle.ss_query.specs.declared.requests.Request.{Request}
use Rattle.ss_query.specs.Refused.{Refusal, collection_time}
use Rattle.ss_bso.specs.Limits.{rows_of}
use Rattle.ss_query.specs.Answer.{answer}
use Rattle.ss_query.specs.Effect.{is_write}
use Rattle.ss_route.specs.Sending.{page}
use Rattle.ss_query.specs.Api.{api, outcome, refusal}
use Rattle.ss_query.proofs.Orders.{NamedApart}
use Rattle.ss_laws.specs.Laws.{is_of_batch}
use Rattle.ss_laws.proofs.Stamps.{quiet_law}
use Rattle.ss_laws.proofs.Commit.{passes}
use Rattle.ss_account.specs.Keeping.{IsWhole, is_for_keeper}
use Rattle.ss_account.specs.Opening.{IsGood as MayOpen}
use Rattle.ss_account.proofs.Opened.{numbers-good, given-good}
use Rattle.ss_plan.specs.Written.{AreRowsAfter}
use Rattle.ss_hearing.specs.declared.answer.Answer.{Answer}
use Rattle.ss_hearing.specs.declared.answer.Answer.TheVariants.{Configured, Paged, Listed, Held, Written, Changed}
use Rattle.ss_hearing.specs.declared.answer.Answer.TheVariants.{Refused}
use Rattle.ss_serving.specs.Bookmarks.{bookmarks, sheets_of, ShownAccount, shown_account, Server, shown_by}
use Rattle.ss_serving.specs.Asking.{Ask, Configure, FirstPage, NextPage, ListIds, PostAll, PostFirst, PostNext}
use Rattle.ss_serving.specs.Asking.{PostLast, IsAskable, request_of, awaited_of, told_by, touches}
use Rattle.ss_serving.proofs.Good.{good_from}
use Rattle.ss_serving.specs.Good.{Lasts, OtherNumber, IsGoodBatch, IsGood, IsSteady}
use Rattle.ss_serving.specs.Serving.{IsQuiet, Ages, Writes, Serves}
use Rattle.ss_serving.specs.Steps.{Answers, Ticks, Reopens}
use Rattle.ss_serving.proofs.Batches.{parts_in, found_before}
use Rattle.ss_serving.proofs.Seen.{sheets-apart}
use Rattle.ss_serving.proofs.Pages.{unmodified, page_is, offset_is, ids_are}
use Rattle.ss_serving.proofs.Putting.{nothing_written}
use Rattle.ss_serving.proofs.Ticking.{ages_same, rows_ticked, ticks_quiet, ticks_ages, good_ticked, staged_before}
use Rattle.ss_serving.proofs.Posting.{never_awaited, quiet-told, page-told, turn}
use Rattle.ss_serving.proofs.Others.{turn_calm}
use Rattle.ss_serving.proofs.Same.{sheets-reordered, batch-reordered, other_turned, time-reordered, good-same}
use Rattle.ss_text.proofs.Basics.{bytes_eq-flip}

named_turned : (entry other : List ℕ × ℕ) → NamedApart entry other → NamedApart other entry
named_turned entry other e = bytes_eq-flip other.0 entry.0 e

-- names and places that stand apart in a valid account stand apart in one that is the same
names-back : (account other : Plain) → IsValid other → SameAccount account other → Pairs NamedApart account.collections
names-back account other v s = Pairs-reordered NamedApart named_turned (reordered-sym s.collections) (Pairs-from_AllPairs NamedApart other.collections v.names)

-- both show the same, the batches apart
pub record ShowAlike (one other : ShownAccount) : Type 0 where
  pub rows : one.rows ≡ other.rows
  pub store : one.store ≡ other.store
  pub target : one.target ≡ other.target
  pub counter : one.counter ≡ other.counter
  pub staged : (n : ℕ) → one.staged n ≡ other.staged n

pub alike : (one other : ShownAccount) → ShowAlike one other → one ≡ other
alike one other e = λ i. record { rows = e.rows i; store = e.store i; target = e.target i; counter = e.counter i; staged = λ n. e.staged n i }

quiet-self : (a : ShownAccount) → IsQuiet a a
quiet-self a = record { rows = refl; target = omega arith; counter = omega arith; staged = λ n parts e. e }

-- ---- after the keeper was asked

-- the server shows what the account by itself does
whole-shown : {first : ℕ} (account : Plain) (server : Server) → IsGood first account → IsValid server.account → SameAccount account server.account → IsWhole server.kept server.account → ShowAlike (shown_by server) (shown_account account)
whole-shown account server g v s w = record {
  rows = sym (sheets-reordered account.rows server.account.rows s.rows g.places);
  store = sym s.store;
  target = sym (time-reordered account server.account (names-back account server.account v s) s);
  counter = sym s.counter;
  staged = λ n. ap (option_map parts_in) (sym (
      batch-reordered n account.batches server.account.batches s.batches g.numbers
      ∙ batch-reordered n server.account.batches server.kept.batches w.batches (Pairs-reordered OtherNumber other_turned s.batches g.numbers)));
}

-- what is kept is the account, but for its moment
whole-same : (server : Server) → IsWhole server.kept server.account → SameAccount (record server.account { moment = (plain_of server.kept).moment }) (plain_of server.kept)
whole-same server w = record { rows = w.rows; collections = w.collections; batches = w.batches; store = w.store; last_delete = w.last_delete; moment = refl; counter = w.counter }

whole-steady : {first : ℕ} (server : Server) → IsValid server.account → IsGood first server.account → IsWhole server.kept server.account → IsSteady first server
whole-steady {first} server v g w =
    let account : Plain = record server.account { moment = (plain_of server.kept).moment } in
    let names : Pairs NamedApart server.account.collections = Pairs-from_AllPairs NamedApart server.account.collections v.names in
    let plain : IsGood first (plain_of server.kept) = good-same (record server.account { moment = (plain_of server.kept).moment }) (plain_of server.kept) names (whole-same server w)
    (record { places = g.places; number = g.number; lasting = g.lasting; below = g.below; since = g.since; numbers = g.numbers; batches = g.batches }) in
    record {
      valid = v;
      good = g;
      opens = good_ticked (plain_of server.kept) plain 0;
      rows = rows_ticked (plain_of server.kept) plain 0 ∙ sym (sheets-reordered server.account.rows server.kept.rows w.rows g.places);
      time = sym (time-reordered (record server.account { moment = (plain_of server.kept).moment }) (plain_of server.kept) names (whole-same server w));
      store = sym w.store;
      counter = sym w.counter;
      numbers = plain.numbers;
      batches = plain.batches;
      live = λ n batch e. sym (batch-reordered n server.account.batches server.kept.batches w.batches g.numbers) ∙ e;
    }

-- ---- a server that is steady

module _ {first : ℕ} (before : Server) (h : IsSteady first before) where
  more : (n : ℕ) (ps : List Part) → (shown_account before.account).staged n ≡ Some ps → (shown_by before).staged n ≡ Some ps
  more n ps e = staged_before (batch_in bookmarks n before.account.batches) (batch_in bookmarks n before.kept.batches) (λ batch k. h.live n batch k) ps e

  quiet-more : (b : ShownAccount) → IsQuiet (shown_account before.account) b → IsQuiet (shown_by before) b
  quiet-more b q = record { rows = q.rows; target = q.target; counter = q.counter; staged = λ n ps e. more n ps (q.staged n ps e) }

  ages-more : (b : ShownAccount) → Ages (shown_account before.account) b → Ages (shown_by before) b
  ages-more b g = record { store = g.store; rows = g.rows }

  writes-more : (parts : List Part) (b : ShownAccount) (stamp : ℕ) → Writes parts (shown_account before.account) b stamp → Writes parts (shown_by before) b stamp
  writes-more parts b stamp w = record {
    rows = w.rows;
    same = w.same;
    later = record { target = w.later.target; rows = w.later.rows; counter = w.later.counter };
    staged = λ n ps e. more n ps (w.staged n ps e);
  }

  -- what the account by itself answers, it answers with its keeper
  serves-more : (ask : Ask) (b : ShownAccount) (answer : Answer) → Serves (shown_account before.account) ask b answer → Serves (shown_by before) ask b answer
  serves-more ask b (Refused status) s = quiet-more b s
  serves-more ask b (Changed time) s = quiet-more b s
  serves-more Configure b (Configured limits) s = (quiet-more b s.0, s.1)
  serves-more (FirstPage since) b (Paged rows next time) s = (quiet-more b s.0, s.1, s.2)
  serves-more (NextPage since condition offset) b (Paged rows next time) s = (quiet-more b s.0, s.1, s.2)
  serves-more (ListIds condition) b (Listed ids) s = (quiet-more b s.0, s.1, s.2)
  serves-more (PostFirst condition parts) b (Held batch) s = (
    s.0,
    record { rows = s.1.rows; target = s.1.target; number = s.1.number; counter = s.1.counter; begun = s.1.begun; others = λ n ps le e. more n ps (s.1.others n ps le e) },
  )
  serves-more (PostNext condition batch parts) b (Held n) s = (
    s.0,
    record {
      rows = s.1.rows;
      target = s.1.target;
      counter = s.1.counter;
      before = s.1.before;
      was = more batch s.1.before s.1.was;
      grown = s.1.grown;
      others = λ k ps differ e. more k ps (s.1.others k ps differ e);
    },
  )
  serves-more (PostAll condition parts) b (Written stamp) s = (s.0, writes-more parts b stamp s.1)
  serves-more (PostLast condition batch parts) b (Written stamp) s = (s.0, record { before = s.1.before; was = more batch s.1.before s.1.was; wrote = writes-more (s.1.before ++ parts) b stamp s.1.wrote })
  serves-more ask b answer s = absurd s

  module _ (now : ℕ) where
    abbrev t : Plain
    t = tick before.account now

    ticked : IsGood first (tick before.account now)
    ticked = good_ticked before.account h.good now

    -- the clock has moved, and the keeper tells what it told
    abbrev still : Server
    still = record { account = tick before.account now; kept = before.kept }

    still-quiet : IsQuiet (shown_by before) (shown_by still)
    still-quiet = let q = ticks_quiet before.account h.good now in record { rows = q.rows; target = q.target; counter = q.counter; staged = λ n ps e. e }

    still-ages : Ages (shown_by before) (shown_by still)
    still-ages = let g = ticks_ages before.account h.good now in record { store = g.store; rows = g.rows }

    -- any order of the account's lists shows the same
    still-shown : (after : Server) → IsValid after.account → SameAccount (tick before.account now) after.account → after.kept ≡ before.kept → ShowAlike (shown_by after) (shown_by still)
    still-shown after v s k = record {
      rows = sym (sheets-reordered (tick before.account now).rows after.account.rows s.rows ticked.places);
      store = sym s.store;
      target = sym (time-reordered (tick before.account now) after.account (names-back (tick before.account now) after.account v s) s);
      counter = sym s.counter;
      staged = λ n. ap (λ (kept : Kept). option_map parts_in (batch_in bookmarks n kept.batches)) k;
    }

    still-steady : (after : Server) → IsValid after.account → SameAccount (tick before.account now) after.account → after.kept ≡ before.kept → IsSteady first after
    still-steady after v s k =
        let g : IsGood first after.account = good-same (tick before.account now) after.account (names-back (tick before.account now) after.account v s) s ticked in
        let shows = still-shown after v s k in
        record {
          valid = v;
          good = g;
          opens = subst (λ (kept : Kept). IsGood first (account_at_opening kept)) (sym k) h.opens;
          rows = ap (λ (kept : Kept). sheets_of (account_at_opening kept).rows) k ∙ (h.rows ∙ (sym (rows_ticked before.account h.good now) ∙ sym shows.rows));
          time = ap (λ (kept : Kept). collection_time (account_at_opening kept) bookmarks) k ∙ (h.time ∙ sym shows.target);
          store = ap (λ (kept : Kept). kept.store) k ∙ (h.store ∙ sym shows.store);
          counter = ap (λ (kept : Kept). kept.counter) k ∙ (h.counter ∙ sym shows.counter);
          numbers = subst (λ (kept : Kept). Pairs OtherNumber kept.batches) (sym k) h.numbers;
          batches = subst (λ (kept : Kept). Each (IsGoodBatch first kept.counter) kept.batches) (sym k) h.batches;
          live = λ n batch e.
              let was : batch_in bookmarks n (tick before.account now).batches ≡ Some batch = batch-reordered n (tick before.account now).batches after.account.batches s.batches ticked.numbers ∙ e in
              ap (λ (kept : Kept). batch_in bookmarks n kept.batches) k
              ∙ h.live n batch (found_before bookmarks n (is_open (clock before.account.moment now)) before.account.batches h.good.numbers batch was);
        }

    pub ticks-steady : (after : Server) → Ticks before now after → IsSteady first after × IsQuiet (shown_by before) (shown_by after) × Ages (shown_by before) (shown_by after)
    ticks-steady after s =
        let e : shown_by after ≡ shown_by still = alike (shown_by after) (shown_by still) (still-shown after s.valid s.account s.left) in (
          still-steady after s.valid s.account s.left,
          subst (IsQuiet (shown_by before)) (sym e) still-quiet,
          subst (Ages (shown_by before)) (sym e) still-ages,
        )

    -- ---- a request

    -- one that doesn't ask the keeper leaves what the clock leaves
    unasked : (request : Request) (why : Option Refusal) → refusal (tick before.account now) request ≡ why → ((is_write (tick before.account now) request || is_of_batch request) && is_none why) ≡ false
        → (outcome (tick before.account now) request why).account ≡ tick before.account now
    unasked request (Some why) e f = refl
    unasked request None e f =
        subst (λ why. (outcome (tick before.account now) request why).account ≡ tick before.account now) e
        ((quiet_law before.account now request (left (is_write (tick before.account now) request) (is_of_batch request) f)).outside (right (is_write (tick before.account now) request) (is_of_batch request) f))
      where
        left : (x y : Bool) → ((x || y) && true) ≡ false → x ≡ false
        left true y k = cc
        left false y k = refl

        right : (x y : Bool) → ((x || y) && true) ≡ false → y ≡ false
        right true y k = cc
        right false true k = cc
        right false false k = refl

    -- a commit asks the keeper
    asked-anyway : (writes : Bool) → ((writes || true) && true) ≡ false → ⊥
    asked-anyway true e = cc
    asked-anyway false e = cc

    -- what is answered where the keeper isn't asked
    quietly : (ask : Ask) (why : Option Refusal) → refusal (tick before.account now) (request_of ask) ≡ why → ((is_write (tick before.account now) (request_of ask) || is_of_batch (request_of ask)) && is_none why) ≡ false
        → Serves (shown_by before) ask (shown_by still) (told_by (awaited_of ask) (outcome (tick before.account now) (request_of ask) why).reply)
    unfolding told_by
    quietly ask (Some why) e f = quiet-told (shown_by before) (shown_by still) still-quiet ask (outcome (tick before.account now) (request_of ask) (Some why)).reply (never_awaited (awaited_of ask) why)
    quietly Configure None e f = (still-quiet, refl)
    quietly (FirstPage since) None e f =
        page-told (shown_by before) (shown_by still) (FirstPage since) (answer (rows_of bookmarks (tick before.account now).rows) (page since 0)).next (answer (rows_of bookmarks (tick before.account now).rows) (page since 0)).rows
        (collection_time (tick before.account now) bookmarks) (offset_is (tick before.account now).rows ticked.number since 0) (still-quiet, refl, page_is (tick before.account now).rows since 0)
    quietly (NextPage since condition offset) None e f =
        page-told (shown_by before) (shown_by still) (NextPage since condition offset) (answer (rows_of bookmarks (tick before.account now).rows) (page since offset)).next (answer (rows_of bookmarks (tick before.account now).rows) (page since offset)).rows
        (collection_time (tick before.account now) bookmarks) (offset_is (tick before.account now).rows ticked.number since offset)
        (still-quiet, unmodified condition (collection_time (tick before.account now) bookmarks) (passes (tick before.account now) (request_of (NextPage since condition offset)) e).condition, page_is (tick before.account now).rows since offset)
    quietly (ListIds condition) None e f =
        (still-quiet, unmodified condition (collection_time (tick before.account now) bookmarks) (passes (tick before.account now) (request_of (ListIds condition)) e).condition, ids_are (tick before.account now).rows)
    quietly (PostAll condition []) None e f = (
      unmodified condition (collection_time (tick before.account now) bookmarks) (passes (tick before.account now) (request_of (PostAll condition [])) e).condition,
      record {
        rows = subst (λ rows. AreRowsAfter rows [] (collection_time (tick before.account now) bookmarks) (sheets_of (tick before.account now).rows)) (rows_ticked before.account h.good now)
            (nothing_written (sheets_of (tick before.account now).rows) (collection_time (tick before.account now) bookmarks) (sheets-apart (tick before.account now).rows ticked.places));
        same = refl;
        later = record { target = still-quiet.target; rows = inr still-quiet.rows; counter = still-quiet.counter };
        staged = λ n ps k. k;
      },
    )
    quietly (PostAll condition (part ∷ parts)) None e f = absurd (false≢true (sym f))
    quietly (PostFirst condition parts) None e f = absurd (false≢true (sym f))
    quietly (PostNext condition batch parts) None e f = absurd (false≢true (sym f))
    quietly (PostLast condition batch parts) None e f = absurd (asked-anyway (is_write (tick before.account now) (request_of (PostLast condition batch parts))) f)

    pub answers-steady : (ask : Ask) (after : Server) → IsAskable first ask → Answers before now (request_of ask) after
        → IsSteady first after × Serves (shown_by before) ask (shown_by after) (told_by (awaited_of ask) (api before.account now (request_of ask)).reply) × Ages (shown_by before) (shown_by after)
    answers-steady ask after ok s = go (is_for_keeper (tick before.account now) (request_of ask)) refl
      where
        o : Plain
        o = (api before.account now (request_of ask)).account

        go : (b : Bool) → is_for_keeper (tick before.account now) (request_of ask) ≡ b
            → IsSteady first after × Serves (shown_by before) ask (shown_by after) (told_by (awaited_of ask) (api before.account now (request_of ask)).reply) × Ages (shown_by before) (shown_by after)
        go true b =
            let w = turn before.account (tick before.account now) (ticks_quiet before.account h.good now) (ticks_ages before.account h.good now) ticked ask ok in
            let g : IsGood first after.account = good-same (api before.account now (request_of ask)).account after.account (names-back (api before.account now (request_of ask)).account after.account s.valid s.account) s.account w.0 in
            let e : shown_by after ≡ shown_account (api before.account now (request_of ask)).account =
            alike (shown_by after) (shown_account (api before.account now (request_of ask)).account) (whole-shown (api before.account now (request_of ask)).account after w.0 s.valid s.account (s.kept b)) in (
              whole-steady after s.valid g (s.kept b),
              subst (λ x. Serves (shown_by before) ask x (told_by (awaited_of ask) (api before.account now (request_of ask)).reply)) (sym e)
                  (serves-more ask (shown_account (api before.account now (request_of ask)).account) (told_by (awaited_of ask) (api before.account now (request_of ask)).reply) w.1),
              subst (Ages (shown_by before)) (sym e) (ages-more (shown_account (api before.account now (request_of ask)).account) w.2),
            )
        go false b =
            let same : (api before.account now (request_of ask)).account ≡ tick before.account now = unasked (request_of ask) (refusal (tick before.account now) (request_of ask)) refl b in
            let one : SameAccount (tick before.account now) after.account = subst (λ account. SameAccount account after.account) same s.account in
            let e : shown_by after ≡ shown_by still = alike (shown_by after) (shown_by still) (still-shown after s.valid one (s.left b)) in (
              still-steady after s.valid one (s.left b),
              subst (λ x. Serves (shown_by before) ask x (told_by (awaited_of ask) (api before.account now (request_of ask)).reply)) (sym e) (quietly ask (refusal (tick before.account now) (request_of ask)) refl b),
              subst (Ages (shown_by before)) (sym e) still-ages,
            )

    pub others-steady : (request : Request) (after : Server) → touches request ≡ false → Answers before now request after
        → IsSteady first after × IsQuiet (shown_by before) (shown_by after) × Ages (shown_by before) (shown_by after)
    others-steady request after ok s = go (is_for_keeper (tick before.account now) request) refl
      where
        go : (b : Bool) → is_for_keeper (tick before.account now) request ≡ b → IsSteady first after × IsQuiet (shown_by before) (shown_by after) × Ages (shown_by before) (shown_by after)
        go true b =
            let w = turn_calm before.account (tick before.account now) (ticks_quiet before.account h.good now) (ticks_ages before.account h.good now) ticked request ok in
            let g : IsGood first after.account = good-same (api before.account now request).account after.account (names-back (api before.account now request).account after.account s.valid s.account) s.account w.0 in
            let e : shown_by after ≡ shown_account (api before.account now request).account =
            alike (shown_by after) (shown_account (api before.account now request).account) (whole-shown (api before.account now request).account after w.0 s.valid s.account (s.kept b)) in (
              whole-steady after s.valid g (s.kept b),
              subst (IsQuiet (shown_by before)) (sym e) (quiet-more (shown_account (api before.account now request).account) w.1),
              subst (Ages (shown_by before)) (sym e) (ages-more (shown_account (api before.account now request).account) w.2),
            )
        go false b =
            let same : (api before.account now request).account ≡ tick before.account now = unasked request (refusal (tick before.account now) request) refl b in
            let one : SameAccount (tick before.account now) after.account = subst (λ account. SameAccount account after.account) same s.account in
            ticks-steady after (record { account = one; valid = s.valid; left = s.left b })

  -- ---- opened anew

  pub reopens-steady : (after : Server) → Reopens before after → IsSteady first after × IsQuiet (shown_by before) (shown_by after) × Ages (shown_by before) (shown_by after)
  reopens-steady after s =
      let names = names-back (account_at_opening before.kept) after.account s.valid s.account in
      let g : IsGood first after.account = good-same (account_at_opening before.kept) after.account names s.account h.opens in
      let same : sheets_of after.account.rows ≡ sheets_of (account_at_opening before.kept).rows = sym (sheets-reordered (account_at_opening before.kept).rows after.account.rows s.account.rows h.opens.places) in
      let at : collection_time after.account bookmarks ≡ collection_time (account_at_opening before.kept) bookmarks = sym (time-reordered (account_at_opening before.kept) after.account names s.account) in
      let steady : IsSteady first after = record {
        valid = s.valid;
        good = g;
        opens = subst (λ (kept : Kept). IsGood first (account_at_opening kept)) (sym s.left) h.opens;
        rows = ap (λ (kept : Kept). sheets_of (account_at_opening kept).rows) s.left ∙ sym same;
        time = ap (λ (kept : Kept). collection_time (account_at_opening kept) bookmarks) s.left ∙ sym at;
        store = ap (λ (kept : Kept). kept.store) s.left ∙ s.account.store;
        counter = ap (λ (kept : Kept). kept.counter) s.left ∙ s.account.counter;
        numbers = subst (λ (kept : Kept). Pairs OtherNumber kept.batches) (sym s.left) h.numbers;
        batches = subst (λ (kept : Kept). Each (IsGoodBatch first kept.counter) kept.batches) (sym s.left) h.batches;
        live = λ n batch e.
            let was : batch_in bookmarks n (account_at_opening before.kept).batches ≡ Some batch = batch-reordered n (account_at_opening before.kept).batches after.account.batches s.account.batches h.opens.numbers ∙ e in
            ap (λ (kept : Kept). batch_in bookmarks n kept.batches) s.left
            ∙ found_before bookmarks n (is_open (clock (plain_of before.kept).moment 0)) before.kept.batches h.numbers batch was;
      } in
      let e : shown_by after ≡ shown_by before = alike (shown_by after) (shown_by before) (record {
        rows = same ∙ h.rows;
        store = sym s.account.store ∙ h.store;
        target = at ∙ h.time;
        counter = sym s.account.counter ∙ h.counter;
        staged = λ n. ap (λ (kept : Kept). option_map parts_in (batch_in bookmarks n kept.batches)) s.left;
      }) in
      (steady, subst (IsQuiet (shown_by before)) (sym e) (quiet-self (shown_by before)), ages_same (shown_by before) (shown_by after) (ap (λ (x : ShownAccount). x.rows) e) (subst (λ x. before.account.store ≤ x) (sym (ap (λ (x : ShownAccount). x.store) e)) (omega arith)))

-- ---- an opening

-- a valid account over a keeper, opened from what it tells, is steady where no bookmark ends and the collection's time isn't above the store's
pub opens-steady : (server : Server) → IsValid server.account → SameAccount (account_at_opening server.kept) server.account → MayOpen server.kept → Each Lasts server.account.rows → collection_time server.account bookmarks ≤ server.account.store → IsSteady server.account.counter server
opens-steady server v s k lasting below =
    let g : IsGood server.account.counter server.account = good_from server.account v lasting below in
    let back : SameAccount server.account (account_at_opening server.kept) = same-back (account_at_opening server.kept) server.account s in
    let names : Pairs NamedApart server.account.collections = Pairs-from_AllPairs NamedApart server.account.collections v.names in
    record {
      valid = v;
      good = g;
      opens = good-same server.account (account_at_opening server.kept) names back g;
      rows = sym (sheets-reordered server.account.rows (account_at_opening server.kept).rows back.rows g.places);
      time = sym (time-reordered server.account (account_at_opening server.kept) names back);
      store = s.store;
      counter = s.counter;
      numbers = Pairs-from_AllPairs OtherNumber server.kept.batches (numbers-good server.kept k);
      batches = Each-imp (λ (batch : Staged). (1 ≤ batch.number) × (batch.number ≤ server.kept.counter)) (IsGoodBatch server.account.counter server.kept.counter)
          (λ batch given. record { counted = given.1; plain = λ late. let le : batch.number ≤ server.kept.counter = given.1 in let same : server.kept.counter ≡ server.account.counter = s.counter in absurd (omega arith) }) server.kept.batches
          (Each-from_All (λ (batch : Staged). (1 ≤ batch.number) × (batch.number ≤ server.kept.counter)) server.kept.batches (given-good server.kept k));
      live = λ n batch e.
          let was : batch_in bookmarks n (account_at_opening server.kept).batches ≡ Some batch = batch-reordered n (account_at_opening server.kept).batches server.account.batches s.batches (Pairs-reordered OtherNumber other_turned back.batches g.numbers) ∙ e in
          found_before bookmarks n (is_open (clock (plain_of server.kept).moment 0)) server.kept.batches (Pairs-from_AllPairs OtherNumber server.kept.batches (numbers-good server.kept k)) batch was;
    }
