-- What an account answers to a sync client.
use Rattle.std.specs.Prelude.{◌≡◌, ℕ, ◌+◌, ◌<◌, ◌≤◌, Bool, true, false, not, ◌&&◌, ◌==◌, cond, List, [], ◌∷◌, ◌++◌}
use Rattle.std.specs.Prelude.{length, map, Option, Some, None, option_map, is_none, unwrap_or, bytes_eq, refl}
use Rattle.std.specs.Option.{option_map_or}
use Rattle.std.proofs.Common.{sym, ap, subst, ◌∙◌, inl, inr, arith}
use Rattle.ss_bso.specs.declared.parts.Part.{Part}
use Rattle.ss_bso.specs.declared.account.Plain.{Plain}
use Rattle.ss_bso.specs.declared.account.Staged.{Staged}
use Rattle.ss_bso.specs.Batches.{batch_in, batches_without, grown}
use Rattle.ss_bso.specs.declared.rows.Row.{Row}
use Rattle.ss_bso.specs.Limits.{rows_of, most_rows_and_collections}
use Rattle.ss_bso.specs.Lists.{Each, Pairs}
use Rattle.ss_bso.specs.Validity.{IsWithinLimits}
use Rattle.ss_bso.specs.Write.{rows_written}
use Rattle.ss_bso.proofs.Full.{within-number}
use Rattle.ss_bso.proofs.Lists.{Each-imp, Each-map, Each-append, Each-filter, Each-find, Each-from_All, Pairs-append}
use Rattle.ss_bso.proofs.Lists.{Pairs-filter, Pairs-map, find-skip, find-last_not}
use Rattle.ss_query.specs.declared.replies.Reply.{Reply}
use Rattle.ss_query.specs.Refused.{status_of, Refusal, NoItem, NotModified, WasModified, NoMoreBatches, NoBatch}
use Rattle.ss_query.specs.Refused.{BatchFull, ClockEnded, AccountFull, collection_time, staged_parts}
use Rattle.ss_query.specs.Effect.{effect, is_empty, write_some, stamp_in}
use Rattle.ss_query.specs.Api.{Outcome, refused_outcome, done_outcome, outcome, refusal}
use Rattle.ss_laws.proofs.Times.{time_of-with_same}
use Rattle.ss_laws.proofs.Written.{places-written}
use Rattle.ss_laws.proofs.Commit.{Passes, passes}
use Rattle.ss_laws.proofs.CommitLaw.{over_from}
use Rattle.ss_query.specs.Answer.{answer}
use Rattle.ss_route.specs.Sending.{IsUpload, page}
use Rattle.ss_plan.specs.Written.{AreRowsAfter, sheet}
use Rattle.ss_hearing.specs.declared.answer.Awaited.{Awaited}
use Rattle.ss_hearing.specs.declared.answer.Awaited.TheVariants as awaits
use Rattle.ss_hearing.specs.declared.answer.Answer.TheVariants.{Paged, Changed, Refused, Unread}
use Rattle.ss_hearing.specs.Hearing.{status_of as awaited_status, is_conditional}
use Rattle.ss_serving.specs.Bookmarks.{bookmarks, sheet_of, sheets_of, ShownAccount, shown_account}
use Rattle.ss_serving.specs.Asking.{Ask, Configure, FirstPage, NextPage, ListIds, PostAll, PostFirst, PostNext}
use Rattle.ss_serving.specs.Asking.{PostLast, IsAskable, request_of, awaited_of, is_offset, page_told, said_by, told_by}
use Rattle.ss_serving.specs.Good.{PutsPayloads, OtherNumber, IsGoodBatch, IsGood}
use Rattle.ss_serving.specs.Serving.{IsQuiet, Writes, Begins, Appends, Ages, Serves}
use Rattle.ss_serving.proofs.Batches.{parts_in, is_it, found_before, found_number, found_collection, found_grown}
use Rattle.ss_serving.proofs.Batches.{collection_grown, grown_it, grown_not}
use Rattle.ss_serving.proofs.Ticking.{staged_before, ages_same}
use Rattle.ss_serving.proofs.Pages.{unmodified, page_is, offset_is, ids_are}
use Rattle.ss_serving.proofs.Seen.{sheets-apart}
use Rattle.ss_serving.proofs.Putting.{written, nothing_written, after-aged, lasting-written}
use Rattle.ss_text.proofs.Basics.{some_same}
use Rattle.ss_laws.proofs.Valid.{number-grown}
use Rattle.std.proofs.lemmas.Bool.{eqb-true, ne_eqb, eq-eqb}

-- a written account has room
pub room_in : (account : Plain) → IsWithinLimits account → length account.rows ≤ most_rows_and_collections
room_in account within = omega (arith, within-number account.rows (length account.collections) within.within)

-- a batch with more parts stays good
pub good_grown : {first : ℕ} (counter number : ℕ) (parts : List Part) (batch : Staged) → (bytes_eq batch.collection bookmarks ≡ true → batch.number ≡ number → Each IsUpload parts) → IsGoodBatch first counter batch → IsGoodBatch first counter (grown number parts batch)
good_grown {first} counter number parts batch more h = record {
  counted = subst (λ n. n ≤ counter) (sym (number-grown number parts batch)) h.counted;
  plain = λ late here.
      let old : first < batch.number = subst (λ n. first < n) (number-grown number parts batch) late in
      let was : bytes_eq batch.collection bookmarks ≡ true = ap (λ name. bytes_eq name bookmarks) (sym (collection_grown number parts batch)) ∙ here in
      elim (batch.number == number) as (λ v. (batch.number == number) ≡ v → let left : Staged = cond v (record batch { parts = batch.parts ++ parts }) batch in Each IsUpload left.parts) [
        | true ↦ (λ t. Each-append IsUpload batch.parts parts (h.plain old was) (more was (is t)))
        | false ↦ (λ t. h.plain old was)
      ] refl;
}
  where
    is : (batch.number == number) ≡ true → batch.number ≡ number
    is t = eqb-true batch.number number t

pub numbers_grown : (number : ℕ) (parts : List Part) (batches : List Staged) → Pairs OtherNumber batches → Pairs OtherNumber (map (grown number parts) batches)
numbers_grown number parts batches p =
    Pairs-map OtherNumber OtherNumber (grown number parts) (λ batch other differ equal. differ (sym (number-grown number parts batch) ∙ equal ∙ number-grown number parts other)) batches p

-- one more batch
pub numbers_more : (first counter : ℕ) (new : Staged) (batches : List Staged) → new.number ≡ counter + 1 → Pairs OtherNumber batches → Each (IsGoodBatch first counter) batches → Pairs OtherNumber (batches ++ new ∷ [])
numbers_more first counter new batches is p each =
    Pairs-append OtherNumber batches (new ∷ []) p (tt, tt)
    (Each-imp (IsGoodBatch first counter) (λ (batch : Staged). Each (OtherNumber batch) (new ∷ [])) (λ batch h. ((λ e. let le : batch.number ≤ counter = h.counted in absurd (omega arith)), tt)) batches each)

pub batches_more : (first counter : ℕ) (new : Staged) (batches : List Staged) → new.number ≡ counter + 1 → PutsPayloads new → Each (IsGoodBatch first counter) batches → Each (IsGoodBatch first (counter + 1)) (batches ++ new ∷ [])
batches_more first counter new batches is plain each =
    Each-append (IsGoodBatch first (counter + 1)) batches (new ∷ [])
    (Each-imp (IsGoodBatch first counter) (IsGoodBatch first (counter + 1)) (λ batch h. record { counted = omega (arith, h.counted); plain = h.plain }) batches each)
    (record { counted = omega arith; plain = λ _. plain }, tt)

-- no refusal has an awaited status
pub never_awaited : (awaited : Awaited) (why : Refusal) → (status_of why == awaited_status awaited) ≡ false
never_awaited awaited why = by awaited
  where
    ok : (w : Refusal) → (status_of w == 200) ≡ false
    ok NoItem = refl
    ok NotModified = refl
    ok WasModified = refl
    ok NoMoreBatches = refl
    ok NoBatch = refl
    ok BatchFull = refl
    ok ClockEnded = refl
    ok AccountFull = refl

    staged : (w : Refusal) → (status_of w == 202) ≡ false
    staged NoItem = refl
    staged NotModified = refl
    staged WasModified = refl
    staged NoMoreBatches = refl
    staged NoBatch = refl
    staged BatchFull = refl
    staged ClockEnded = refl
    staged AccountFull = refl

    by : (a : Awaited) → (status_of why == awaited_status a) ≡ false
    by awaits.Configuration = ok why
    by awaits.FirstPage = ok why
    by awaits.LaterPage = ok why
    by awaits.AllIds = ok why
    by awaits.Staging = staged why
    by awaits.Writing = ok why

-- a reply of another status than the awaited one says that nothing was done
pub quiet-told : (a b : ShownAccount) → IsQuiet a b → (ask : Ask) (reply : Reply) → (reply.status == awaited_status (awaited_of ask)) ≡ false → Serves a ask b (told_by (awaited_of ask) reply)
unfolding told_by
quiet-told a b quiet ask reply ne =
    subst (λ v. Serves a ask b (cond v (said_by (awaited_of ask) reply reply.body) (cond (is_conditional (awaited_of ask) && (reply.status == 412)) (Changed (unwrap_or reply.modified 0)) (Refused reply.status)))) (sym ne)
    (either (is_conditional (awaited_of ask) && (reply.status == 412)))
  where
    either : (v : Bool) → Serves a ask b (cond v (Changed (unwrap_or reply.modified 0)) (Refused reply.status))
    either true = quiet
    either false = quiet

-- a page whose next offset is small is told as one
pub page-told : (a b : ShownAccount) (ask : Ask) (next : Option ℕ) (rows : List Row) (time : ℕ) → is_offset next ≡ true → Serves a ask b (Paged (map sheet_of rows) next time) → Serves a ask b (page_told next rows time)
page-told a b ask next rows time small s = subst (λ v. Serves a ask b (cond v (Paged (map sheet_of rows) next time) Unread)) (sym small) s

-- a is an account, and t what the clock leaves of it
module _ {first : ℕ} (a t : Plain) (quiet : IsQuiet (shown_account a) (shown_account t)) (ages : Ages (shown_account a) (shown_account t)) (good : IsGood first t) where
  abbrev pub Well : Ask → Outcome → Type 0
  Well ask o = IsGood first o.account × Serves (shown_account a) ask (shown_account o.account) (told_by (awaited_of ask) o.reply) × Ages (shown_account a) (shown_account o.account)

  refused_well : (ask : Ask) (why : Refusal) → Well ask (refused_outcome t (request_of ask) why)
  refused_well ask why = (good, quiet-told (shown_account a) (shown_account t) quiet ask (refused_outcome t (request_of ask) why).reply (never_awaited (awaited_of ask) why), ages)

  -- the collection's time isn't above a condition that holds
  holds : (condition : ℕ) → collection_time t bookmarks ≤ condition → collection_time a bookmarks ≤ condition
  holds condition le = omega (arith, quiet.target)

  -- a write of parts, or of none, that leaves these batches
  abbrev left : List Staged → List Part → Plain
  left batches parts = record (write_some t bookmarks parts) { batches = batches; counter = t.counter }

  abbrev stamp_of : List Part → ℕ
  stamp_of parts = cond (not (is_empty parts)) (stamp_in t) (collection_time t bookmarks)

  record Wrote (parts : List Part) (b : Plain) (stamp : ℕ) : Type 0 where
    keeps : IsGood first b
    writes : Writes parts (shown_account a) (shown_account b) stamp
    later : Ages (shown_account a) (shown_account b)

  abbrev AreFewer : List Staged → Type 0
  AreFewer batches = (n : ℕ) (ps : List Part) → option_map parts_in (batch_in bookmarks n batches) ≡ Some ps → option_map parts_in (batch_in bookmarks n a.batches) ≡ Some ps

  wrote : (batches : List Staged) → AreFewer batches → Pairs OtherNumber batches → Each (IsGoodBatch first t.counter) batches → (parts : List Part) → Each IsUpload parts
      → (not (is_empty parts) ≡ true → length (write_some t bookmarks parts).rows ≤ most_rows_and_collections) → Wrote parts (left batches parts) (stamp_of parts)
  wrote batches less numbers each [] ups room = record {
    keeps = record { places = good.places; number = good.number; lasting = good.lasting; below = good.below; since = good.since; numbers = numbers; batches = each };
    writes = record {
      rows = subst (λ rows. AreRowsAfter rows [] (collection_time t bookmarks) (sheets_of t.rows)) quiet.rows (nothing_written (sheets_of t.rows) (collection_time t bookmarks) (sheets-apart t.rows good.places));
      same = refl;
      later = record { target = quiet.target; rows = inr quiet.rows; counter = quiet.counter };
      staged = less;
    };
    later = ages_same (shown_account a) (shown_account (left batches [])) quiet.rows ages.store;
  }
  wrote batches less numbers each (part ∷ parts) ups room =
      let at : collection_time (left batches (part ∷ parts)) bookmarks ≡ stamp_in t = ap (λ (o : Option ℕ). unwrap_or o t.last_delete) (time_of-with_same t.collections bookmarks (stamp_in t)) in
      let put = written t.rows good.places (part ∷ parts) (stamp_in t) in
      let low : collection_time t bookmarks ≤ t.store = good.below in
      let rises : collection_time a bookmarks < stamp_in t = omega (arith, quiet.target) in
      record {
        keeps = record {
          places = places-written bookmarks (part ∷ parts) (stamp_in t) t.rows good.places;
          number = room refl;
          lasting = lasting-written t.rows (part ∷ parts) (stamp_in t) ups good.lasting;
          below = subst (λ n. n ≤ stamp_in t) (sym at) (omega arith);
          since = good.since;
          numbers = numbers;
          batches = each;
        };
        writes = record {
          rows = subst (λ rows. AreRowsAfter rows (part ∷ parts) (stamp_in t) (sheets_of (rows_written bookmarks (part ∷ parts) (stamp_in t) t.rows))) quiet.rows put;
          same = at;
          later = record { target = subst (λ n. collection_time a bookmarks ≤ n) (sym at) (omega arith); rows = inl (subst (λ n. collection_time a bookmarks < n) (sym at) rises); counter = quiet.counter };
          staged = less;
        };
        later = record {
          store = omega (arith, ages.store);
          rows = λ x s h. elim (after-aged (stamp_in t) (part ∷ parts) x (sheet x (sheets_of t.rows)) s (sym (put.each x) ∙ h)) [
            | inl was ↦ ages.rows x s was
            | inr new ↦ inr (let is : s.modified ≡ stamp_in t = new in omega (arith, ages.store))
          ];
        };
      }

  -- the batches without one
  less_one : (number : ℕ) → AreFewer (batches_without number t.batches)
  less_one number n ps e =
      quiet.staged n ps (staged_before (batch_in bookmarks n (batches_without number t.batches)) (batch_in bookmarks n t.batches)
      (λ batch h. found_before bookmarks n (λ one. not (one.number == number)) t.batches good.numbers batch h) ps e)

  -- a begin
  abbrev newly : List Part → Staged
  newly parts = record { number = t.counter + 1; collection = bookmarks; begun = t.moment; parts = parts }

  abbrev begun : List Part → Plain
  begun parts = record t { batches = t.batches ++ newly parts ∷ []; counter = t.counter + 1 }

  begins : (parts : List Part) → Begins parts (shown_account a) (shown_account (begun parts)) (t.counter + 1)
  begins parts = record {
    rows = quiet.rows;
    target = quiet.target;
    number = omega (arith, quiet.counter);
    counter = omega arith;
    begun = λ ps e.
        let at : batch_in bookmarks (t.counter + 1) (t.batches ++ newly parts ∷ []) ≡ Some (newly parts) =
        find-skip (is_it bookmarks (t.counter + 1)) t.batches (newly parts ∷ [])
        (Each-imp (IsGoodBatch first t.counter) (λ (batch : Staged). is_it bookmarks (t.counter + 1) batch ≡ false)
        (λ batch h. let le : batch.number ≤ t.counter = h.counted in ap (λ v. v && bytes_eq batch.collection bookmarks) (ne_eqb batch.number (t.counter + 1) (λ same. absurd (omega arith)))) t.batches good.batches)
        ∙ ap (λ v. cond (v && bytes_eq bookmarks bookmarks) (Some (newly parts)) None) (eq-eqb (t.counter + 1) (t.counter + 1) refl) in
        sym (some_same (sym (ap (option_map parts_in) at) ∙ e));
    others = λ n ps le e.
        let under : n ≤ t.counter = omega (arith, quiet.counter) in
        quiet.staged n ps (sym (ap (option_map parts_in) (find-last_not (is_it bookmarks n) t.batches (newly parts)
        (ap (λ v. v && bytes_eq bookmarks bookmarks) (ne_eqb (t.counter + 1) n (λ same. absurd (omega arith)))))) ∙ e);
  }

  begun_well : (parts : List Part) → Each IsUpload parts → IsGood first (begun parts)
  begun_well parts ups = record {
    places = good.places;
    number = good.number;
    lasting = good.lasting;
    below = good.below;
    since = omega (arith, good.since);
    numbers = numbers_more first t.counter (newly parts) t.batches refl good.numbers good.batches;
    batches = batches_more first t.counter (newly parts) t.batches refl (λ _. ups) good.batches;
  }

  -- an append
  abbrev more : ℕ → List Part → Plain
  more number parts = record t { batches = map (grown number parts) t.batches }

  appends : (number : ℕ) (parts : List Part) (found : Option Staged) → batch_in bookmarks number t.batches ≡ found → is_none found ≡ false → Appends number parts (shown_account a) (shown_account (more number parts))
  appends number parts None e f = cc
  appends number parts (Some batch) e f = record {
    rows = quiet.rows;
    target = quiet.target;
    counter = quiet.counter;
    before = batch.parts;
    was = quiet.staged number batch.parts (ap (option_map parts_in) e);
    grown = λ ps h.
        let at : batch_in bookmarks number (map (grown number parts) t.batches) ≡ Some (grown number parts batch) =
        found_grown bookmarks number number parts t.batches ∙ ap (option_map (grown number parts)) e in
        sym (some_same (sym (ap (option_map parts_in) at) ∙ h))
        ∙ grown_it number parts batch (found_number bookmarks number t.batches batch e);
    others = λ n ps differ h.
        quiet.staged n ps (unchanged n ps differ (batch_in bookmarks n t.batches) refl
        (sym (ap (option_map parts_in) (found_grown bookmarks n number parts t.batches)) ∙ h));
  }
    where
      unchanged : (n : ℕ) (ps : List Part) → (n ≡ number → ⊥) → (o : Option Staged) → batch_in bookmarks n t.batches ≡ o
          → option_map parts_in (option_map (grown number parts) o) ≡ Some ps → option_map parts_in o ≡ Some ps
      unchanged n ps differ None is h = h
      unchanged n ps differ (Some one) is h =
          ap (λ b. Some (parts_in b)) (sym (grown_not number parts one (λ same. differ (sym (found_number bookmarks n t.batches one is) ∙ same)))) ∙ h

  more_well : (number : ℕ) (parts : List Part) → Each IsUpload parts → IsGood first (more number parts)
  more_well number parts ups = record {
    places = good.places;
    number = good.number;
    lasting = good.lasting;
    below = good.below;
    since = good.since;
    numbers = numbers_grown number parts t.batches good.numbers;
    batches = Each-map (IsGoodBatch first t.counter) (IsGoodBatch first t.counter) (grown number parts) (λ batch h. good_grown t.counter number parts batch (λ _ _. ups) h) t.batches good.batches;
  }

  -- a commit
  record IsCommitted (number : ℕ) : Type 0 where
    found : option_map parts_in (batch_in bookmarks number t.batches) ≡ Some (staged_parts t bookmarks number)
    puts : Each IsUpload (staged_parts t bookmarks number)

  committed : (number : ℕ) → first < number → (found : Option Staged) → batch_in bookmarks number t.batches ≡ found → is_none found ≡ false → IsCommitted number
  committed number late None e f = cc
  committed number late (Some batch) e f =
      let plain : Each IsUpload batch.parts = (Each-find (IsGoodBatch first t.counter) (is_it bookmarks number) t.batches batch e good.batches).plain (subst (λ n. first < n) (sym (found_number bookmarks number t.batches batch e)) late) (found_collection bookmarks number t.batches batch e) in
      let are : staged_parts t bookmarks number ≡ batch.parts = ap (λ (o : Option Staged). option_map_or (λ (one : Staged). one.parts) o []) e in
      record { found = ap (option_map parts_in) e ∙ ap (λ (ps : List Part). Some ps) (sym are); puts = subst (Each IsUpload) (sym are) plain }

  pub done_well : (ask : Ask) → IsAskable first ask → Passes t (request_of ask) → Well ask (done_outcome t (request_of ask))
  unfolding told_by
  done_well Configure late p = (good, (quiet, refl), ages)
  done_well (FirstPage since) late p = (
    good,
    page-told (shown_account a) (shown_account t) (FirstPage since) (answer (rows_of bookmarks t.rows) (page since 0)).next (answer (rows_of bookmarks t.rows) (page since 0)).rows (collection_time t bookmarks) (offset_is t.rows good.number since 0) (quiet, refl, page_is t.rows since 0),
    ages,
  )
  done_well (NextPage since condition offset) late p = (
    good,
    page-told (shown_account a) (shown_account t) (NextPage since condition offset) (answer (rows_of bookmarks t.rows) (page since offset)).next (answer (rows_of bookmarks t.rows) (page since offset)).rows (collection_time t bookmarks) (offset_is t.rows good.number since offset)
        (quiet, unmodified condition (collection_time t bookmarks) p.condition, page_is t.rows since offset),
    ages,
  )
  done_well (ListIds condition) late p = (good, (quiet, unmodified condition (collection_time t bookmarks) p.condition, ids_are t.rows), ages)
  done_well (PostAll condition parts) late p =
      let w = wrote t.batches quiet.staged good.numbers good.batches parts (Each-from_All IsUpload parts late) (λ e. (room_in (left t.batches parts) (over_from (not (is_empty parts)) (effect t (request_of (PostAll condition parts))) p.over e))) in
      (w.keeps, (holds condition (unmodified condition (collection_time t bookmarks) p.condition), w.writes), w.later)
  done_well (PostFirst condition parts) late p =
      (begun_well parts (Each-from_All IsUpload parts late), (holds condition (unmodified condition (collection_time t bookmarks) p.condition), begins parts), ages_same (shown_account a) (shown_account (begun parts)) quiet.rows ages.store)
  done_well (PostNext condition number parts) late p =
      (more_well number parts (Each-from_All IsUpload parts late.1), (holds condition (unmodified condition (collection_time t bookmarks) p.condition), appends number parts (batch_in bookmarks number t.batches) refl p.batch), ages_same (shown_account a) (shown_account (more number parts)) quiet.rows ages.store)
  done_well (PostLast condition number parts) late p =
      let c = committed number late.0 (batch_in bookmarks number t.batches) refl p.batch in
      let w = wrote (batches_without number t.batches) (less_one number) (Pairs-filter OtherNumber (λ one. not (one.number == number)) t.batches good.numbers)
      (Each-filter (IsGoodBatch first t.counter) (λ one. not (one.number == number)) t.batches good.batches) (staged_parts t bookmarks number ++ parts)
      (Each-append IsUpload (staged_parts t bookmarks number) parts c.puts (Each-from_All IsUpload parts late.1))
      (λ e. (room_in (left (batches_without number t.batches) (staged_parts t bookmarks number ++ parts)) (over_from (not (is_empty (staged_parts t bookmarks number ++ parts))) (effect t (request_of (PostLast condition number parts))) p.over e))) in
      (w.keeps, (holds condition (unmodified condition (collection_time t bookmarks) p.condition), record { before = staged_parts t bookmarks number; was = quiet.staged number (staged_parts t bookmarks number) c.found; wrote = w.writes }), w.later)

  turned : (ask : Ask) → IsAskable first ask → (why : Option Refusal) → refusal t (request_of ask) ≡ why → Well ask (outcome t (request_of ask) why)
  turned ask late (Some why) e = refused_well ask why
  turned ask late None e = done_well ask late (passes t (request_of ask) e)

  pub turn : (ask : Ask) → IsAskable first ask → Well ask (outcome t (request_of ask) (refusal t (request_of ask)))
  turn ask late = turned ask late (refusal t (request_of ask)) refl
