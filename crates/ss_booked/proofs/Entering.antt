-- A journal without entries, and one with one more entry: it is legal, its last reply is that of the entry, and it leaves the account
-- that the entry leaves.
use Rattle.std.specs.Prelude.{◌≡◌, true, false, IfSome, ℕ, zero, suc, ◌+◌, ◌-◌, ◌<◌, ◌≤◌, ◌==◌, Bool, if◌then◌else◌}
use Rattle.std.specs.Prelude.{List, [], ◌∷◌, ◌++◌, length, map, fold, take, slice_get, slice_index, cond, All, Option}
use Rattle.std.specs.Prelude.{Some, None, option_map, refl}
use Rattle.std.specs.List.Sorted.{IsStrictlyIncreasing}
use Rattle.std.proofs.Common.{subst, sym, ap, ◌∙◌, arith, get_or}
use mathlib.Core.Logic.{dite}
use native.Mathlib.Decide.{dec_lt}
use Rattle.std.proofs.lemmas.List.{map-append, length-append, length-map, take-append-le, get_or_append_left}
use Rattle.std.proofs.lemmas.List.Elements.{All-append, All-map}
use Rattle.std.proofs.lemmas.List.Sums.{fold-append, sum_by-append}
use Rattle.ss_bso.specs.declared.account.Plain.{Plain}
use Rattle.ss_bso.specs.declared.changes.Kept.{Kept}
use Rattle.ss_bso.specs.Validity.{IsValid, SameAccount}
use Rattle.ss_bso.proofs.Reordering.{same-back, same-through}
use Rattle.ss_query.specs.declared.replies.Mark.{Mark}
use Rattle.ss_query.specs.declared.replies.Mark.TheVariants.{Done, Keeper, Memory}
use Rattle.ss_query.specs.declared.replies.Reply.{Reply}
use Rattle.ss_query.specs.declared.requests.Request.{Request}
use Rattle.ss_query.specs.Fit.{IsFitRequest}
use Rattle.ss_laws.specs.declared.journal.Entry.{Entry}
use Rattle.ss_laws.specs.Journal.{Journal}
use Rattle.ss_laws.specs.Journals.{marked_outcome, entry_outcome, account_after, empty_journal, with_entry, reply_at}
use Rattle.ss_laws.specs.Journals.{IsLegal}
use Rattle.ss_laws.proofs.Journals.{valid-account_after}
use Rattle.ss_laws.proofs.JournalOrder.{marked-same}
use Rattle.ss_laws.proofs.SameValid.{valid-same}
use Rattle.ss_account.specs.Keeping.{IsKeptBy}
use Rattle.ss_account.specs.Opening.{IsGood}
use Rattle.ss_outside.specs.Causes.{Rose}
use Rattle.ss_desk.specs.declared.journaled.Full.{Full}
use Rattle.ss_booked.specs.Sizes.{request_bytes, journal_bytes, full_of, HadRoom}
use Rattle.ss_booked.specs.Sound.{IsSound, RoseBy, is_keeper, keeper_marks}
use Rattle.ss_text.proofs.Basics.{neither_left}

get-seam : (xs : List ℕ) (n : ℕ) → get_or (xs ++ n ∷ []) (length xs) 0 ≡ n
get-seam [] n = refl
get-seam (x ∷ xs) n = get-seam xs n

-- a list that rises, with one more number above all of it
rises-snoc : (xs : List ℕ) (n : ℕ) → IsStrictlyIncreasing xs → All (λ x. x < n) xs → IsStrictlyIncreasing (xs ++ n ∷ [])
rises-snoc xs n rises below = λ k lt.
    let len : length (xs ++ n ∷ []) ≡ length xs + 1 = length-append xs (n ∷ []) in
    let inside : k < length xs = omega (arith, len, lt) in
    let front : get_or (xs ++ n ∷ []) k 0 ≡ get_or xs k 0 = get_or_append_left xs (n ∷ []) 0 k inside in
    dite (dec_lt (k + 1) (length xs))
    (λ more. omega (arith, front, get_or_append_left xs (n ∷ []) 0 (k + 1) more, rises k more))
    (λ past.
    let last : k + 1 ≡ length xs = omega (arith, past, inside) in
    let seam : get_or (xs ++ n ∷ []) (k + 1) 0 ≡ n = subst (λ i. get_or (xs ++ n ∷ []) i 0 ≡ n) (sym last) (get-seam xs n) in
    omega (arith, front, seam, below k 0 inside))

pub legal-entered : (journal : Journal) (entry : Entry) → IsLegal journal → IsFitRequest entry.request → All (λ (e : Entry). e.ticket < entry.ticket) journal.entries → length journal.entries < journal.most → IsLegal (with_entry journal entry)
legal-entered journal entry legal fits above room = record {
  opening = legal.opening;
  requests = All-append (λ (e : Entry). IsFitRequest e.request) journal.entries (entry ∷ []) legal.requests (one (λ (e : Entry). IsFitRequest e.request) entry fits);
  tickets = rw (map-append (λ (e : Entry). e.ticket) journal.entries (entry ∷ [])) (rises-snoc (map (λ (e : Entry). e.ticket) journal.entries) entry.ticket legal.tickets (All-map (λ t. t < entry.ticket) (λ (e : Entry). e.ticket) journal.entries above));
  within = omega (arith, length-append journal.entries (entry ∷ []));
}
  where
    one : {X : Type 0} (P : X → Type 0) (x : X) → P x → All P (x ∷ [])
    one P x p = λ k d lt. let z : k ≡ zero = omega arith in subst (λ i. P (get_or (x ∷ []) i d)) (sym z) p

take-last : (entries : List Entry) (entry : Entry) → take (length entries) (entries ++ entry ∷ []) ≡ entries
take-last [] entry = refl
take-last (e ∷ entries) entry = ap (λ es. e ∷ es) (take-last entries entry)

pub room-entered : (journal : Journal) (entry : Entry) → HadRoom journal → full_of journal ≡ None → HadRoom (with_entry journal entry)
room-entered journal entry had none k lt =
    let entries = journal.entries in
    let len : length (entries ++ entry ∷ []) ≡ length entries + 1 = length-append entries (entry ∷ []) in
    let FullAt : List Entry → Type 0 = λ (es : List Entry). full_of (record journal { entries = es }) ≡ None in
    dite (dec_lt k (length entries))
    (λ inside. subst FullAt (sym (take-append-le k entries (entry ∷ []) (omega arith))) (had k inside))
    (λ past.
    let last : k ≡ length entries = omega (arith, past, lt, len) in
    subst FullAt (sym (ap (λ n. take n (entries ++ entry ∷ [])) last ∙ take-last entries entry)) none)

pub after-entered : (opening : Plain) (entries : List Entry) (entry : Entry) → account_after opening (entries ++ entry ∷ []) ≡ (entry_outcome (account_after opening entries) entry).account
after-entered opening entries entry = fold-append (λ (account : Plain) (e : Entry). (entry_outcome account e).account) opening entries (entry ∷ [])

get-last : (entries : List Entry) (entry : Entry) → slice_get (entries ++ entry ∷ []) (length entries) ≡ Some entry
get-last [] entry = refl
get-last (e ∷ entries) entry = get-last entries entry

pub reply-entered : (journal : Journal) (entry : Entry) → reply_at (with_entry journal entry) (length journal.entries) ≡ Some (entry_outcome (account_after journal.opening journal.entries) entry).reply
reply-entered journal entry =
    ap (λ (es : List Entry). option_map (λ (e : Entry). (entry_outcome (account_after journal.opening es) e).reply) (slice_get (journal.entries ++ entry ∷ []) (length journal.entries))) (take-last journal.entries entry)
    ∙ ap (λ found. option_map (λ (e : Entry). (entry_outcome (account_after journal.opening journal.entries) e).reply) found) (get-last journal.entries entry)

-- what an account is told that is the one that the journal leaves, and what it then is
pub record Told (journal : Journal) (entry : Entry) (reply : Reply) (after : Plain) : Type 0 where
  pub answered : reply_at (with_entry journal entry) (length journal.entries) ≡ Some reply
  pub left : SameAccount (account_after journal.opening (journal.entries ++ entry ∷ [])) after

left-valid : (journal : Journal) → IsLegal journal → IsValid (account_after journal.opening journal.entries)
left-valid journal legal = subst (λ (es : List Entry). IsValid (account_after journal.opening es)) (take-all journal.entries) (valid-account_after journal (length journal.entries) legal)
  where
    take-all : (entries : List Entry) → take (length entries) entries ≡ entries
    take-all [] = refl
    take-all (e ∷ entries) = ap (λ es. e ∷ es) (take-all entries)

pub told-entered : (journal : Journal) (entry : Entry) (before after : Plain) (reply : Reply) → IsLegal journal → SameAccount (account_after journal.opening journal.entries) before
    → SameAccount (marked_outcome before entry.now entry.request entry.mark).account after → reply ≡ (marked_outcome before entry.now entry.request entry.mark).reply → Told journal entry reply after
told-entered journal entry before after reply legal leaves same is =
    let left = account_after journal.opening journal.entries in
    let out = marked-same left before entry.now entry.request entry.mark (left-valid journal legal) leaves in
    record {
      answered = reply-entered journal entry ∙ ap (λ (r : Reply). Some r) (out.reply ∙ sym is);
      left = subst (λ (a : Plain). SameAccount a after) (sym (after-entered journal.opening journal.entries entry)) (same-through (entry_outcome left entry).account (marked_outcome before entry.now entry.request entry.mark).account after out.account same);
    }

pub bytes-entered : (entries : List Entry) (entry : Entry) → journal_bytes (entries ++ entry ∷ []) ≡ journal_bytes entries + request_bytes entry.request
bytes-entered entries entry = sum_by-append (λ (e : Entry). request_bytes e.request) entries (entry ∷ []) ∙ ap (λ n. journal_bytes entries + n) (let one : 0 + request_bytes entry.request ≡ request_bytes entry.request = omega arith in one)

marks-entered : (entries : List Entry) (entry : Entry) → keeper_marks (entries ++ entry ∷ []) ≡ keeper_marks entries + cond (is_keeper entry.mark) 1 0
marks-entered entries entry = sum_by-append (λ (e : Entry). cond (is_keeper e.mark) 1 0) entries (entry ∷ []) ∙ ap (λ n. keeper_marks entries + n) (let one : 0 + cond (is_keeper entry.mark) 1 0 ≡ cond (is_keeper entry.mark) 1 0 = omega arith in one)

rose-on : (times before now later : ℕ) (mark : Mark) → RoseBy times before now → now ≤ later → (mark ≡ Keeper → Rose now later) → RoseBy (times + cond (is_keeper mark) 1 0) before later
rose-on times before now later Keeper r le cause =
    let rose = cause refl in
    record { later = omega (arith, r.later, le); risen = omega (arith, r.risen, rose.risen, rose.later) }
rose-on times before now later Done r le cause = record { later = omega (arith, r.later, le); risen = omega (arith, r.risen, le) }
rose-on times before now later Memory r le cause = record { later = omega (arith, r.later, le); risen = omega (arith, r.risen, le) }

pub rose-entered : (entries : List Entry) (entry : Entry) (before now later : ℕ) → RoseBy (keeper_marks entries) before now → now ≤ later → (entry.mark ≡ Keeper → Rose now later) → RoseBy (keeper_marks (entries ++ entry ∷ [])) before later
rose-entered entries entry before now later r le cause =
    subst (λ times. RoseBy times before later) (sym (marks-entered entries entry)) (rose-on (keeper_marks entries) before now later entry.mark r le cause)

-- what a step of the account leaves: it is valid and kept, and its keeper failed where the mark says so
pub record Stepped (told : Option Kept) (after : Plain) (mark : Mark) (now later : ℕ) : Type 0 where
  pub valid : IsValid after
  pub kept : IsKeptBy told after
  pub again : IfSome told IsGood
  pub faults : now ≤ later
  pub cause : mark ≡ Keeper → Rose now later

test-none : {X : Type 0} (b : Bool) (x : X) → (if b then Some x else None) ≡ None → b ≡ false
test-none true x e = absurd (let no : Some x ≡ None = e in cc)
test-none false x e = refl

-- a journal that isn't full has room
pub room-left : (journal : Journal) → full_of journal ≡ None → length journal.entries ≤ journal.most → length journal.entries < journal.most
room-left journal none within =
    let other : (length journal.entries == journal.most) ≡ false = neither_left _ _ (test-none _ _ none) in
    grind (arith, other, within)

pub sound-entered : (told told_after : Option Kept) (journal : Journal) (entry : Entry) (account after : Plain) (reply : Reply) (bytes more before now later : ℕ) → IsSound told account journal bytes before now
    → IsFitRequest entry.request → All (λ (e : Entry). e.ticket < entry.ticket) journal.entries → full_of journal ≡ None → Told journal entry reply after → Stepped told_after after entry.mark now later
    → more ≡ request_bytes entry.request → IsSound told_after after (with_entry journal entry) (bytes + more) before later
sound-entered told told_after journal entry account after reply bytes more before now later sound fits above none is stepped counted = record {
  legal = legal-entered journal entry sound.legal fits above (room-left journal none sound.legal.within);
  had_room = room-entered journal entry sound.had_room none;
  leaves = is.left;
  valid = stepped.valid;
  kept = stepped.kept;
  again = stepped.again;
  counted = ap (λ n. n + more) sound.counted ∙ ap (λ n. journal_bytes journal.entries + n) counted ∙ sym (bytes-entered journal.entries entry);
  rose = rose-entered journal.entries entry before now later sound.rose stepped.faults stepped.cause;
}

pub legal-begun : (account opening : Plain) (journal : Journal) (most : ℕ) → journal ≡ empty_journal opening most → IsValid account → SameAccount account opening → IsLegal journal
legal-begun account opening journal most is valid same = subst (λ (j : Journal). IsLegal j) (sym is) record {
  opening = valid-same account opening valid same;
  requests = λ k d lt. absurd (omega arith);
  tickets = λ k lt. absurd (omega arith);
  within = omega arith;
}

pub room-begun : (opening : Plain) (journal : Journal) (most : ℕ) → journal ≡ empty_journal opening most → HadRoom journal
room-begun opening journal most is = subst (λ (j : Journal). HadRoom j) (sym is) (λ k lt. absurd (omega arith))

pub sound-begun : (told : Option Kept) (account opening : Plain) (journal : Journal) (most before faults : ℕ) → journal ≡ empty_journal opening most → before ≡ faults → SameAccount account opening → IsValid account → IsKeptBy told account → IfSome told IsGood
    → IsSound told account journal 0 before faults
sound-begun told account opening journal most before faults is stands same valid kept again = subst (λ (j : Journal). IsSound told account j 0 before faults) (sym is) record {
  legal = legal-begun account opening (empty_journal opening most) most refl valid same;
  had_room = room-begun opening (empty_journal opening most) most refl;
  leaves = same-back account opening same;
  valid = valid;
  kept = kept;
  again = again;
  counted = refl;
  rose = record { later = omega (arith, stands); risen = omega (arith, stands) };
}
