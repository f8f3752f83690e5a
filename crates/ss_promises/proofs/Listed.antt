-- A journal is a list of requests, with bare readings of the clock where a request wasn't done.
use Rattle.std.specs.Prelude.{◌≡◌, ℕ, zero, suc, List, [], ◌∷◌, take, slice_get, true, false, not, IsTrue, IsSomeAnd}
use Rattle.std.specs.Prelude.{MatchOption, Option, Some, None, option_map, refl}
use Rattle.std.specs.Option.{option_map_or}
use Rattle.std.proofs.Common.{sym, ap, subst, ◌∙◌}
use Rattle.std.proofs.lemmas.Option.{none-some, same_Some}
use Rattle.std.proofs.lemmas.Slice.Zip.{AllZip-left}
use Rattle.ss_bso.specs.declared.account.Plain.{Plain}
use Rattle.ss_query.specs.declared.replies.Mark.{Mark}
use Rattle.ss_query.specs.declared.replies.Mark.TheVariants.{Done, Keeper, Memory}
use Rattle.ss_query.specs.declared.requests.Request.{Request}
use Rattle.ss_query.specs.Flat.{Turn, after_all, after_ask, flat, reply_to, turns}
use Rattle.ss_laws.specs.declared.journal.Entry.{Entry}
use Rattle.ss_laws.specs.Journal.{Journal}
use Rattle.ss_laws.specs.Journals.{account_after, entry_outcome, marked_outcome, reply_at}
use Rattle.ss_laws.specs.Laws.{BatchLaw, is_of_batch, is_outside}
use Rattle.ss_promises.specs.Journals.{ask_of, asks_of, done_request}

-- ---- accounts

account_by : (account : Plain) (now : ℕ) (request : Request) (mark : Mark)
    → (marked_outcome account now request mark).account ≡ after_ask account (record { now = now; request = done_request mark request })
account_by account now request Done = refl
account_by account now request Keeper = refl
account_by account now request Memory = refl

-- one entry
one : (account : Plain) (entry : Entry) → (entry_outcome account entry).account ≡ after_ask account (ask_of entry)
one account entry = account_by account entry.now entry.request entry.mark

pub same_accounts : (opening : Plain) (entries : List Entry) → account_after opening entries ≡ after_all opening (asks_of entries)
same_accounts opening [] = refl
same_accounts opening (entry ∷ entries) =
    same_accounts (entry_outcome opening entry).account entries ∙ ap (λ account. after_all account (asks_of entries)) (one opening entry)

-- ---- replies

reply_by : (account : Plain) (now : ℕ) (request : Request) (mark : Mark) → mark ≡ Done
    → reply_to account (record { now = now; request = done_request mark request }) ≡ Some (marked_outcome account now request mark).reply
reply_by account now request Done e = refl
reply_by account now request Keeper e = cc
reply_by account now request Memory e = cc

-- an entry that was done, as a turn after the account of the entries before it
abbrev turn_of : Plain → Entry → Turn
turn_of account entry = record { ask = ask_of entry; reply = Some (entry_outcome account entry).reply }

here : (opening : Plain) (first entry : Entry) → Some first ≡ Some entry → entry.mark ≡ Done
    → Some (record { ask = ask_of first; reply = reply_to opening (ask_of first) }) ≡ Some (turn_of opening entry)
here opening first entry is e =
    ap (λ (x : Entry). Some (record { ask = ask_of x; reply = reply_to opening (ask_of x) })) (same_Some first entry is)
    ∙ ap (λ reply. Some (record { ask = ask_of entry; reply = reply })) (reply_by opening entry.now entry.request entry.mark e)

turned : (opening : Plain) (entries : List Entry) (place : ℕ) (entry : Entry) → slice_get entries place ≡ Some entry → entry.mark ≡ Done
    → slice_get (turns opening (asks_of entries)) place ≡ Some (turn_of (account_after opening (take place entries)) entry)
turned opening [] place entry is e = absurd (none-some entry is)
turned opening (first ∷ entries) zero entry is e = here opening first entry is e
turned opening (first ∷ entries) (suc place) entry is e =
    ap (λ account. slice_get (turns account (asks_of entries)) place) (sym (one opening first))
    ∙ turned (entry_outcome opening first).account entries place entry is e

pub same_replies : (journal : Journal) (place : ℕ) (entry : Entry) → slice_get journal.entries place ≡ Some entry → entry.mark ≡ Done
    → slice_get (turns journal.opening (asks_of journal.entries)) place ≡ Some (record { ask = ask_of entry; reply = reply_at journal place })
same_replies journal place entry is e =
    turned journal.opening journal.entries place entry is e
    ∙ ap (λ found. Some (record { ask = ask_of entry; reply = option_map (λ (x : Entry). (entry_outcome (account_after journal.opening (take place journal.entries)) x).reply) found })) (sym is)

-- ---- the batch law

done_outside : (mark : Mark) (request : Request) → mark ≡ Done → is_of_batch request ≡ false
    → IsTrue (option_map_or (λ asked. not (is_of_batch asked)) (done_request mark request) true)
done_outside Done request e out = ap not out
done_outside Keeper request e out = refl
done_outside Memory request e out = refl

-- a request that is of no batch stands in the flat list with its reply
pub alike : (journal : Journal) (place : ℕ) (entry : Entry) → BatchLaw journal.opening (asks_of journal.entries)
    → slice_get journal.entries place ≡ Some entry → entry.mark ≡ Done → is_of_batch entry.request ≡ false
    → option_map (λ (turn : Turn). turn.reply) (slice_get (turns journal.opening (flat journal.opening (asks_of journal.entries))) place)
    ≡ Some (reply_at journal place)
alike journal place entry law is e out =
    go (slice_get (turns journal.opening (flat journal.opening (asks_of journal.entries))) place)
    (subst (λ (o : Option Turn). MatchOption o (Unit {0}) (λ turn. IsSomeAnd (slice_get (turns journal.opening (flat journal.opening (asks_of journal.entries))) place) (λ plain. IsTrue (is_outside turn.ask) → plain ≡ turn)))
    (same_replies journal place entry is e)
    (AllZip-left (λ (turn plain : Turn). IsTrue (is_outside turn.ask) → plain ≡ turn) (turns journal.opening (asks_of journal.entries)) (turns journal.opening (flat journal.opening (asks_of journal.entries))) law.replies place))
  where
    go : (o : Option Turn) → IsSomeAnd o (λ plain. IsTrue (is_outside (ask_of entry)) → plain ≡ record { ask = ask_of entry; reply = reply_at journal place })
        → option_map (λ (turn : Turn). turn.reply) o ≡ Some (reply_at journal place)
    go None h = absurd h
    go (Some plain) h = ap (λ (turn : Turn). Some turn.reply) (h (done_outside entry.mark entry.request e out))
