-- The replies of a journal don't depend on the order of its opening's lists.
use Rattle.std.specs.Prelude.{◌≡◌, ℕ, List, [], ◌∷◌, take, slice_get, Option, None, Some, option_map, refl}
use Rattle.std.proofs.Common.{ap}
use Rattle.ss_bso.specs.declared.account.Plain.{Plain}
use Rattle.ss_bso.specs.Validity.{IsValid, SameAccount}
use Rattle.ss_query.specs.declared.replies.Mark.{Mark}
use Rattle.ss_query.specs.declared.replies.Mark.TheVariants.{Done, Keeper, Memory}
use Rattle.ss_query.specs.declared.replies.Reply.{Reply}
use Rattle.ss_query.specs.declared.replies.Said.{Said as Word}
use Rattle.ss_query.specs.declared.replies.Body.TheVariants.{Said}
use Rattle.ss_query.specs.declared.replies.Said.TheVariants.{Keeper as KeeperWord, Memory as MemoryWord}
use Rattle.ss_query.specs.declared.requests.Request.{Request}
use Rattle.ss_laws.specs.declared.journal.Entry.{Entry}
use Rattle.ss_laws.specs.Journal.{Journal}
use Rattle.ss_query.specs.Fit.{IsFitRequest}
use Rattle.ss_laws.specs.Laws.{SameOutcome}
use Rattle.ss_laws.specs.Journals.{failed_outcome, marked_outcome, entry_outcome, account_after, reply_at, IsLegal}
use Rattle.ss_bso.proofs.Lists.{Each-from_All}
use Rattle.ss_bso.specs.Lists.{Each}
use Rattle.ss_laws.proofs.Journals.{valid-marked, Each-take, valid-account_after}
use Rattle.ss_laws.proofs.SameApi.{order_law, tick-same}

failed-same : (one other : Plain) (now status : ℕ) (word : Word) → SameAccount one other → SameOutcome (failed_outcome one now status word) (failed_outcome other now status word)
failed-same one other now status word s =
    let t = tick-same one other now s in
    record { account = t; reply = λ i. record { status = status; moment = t.moment i; modified = None; count = None; next = None; body = Said word } }

pub marked-same : (one other : Plain) (now : ℕ) (request : Request) (mark : Mark) → IsValid one → SameAccount one other → SameOutcome (marked_outcome one now request mark) (marked_outcome other now request mark)
marked-same one other now request Done valid s = order_law one other now request valid s
marked-same one other now request Keeper valid s = failed-same one other now 503 KeeperWord s
marked-same one other now request Memory valid s = failed-same one other now 507 MemoryWord s

after-same : (one other : Plain) (entries : List Entry) → Each (λ (entry : Entry). IsFitRequest entry.request) entries → IsValid one → SameAccount one other → SameAccount (account_after one entries) (account_after other entries)
after-same one other [] fit valid s = s
after-same one other (entry ∷ entries) fit valid s =
    after-same (entry_outcome one entry).account (entry_outcome other entry).account entries fit.1 (valid-marked one entry.now entry.request entry.mark fit.0 valid)
    (marked-same one other entry.now entry.request entry.mark valid s).account

found-same : (one other : Plain) (found : Option Entry) → IsValid one → SameAccount one other → option_map (λ (entry : Entry). (entry_outcome one entry).reply) found ≡ option_map (λ (entry : Entry). (entry_outcome other entry).reply) found
found-same one other None valid s = refl
found-same one other (Some entry) valid s = ap (λ (reply : Reply). Some reply) (marked-same one other entry.now entry.request entry.mark valid s).reply

pub reply_at-reordered : (journal : Journal) (other : Plain) (place : ℕ) → IsLegal journal → SameAccount journal.opening other → reply_at journal place ≡ reply_at (record journal { opening = other }) place
reply_at-reordered journal other place legal s =
    let fit : Each (λ (entry : Entry). IsFitRequest entry.request) (take place journal.entries) = Each-take (λ (entry : Entry). IsFitRequest entry.request) place journal.entries (Each-from_All (λ (entry : Entry). IsFitRequest entry.request) journal.entries legal.requests) in
    found-same (account_after journal.opening (take place journal.entries)) (account_after other (take place journal.entries)) (slice_get journal.entries place)
    (valid-account_after journal place legal) (after-same journal.opening other (take place journal.entries) fit legal.opening s)
