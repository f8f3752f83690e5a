-- Legal journals, and the reply at each place of one.
use Rattle.std.specs.Prelude.{ℕ, ◌≤◌, List, [], ◌∷◌, ◌++◌, length, take, map, fold, slice_get, Option, None, option_map}
use Rattle.std.specs.Prelude.{All}
use Rattle.std.specs.List.Sorted.{IsStrictlyIncreasing}
use Rattle.ss_bso.specs.declared.account.Plain.{Plain}
use Rattle.ss_bso.specs.Account.{tick}
use Rattle.ss_bso.specs.Validity.{IsValid}
use Rattle.ss_query.specs.declared.replies.Mark.{Mark}
use Rattle.ss_query.specs.declared.replies.Mark.TheVariants.{Done, Keeper, Memory}
use Rattle.ss_query.specs.declared.replies.Reply.{Reply}
use Rattle.ss_query.specs.declared.replies.Body.TheVariants.{Said}
use Rattle.ss_query.specs.declared.replies.Said.{Said as Word}
use Rattle.ss_query.specs.declared.replies.Said.TheVariants.{Keeper as KeeperWord, Memory as MemoryWord}
use Rattle.ss_query.specs.declared.requests.Request.{Request}
use Rattle.ss_query.specs.Api.{api, Outcome}
use Rattle.ss_laws.specs.declared.journal.Entry.{Entry}
use Rattle.ss_laws.specs.Journal.{Journal}
use Rattle.ss_query.specs.Fit.{IsFitRequest}

-- a request that ended for want of memory or by its keeper's failure: the clock alone has moved
abbrev pub failed_outcome : Plain → ℕ → ℕ → Word → Outcome
failed_outcome account now status word = record {
  account = tick account now;
  reply = record { status = status; moment = (tick account now).moment; modified = None; count = None; next = None; body = Said word };
}

-- what a request gives, by its mark
abbrev pub marked_outcome : Plain → ℕ → Request → Mark → Outcome
marked_outcome account now request Done = api account now request
marked_outcome account now request Keeper = failed_outcome account now 503 KeeperWord
marked_outcome account now request Memory = failed_outcome account now 507 MemoryWord

abbrev pub entry_outcome : Plain → Entry → Outcome
entry_outcome account entry = marked_outcome account entry.now entry.request entry.mark

-- the account that entries leave
abbrev pub account_after : Plain → List Entry → Plain
account_after opening entries = fold (λ account entry. (entry_outcome account entry).account) opening entries

-- the reply at a place of a journal
abbrev pub reply_at : Journal → ℕ → Option Reply
reply_at journal place =
    option_map (λ entry. (entry_outcome (account_after journal.opening (take place journal.entries)) entry).reply) (slice_get journal.entries place)

-- a journal without entries
abbrev pub empty_journal : Plain → ℕ → Journal
empty_journal opening most = record { opening = opening; most = most; entries = [] }

-- a journal with one more entry
abbrev pub with_entry : Journal → Entry → Journal
with_entry journal entry = record journal { entries = journal.entries ++ entry ∷ [] }

-- a legal journal
pub record IsLegal (journal : Journal) : Type 0 where
  pub opening : IsValid journal.opening
  pub requests : All (λ entry. IsFitRequest entry.request) journal.entries
  pub tickets : IsStrictlyIncreasing (map (λ entry. entry.ticket) journal.entries)
  pub within : length journal.entries ≤ journal.most
