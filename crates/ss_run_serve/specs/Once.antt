-- What one term of a server does.
use Rattle.std.specs.Prelude.{◌≡◌, ◌≢◌, ◌≤◌, ◌⊎◌, ℕ, Bool, List, length, map, Option, Some, None, All, Any, ⊤}
use Rattle.std.specs.List.Sorted.{IsPermutation}
use Rattle.ss_outside.specs.Told.{Meanings}
use Rattle.ss_outside.specs.Causes.{Rose}
use Rattle.ss_links.specs.Counts.{RoseBy}
use Rattle.ss_links.specs.Ports.{Accepts}
use Rattle.ss_links.specs.Stores.{Files}
use Rattle.ss_site.specs.Sites.{CallFailed, Counts, Term, HasAdded}
use Rattle.ss_route.specs.declared.manner.Manner.{Manner}
use Rattle.ss_serve.specs.declared.report.LinkReport.{LinkReport}
use Rattle.ss_serve.specs.declared.report.TermStop.{TermStop}
use Rattle.ss_serve.specs.declared.report.TermStop.TheVariants as ended
use Rattle.ss_serve.specs.Reports.{AreAllGated}
use Rattle.ss_serve.specs.Terms.{GaveAll, HasRested, IsTerm}
use Rattle.ss_run_serve.specs.declared.stop.Stop.{Stop}
use Rattle.ss_run_serve.specs.declared.stop.Stop.TheVariants as stops
use Rattle.ss_run_serve.specs.Hosted.{HostedAccount, journal_in}
use Rattle.ss_run_serve.specs.Retiring.{uids_in}
use Rattle.ss_run_serve.specs.Terms.{IsOneLeft}
use Rattle.ss_run_serve.specs.Logs.{logs_of_term, AreLoggedOnce}

-- a site that isn't told a term failed and counts that, or no memory was found
abbrev pub IsUntold : Counts → Counts → Stop → Type 0
IsUntold old new stops.Site = CallFailed old new
IsUntold old new stops.Memory = new ≡ old
IsUntold old new _ = ⊥

-- the keeper of an account had failed before its journal began, or has failed now
abbrev pub HasFailed : ℕ × HostedAccount → Type 0
HasFailed account = (account.1.fixed.faults ≢ 0) ⊎ (account.1.faults ≢ 0)

-- a further term follows where the port has not ended
abbrev pub TermsGoOn : Accepts → Option Stop → Type 0
TermsGoOn port next = ((next ≡ None) × (port.ends ≡ 0)) ⊎ ((next ≡ Some stops.PortEnded) × (port.ends ≢ 0))

-- what follows on how a term ended: where the port gave all its links or rested, and has not ended, a further term
abbrev pub Follows : TermStop → Accepts → Option Stop → Type 0
Follows ended.Port port next = next ≡ Some stops.Port
Follows ended.PortEnded port next = next ≡ Some stops.PortEnded
Follows ended.Memory port next = next ≡ Some stops.Memory
Follows (ended.Town fault) port next = next ≡ Some stops.Memory
Follows ended.Connections port next = TermsGoOn port next
Follows ended.Rested port next = TermsGoOn port next
Follows (ended.Full uid) port next = TermsGoOn port next

-- Why no term follows, by the port's counts: where one follows, the port gave all the links of a term or rested in it, and has not
-- ended
abbrev pub IsLast : ℕ → Accepts → Accepts → Option Stop → Type 0
IsLast connections old new None = (GaveAll connections old new ⊎ HasRested connections old new) × (new.ends ≡ 0)
IsLast connections old new (Some stops.PortEnded) = new.ends ≢ 0
IsLast connections old new (Some stops.Port) = new.faults ≢ 0
IsLast connections old new (Some stops.Memory) = ⊤
IsLast connections old new (Some stops.Logs) = ⊤
IsLast connections old new (Some _) = ⊥

-- How things stand between two terms: the accounts, what each clock is to read, the terms that the site was told, its counts, what its
-- port has given, and the files of logs.
pub record Standing (L : Type 0) : Type 0 where
  pub accounts : List (ℕ × HostedAccount)
  pub coming : List (Option (List ℕ))
  pub terms : Option (List (Term (LinkReport L)))
  pub counts : Counts
  pub port : Accepts
  pub logs : Option Files

module _ {L : Type 0} where
  abbrev pub stand : List (ℕ × HostedAccount) → List (Option (List ℕ)) → Option (List (Term (LinkReport L))) → Counts → Accepts → Option Files → Standing L
  stand accounts coming terms counts port logs = record { accounts = accounts; coming = coming; terms = terms; counts = counts; port = port; logs = logs }

  -- no term took place: the accounts come back as they were left, and the server stops
  pub record IsLost (last : Option Stop) (before after : Standing L) : Type 0 where
    pub stop : Stop
    pub is : last ≡ Some stop
    pub why : IsUntold before.counts after.counts stop
    pub untold : after.terms ≡ before.terms
    pub unlogged : after.logs ≡ before.logs
    pub links : after.port.links ≡ before.port.links
    pub left : All (IsOneLeft before.accounts) after.accounts
    pub uids : IsPermutation (uids_in before.accounts) (uids_in after.accounts)
    pub failed : Any HasFailed before.accounts → Any HasFailed after.accounts

  module _ (manner : Manner) (tells : L → Meanings) (closed : L → Bool) (says : ℕ → ℕ → Bool → Type 0) where
    -- a term took place in this manner: its reports are of all links that the port gave, and its journals those of the accounts that come back.
    -- Of each response the server's gate was asked
    pub record TookPlace (given handed : List (ℕ × HostedAccount)) (coming coming' : List (Option (List ℕ))) (connections : ℕ) (port port' : Accepts) (term : Term (LinkReport L)) : Type 0 where
      pub journals : term.journals ≡ map (λ account. (account.0, journal_in account.1)) handed
      pub served : IsTerm (λ account. account.fixed) (λ account. account.entries) (λ account. account.faults) manner tells closed given handed term.reports coming coming'
      pub gated : AreAllGated says term.reports
      pub links : RoseBy (length term.reports) port.links port'.links
      pub few : length term.reports ≤ connections

    -- a term took place and the site wasn't told: the server stops
    pub record IsUnheard (connections : ℕ) (last : Option Stop) (before after : Standing L) : Type 0 where
      pub stop : Stop
      pub is : last ≡ Some stop
      pub why : IsUntold before.counts after.counts stop
      pub untold : after.terms ≡ before.terms
      pub unlogged : after.logs ≡ before.logs
      pub term : Term (LinkReport L)
      pub took : TookPlace before.accounts after.accounts before.coming after.coming connections before.port after.port term

    -- a term took place, the site was told, and then the logs were saved
    pub record IsToldTerm (connections number : ℕ) (last : Option Stop) (before after : Standing L) : Type 0 where
      pub term : Term (LinkReport L)
      pub told : HasAdded term before.terms after.terms
      pub took : TookPlace before.accounts after.accounts before.coming after.coming connections before.port after.port term
      pub counts : after.counts ≡ before.counts
      pub why : IsLast connections before.port after.port last
      pub logged : AreLoggedOnce last (logs_of_term number term.journals) before.logs after.logs

    -- one of the three: at most so many connections are served, the term has this number, and no further one follows for this cause
    abbrev pub IsOnce : ℕ → ℕ → Option Stop → Standing L → Standing L → Type 0
    IsOnce connections number last before after = IsLost last before after ⊎ IsUnheard connections last before after ⊎ IsToldTerm connections number last before after
