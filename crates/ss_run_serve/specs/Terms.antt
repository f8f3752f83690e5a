-- The terms of a server, one after the other.
use Rattle.std.specs.Prelude.{◌≡◌, ◌≢◌, ℕ, ◌+◌, nat_lt, if◌then◌else◌, Bool, List, [], ◌∷◌, ◌++◌, length, map, sum_by}
use Rattle.std.specs.Prelude.{Option, All, Any}
use Rattle.std.specs.Option.{option_map}
use Rattle.std.specs.List.{AllZip}
use Rattle.ss_outside.specs.Told.{Meanings}
use Rattle.ss_bso.specs.Validity.{SameAccount}
use Rattle.ss_booked.specs.Sound.{keeper_marks}
use Rattle.ss_site.specs.Sites.{Term}
use Rattle.ss_route.specs.declared.manner.Manner.{Manner}
use Rattle.ss_serve.specs.declared.report.LinkReport.{LinkReport}
use Rattle.ss_serve.specs.Reports.{AreAllGated}
use Rattle.ss_serve.specs.Terms.{IsTerm}
use Rattle.ss_run_serve.specs.Hosted.{HostedAccount, HasEmptyJournal, journal_in, left_by}

-- the account is one of those that were left: it has the uid of one, and is that account, whatever the order of its rows, collections
-- and batches
abbrev pub IsOneLeft : List (ℕ × HostedAccount) → ℕ × HostedAccount → Type 0
IsOneLeft left account = Any (λ other. (other.0 ≡ account.0) × SameAccount (left_by other.1) (left_by account.1)) left

-- the account with this uid begins anew from where it was left: it is the one that it was, and opens with the account that its
-- journal leaves, whatever the order of its rows, collections and batches, with the room that its journal had, over a keeper that
-- has not failed meanwhile
pub record BeginsAnew (left anew : ℕ × HostedAccount) : Type 0 where
  pub uid : anew.0 ≡ left.0
  pub own : anew.1.fixed.uid ≡ left.1.fixed.uid
  pub opening : SameAccount (left_by left.1) anew.1.fixed.opening
  pub begun : HasEmptyJournal anew.1
  pub most : anew.1.fixed.most ≡ left.1.fixed.most
  pub faults : anew.1.faults ≡ left.1.faults

module _ {L : Type 0} where
  -- as many links as terms have reports
  abbrev pub links_of : List (Term (LinkReport L)) → ℕ
  links_of terms = sum_by (λ term. length term.reports) terms

  -- how many of the terms have fewer reports than a term may have
  abbrev pub short_of : ℕ → List (Term (LinkReport L)) → ℕ
  short_of connections terms = sum_by (λ term. if nat_lt (length term.reports) connections then 1 else 0) terms

  -- a journal of some term says that a keeper failed
  abbrev pub KeeperFailed : List (Term (LinkReport L)) → Type 0
  KeeperFailed terms = Any (λ term. Any (λ journal. keeper_marks journal.1.entries ≢ 0) term.journals) terms

  -- these terms are told behind those that were told before
  abbrev pub AreToldTerms : List (Term (LinkReport L)) → Option (List (Term (LinkReport L))) → Option (List (Term (LinkReport L))) → Type 0
  AreToldTerms terms old new = new ≡ option_map (λ before. before ++ terms) old

  module _ (manner : Manner) (tells : L → Meanings) (closed : L → Bool) (says : ℕ → ℕ → Bool → Type 0) where
    -- A term of accounts that begin anew, in a manner of reading conditions: what it hands back, of which the site is told the reports and the journals. Of
    -- each response that is reported the server's gate was asked, which may say this
    pub record IsTermOf (left : List (ℕ × HostedAccount)) (coming : List (Option (List ℕ))) (term : Term (LinkReport L)) (handed : List (ℕ × HostedAccount)) (coming' : List (Option (List ℕ))) : Type 0 where
      pub given : List (ℕ × HostedAccount)
      pub anew : AllZip BeginsAnew left given
      pub journals : term.journals ≡ map (λ account. (account.0, journal_in account.1)) handed
      pub served : IsTerm (λ account. account.fixed) (λ account. account.entries) (λ account. account.faults) manner tells closed given handed term.reports coming coming'
      pub gated : AreAllGated says term.reports

    -- such terms, each from the accounts and the clocks that the one before handed back
    abbrev pub AreTerms : List (ℕ × HostedAccount) → List (Option (List ℕ)) → List (Term (LinkReport L)) → List (ℕ × HostedAccount) → List (Option (List ℕ)) → Type 0
    AreTerms left coming [] handed coming' = (handed ≡ left) × (coming' ≡ coming)
    AreTerms left coming (term ∷ terms) handed coming' =
        (between : List (ℕ × HostedAccount)) × (coming_between : List (Option (List ℕ))) × IsTermOf left coming term between coming_between × AreTerms between coming_between terms handed coming'
