-- What the terms of a server come to.
use Rattle.std.specs.Prelude.{◌≡◌, ◌≢◌, ◌≤◌, ◌⊎◌, ℕ, Bool, List, [], ◌∷◌, ◌++◌, length, Option, All, Any, ⊤}
use Rattle.std.specs.List.Sorted.{IsPermutation}
use Rattle.ss_outside.specs.Told.{Meanings}
use Rattle.ss_outside.specs.Causes.{Rose}
use Rattle.ss_bso.specs.Validity.{SameAccount}
use Rattle.ss_links.specs.Counts.{RoseBy}
use Rattle.ss_links.specs.Ports.{Accepts}
use Rattle.ss_links.specs.Stores.{Files}
use Rattle.ss_site.specs.Sites.{Counts, Term}
use Rattle.ss_route.specs.declared.manner.Manner.{Manner}
use Rattle.ss_serve.specs.declared.report.LinkReport.{LinkReport}
use Rattle.ss_run_serve.specs.declared.stop.Stop.{Stop}
use Rattle.ss_run_serve.specs.declared.stop.Stop.TheVariants as stops
use Rattle.ss_run_serve.specs.Hosted.{HostedAccount, left_by}
use Rattle.ss_run_serve.specs.Refusals.{IsRefusedAs}
use Rattle.ss_run_serve.specs.Opening.{CountsFaults}
use Rattle.ss_run_serve.specs.Retiring.{uids_in}
use Rattle.ss_run_serve.specs.Terms.{links_of, short_of, AreTerms, AreToldTerms, IsOneLeft, KeeperFailed}
use Rattle.ss_run_serve.specs.Once.{HasFailed}
use Rattle.ss_run_serve.specs.Logs.{logs_of, AreLoggedUntil}

-- the same account, over a keeper that has not failed meanwhile
pub record SameKeeper (before after : ℕ × HostedAccount) : Type 0 where
  pub uid : after.0 ≡ before.0
  pub faults : after.1.faults ≡ before.1.faults
  pub left : SameAccount (left_by before.1) (left_by after.1)

module _ {L : Type 0} where
  -- no term has more than so many connections, and there are no more terms than were asked, where a number was asked
  pub record AreWithin (connections asked : ℕ) (terms : List (Term (LinkReport L))) : Type 0 where
    pub few : All (λ term. length term.reports ≤ connections) terms
    pub most : asked ≢ 0 → length terms ≤ asked

  -- the site was told all of these terms, or all but the last
  abbrev pub MayLackLast : List (Term (LinkReport L)) → List (Term (LinkReport L)) → Type 0
  MayLackLast terms told = (told ≡ terms) ⊎ ((last : Term (LinkReport L)) × (terms ≡ told ++ last ∷ []))

  -- Which of the terms the site was told: all of them. Where it failed, or no memory was found, the last one may be missing
  abbrev pub IsToldOf : Stop → List (Term (LinkReport L)) → List (Term (LinkReport L)) → Type 0
  IsToldOf stops.Site terms told = MayLackLast terms told
  IsToldOf stops.Memory terms told = MayLackLast terms told
  IsToldOf _ terms told = told ≡ terms

  -- why no further term begins, by the port's counts and the site's
  abbrev pub Stops : ℕ → ℕ → List (Term (LinkReport L)) → Accepts → Counts → Counts → Stop → Type 0
  Stops connections asked terms port old new stops.PortEnded = (port.ends ≢ 0) × (terms ≢ [])
  Stops connections asked terms port old new stops.Terms = (asked ≢ 0) × (length terms ≡ asked) × RoseBy (short_of connections terms) 0 port.rests
  Stops connections asked terms port old new stops.Port = (port.faults ≢ 0) × (terms ≢ [])
  Stops connections asked terms port old new stops.Site = Rose old.faults new.faults
  Stops connections asked terms port old new stops.Memory = ⊤
  Stops connections asked terms port old new stops.Logs = ⊤
  Stops connections asked terms port old new _ = ⊥

  module _ (manner : Manner) (tells : L → Meanings) (closed : L → Bool) (says : ℕ → ℕ → Bool → Type 0) where
    -- the terms of accounts and clocks, in one manner, of so many connections each, and of these as many as were asked or without end; the logs of
    -- those that the site was told, from this number on; the accounts that come back then are those that the last one left; and why
    pub record Course (opened : List (ℕ × HostedAccount)) (coming : List (Option (List ℕ))) (connections asked : ℕ) (before after : Option (List (Term (LinkReport L)))) (old new : Counts) (port : Accepts)
        (accounts : List (ℕ × HostedAccount)) (stop : Stop) (number : ℕ) (logs logs' : Option Files) : Type 0 where
      pub terms : List (Term (LinkReport L))
      pub told : List (Term (LinkReport L))
      pub are_told : AreToldTerms told before after
      pub of : IsToldOf stop terms told
      pub logged : AreLoggedUntil stop (logs_of number told) logs logs'
      pub handed : List (ℕ × HostedAccount)
      pub coming' : List (Option (List ℕ))
      pub are : AreTerms manner tells closed says opened coming terms handed coming'
      pub within : AreWithin connections asked terms
      pub links : RoseBy (links_of terms) 0 port.links
      pub back : IsPermutation (uids_in opened) (uids_in handed)
      pub left : All (IsOneLeft handed) accounts
      pub failed : KeeperFailed terms → Any HasFailed accounts
      pub uids : IsPermutation (uids_in opened) (uids_in accounts)
      pub counts : CountsFaults old new
      pub refused : IsRefusedAs stop old.refused new.refused
      pub stops : Stops connections asked terms port old new stop

module _ {L : Type 0} where
  -- as many terms were served as was asked, each with as many connections as one may have, but for those in which the port rested: as
  -- many as it rested times
  pub record IsServedOut (connections asked : ℕ) (terms : List (Term (LinkReport L))) (old new : Counts) : Type 0 where
    pub stated : asked ≢ 0
    pub count : length terms ≡ asked
    pub rested : RoseBy (short_of connections terms) old.rests new.rests

  -- why accounts that are open are served no longer, by the site's counts once the port was shut
  abbrev pub ServedUntil : ℕ → ℕ → List (Term (LinkReport L)) → Counts → Counts → Stop → Type 0
  ServedUntil connections asked terms old new stops.PortEnded = Rose old.ends new.ends × (terms ≢ [])
  ServedUntil connections asked terms old new stops.Terms = IsServedOut connections asked terms old new
  ServedUntil connections asked terms old new stops.Port = Rose old.faults new.faults × (terms ≢ [])
  ServedUntil connections asked terms old new stops.Site = Rose old.faults new.faults
  ServedUntil connections asked terms old new stops.Memory = ⊤
  ServedUntil connections asked terms old new stops.Logs = ⊤
  ServedUntil connections asked terms old new _ = ⊥

  module _ (manner : Manner) (tells : L → Meanings) (closed : L → Bool) (says : ℕ → ℕ → Bool → Type 0) where
    -- what came of accounts that are open, once the port was shut: none were served, and they come back as they are, or these terms
    -- served them in this manner, with clocks of which this is to come; all links are counted that are reported; and what is said of the logs
    -- of the terms that the site was told
    pub record CameTo (opened : List (ℕ × HostedAccount)) (coming : List (Option (List ℕ))) (connections asked : ℕ) (before after : Option (List (Term (LinkReport L)))) (old new : Counts) (accounts : List (ℕ × HostedAccount)) (stop : Stop)
        (Logged : List (Term (LinkReport L)) → Type 0) : Type 0 where
      pub terms : List (Term (LinkReport L))
      pub told : List (Term (LinkReport L))
      pub are_told : AreToldTerms told before after
      pub of : IsToldOf stop terms told
      pub logged : Logged told
      pub handed : List (ℕ × HostedAccount)
      pub served : ((terms ≡ []) × (accounts ≡ opened)) ⊎ ((coming' : List (Option (List ℕ))) × AreTerms manner tells closed says opened coming terms handed coming')
      pub within : AreWithin connections asked terms
      pub links : RoseBy (links_of terms) old.links new.links
      pub back : IsPermutation (uids_in opened) (uids_in handed)
      pub left : All (IsOneLeft handed) accounts
      pub failed : KeeperFailed terms → Any HasFailed accounts
      pub uids : IsPermutation (uids_in opened) (uids_in accounts)
      pub faults : old.faults ≤ new.faults
      pub refused : IsRefusedAs stop old.refused new.refused
      pub until : ServedUntil connections asked terms old new stop
