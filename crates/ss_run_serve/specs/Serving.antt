-- What a server does.
use Rattle.std.specs.Prelude.{◌≡◌, ◌≢◌, ◌<◌, ◌⊎◌, ℕ, Bool, List, [], length, map, replicate, Option, Some, All, Any}
use Rattle.std.specs.Prelude.{Contains, ⊤}
use Rattle.std.specs.List.Sorted.{IsPermutation}
use Rattle.ss_outside.specs.Told.{Meanings}
use Rattle.ss_outside.specs.Causes.{Rose}
use Rattle.ss_links.specs.Counts.{RoseBy}
use Rattle.ss_links.specs.Stores.{Files}
use Rattle.ss_account.specs.Keeping.{IsKeptAccount}
use Rattle.ss_account.specs.Opening.{IsFaultOf}
use Rattle.ss_site.specs.Sites.{Counts, Entries, TellsStill, Term}
use Rattle.ss_words.specs.declared.commands.ServeCommand.{ServeCommand}
use Rattle.ss_words.specs.declared.commands.Command.{Command}
use Rattle.ss_words.specs.declared.commands.Command.TheVariants.{Serve}
use Rattle.ss_words.specs.Commands.{Asks}
use Rattle.ss_serve.specs.declared.report.LinkReport.{LinkReport}
use Rattle.ss_run_serve.specs.declared.stop.Stop.{Stop}
use Rattle.ss_run_serve.specs.declared.stop.Stop.TheVariants as stops
use Rattle.ss_run_serve.specs.declared.endings.Ending.{Ending}
use Rattle.ss_run_serve.specs.declared.endings.Ending.TheVariants.{Stopped, OtherWords, Memory}
use Rattle.ss_run_serve.specs.Hosted.{HostedAccount, left_by}
use Rattle.ss_run_serve.specs.Opening.{AreAsBefore, IsBad, OpensAccount, IsWhyUnopened}
use Rattle.ss_run_serve.specs.Refusals.{IsRefusedAs}
use Rattle.ss_run_serve.specs.Retiring.{uids_in}
use Rattle.ss_run_serve.specs.Terms.{links_of, AreTerms, AreToldTerms, KeeperFailed}
use Rattle.ss_run_serve.specs.Course.{AreWithin, IsServedOut, IsToldOf}
use Rattle.ss_run_serve.specs.Logs.{AreLoggedAt}

-- what a site counts, the terms that it tells, the entries that it tells, the logs, and what each clock that it gives reads
pub record ServedSite (R : Type 0) : Type 0 where
  pub counts : Counts
  pub terms : Option (List (Term R))
  pub kept : Option Entries
  pub logs : Option Files
  pub readings : Option (List ℕ)

-- of the entries that are told, all but those of these uids in this folder are as they were
abbrev pub OthersStay : List ℕ → List ℕ → Option Entries → Option Entries → Type 0
OthersStay folder uids old new =
    (after : Entries) → new ≡ Some after → (before : Entries) × (old ≡ Some before) × ((f : List ℕ) (uid : ℕ) → ((f ≢ folder) ⊎ ¬ Contains uids uid) → after f uid ≡ before f uid)

-- where the entries are told, what is kept under each of these uids is the account that the journal of its account leaves
abbrev pub AreKeptAccounts : List ℕ → List ℕ → List (ℕ × HostedAccount) → Option Entries → Type 0
AreKeptAccounts folder uids accounts kept =
    (entries : Entries) → kept ≡ Some entries → (uid : ℕ) → Contains uids uid → Any (λ account. (account.0 ≡ uid) × IsKeptAccount (entries folder uid) (left_by account.1)) accounts

module _ {L : Type 0} where
  -- no account was served: there are no terms and no links, and what is kept is as it was
  pub record NoneServed (terms : List (Term (LinkReport L))) (old new : ServedSite (LinkReport L)) : Type 0 where
    pub none : terms ≡ []
    pub links : new.counts.links ≡ old.counts.links
    pub kept : AreAsBefore old.kept new.kept

  -- Why a server stopped. Want of memory has no cause here; which of the site's own calls failed says `IsRefusedAs`
  abbrev pub HasStopped : ServeCommand → List (Term (LinkReport L)) → ServedSite (LinkReport L) → ServedSite (LinkReport L) → Stop → Type 0
  HasStopped command terms old new stops.PortEnded = Rose old.counts.ends new.counts.ends × (terms ≢ [])
  HasStopped command terms old new stops.Terms = IsServedOut command.connections command.terms terms old.counts new.counts
  HasStopped command terms old new stops.Port = Rose old.counts.faults new.counts.faults × (terms ≢ [])
  HasStopped command terms old new stops.Site = Rose old.counts.faults new.counts.faults
  HasStopped command terms old new (stops.Damaged uid) = Contains command.uids uid × Rose old.counts.faults new.counts.faults × NoneServed terms old new
  HasStopped command terms old new (stops.Keeper uid) = Contains command.uids uid × Rose old.counts.faults new.counts.faults × NoneServed terms old new
  HasStopped command terms old new (stops.Account uid fault) =
      Contains command.uids uid × IsBad fault × ((entries : Entries) → old.kept ≡ Some entries → IsFaultOf (entries command.folder uid) fault) × NoneServed terms old new
  HasStopped command terms old new stops.Memory = ⊤
  HasStopped command terms old new stops.Logs = Rose old.counts.faults new.counts.faults

  module _ (tells : L → Meanings) (closed : L → Bool) (says : ℕ → ℕ → Bool → Type 0) where
    -- the listed accounts were opened from their entries, with one clock of the site for each worker, of which none was read, and then
    -- served by these terms, in the command's manner of reading conditions, no more than were asked, each of at most so many connections.
    -- There are as many reports as the port gave links, and what is kept of each listed account is what the last term left of it
    pub record AreServedBy (command : ServeCommand) (terms : List (Term (LinkReport L))) (old new : ServedSite (LinkReport L)) : Type 0 where
      pub opened : List (ℕ × HostedAccount)
      pub uids : uids_in opened ≡ command.uids
      pub from : All (OpensAccount command.folder old.kept) opened
      pub handed : List (ℕ × HostedAccount)
      pub coming' : List (Option (List ℕ))
      pub are : AreTerms command.manner tells closed says opened (replicate command.workers old.readings) terms handed coming'
      pub within : AreWithin command.connections command.terms terms
      pub links : RoseBy (links_of terms) old.counts.links new.counts.links
      pub back : IsPermutation command.uids (uids_in handed)
      pub kept : AreKeptAccounts command.folder command.uids handed new.kept

    -- What a server did that stopped so, by what its site tells before and after
    pub record IsServerRun (command : ServeCommand) (stop : Stop) (old new : ServedSite (LinkReport L)) : Type 0 where
      -- the terms that it served, and those of them that the site was told: all, or after a fault of the site or for want of memory
      -- perhaps all but the last
      pub terms : List (Term (LinkReport L))
      pub told : List (Term (LinkReport L))
      pub are_told : AreToldTerms told old.terms new.terms
      pub of : IsToldOf stop terms told
      -- whatever the stop, all of them count: no account was served, or what is kept is what they left
      pub served : NoneServed terms old new ⊎ AreServedBy command terms old new
      -- where a journal says that a keeper failed, the site has counted a fault
      pub faults : KeeperFailed terms → Rose old.counts.faults new.counts.faults
      pub others : OthersStay command.folder command.uids old.kept new.kept
      pub stopped : HasStopped command terms old new stop
      -- a call of the site itself failed, or found no account, exactly where the stop says so
      pub refused : IsRefusedAs stop old.counts.refused new.counts.refused
      -- where the site told its entries, it tells them
      pub stays : TellsStill old.kept new.kept
      -- where the words name a folder for logs, the logs of the terms that the site was told were saved, unless they are too large, each
      -- under its account's name and its term's number: all, or after a fault of their store or for want of memory some that come first
      pub logged : AreLoggedAt command.logs stop told old.logs new.logs

    -- The words ask for a server, it was one, and the run ends with why it stopped; or they ask none, and nothing was done. The same
    -- where no memory was found to read them
    pub data Runs (words : List (List ℕ)) (ending : Ending) (old new : ServedSite (LinkReport L)) : Type 0 where
      serves : (command : ServeCommand) (stop : Stop) → Asks words (Serve command) → ending ≡ Stopped stop → IsServerRun command stop old new → Runs words ending old new
      asks_nothing : ((command : ServeCommand) → Asks words (Serve command) → ⊥) → ending ≡ OtherWords → new ≡ old → Runs words ending old new
      out_of_memory : ending ≡ Memory → new ≡ old → Runs words ending old new
