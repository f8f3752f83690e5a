-- What a server did, once all that it got was given back.
use Rattle.std.specs.Prelude.{◌≡◌, ◌≢◌, ◌⊎◌, ◌≤◌, ℕ, Bool, List, [], ◌∷◌, length, map, replicate, Option, Some, All}
use Rattle.std.specs.Prelude.{Any, Contains, IfSome, refl}
use Rattle.std.specs.List.Sorted.{IsPermutation}
use Rattle.std.proofs.Common.{sym, ap, subst, ◌∙◌, inl, inr, arith}
use Rattle.std.proofs.lemmas.List.Elements.{All-contains, All-cons, All-head, All-nil, All-tail, All-weaker}
use Rattle.std.proofs.lemmas.List.Sorted.{Contains-permutation, IsPermutation-sym}
use Rattle.ss_outside.specs.Told.{Meanings}
use Rattle.ss_outside.specs.Causes.{Rose}
use Rattle.ss_links.specs.Counts.{RoseBy}
use Rattle.ss_links.specs.Stores.{Files}
use Rattle.ss_bso.specs.declared.changes.Kept.{Kept}
use Rattle.ss_account.specs.Keeping.{IsKeptAccount, IsKeptBy}
use Rattle.ss_account.specs.Opening.{IsFaultOf}
use Rattle.ss_site.specs.Sites.{Counts, Entries, IsEntry, TellsStill, Term}
use Rattle.ss_words.specs.declared.commands.ServeCommand.{ServeCommand}
use Rattle.ss_serve.specs.declared.report.LinkReport.{LinkReport}
use Rattle.ss_run_serve.specs.declared.stop.Stop.{Stop}
use Rattle.ss_run_serve.specs.declared.stop.Stop.TheVariants as stops
use Rattle.ss_run_serve.specs.Hosted.{HostedAccount, HasEmptyJournal, Stands, left_by}
use Rattle.ss_run_serve.specs.Opening.{AreAsBefore, CountsFaults, OpensAccount, IsWhyUnopened, RefusesOne}
use Rattle.ss_run_serve.specs.Refusals.{IsRefusedAs}
use Rattle.ss_run_serve.specs.Retiring.{uids_in, ComeBack, CountsKeepers, HaveRetired}
use Rattle.ss_run_serve.specs.Terms.{links_of, short_of, AreTerms, AreToldTerms, IsOneLeft, KeeperFailed}
use Rattle.ss_run_serve.specs.Once.{HasFailed}
use Rattle.ss_run_serve.specs.Course.{CameTo, ServedUntil}
use Rattle.ss_run_serve.specs.Logs.{AreLoggedAt, LogsFailed}
use Rattle.ss_run_serve.specs.Serving.{AreServedBy, AreKeptAccounts, HasStopped, IsServerRun, NoneServed, OthersStay}
use Rattle.ss_run_serve.specs.Serving.{ServedSite}
use Rattle.ss_run_serve.proofs.Anew.{kept_same}
use Rattle.ss_run_serve.proofs.Retired.{all_as_before, refused_on}
use Rattle.ss_run_serve.proofs.Progress.{all_of, any_of, told_none}
use Rattle.ss_run_serve.proofs.Rising.{rose_on, rose_after}
use Rattle.ss_run_serve.proofs.Saving.{none_logged_at}

-- an account whose keeper had failed before its journal began, or has failed now, has one that has failed
failed_now : (h : HostedAccount) → Stands h → (h.fixed.faults ≢ 0) ⊎ (h.faults ≢ 0) → h.faults ≢ 0
failed_now h stands (inl before) = λ none. before (omega (arith, stands.rose.later, none))
failed_now h stands (inr now) = now

-- what the keeper of an account told is the account that its journal leaves
kept_there : (h : HostedAccount) (kept : Kept) → Stands h → h.told ≡ Some kept → IsKeptAccount kept (left_by h)
kept_there h kept stands told =
    let is : IsKeptAccount kept h.plain = (let P : Option Kept → Type 0 = λ (t : Option Kept). IsKeptBy t h.plain in subst P told stands.kept) in
    kept_same kept (left_by h) h.plain stands.leaves is

pub opened_begun : (folder : List ℕ) (kept : Option Entries) (opened : List (ℕ × HostedAccount)) → All (OpensAccount folder kept) opened → All (λ (a : ℕ × HostedAccount). HasEmptyJournal a.1) opened
opened_begun folder kept [] all = All-nil (λ (a : ℕ × HostedAccount). HasEmptyJournal a.1)
opened_begun folder kept (a ∷ opened) all =
    All-cons (λ (a : ℕ × HostedAccount). HasEmptyJournal a.1) a opened (All-head (OpensAccount folder kept) a opened all).begun (opened_begun folder kept opened (All-tail (OpensAccount folder kept) a opened all))

pub opened_uids : {B : Type 0} (view : B → HostedAccount) (uids : List ℕ) (xs : List (ℕ × B)) → map (λ (a : ℕ × B). a.0) xs ≡ uids → uids_in (map (λ (a : ℕ × B). (a.0, view a.1)) xs) ≡ uids
opened_uids {B} view uids xs is = same xs ∙ is
  where
    same : (xs : List (ℕ × B)) → uids_in (map (λ (a : ℕ × B). (a.0, view a.1)) xs) ≡ map (λ (a : ℕ × B). a.0) xs
    same [] = refl
    same (x ∷ xs) = ap (λ (us : List ℕ). x.0 ∷ us) (same xs)

pub refused_same : (kept : Option Entries) (old new : Counts) (folder folder' uids uids' : List ℕ) (stop : Stop) → folder ≡ folder' → uids ≡ uids' → RefusesOne folder kept old new uids stop → RefusesOne folder' kept old new uids' stop
refused_same kept old new folder folder' uids uids' stop one two refused =
    subst (λ (us : List ℕ). RefusesOne folder' kept old new us stop) two (subst (λ (f : List ℕ). RefusesOne f kept old new uids stop) one refused)

module _ {L : Type 0} (tells : L → Meanings) (closed : L → Bool) (says : ℕ → ℕ → Bool → Type 0) where
  -- an account wasn't opened
  pub refused_all : (command : ServeCommand) (stop : Stop) (old new : ServedSite (LinkReport L)) → RefusesOne command.folder old.kept old.counts new.counts command.uids stop → IsRefusedAs stop old.counts.refused new.counts.refused → AreAsBefore old.kept new.kept → TellsStill old.kept new.kept
      → CountsFaults old.counts new.counts → new.terms ≡ old.terms → new.logs ≡ old.logs → IsServerRun tells closed says command stop old new
  refused_all command stop old new refused by before stays counted same unlogged = record {
    terms = [];
    told = [];
    are_told = subst (λ (t : Option (List (Term (LinkReport L)))). AreToldTerms [] old.terms t) (sym same) (told_none command.manner tells closed says old.terms);
    of = all_of command.manner tells closed says [] stop;
    served = inl none;
    faults = λ any. absurd (omega (arith, any.2));
    others = λ after is. (let b = before after is in (b.0, b.1, λ f uid apart. b.2 f uid));
    stopped = stopped refused;
    refused = by;
    stays = stays;
    logged = subst (λ (l : Option Files). AreLoggedAt {R = LinkReport L} command.logs stop [] old.logs l) (sym unlogged) (none_logged_at (LinkReport L) command.logs stop old.logs);
  }
    where
      none : NoneServed [] old new
      none = record { none = refl; links = counted.links; kept = before }

      why : (s : Stop) (uid : ℕ) → Contains command.uids uid → IsWhyUnopened command.folder old.kept old.counts new.counts uid s → HasStopped command [] old new s
      why stops.Site uid there is = is
      why (stops.Damaged u) uid there is = (subst (λ (v : ℕ). Contains command.uids v) (sym is.0) there, is.1, none)
      why (stops.Keeper u) uid there is = (subst (λ (v : ℕ). Contains command.uids v) (sym is.0) there, is.1, none)
      why (stops.Account u fault) uid there is = (subst (λ (v : ℕ). Contains command.uids v) (sym is.0) there, is.1, (λ entries kept. subst (λ (v : ℕ). IsFaultOf (entries command.folder v) fault) (sym is.0) (is.2 entries kept)), none)
      why stops.Memory uid there is = tt
      why stops.PortEnded uid there is = absurd is
      why stops.Terms uid there is = absurd is
      why stops.Port uid there is = absurd is
      why stops.Logs uid there is = absurd is

      stopped : (stop ≡ stops.Memory) ⊎ Any (λ (uid : ℕ). IsWhyUnopened command.folder old.kept old.counts new.counts uid stop) command.uids → HasStopped command [] old new stop
      stopped (inl memory) = subst (λ (s : Stop). HasStopped command [] old new s) (sym memory) tt
      stopped (inr any) = why stop any.1 (any.0, any.2, any.3) any.4

  -- accounts were opened, served, and given back
  pub served_all : (command : ServeCommand) (stop : Stop) (old mid new : ServedSite (LinkReport L)) (opened accounts : List (ℕ × HostedAccount)) → uids_in opened ≡ command.uids → All (OpensAccount command.folder old.kept) opened
      → CameTo command.manner tells closed says opened (replicate command.workers old.readings) command.connections command.terms old.terms mid.terms old.counts mid.counts accounts stop (λ told. AreLoggedAt command.logs stop told old.logs mid.logs)
      → LogsFailed old.counts mid.counts stop → mid.kept ≡ old.kept → new.terms ≡ mid.terms → new.logs ≡ mid.logs
      → HaveRetired command.folder accounts mid.kept new.kept → TellsStill mid.kept new.kept → CountsKeepers accounts mid.counts new.counts → All (λ (a : ℕ × HostedAccount). Stands a.1) accounts → IsServerRun tells closed says command stop old new
  served_all command stop old mid new opened accounts uids from came failed unchanged same unlogged retired stays counted stand = record {
    terms = came.terms;
    told = came.told;
    are_told = subst (λ (t : Option (List (Term (LinkReport L)))). AreToldTerms came.told old.terms t) (sym same) came.are_told;
    of = came.of;
    served = served came.served;
    faults = λ marked. rose_after old.counts.faults mid.counts.faults new.counts.faults came.faults (counted.some (faulty (came.failed marked)));
    others = λ after is.
        (let r = retired after is in
        (r.0, sym unchanged ∙ r.1, λ f uid apart. r.2.others f uid (unlisted uid f apart)));
    stopped = stopped stop came.until failed;
    refused = refused_on stop old.counts.refused mid.counts.refused new.counts.refused counted.refused came.refused;
    stays = subst (λ (k : Option Entries). TellsStill k new.kept) unchanged stays;
    logged = subst (λ (l : Option Files). AreLoggedAt command.logs stop came.told old.logs l) (sym unlogged) came.logged;
  }
    where
      moved : IsPermutation command.uids (uids_in accounts)
      moved = subst (λ (us : List ℕ). IsPermutation us (uids_in accounts)) uids came.uids

      moved_back : IsPermutation command.uids (uids_in came.handed)
      moved_back = subst (λ (us : List ℕ). IsPermutation us (uids_in came.handed)) uids came.back

      links : RoseBy (links_of came.terms) old.counts.links new.counts.links
      links = subst (λ (n : ℕ). RoseBy (links_of came.terms) old.counts.links n) (sym counted.links) came.links

      -- accounts that weren't served: their keepers told the entries
      untouched : accounts ≡ opened → AreAsBefore old.kept new.kept
      untouched is =
          let entries : All (λ (a : ℕ × HostedAccount). IsEntry command.folder a.0 a.1.told mid.kept) accounts = subst (λ (k : Option Entries). All (λ (a : ℕ × HostedAccount). IsEntry command.folder a.0 a.1.told k) accounts) (sym unchanged)
          (subst (λ (accs : List (ℕ × HostedAccount)). All (λ (a : ℕ × HostedAccount). IsEntry command.folder a.0 a.1.told old.kept) accs) (sym is)
          (All-weaker (OpensAccount command.folder old.kept) (λ (a : ℕ × HostedAccount). IsEntry command.folder a.0 a.1.told old.kept) (λ a o. o.entry) opened from)) in
          subst (λ (k : Option Entries). AreAsBefore k new.kept) unchanged (all_as_before command.folder accounts mid.kept new.kept entries retired)

      no_links : came.terms ≡ [] → new.counts.links ≡ old.counts.links
      no_links none = (let rose : RoseBy 0 old.counts.links new.counts.links = subst (λ (ts : List (Term (LinkReport L))). RoseBy (links_of ts) old.counts.links new.counts.links) none links in omega (arith, rose.later, rose.most))

      kept_of : (before entries : Entries) → ComeBack command.folder accounts before entries → (uid : ℕ) → Contains (uids_in accounts) uid
          → Any (λ (a : ℕ × HostedAccount). (a.0 ≡ uid) × IsKeptAccount (entries command.folder uid) (left_by a.1)) came.handed
      kept_of before entries back uid listed =
          let any = back.listed uid listed in
          let there : Contains accounts any.1 = (any.0, any.2, any.3) in
          let left = All-contains (IsOneLeft came.handed) accounts any.1 came.left there in
          let kept : IsKeptAccount (entries command.folder uid) (left_by any.1.1) = kept_there any.1.1 (entries command.folder uid) (All-contains (λ (a : ℕ × HostedAccount). Stands a.1) accounts any.1 stand there) any.4.1 in
          (left.0, left.1, left.2, left.3, (left.4.0 ∙ any.4.0, kept_same (entries command.folder uid) (left_by left.1.1) (left_by any.1.1) left.4.1 kept))

      served : (((came.terms ≡ []) × (accounts ≡ opened)) ⊎ ((coming' : List (Option (List ℕ))) × AreTerms command.manner tells closed says opened (replicate command.workers old.readings) came.terms came.handed coming'))
          → NoneServed came.terms old new ⊎ AreServedBy tells closed says command came.terms old new
      served (inl none) = inl (record { none = none.0; links = no_links none.0; kept = untouched none.1 })
      served (inr by) = inr (record {
        opened = opened;
        uids = uids;
        from = from;
        handed = came.handed;
        coming' = by.0;
        are = by.1;
        within = came.within;
        links = links;
        back = moved_back;
        kept = λ entries is uid listed. kept_of (retired entries is).0 entries (retired entries is).2 uid (Contains-permutation command.uids (uids_in accounts) uid moved listed);
      })

      faulty : Any HasFailed accounts → Any (λ (a : ℕ × HostedAccount). a.1.faults ≢ 0) accounts
      faulty any =
          let there : Contains accounts any.1 = (any.0, any.2, any.3) in
          any_of (λ (a : ℕ × HostedAccount). a.1.faults ≢ 0) accounts any.1 there (failed_now any.1.1 (All-contains (λ (a : ℕ × HostedAccount). Stands a.1) accounts any.1 stand there) any.4)

      unlisted : (uid : ℕ) (f : List ℕ) → ((f ≢ command.folder) ⊎ ¬ Contains command.uids uid) → (f ≢ command.folder) ⊎ ¬ Contains (uids_in accounts) uid
      unlisted uid f (inl apart) = inl apart
      unlisted uid f (inr not) = inr (λ there. not (Contains-permutation (uids_in accounts) command.uids uid (IsPermutation-sym command.uids (uids_in accounts) moved) there))

      rose : Rose old.counts.faults mid.counts.faults → Rose old.counts.faults new.counts.faults
      rose first = rose_on old.counts.faults mid.counts.faults new.counts.faults first counted.later

      stopped : (s : Stop) → ServedUntil command.connections command.terms came.terms old.counts mid.counts s → LogsFailed old.counts mid.counts s → HasStopped command came.terms old new s
      stopped stops.PortEnded why none = (subst (λ (n : ℕ). Rose old.counts.ends n) (sym counted.ends) why.0, why.1)
      stopped stops.Terms why none = record { stated = why.stated; count = why.count; rested = subst (λ (n : ℕ). RoseBy (short_of command.connections came.terms) old.counts.rests n) (sym counted.rests) why.rested }
      stopped stops.Port why none = (rose why.0, why.1)
      stopped stops.Site why none = rose why
      stopped stops.Memory why none = tt
      stopped (stops.Damaged uid) why none = absurd why
      stopped (stops.Keeper uid) why none = absurd why
      stopped (stops.Account uid fault) why none = absurd why
      stopped stops.Logs why lost = rose lost

  -- the same by what the site told once the accounts were opened
  pub served_open : (command : ServeCommand) (stop : Stop) (old first mid new : ServedSite (LinkReport L)) (opened accounts : List (ℕ × HostedAccount)) → uids_in opened ≡ command.uids → All (OpensAccount command.folder old.kept) opened
      → first.counts ≡ old.counts → first.kept ≡ old.kept → first.terms ≡ old.terms → first.logs ≡ old.logs → first.readings ≡ old.readings
      → CameTo command.manner tells closed says opened (replicate command.workers first.readings) command.connections command.terms first.terms mid.terms first.counts mid.counts accounts stop (λ told. AreLoggedAt command.logs stop told first.logs mid.logs)
      → LogsFailed first.counts mid.counts stop → mid.kept ≡ first.kept → new.terms ≡ mid.terms → new.logs ≡ mid.logs
      → HaveRetired command.folder accounts mid.kept new.kept → TellsStill mid.kept new.kept → CountsKeepers accounts mid.counts new.counts → All (λ (a : ℕ × HostedAccount). Stands a.1) accounts → IsServerRun tells closed says command stop old new
  served_open command stop old first mid new opened accounts uids from counts kept terms logs readings came failed unchanged same unlogged retired stays counted stand =
      let came : CameTo command.manner tells closed says opened (replicate command.workers old.readings) command.connections command.terms first.terms mid.terms first.counts mid.counts accounts stop (λ told. AreLoggedAt command.logs stop told first.logs mid.logs) =
      subst (λ (r : Option (List ℕ)). CameTo command.manner tells closed says opened (replicate command.workers r) command.connections command.terms first.terms mid.terms first.counts mid.counts accounts stop (λ told. AreLoggedAt command.logs stop told first.logs mid.logs)) readings came in
      let logged : CameTo command.manner tells closed says opened (replicate command.workers old.readings) command.connections command.terms first.terms mid.terms first.counts mid.counts accounts stop (λ told. AreLoggedAt command.logs stop told old.logs mid.logs) =
      subst (λ (l : Option Files). CameTo command.manner tells closed says opened (replicate command.workers old.readings) command.connections command.terms first.terms mid.terms first.counts mid.counts accounts stop (λ told. AreLoggedAt command.logs stop told l mid.logs)) logs came in
      served_all command stop old mid new opened accounts uids from
      (subst (λ (t : Option (List (Term (LinkReport L)))). CameTo command.manner tells closed says opened (replicate command.workers old.readings) command.connections command.terms t mid.terms old.counts mid.counts accounts stop (λ told. AreLoggedAt command.logs stop told old.logs mid.logs)) terms
      (subst (λ (n : Counts). CameTo command.manner tells closed says opened (replicate command.workers old.readings) command.connections command.terms first.terms mid.terms n mid.counts accounts stop (λ told. AreLoggedAt command.logs stop told old.logs mid.logs)) counts logged))
      (subst (λ (n : Counts). LogsFailed n mid.counts stop) counts failed) (unchanged ∙ kept) same unlogged retired stays counted stand
