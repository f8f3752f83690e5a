-- What came of accounts that were open, once the store of their logs came back.
use Rattle.std.specs.Prelude.{◌≡◌, ◌≢◌, ◌≤◌, ◌⊎◌, ◌++◌, ◌∷◌, [], ℕ, zero, suc, Bool, true, false, List, Option, Some}
use Rattle.std.specs.Prelude.{None, is_some, refl}
use Rattle.std.specs.Option.{option_map_or}
use Rattle.std.proofs.Common.{sym, ap, subst, ◌∙◌, inl, inr, arith}
use Rattle.ss_route.specs.declared.manner.Manner.{Manner}
use Rattle.ss_outside.specs.Told.{Meanings}
use Rattle.ss_outside.specs.Causes.{Rose}
use Rattle.ss_links.specs.Counts.{RoseBy}
use Rattle.ss_links.specs.Stores.{Files}
use Rattle.ss_site.specs.Sites.{Counts, CountsKeeper, IsBack, LentParts, Term}
use Rattle.ss_serve.specs.declared.report.LinkReport.{LinkReport}
use Rattle.ss_words.specs.declared.commands.LogFolder.{LogFolder}
use Rattle.ss_run_serve.specs.declared.stop.Stop.{Stop}
use Rattle.ss_run_serve.specs.declared.stop.Stop.TheVariants as stops
use Rattle.ss_run_serve.specs.Hosted.{HostedAccount}
use Rattle.ss_run_serve.specs.Lending.{AllAreBack, ListensAt}
use Rattle.ss_run_serve.specs.Terms.{links_of, short_of}
use Rattle.ss_run_serve.specs.Once.{IsUntold}
use Rattle.ss_run_serve.specs.Course.{CameTo, ServedUntil}
use Rattle.ss_run_serve.specs.Logs.{logs_of, AreLoggedUntil, AreLoggedAt, AreSavedLogs, HasCut, LogsFailed}
use Rattle.ss_run_serve.specs.declared.logbook.Logbook.{Logbook}
use Rattle.ss_run_serve.specs.Logbooks.{is_kept, failures_in, IsBookOf, IsLentFor, LeavesLogs, ClosesBook}
use Rattle.ss_run_serve.proofs.Lent.{none_out, one_back, one_out, out_then}
use Rattle.ss_run_serve.proofs.Rising.{rose_on}
use Rattle.ss_run_serve.proofs.Retired.{counts_one, refused_on}

-- the counts of faults and no others rose
record Rises (old new : Counts) : Type 0 where
  pub faults : old.faults ≤ new.faults
  pub refused : new.refused ≡ old.refused
  pub links : new.links ≡ old.links
  pub ends : new.ends ≡ old.ends
  pub rests : new.rests ≡ old.rests

rises_none : (old new : Counts) → new ≡ old → Rises old new
rises_none old new same = record {
  faults = omega (arith, ap (λ (c : Counts). c.faults) same);
  refused = ap (λ (c : Counts). c.refused) same;
  links = ap (λ (c : Counts). c.links) same;
  ends = ap (λ (c : Counts). c.ends) same;
  rests = ap (λ (c : Counts). c.rests) same;
}

closed_rises : (kept : Bool) (files : Option Files) (faults : ℕ) (old new : Counts) (logs logs' : Option Files) (lent lent' : LentParts) → ClosesBook kept files faults old new logs logs' lent lent' → Rises old new
closed_rises false files faults old new logs logs' lent lent' closed = rises_none old new closed.0
closed_rises true files faults old new logs logs' lent lent' closed =
    let counted = counts_one faults old new closed.0 in
    record { faults = counted.faults; refused = closed.0.refused; links = counted.links; ends = counted.ends; rests = counted.rests }

-- where the store failed the site counts that
closed_fails : (kept : Bool) (files : Option Files) (faults : ℕ) (old new : Counts) (logs logs' : Option Files) (lent lent' : LentParts) → (kept ≡ false → faults ≡ 0) → ClosesBook kept files faults old new logs logs' lent lent' → faults ≢ 0 → Rose old.faults new.faults
closed_fails false files faults old new logs logs' lent lent' unkept closed some = absurd (some (unkept refl))
closed_fails true files faults old new logs logs' lent lent' unkept closed some = closed.0.faults.some some

-- the first counts are the same
pub closed_failed : (kept : Bool) (files : Option Files) (faults : ℕ) (first old new : Counts) (logs logs' : Option Files) (lent lent' : LentParts) (stop : Stop) → (kept ≡ false → faults ≡ 0) → ClosesBook kept files faults old new logs logs' lent lent' → first.faults ≤ old.faults
    → HasCut faults stop → LogsFailed first new stop
closed_failed kept files faults first old new logs logs' lent lent' stops.Logs unkept closed later cut =
    let rose = closed_fails kept files faults old new logs logs' lent lent' unkept closed cut in
    record { later = omega (arith, later, rose.later); risen = omega (arith, later, rose.risen) }
closed_failed kept files faults first old new logs logs' lent lent' stops.PortEnded unkept closed later cut = tt
closed_failed kept files faults first old new logs logs' lent lent' stops.Terms unkept closed later cut = tt
closed_failed kept files faults first old new logs logs' lent lent' stops.Site unkept closed later cut = tt
closed_failed kept files faults first old new logs logs' lent lent' (stops.Damaged uid) unkept closed later cut = tt
closed_failed kept files faults first old new logs logs' lent lent' (stops.Keeper uid) unkept closed later cut = tt
closed_failed kept files faults first old new logs logs' lent lent' stops.Port unkept closed later cut = tt
closed_failed kept files faults first old new logs logs' lent lent' (stops.Account uid fault) unkept closed later cut = tt
closed_failed kept files faults first old new logs logs' lent lent' stops.Memory unkept closed later cut = tt

pub untold_failed : (old new : Counts) (stop : Stop) → IsUntold old new stop → LogsFailed old new stop
untold_failed old new stops.Site why = tt
untold_failed old new stops.Memory why = tt
untold_failed old new stops.PortEnded why = absurd why
untold_failed old new stops.Terms why = absurd why
untold_failed old new stops.Port why = absurd why
untold_failed old new (stops.Damaged uid) why = absurd why
untold_failed old new (stops.Keeper uid) why = absurd why
untold_failed old new (stops.Account uid fault) why = absurd why
untold_failed old new stops.Logs why = absurd why

-- a book in which no logs are kept has no failures
pub unkept_none : {S : Type 0} (faults : S → ℕ) (book : Logbook S) → is_kept book ≡ false → failures_in faults book ≡ 0
unkept_none {S} faults book none = unkept book.store none
  where
    unkept : (store : Option S) → is_some store ≡ false → option_map_or faults store 0 ≡ 0
    unkept None none = refl
    unkept (Some s) none = absurd cc

-- what was given for the book came back
lent_for : (kept : Bool) (old mid : LentParts) → IsLentFor kept old mid → (files : Option Files) (faults : ℕ) (counts counts' : Counts) (logs logs' : Option Files) (last new : LentParts) → ClosesBook kept files faults counts counts' logs logs' last new → AllAreBack mid last → AllAreBack old new
lent_for false old mid given files faults counts counts' logs logs' last new closed back =
    subst (λ (l : LentParts). AllAreBack l new) given (subst (λ (l : LentParts). AllAreBack mid l) (sym closed.2) back)
lent_for true old mid given files faults counts counts' logs logs' last new closed back =
    one_back old last new (out_then 1 0 old mid last (one_out old mid given) back) closed.2

pub all_returned : (kept kept' : Bool) (old mid : LentParts) (files : Option Files) (faults : ℕ) (counts counts' : Counts) (logs logs' : Option Files) (last new : LentParts) → kept' ≡ kept → IsLentFor kept old mid → ClosesBook kept' files faults counts counts' logs logs' last new
    → AllAreBack mid last → AllAreBack old new
all_returned kept kept' old mid files faults counts counts' logs logs' last new same given closed back =
    lent_for kept old mid given files faults counts counts' logs logs' last new (subst (λ (k : Bool). ClosesBook k files faults counts counts' logs logs' last new) same closed) back

lent_at : (kept : Bool) (old mid : LentParts) → IsLentFor kept old mid → mid.addresses ≡ old.addresses
lent_at false old mid given = ap (λ (l : LentParts). l.addresses) given
lent_at true old mid given = given.addresses

keepers_lent : (kept : Bool) (old mid : LentParts) → IsLentFor kept old mid → mid.keepers ≡ old.keepers
keepers_lent false old mid given = ap (λ (l : LentParts). l.keepers) given
keepers_lent true old mid given = given.keepers

pub readings_lent : (kept : Bool) (old mid : LentParts) → IsLentFor kept old mid → mid.readings ≡ old.readings
readings_lent false old mid given = ap (λ (l : LentParts). l.readings) given
readings_lent true old mid given = given.readings

closed_at : (kept : Bool) (files : Option Files) (faults : ℕ) (counts counts' : Counts) (logs logs' : Option Files) (last new : LentParts) → ClosesBook kept files faults counts counts' logs logs' last new → new.addresses ≡ last.addresses
closed_at false files faults counts counts' logs logs' last new closed = ap (λ (l : LentParts). l.addresses) closed.2
closed_at true files faults counts counts' logs logs' last new closed = closed.2.addresses

keepers_closed : (kept : Bool) (files : Option Files) (faults : ℕ) (counts counts' : Counts) (logs logs' : Option Files) (last new : LentParts) → ClosesBook kept files faults counts counts' logs logs' last new → new.keepers ≡ last.keepers
keepers_closed false files faults counts counts' logs logs' last new closed = ap (λ (l : LentParts). l.keepers) closed.2
keepers_closed true files faults counts counts' logs logs' last new closed = closed.2.keepers

pub same_keepers : (kept kept' : Bool) (old mid : LentParts) (files : Option Files) (faults : ℕ) (counts counts' : Counts) (logs logs' : Option Files) (last new : LentParts) → IsLentFor kept old mid → ClosesBook kept' files faults counts counts' logs logs' last new
    → last.keepers ≡ mid.keepers → new.keepers ≡ old.keepers
same_keepers kept kept' old mid files faults counts counts' logs logs' last new given closed same =
    keepers_closed kept' files faults counts counts' logs logs' last new closed ∙ same ∙ keepers_lent kept old mid given

pub still_listens : (address : List ℕ) (kept kept' : Bool) (old mid : LentParts) (files : Option Files) (faults : ℕ) (counts counts' : Counts) (logs logs' : Option Files) (last new : LentParts) → IsLentFor kept old mid → ClosesBook kept' files faults counts counts' logs logs' last new
    → ListensAt address mid last → ListensAt address old new
still_listens address kept kept' old mid files faults counts counts' logs logs' last new given closed (inl none) = inl (closed_at kept' files faults counts counts' logs logs' last new closed ∙ none ∙ lent_at kept old mid given)
still_listens address kept kept' old mid files faults counts counts' logs logs' last new given closed (inr one) =
    inr (closed_at kept' files faults counts counts' logs logs' last new closed ∙ one ∙ ap (λ (all : List (List ℕ)). all ++ address ∷ []) (lent_at kept old mid given))

module _ {L : Type 0} where
  -- the logs are those that were saved, or as they were
  logged_at : (folder : Option LogFolder) (stop : Stop) (told : List (Term (LinkReport L))) (kept : Bool) (number : ℕ) (files files' : Option Files) (faults : ℕ) (old first last new : Option Files) (counts counts' : Counts) (lent lent' : LentParts)
      → IsBookOf folder kept number files old → LeavesLogs kept old first → last ≡ first → ClosesBook kept files' faults counts counts' last new lent lent' → AreLoggedUntil stop (logs_of number told) files files' → AreLoggedAt folder stop told old new
  logged_at None stop told true number files files' faults old first last new counts counts' lent lent' book left same closed logged = absurd cc
  logged_at None stop told false number files files' faults old first last new counts counts' lent lent' book left same closed logged = closed.1 ∙ same ∙ left
  logged_at (Some folder) stop told false number files files' faults old first last new counts counts' lent lent' book left same closed logged = absurd cc
  logged_at (Some folder) stop told true number files files' faults old first last new counts counts' lent lent' book left same closed logged =
      subst (λ (l : Option Files). AreLoggedUntil stop (logs_of folder.from told) old l) (sym closed.1)
      (subst (λ (l : Option Files). AreLoggedUntil stop (logs_of folder.from told) l files') book.2
      (subst (λ (n : ℕ). AreLoggedUntil stop (logs_of n told) files files') book.1 logged))

  module _ (manner : Manner) (tells : L → Meanings) (closed : L → Bool) (says : ℕ → ℕ → Bool → Type 0) where
    -- the same terms, by other counts and what else is said of the logs
    came_on : (opened : List (ℕ × HostedAccount)) (clocks : List (Option (List ℕ))) (connections asked : ℕ) (told told' : Option (List (Term (LinkReport L)))) (old mid new : Counts) (accounts : List (ℕ × HostedAccount)) (stop : Stop) (Logged Other : List (Term (LinkReport L)) → Type 0)
        → Rises mid new → ((terms : List (Term (LinkReport L))) → Logged terms → Other terms) → CameTo manner tells closed says opened clocks connections asked told told' old mid accounts stop Logged
        → CameTo manner tells closed says opened clocks connections asked told told' old new accounts stop Other
    came_on opened clocks connections asked told told' old mid new accounts stop Logged Other rises so came = record {
      terms = came.terms;
      told = came.told;
      are_told = came.are_told;
      of = came.of;
      logged = so came.told came.logged;
      handed = came.handed;
      served = came.served;
      within = came.within;
      links = subst (λ (n : ℕ). RoseBy (links_of came.terms) old.links n) (sym rises.links) came.links;
      back = came.back;
      left = came.left;
      failed = came.failed;
      uids = came.uids;
      faults = omega (arith, came.faults, rises.faults);
      refused = refused_on stop old.refused mid.refused new.refused rises.refused came.refused;
      until = until stop came.until;
    }
      where
        until : (s : Stop) → ServedUntil connections asked came.terms old mid s → ServedUntil connections asked came.terms old new s
        until stops.PortEnded why = (subst (λ (n : ℕ). Rose old.ends n) (sym rises.ends) why.0, why.1)
        until stops.Terms why = record { stated = why.stated; count = why.count; rested = subst (λ (n : ℕ). RoseBy (short_of connections came.terms) old.rests n) (sym rises.rests) why.rested }
        until stops.Port why = (rose_on old.faults mid.faults new.faults why.0 rises.faults, why.1)
        until stops.Site why = rose_on old.faults mid.faults new.faults why rises.faults
        until stops.Memory why = tt
        until (stops.Damaged uid) why = absurd why
        until (stops.Keeper uid) why = absurd why
        until (stops.Account uid fault) why = absurd why
        until stops.Logs why = tt

    -- accounts that were served with an open book, once that was closed
    pub came_logged : (folder : Option LogFolder) (opened : List (ℕ × HostedAccount)) (clocks : List (Option (List ℕ))) (connections asked : ℕ) (told first told' told'' : Option (List (Term (LinkReport L)))) (old begun mid new : Counts) (accounts : List (ℕ × HostedAccount)) (stop : Stop)
        (kept kept' : Bool) (number : ℕ) (files files' : Option Files) (faults : ℕ) (logs left last logs' : Option Files) (lent lent' : LentParts)
        → begun ≡ old → first ≡ told → told'' ≡ told' → kept' ≡ kept → IsBookOf folder kept number files logs → LeavesLogs kept logs left → last ≡ left → ClosesBook kept' files' faults mid new last logs' lent lent'
        → CameTo manner tells closed says opened clocks connections asked first told' begun mid accounts stop (λ terms. AreLoggedUntil stop (logs_of number terms) files files')
        → CameTo manner tells closed says opened clocks connections asked told told'' old new accounts stop (λ terms. AreLoggedAt folder stop terms logs logs')
    came_logged folder opened clocks connections asked told first told' told'' old begun mid new accounts stop kept kept' number files files' faults logs left last logs' lent lent' counts same same' kind book stays unlogged shut came =
        let shut' : ClosesBook kept files' faults mid new last logs' lent lent' = subst (λ (k : Bool). ClosesBook k files' faults mid new last logs' lent lent') kind shut in
        let Kept : List (Term (LinkReport L)) → Type 0 = λ terms. AreLoggedAt folder stop terms logs logs' in
        let on : CameTo manner tells closed says opened clocks connections asked first told' begun new accounts stop Kept =
        came_on opened clocks connections asked first told' begun mid new accounts stop (λ terms. AreLoggedUntil stop (logs_of number terms) files files') Kept (closed_rises kept' files' faults mid new last logs' lent lent' shut)
        (λ terms logged. logged_at folder stop terms kept number files files' faults logs left last logs' mid new lent lent' book stays unlogged shut' logged) came in
        subst (λ (c : Counts). CameTo manner tells closed says opened clocks connections asked told told'' c new accounts stop Kept) counts
        (subst (λ (t : Option (List (Term (LinkReport L)))). CameTo manner tells closed says opened clocks connections asked t told'' begun new accounts stop Kept) same
        (subst (λ (t : Option (List (Term (LinkReport L)))). CameTo manner tells closed says opened clocks connections asked first t begun new accounts stop Kept) (sym same') on))
