-- What one term of a server comes to, from what the term says.
use Rattle.std.specs.Prelude.{◌≡◌, ◌≢◌, ◌⊎◌, ◌<◌, ◌≤◌, ℕ, zero, suc, Bool, List, [], ◌∷◌, length, map, get_or, Option}
use Rattle.std.specs.Prelude.{Some, None, All, Any, Contains, IfSome, refl}
use Rattle.std.specs.List.{AllZip}
use Rattle.std.specs.List.Sorted.{IsPermutation}
use Rattle.std.proofs.Common.{sym, ap, subst, ◌∙◌, inl, inr, arith}
use Rattle.std.proofs.lemmas.List.{length-map}
use Rattle.std.proofs.lemmas.List.Elements.{All-contains, All-head, All-tail}
use Rattle.std.proofs.lemmas.List.Sorted.{All-permutation, IsPermutation-map, IsPermutation-refl, IsPermutation-sym}
use Rattle.std.proofs.lemmas.List.Sorted.{Contains-permutation}
use mathlib.Core.Option.{some}
use lib.ListN.{get_elem?}
use Rattle.ss_route.specs.declared.manner.Manner.{Manner}
use Rattle.ss_desk.proofs.Lists.{at_get}
use Rattle.ss_keeper.specs.declared.keeper.Keeper.{Ghosts}
use Rattle.ss_outside.specs.Told.{Meanings}
use Rattle.ss_outside.specs.Causes.{Rose}
use Rattle.ss_links.specs.Counts.{RoseBy}
use Rattle.ss_links.specs.Ports.{Accepts}
use Rattle.ss_links.specs.Stores.{Files}
use Rattle.ss_bso.specs.declared.changes.Kept.{Kept}
use Rattle.ss_bso.specs.declared.account.Plain.{Plain}
use Rattle.ss_bso.specs.Validity.{SameAccount}
use Rattle.ss_laws.specs.declared.journal.Entry.{Entry}
use Rattle.ss_laws.specs.Journal.{Journal}
use Rattle.ss_laws.specs.Journals.{account_after}
use Rattle.ss_town.specs.declared.opening.TownFault.{TownFault}
use Rattle.ss_town.specs.declared.opening.TownFault.TheVariants.{Empty, TooMany, Twice, Zero, Memory}
use Rattle.ss_town.specs.Opening.{AreBare, BackAfter, ComeBack}
use Rattle.ss_booked.specs.declared.booked.Booked.{Booked}
use Rattle.ss_booked.specs.declared.booked.Terms.{Terms}
use Rattle.ss_booked.specs.Booked.{account_of, journal_of, terms_of}
use Rattle.ss_site.specs.Sites.{Counts, Term, HasAdded}
use Rattle.ss_serve.specs.declared.report.LinkReport.{LinkReport}
use Rattle.ss_serve.specs.declared.report.TermStop.{TermStop}
use Rattle.ss_serve.specs.declared.report.TermStop.TheVariants as ended
use Rattle.ss_serve.specs.Reports.{AreAllGated}
use Rattle.ss_serve.specs.Terms.{HasEnded, IsRefusedTerm, IsTerm, TermSays}
use Rattle.ss_run_serve.specs.declared.stop.Stop.{Stop}
use Rattle.ss_run_serve.specs.declared.stop.Stop.TheVariants as stops
use Rattle.ss_run_serve.specs.Hosted.{HostedAccount, HasEmptyJournal, hosted_account, hosted_at, journal_in, left_by}
use Rattle.ss_run_serve.specs.Retiring.{uids_in}
use Rattle.ss_run_serve.specs.Terms.{IsOneLeft}
use Rattle.ss_run_serve.specs.Once.{Follows, TermsGoOn, HasFailed, IsToldTerm, IsLast, IsLost, IsOnce, IsUnheard}
use Rattle.ss_run_serve.specs.Once.{IsUntold}
use Rattle.ss_run_serve.specs.Once.{stand}
use Rattle.ss_run_serve.specs.Once.{TookPlace}
use Rattle.ss_run_serve.specs.Logs.{logs_of_term, ArePartlySaved, AreSavedLogs, AreLoggedOnce, HasCut, IsWhyUnsaved}
use Rattle.ss_run_serve.proofs.Saving.{cut_logged, logged_once}
use Rattle.ss_run_serve.proofs.Handed.{all_at, at_seen, contains_at, seen, seen_at, term_seen}
use Rattle.ss_run_serve.proofs.Anew.{left_moved, left_themselves, left_zip}
use Rattle.ss_run_serve.proofs.Progress.{IsFaulty, any_of, map_there, same_uids}
use Rattle.ss_run_serve.proofs.Rising.{rose_some}
use Rattle.ss_bso.proofs.Reordering.{same-self}

-- why no further term follows, or that one does
last_is : (stop : TermStop) (connections : ℕ) (old new : Accepts) (next : Option Stop) → ((fault : TownFault) → stop ≡ ended.Town fault → ⊥) → HasEnded stop connections old new → Follows stop new next
    → IsLast connections old new next
last_is ended.Port connections old new next town why follows = subst (λ (n : Option Stop). IsLast connections old new n) (sym follows) (rose_some old.faults new.faults why.0)
last_is ended.PortEnded connections old new next town why follows = subst (λ (n : Option Stop). IsLast connections old new n) (sym follows) (rose_some old.ends new.ends why.0)
last_is ended.Memory connections old new next town why follows = subst (λ (n : Option Stop). IsLast connections old new n) (sym follows) tt
last_is (ended.Town fault) connections old new next town why follows = absurd (town fault refl)
last_is ended.Connections connections old new next town why (inl on) = subst (λ (n : Option Stop). IsLast connections old new n) (sym on.0) (inl why, on.1)
last_is ended.Connections connections old new next town why (inr over) = subst (λ (n : Option Stop). IsLast connections old new n) (sym over.0) over.1
last_is ended.Rested connections old new next town why (inl on) = subst (λ (n : Option Stop). IsLast connections old new n) (sym on.0) (inr why, on.1)
last_is ended.Rested connections old new next town why (inr over) = subst (λ (n : Option Stop). IsLast connections old new n) (sym over.0) over.1
last_is (ended.Full uid) connections old new next town (inl end) (inl on) = absurd (rose_some old.ends new.ends end.0 on.1)
last_is (ended.Full uid) connections old new next town (inr (inl rest)) (inl on) = subst (λ (n : Option Stop). IsLast connections old new n) (sym on.0) (inr rest, on.1)
last_is (ended.Full uid) connections old new next town (inr (inr all)) (inl on) = subst (λ (n : Option Stop). IsLast connections old new n) (sym on.0) (inl all, on.1)
last_is (ended.Full uid) connections old new next town why (inr over) = subst (λ (n : Option Stop). IsLast connections old new n) (sym over.0) over.1

-- a log wasn't saved: no term follows
cut_last : (faults connections : ℕ) (old new : Accepts) (last : Stop) → IsWhyUnsaved faults last → IsLast connections old new (Some last)
cut_last faults connections old new stops.Logs cut = tt
cut_last faults connections old new stops.Memory cut = tt
cut_last faults connections old new stops.PortEnded cut = absurd cut
cut_last faults connections old new stops.Terms cut = absurd cut
cut_last faults connections old new stops.Site cut = absurd cut
cut_last faults connections old new (stops.Damaged uid) cut = absurd cut
cut_last faults connections old new (stops.Keeper uid) cut = absurd cut
cut_last faults connections old new stops.Port cut = absurd cut
cut_last faults connections old new (stops.Account uid fault) cut = absurd cut

-- what follows on how a term ended is no log that wasn't saved
goes_on_has : (faults : ℕ) (port : Accepts) (next : Option Stop) → TermsGoOn port next → IfSome next (HasCut faults)
goes_on_has faults port next (inl on) = subst (λ (n : Option Stop). IfSome n (HasCut faults)) (sym on.0) tt
goes_on_has faults port next (inr over) = subst (λ (n : Option Stop). IfSome n (HasCut faults)) (sym over.0) tt

pub follows_has : (faults : ℕ) (stop : TermStop) (port : Accepts) (next : Option Stop) → Follows stop port next → IfSome next (HasCut faults)
follows_has faults ended.Port port next follows = subst (λ (n : Option Stop). IfSome n (HasCut faults)) (sym follows) tt
follows_has faults ended.PortEnded port next follows = subst (λ (n : Option Stop). IfSome n (HasCut faults)) (sym follows) tt
follows_has faults ended.Memory port next follows = subst (λ (n : Option Stop). IfSome n (HasCut faults)) (sym follows) tt
follows_has faults (ended.Town fault) port next follows = subst (λ (n : Option Stop). IfSome n (HasCut faults)) (sym follows) tt
follows_has faults ended.Connections port next follows = goes_on_has faults port next follows
follows_has faults ended.Rested port next follows = goes_on_has faults port next follows
follows_has faults (ended.Full uid) port next follows = goes_on_has faults port next follows

-- of accounts that begin, one whose keeper had failed has failed
begun_faulty : (given : List (ℕ × HostedAccount)) → All (λ (a : ℕ × HostedAccount). HasEmptyJournal a.1) given → Any HasFailed given → Any IsFaulty given
begun_faulty given begun any =
    let there : Contains given any.1 = (any.0, any.2, any.3) in
    any_of IsFaulty given any.1 there (now any.1.1 (All-contains (λ (a : ℕ × HostedAccount). HasEmptyJournal a.1) given any.1 begun there) any.4)
  where
    now : (h : HostedAccount) → HasEmptyJournal h → (h.fixed.faults ≢ 0) ⊎ (h.faults ≢ 0) → h.faults ≢ 0
    now h begun (inl before) = λ none. before (begun.counted ∙ none)
    now h begun (inr faults) = faults

-- an account that has begun, and the same one again, without entries
record Again (before after : ℕ × HostedAccount) : Type 0 where
  pub begun : HasEmptyJournal before.1
  pub uid : after.0 ≡ before.0
  pub fixed : after.1.fixed ≡ before.1.fixed
  pub entries : after.1.entries ≡ []

left_again : (before after : ℕ × HostedAccount) → Again before after → SameAccount (left_by before.1) (left_by after.1)
left_again before after again =
    let first : left_by before.1 ≡ before.1.fixed.opening = ap (λ (entries : List Entry). account_after before.1.fixed.opening entries) again.begun.entries in
    let then : left_by after.1 ≡ before.1.fixed.opening = ap (λ (entries : List Entry). account_after after.1.fixed.opening entries) again.entries ∙ ap (λ (t : Terms). t.opening) again.fixed in
    subst (λ (account : Plain). SameAccount (left_by before.1) account) (first ∙ sym then) (same-self (left_by before.1))

module _ {K : Type 0} {G : Ghosts K} (told : K → Option Kept) (faults : K → ℕ) where
  abbrev fixed : Booked K G → Terms
  fixed b = terms_of faults b

  abbrev entries_in : Booked K G → List Entry
  entries_in b = (journal_of b).entries

  abbrev failures : Booked K G → ℕ
  failures b = faults (account_of b).keeper

  abbrev hosted_all : List (ℕ × Booked K G) → List (ℕ × HostedAccount)
  hosted_all accounts = map (hosted_at told faults) accounts

  -- accounts whose journals have no entries
  pub are_bare : (accounts : List (ℕ × Booked K G)) → All (λ (a : ℕ × HostedAccount). HasEmptyJournal a.1) (hosted_all accounts) → AreBare (λ (b : Booked K G). (journal_of b).entries) accounts
  are_bare accounts begun = λ i uid b at. (all_at (λ (a : ℕ × HostedAccount). HasEmptyJournal a.1) (hosted_all accounts) i (uid, hosted_account told faults b) begun (at_seen (hosted_account told faults) accounts i uid b at)).entries

  module _ {L : Type 0} (manner : Manner) (tells : L → Meanings) (closed : L → Bool) (says : ℕ → ℕ → Bool → Type 0) where
    abbrev Term_of : List (ℕ × Booked K G) → List (ℕ × Booked K G) → List (LinkReport L) → List (Option (List ℕ)) → List (Option (List ℕ)) → Type 0
    Term_of given handed reports coming coming' = IsTerm fixed entries_in failures manner tells closed given handed reports coming coming'

    -- a term that isn't refused
    term_of : (given handed : List (ℕ × Booked K G)) (reports : List (LinkReport L)) (coming coming' : List (Option (List ℕ))) (stop : TermStop) → ((fault : TownFault) → stop ≡ ended.Town fault → ⊥)
        → TermSays fixed entries_in failures manner tells closed given handed reports coming coming' stop → Term_of given handed reports coming coming'
    term_of given handed reports coming coming' ended.Connections town so = so
    term_of given handed reports coming coming' ended.PortEnded town so = so
    term_of given handed reports coming coming' ended.Rested town so = so
    term_of given handed reports coming coming' ended.Port town so = so
    term_of given handed reports coming coming' (ended.Full uid) town so = so
    term_of given handed reports coming coming' ended.Memory town so = so
    term_of given handed reports coming coming' (ended.Town fault) town so = absurd (town fault refl)

    seen_term : (given handed : List (ℕ × Booked K G)) (reports : List (LinkReport L)) (coming coming' : List (Option (List ℕ))) → Term_of given handed reports coming coming'
        → IsTerm (λ (h : HostedAccount). h.fixed) (λ (h : HostedAccount). h.entries) (λ (h : HostedAccount). h.faults) manner tells closed (hosted_all given) (hosted_all handed) reports coming coming'
    seen_term given handed reports coming coming' term = term_seen (hosted_account told faults) (λ (h : HostedAccount). h.fixed) (λ (h : HostedAccount). h.entries) (λ (h : HostedAccount). h.faults) manner tells closed given handed reports coming coming' term

    journals : (accounts : List (ℕ × Booked K G)) → map {B = ℕ × Journal} (λ (a : ℕ × Booked K G). (a.0, journal_of a.1)) accounts ≡ map {B = ℕ × Journal} (λ (a : ℕ × HostedAccount). (a.0, journal_in a.1)) (hosted_all accounts)
    journals [] = refl
    journals (a ∷ accounts) = ap (λ (js : List (ℕ × Journal)). (a.0, journal_of a.1) ∷ js) (journals accounts)

    -- the term that the site is told
    abbrev term_told : List (ℕ × Booked K G) → List (LinkReport L) → Term (LinkReport L)
    term_told handed reports = record { reports = reports; journals = map {B = ℕ × Journal} (λ (a : ℕ × Booked K G). (a.0, journal_of a.1)) handed }

    took_place : (given handed : List (ℕ × Booked K G)) (reports : List (LinkReport L)) (coming coming' : List (Option (List ℕ))) (stop : TermStop) (connections : ℕ) (port port' : Accepts)
        → ((fault : TownFault) → stop ≡ ended.Town fault → ⊥) → TermSays fixed entries_in failures manner tells closed given handed reports coming coming' stop → RoseBy (length reports) port.links port'.links → length reports ≤ connections → AreAllGated says reports
        → TookPlace manner tells closed says (hosted_all given) (hosted_all handed) coming coming' connections port port' (term_told handed reports)
    took_place given handed reports coming coming' stop connections port port' town so links few gated = record {
      journals = journals handed;
      served = seen_term given handed reports coming coming' (term_of given handed reports coming coming' stop town so);
      links = links;
      few = few;
      gated = gated;
    }

    -- the site was told of a term, and then its logs were saved, or not all
    once_told : (given handed : List (ℕ × Booked K G)) (reports : List (LinkReport L)) (coming coming' : List (Option (List ℕ))) (stop : TermStop) (terms terms' : Option (List (Term (LinkReport L))))
        (old new : Counts) (connections : ℕ) (port port' : Accepts) (next : Option Stop) (number : ℕ) (logs logs' : Option Files) → ((fault : TownFault) → stop ≡ ended.Town fault → ⊥)
        → TermSays fixed entries_in failures manner tells closed given handed reports coming coming' stop → HasAdded (term_told handed reports) terms terms'
        → new ≡ old → RoseBy (length reports) port.links port'.links → length reports ≤ connections → AreAllGated says reports → IsLast connections port port' next
        → AreLoggedOnce next (logs_of_term number (term_told handed reports).journals) logs logs'
        → IsOnce manner tells closed says connections number next (stand (hosted_all given) coming terms old port logs) (stand (hosted_all handed) coming' terms' new port' logs')
    once_told given handed reports coming coming' stop terms terms' old new connections port port' next number logs logs' town so added counts links few gated why logged = inr (inr (record {
      term = term_told handed reports;
      told = added;
      took = took_place given handed reports coming coming' stop connections port port' town so links few gated;
      counts = counts;
      why = why;
      logged = logged;
    }))

    -- all were saved
    pub once_done : (given handed : List (ℕ × Booked K G)) (reports : List (LinkReport L)) (coming coming' : List (Option (List ℕ))) (stop : TermStop) (terms terms' : Option (List (Term (LinkReport L))))
        (old new : Counts) (connections : ℕ) (port port' : Accepts) (next : Option Stop) (number : ℕ) (logs logs' : Option Files) → ((fault : TownFault) → stop ≡ ended.Town fault → ⊥)
        → TermSays fixed entries_in failures manner tells closed given handed reports coming coming' stop
        → HasAdded (record { reports = reports; journals = map {B = ℕ × Journal} (λ (a : ℕ × Booked K G). (a.0, journal_of a.1)) handed }) terms terms'
        → new ≡ old → RoseBy (length reports) port.links port'.links → length reports ≤ connections → AreAllGated says reports → HasEnded stop connections port port' → Follows stop port' next
        → AreSavedLogs (logs_of_term number (map {B = ℕ × Journal} (λ (a : ℕ × Booked K G). (a.0, journal_of a.1)) handed)) logs logs'
        → IsOnce manner tells closed says connections number next (stand (hosted_all given) coming terms old port logs) (stand (hosted_all handed) coming' terms' new port' logs')
    once_done given handed reports coming coming' stop terms terms' old new connections port port' next number logs logs' town so added counts links few gated why follows saved =
        once_told given handed reports coming coming' stop terms terms' old new connections port port' next number logs logs' town so added counts links few gated (last_is stop connections port port' next town why follows)
        (logged_once next (logs_of_term number (term_told handed reports).journals) logs logs' saved)

    -- not all were saved: the server stops
    pub once_cut : (given handed : List (ℕ × Booked K G)) (reports : List (LinkReport L)) (coming coming' : List (Option (List ℕ))) (stop : TermStop) (terms terms' : Option (List (Term (LinkReport L))))
        (old new : Counts) (connections : ℕ) (port port' : Accepts) (faults : ℕ) (last : Stop) (number : ℕ) (logs logs' : Option Files) → ((fault : TownFault) → stop ≡ ended.Town fault → ⊥)
        → TermSays fixed entries_in failures manner tells closed given handed reports coming coming' stop
        → HasAdded (record { reports = reports; journals = map {B = ℕ × Journal} (λ (a : ℕ × Booked K G). (a.0, journal_of a.1)) handed }) terms terms'
        → new ≡ old → RoseBy (length reports) port.links port'.links → length reports ≤ connections → AreAllGated says reports → IsWhyUnsaved faults last
        → ArePartlySaved (logs_of_term number (map {B = ℕ × Journal} (λ (a : ℕ × Booked K G). (a.0, journal_of a.1)) handed)) logs logs'
        → IsOnce manner tells closed says connections number (Some last) (stand (hosted_all given) coming terms old port logs) (stand (hosted_all handed) coming' terms' new port' logs')
    once_cut given handed reports coming coming' stop terms terms' old new connections port port' faults last number logs logs' town so added counts links few gated cut partly =
        once_told given handed reports coming coming' stop terms terms' old new connections port port' (Some last) number logs logs' town so added counts links few gated (cut_last faults connections port port' last cut)
        (cut_logged faults last (logs_of_term number (term_told handed reports).journals) logs logs' cut partly)

    -- the site wasn't told
    pub once_untold : (given handed : List (ℕ × Booked K G)) (reports : List (LinkReport L)) (coming coming' : List (Option (List ℕ))) (stop : TermStop) (terms terms' : Option (List (Term (LinkReport L))))
        (old new : Counts) (connections : ℕ) (port port' : Accepts) (last : Stop) (number : ℕ) (logs : Option Files) → ((fault : TownFault) → stop ≡ ended.Town fault → ⊥)
        → TermSays fixed entries_in failures manner tells closed given handed reports coming coming' stop → terms' ≡ terms → IsUntold old new last → RoseBy (length reports) port.links port'.links → length reports ≤ connections → AreAllGated says reports
        → IsOnce manner tells closed says connections number (Some last) (stand (hosted_all given) coming terms old port logs) (stand (hosted_all handed) coming' terms' new port' logs)
    once_untold given handed reports coming coming' stop terms terms' old new connections port port' last number logs town so same why links few gated = inr (inl (record {
      stop = last;
      is = refl;
      why = why;
      untold = same;
      unlogged = refl;
      term = term_told handed reports;
      took = took_place given handed reports coming coming' stop connections port port' town so links few gated;
    }))

    -- what comes back of accounts that weren't served
    record Back (given handed : List (ℕ × Booked K G)) : Type 0 where
      pub left : All (IsOneLeft (hosted_all given)) (hosted_all handed)
      pub uids : IsPermutation (uids_in (hosted_all given)) (uids_in (hosted_all handed))
      pub failed : Any HasFailed (hosted_all given) → Any HasFailed (hosted_all handed)

    -- the accounts come back as what no call changes
    come_back : (given handed : List (ℕ × Booked K G)) → All (λ (a : ℕ × HostedAccount). HasEmptyJournal a.1) (hosted_all given) → ComeBack fixed entries_in given handed → Back given handed
    come_back given handed begun back = record { left = left; uids = moved; failed = failed }
      where
        each : (i uid : ℕ) (h : HostedAccount) → get_elem? (hosted_all back.order) i ≡ some (uid, h) → (h' : HostedAccount) × (get_elem? (hosted_all handed) i ≡ some (uid, h')) × (h'.fixed ≡ h.fixed)
        each i uid h at =
            let b = seen_at (hosted_account told faults) back.order i uid h at in
            let r = back.returned.each i uid b.0 b.1 in
            (hosted_account told faults r.0, at_seen (hosted_account told faults) handed i uid r.0 r.1, r.2 ∙ ap (λ (x : HostedAccount). x.fixed) b.2)

        each_bare : (i uid : ℕ) (h : HostedAccount) → get_elem? (hosted_all back.order) i ≡ some (uid, h) → (h' : HostedAccount) × (get_elem? (hosted_all handed) i ≡ some (uid, h')) × (h'.fixed ≡ h.fixed) × (h'.entries ≡ [])
        each_bare i uid h at =
            let b = seen_at (hosted_account told faults) back.order i uid h at in
            let r = back.returned.each i uid b.0 b.1 in
            (hosted_account told faults r.0, at_seen (hosted_account told faults) handed i uid r.0 r.1, r.2 ∙ ap (λ (x : HostedAccount). x.fixed) b.2, r.3)

        order_moved : IsPermutation (hosted_all given) (hosted_all back.order)
        order_moved = IsPermutation-map (hosted_at told faults) given back.order back.moved

        long : length (hosted_all handed) ≡ length (hosted_all back.order)
        long = length-map handed (hosted_at told faults) ∙ back.returned.count ∙ sym (length-map back.order (hosted_at told faults))

        bare : (order handed : List (ℕ × HostedAccount)) → All (λ (a : ℕ × HostedAccount). HasEmptyJournal a.1) order → length handed ≡ length order
            → ((i uid : ℕ) (h : HostedAccount) → get_elem? order i ≡ some (uid, h) → (h' : HostedAccount) × (get_elem? handed i ≡ some (uid, h')) × (h'.fixed ≡ h.fixed) × (h'.entries ≡ [])) → AllZip Again order handed
        bare [] [] begun long each = tt
        bare [] (y ∷ handed) begun long each = absurd (omega (arith, long))
        bare (x ∷ order) [] begun long each = absurd (omega (arith, long))
        bare (x ∷ order) (y ∷ handed) begun long each =
            let first = each 0 x.0 x.1 refl in
            let same : y ≡ (x.0, first.0) = cc in (
              subst (λ (a : ℕ × HostedAccount). Again x a) (sym same) (record { begun = All-head (λ (a : ℕ × HostedAccount). HasEmptyJournal a.1) x order begun; uid = refl; fixed = first.2; entries = first.3 }),
              bare order handed (All-tail (λ (a : ℕ × HostedAccount). HasEmptyJournal a.1) x order begun) (omega (arith, long)) (λ i uid h at. each (suc i) uid h at),
            )

        order_begun : All (λ (a : ℕ × HostedAccount). HasEmptyJournal a.1) (hosted_all back.order)
        order_begun = All-permutation (λ (a : ℕ × HostedAccount). HasEmptyJournal a.1) (hosted_all given) (hosted_all back.order) order_moved begun

        left : All (IsOneLeft (hosted_all given)) (hosted_all handed)
        left = left_moved (hosted_all given) (hosted_all back.order) (hosted_all handed) order_moved (left_zip Again (λ x y again. (again.uid, left_again x y again)) (hosted_all back.order) (hosted_all handed) (bare (hosted_all back.order) (hosted_all handed) order_begun long each_bare))

        moved : IsPermutation (uids_in (hosted_all given)) (uids_in (hosted_all handed))
        moved = subst (λ (us : List ℕ). IsPermutation (uids_in (hosted_all given)) us) (sym (same_uids {R = λ (h h' : HostedAccount). h'.fixed ≡ h.fixed} (hosted_all back.order) (hosted_all handed) long each))
            (IsPermutation-map (λ (a : ℕ × HostedAccount). a.0) (hosted_all given) (hosted_all back.order) order_moved)

        failed : Any HasFailed (hosted_all given) → Any HasFailed (hosted_all handed)
        failed any =
            let faulty = begun_faulty (hosted_all given) begun any in
            let there : Contains (hosted_all given) faulty.1 = (faulty.0, faulty.2, faulty.3) in
            let counted = (All-contains (λ (a : ℕ × HostedAccount). HasEmptyJournal a.1) (hosted_all given) faulty.1 begun there).counted in
            let place = Contains-permutation (hosted_all given) (hosted_all back.order) faulty.1 order_moved there in
            let at : get_elem? (hosted_all back.order) place.0 ≡ some faulty.1 = at_get (hosted_all back.order) place.0 faulty.1 place.1 ∙ ap some place.2 in
            let other = each place.0 faulty.1.0 faulty.1.1 at in
            any_of HasFailed (hosted_all handed) (faulty.1.0, other.0) (contains_at (hosted_all handed) place.0 (faulty.1.0, other.0) other.1)
            (inl (λ none. faulty.4 (sym counted ∙ sym (ap (λ (t : Terms). t.faults) other.2) ∙ none)))

    as_given : (given handed : List (ℕ × Booked K G)) → handed ≡ given → Back given handed
    as_given given handed same = subst (λ (accounts : List (ℕ × Booked K G)). Back given accounts) (sym same) (record {
      left = left_themselves (hosted_all given);
      uids = IsPermutation-refl (uids_in (hosted_all given));
      failed = λ any. any;
    })

    back_after : (given handed : List (ℕ × Booked K G)) (fault : TownFault) → All (λ (a : ℕ × HostedAccount). HasEmptyJournal a.1) (hosted_all given) → BackAfter fixed entries_in given handed fault → Back given handed
    back_after given handed Memory begun back = come_back given handed begun back
    back_after given handed Empty begun same = as_given given handed same
    back_after given handed (TooMany n) begun same = as_given given handed same
    back_after given handed (Twice uid) begun same = as_given given handed same
    back_after given handed Zero begun same = as_given given handed same

    -- no term took place
    pub once_refused : (given handed : List (ℕ × Booked K G)) (reports : List (LinkReport L)) (coming coming' : List (Option (List ℕ))) (stop : TermStop) (fault : TownFault)
        (terms : Option (List (Term (LinkReport L)))) (old : Counts) (connections : ℕ) (port port' : Accepts) (number : ℕ) (logs : Option Files) → stop ≡ ended.Town fault → All (λ (a : ℕ × HostedAccount). HasEmptyJournal a.1) (hosted_all given)
        → TermSays fixed entries_in failures manner tells closed given handed reports coming coming' stop → HasEnded stop connections port port'
        → IsOnce manner tells closed says connections number (Some stops.Memory) (stand (hosted_all given) coming terms old port logs) (stand (hosted_all handed) coming' terms old port' logs)
    once_refused given handed reports coming coming' stop fault terms old connections port port' number logs town begun so why =
        let refused : IsRefusedTerm fixed entries_in fault given handed reports coming coming' =
        (let P : TermStop → Type 0 = λ (s : TermStop). TermSays fixed entries_in failures manner tells closed given handed reports coming coming' s in subst P town so) in
        let back = back_after given handed fault begun refused.back in
        let same : port' ≡ port = (let P : TermStop → Type 0 = λ (s : TermStop). HasEnded s connections port port' in subst P town why) in
        inl (record { stop = stops.Memory; is = refl; why = refl; untold = refl; unlogged = refl; links = ap (λ (p : Accepts). p.links) same; left = back.left; uids = back.uids; failed = back.failed })
