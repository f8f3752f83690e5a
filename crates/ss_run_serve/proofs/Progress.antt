-- The terms of a server so far, and one term more.
use Rattle.std.specs.Prelude.{◌≡◌, ◌≢◌, ◌⊎◌, ◌<◌, ◌≤◌, ◌+◌, ◌*◌, ◌-◌, ◌^◌, ℕ, zero, suc, Bool, true, false, nat_lt}
use Rattle.std.specs.Prelude.{if◌then◌else◌, List, [], ◌∷◌, ◌++◌, length, map, sum_by, Option, Some, None, All, Any}
use Rattle.std.specs.Prelude.{Contains, refl}
use Rattle.std.specs.Option.{option_map}
use Rattle.std.specs.List.{AllZip}
use Rattle.std.specs.List.Sorted.{IsPermutation}
use Rattle.std.proofs.Common.{sym, ap, subst, ◌∙◌, inl, inr, arith, append_assoc, append-nil}
use Rattle.std.proofs.lemmas.Bool.Decides.{nat_tests}
use Rattle.std.proofs.lemmas.List.{length-append, length-map}
use Rattle.std.proofs.lemmas.List.Elements.{All-append, All-contains, All-cons, All-head, All-nil, All-push, All-tail}
use Rattle.std.proofs.lemmas.List.Elements.{Contains-get_or, Contains-push, Contains-push_cases}
use Rattle.std.proofs.lemmas.List.Sorted.{IsPermutation-map, IsPermutation-refl, IsPermutation-trans}
use Rattle.std.proofs.lemmas.List.Sorted.{Contains-permutation}
use Rattle.std.proofs.lemmas.List.Sums.{sum_by-append}
use mathlib.Core.Option.{some}
use lib.ListN.{get_elem?}
use Rattle.ss_route.specs.declared.manner.Manner.{Manner}
use Rattle.ss_outside.specs.Told.{Meanings}
use Rattle.ss_outside.specs.Causes.{Rose}
use Rattle.ss_outside.specs.Plans.{raised_count}
use Rattle.ss_links.specs.Counts.{RoseBy}
use Rattle.ss_links.specs.Ports.{Accepts, idle_port}
use Rattle.ss_links.specs.Stores.{Files}
use Rattle.ss_desk.proofs.Lists.{at_get}
use Rattle.ss_bso.specs.Validity.{SameAccount}
use Rattle.ss_booked.specs.Sound.{keeper_marks}
use Rattle.ss_laws.specs.Journal.{Journal}
use Rattle.ss_site.specs.Sites.{Counts, Term, HasAdded}
use Rattle.ss_serve.specs.declared.report.LinkReport.{LinkReport}
use Rattle.ss_serve.specs.Terms.{IsTerm}
use Rattle.ss_run_serve.specs.declared.stop.Stop.{Stop}
use Rattle.ss_run_serve.specs.declared.stop.Stop.TheVariants as stops
use Rattle.ss_run_serve.specs.Hosted.{HostedAccount, HasEmptyJournal, Stands, journal_in, left_by}
use Rattle.ss_run_serve.specs.Opening.{CountsFaults}
use Rattle.ss_run_serve.specs.Refusals.{IsRefusedAs}
use Rattle.ss_run_serve.proofs.Retired.{untold_refused}
use Rattle.ss_run_serve.specs.Retiring.{uids_in}
use Rattle.ss_run_serve.specs.Terms.{BeginsAnew, links_of, short_of, AreTerms, AreToldTerms, IsOneLeft, IsTermOf}
use Rattle.ss_run_serve.specs.Terms.{KeeperFailed}
use Rattle.ss_run_serve.specs.Once.{HasFailed, IsToldTerm, IsLast, IsLost, IsOnce, IsUnheard, IsUntold, TookPlace}
use Rattle.ss_run_serve.specs.Once.{stand}
use Rattle.ss_run_serve.specs.Course.{AreWithin, Course, IsToldOf, SameKeeper, Stops}
use Rattle.ss_run_serve.specs.Logs.{NamedLog, logs_of, logs_of_term, AreLoggedUntil, AreSavedLogs}
use Rattle.ss_run_serve.proofs.Saving.{all_partly, logged_of, logged_then, logs_more, none_saved, number_after}
use Rattle.ss_run_serve.proofs.Saving.{number_more, saved_then}
use Rattle.ss_run_serve.proofs.Handed.{contains_at}
use Rattle.ss_run_serve.proofs.Rising.{rose_less, rose_none, rose_then, rose_once}
use Rattle.ss_run_serve.proofs.Anew.{begin_themselves, left_anew, left_themselves, left_through, left_zip}

-- the keeper of an account has failed
abbrev pub IsFaulty : ℕ × HostedAccount → Type 0
IsFaulty account = account.1.faults ≢ 0

pub any_of : {X : Type 0} (P : X → Type 0) (xs : List X) (x : X) → Contains xs x → P x → Any P xs
any_of P xs x there is = (there.0, x, there.1, there.2, is)

-- an element that stands at a place of one list, where the other has one beside it
zip_there : {X Y : Type 0} (R : X → Y → Type 0) (xs : List X) (ys : List Y) (x : X) → AllZip R xs ys → Contains xs x → (y : Y) × Contains ys y × R x y
zip_there R [] ys x zip there = absurd (omega (arith, there.1))
zip_there R (a ∷ xs) [] x zip there = absurd zip
zip_there R (a ∷ xs) (b ∷ ys) x zip (zero, lt, is) = (b, (0, omega arith, refl), subst (λ (v : _). R v b) is zip.0)
zip_there R (a ∷ xs) (b ∷ ys) x zip (suc k, lt, is) =
    let t = zip_there R xs ys x zip.1 (k, omega (arith, lt), is) in
    (t.0, (suc t.1.0, omega (arith, t.1.1), t.1.2), t.2)

anew_uids : (left anew : List (ℕ × HostedAccount)) → AllZip BeginsAnew left anew → uids_in anew ≡ uids_in left
anew_uids [] [] zip = refl
anew_uids [] (b ∷ anew) zip = absurd zip
anew_uids (a ∷ left) [] zip = absurd zip
anew_uids (a ∷ left) (b ∷ anew) zip = ap (λ (u : ℕ). u ∷ uids_in anew) zip.0.uid ∙ ap (λ (us : List ℕ). a.0 ∷ us) (anew_uids left anew zip.1)

pub keeper_uids : (before after : List (ℕ × HostedAccount)) → AllZip SameKeeper before after → uids_in after ≡ uids_in before
keeper_uids [] [] zip = refl
keeper_uids [] (b ∷ after) zip = absurd zip
keeper_uids (a ∷ before) [] zip = absurd zip
keeper_uids (a ∷ before) (b ∷ after) zip = ap (λ (u : ℕ). u ∷ uids_in after) zip.0.uid ∙ ap (λ (us : List ℕ). a.0 ∷ us) (keeper_uids before after zip.1)

pub all_begun : (left anew : List (ℕ × HostedAccount)) → AllZip BeginsAnew left anew → All (λ (a : ℕ × HostedAccount). HasEmptyJournal a.1) anew
all_begun [] [] zip = All-nil (λ (a : ℕ × HostedAccount). HasEmptyJournal a.1)
all_begun [] (b ∷ anew) zip = absurd zip
all_begun (a ∷ left) [] zip = absurd zip
all_begun (a ∷ left) (b ∷ anew) zip = All-cons (λ (a : ℕ × HostedAccount). HasEmptyJournal a.1) b anew zip.0.begun (all_begun left anew zip.1)

pub map_there : {X Y : Type 0} (f : X → Y) (xs : List X) (y : Y) → Contains (map f xs) y → (x : X) × Contains xs x × (f x ≡ y)
map_there f [] y there = absurd (omega (arith, there.1))
map_there f (x ∷ xs) y (zero, lt, is) = (x, (0, omega arith, refl), is)
map_there f (x ∷ xs) y (suc k, lt, is) =
    let t = map_there f xs y (k, omega (arith, lt), is) in
    (t.0, (suc t.1.0, omega (arith, t.1.1), t.1.2), t.2)

-- accounts with the same uid at each place
pub same_uids : {R : HostedAccount → HostedAccount → Type 0} (order handed : List (ℕ × HostedAccount)) → length handed ≡ length order
    → ((i uid : ℕ) (b : HostedAccount) → get_elem? order i ≡ some (uid, b) → (b' : HostedAccount) × (get_elem? handed i ≡ some (uid, b')) × R b b') → uids_in handed ≡ uids_in order
same_uids [] [] long back = refl
same_uids [] (y ∷ handed) long back = absurd (omega (arith, long))
same_uids (x ∷ order) [] long back = absurd (omega (arith, long))
same_uids {R} (x ∷ order) (y ∷ handed) long back =
    let first = back 0 x.0 x.1 refl in
    let same : y ≡ (x.0, first.0) = cc in
    ap (λ (a : ℕ × HostedAccount). a.0 ∷ uids_in handed) same ∙ ap (λ (us : List ℕ). x.0 ∷ us) (same_uids {R = R} order handed (omega (arith, long)) (λ i uid b at. back (suc i) uid b at))

anew_faulty : (handed given : List (ℕ × HostedAccount)) → AllZip BeginsAnew handed given → Any IsFaulty handed → Any IsFaulty given
anew_faulty handed given anew any =
    let there = zip_there BeginsAnew handed given any.1 anew (any.0, any.2, any.3) in
    any_of IsFaulty given there.0 there.1 (λ none. any.4 (sym there.2.faults ∙ none))

keeper_faulty : (before after : List (ℕ × HostedAccount)) → AllZip SameKeeper before after → Any IsFaulty before → Any IsFaulty after
keeper_faulty before after same any =
    let there = zip_there SameKeeper before after any.1 same (any.0, any.2, any.3) in
    any_of IsFaulty after there.0 there.1 (λ none. any.4 (sym there.2.faults ∙ none))

module _ {L : Type 0} (manner : Manner) (tells : L → Meanings) (closed : L → Bool) (says : ℕ → ℕ → Bool → Type 0) where
  abbrev Term_of : List (ℕ × HostedAccount) → List (ℕ × HostedAccount) → List (LinkReport L) → List (Option (List ℕ)) → List (Option (List ℕ)) → Type 0
  Term_of given handed reports coming coming' = IsTerm (λ account. account.fixed) (λ account. account.entries) (λ account. account.faults) manner tells closed given handed reports coming coming'

  pub term_uids : (given handed : List (ℕ × HostedAccount)) (reports : List (LinkReport L)) (coming coming' : List (Option (List ℕ))) → Term_of given handed reports coming coming' → IsPermutation (uids_in given) (uids_in handed)
  term_uids given handed reports coming coming' term =
      subst (λ (us : List ℕ). IsPermutation (uids_in given) us) (sym (same_uids {R = λ (b b' : HostedAccount). b'.fixed ≡ b.fixed} term.order handed term.count term.back))
      (IsPermutation-map (λ (a : ℕ × HostedAccount). a.0) given term.order term.moved)

  -- the keeper of an account that had failed when the account was given has failed when it is handed back
  pub term_faulty : (given handed : List (ℕ × HostedAccount)) (reports : List (LinkReport L)) (coming coming' : List (Option (List ℕ))) → All (λ (a : ℕ × HostedAccount). HasEmptyJournal a.1) given → Term_of given handed reports coming coming'
      → Any IsFaulty given → Any IsFaulty handed
  term_faulty given handed reports coming coming' begun term any =
      let there : Contains given any.1 = (any.0, any.2, any.3) in
      let moved = Contains-permutation given term.order any.1 term.moved there in
      let at : get_elem? term.order moved.0 ≡ some any.1 = at_get term.order moved.0 any.1 moved.1 ∙ ap some moved.2 in
      let back = term.back moved.0 any.1.0 any.1.1 at in
      let counted = (All-contains (λ (a : ℕ × HostedAccount). HasEmptyJournal a.1) given any.1 begun there).counted in
      let kept = term.served.kept moved.0 any.1.0 back.0 back.1 in
      let fixed : back.0.fixed.faults ≡ any.1.1.fixed.faults = ap (λ (t : _). t.faults) back.2 in
      let before : any.1.1.faults ≢ 0 = any.4 in
      any_of IsFaulty handed (any.1.0, back.0) (contains_at handed moved.0 (any.1.0, back.0) back.1) (λ none. before (omega (arith, none, kept.later, fixed, counted)))

  -- a journal that says that the keeper failed
  term_marked : (given handed : List (ℕ × HostedAccount)) (reports : List (LinkReport L)) (coming coming' : List (Option (List ℕ))) → Term_of given handed reports coming coming'
      → Any (λ (journal : ℕ × Journal). keeper_marks journal.1.entries ≢ 0) (map (λ (a : ℕ × HostedAccount). (a.0, journal_in a.1)) handed) → Any IsFaulty handed
  term_marked given handed reports coming coming' term any =
      let f : ℕ × HostedAccount → ℕ × Journal = λ (a : ℕ × HostedAccount). (a.0, journal_in a.1) in
      let there = map_there f handed any.1 (any.0, any.2, any.3) in
      let at : get_elem? handed there.1.0 ≡ some there.0 = at_get handed there.1.0 there.0 there.1.1 ∙ ap some there.1.2 in
      let kept = term.served.kept there.1.0 there.0.0 there.0.1 at in
      let marks : keeper_marks there.0.1.entries ≢ 0 = subst (λ (j : ℕ × Journal). keeper_marks j.1.entries ≢ 0) (sym there.2) any.4 in
      any_of IsFaulty handed there.0 there.1 (λ none. marks (omega (arith, none, kept.risen)))

  -- the terms so far
  pub record Stage (opened : List (ℕ × HostedAccount)) (coming : List (Option (List ℕ))) (port : Accepts) (terms : List (Term (LinkReport L))) (handed : List (ℕ × HostedAccount)) (coming' : List (Option (List ℕ))) : Type 0 where
    pub are : AreTerms manner tells closed says opened coming terms handed coming'
    pub failed : KeeperFailed terms → Any IsFaulty handed
    pub uids : IsPermutation (uids_in opened) (uids_in handed)
    pub links : RoseBy (links_of terms) 0 port.links
    pub few : links_of terms ≤ 1000 * length terms

  told_more : (terms : List (Term (LinkReport L))) (term : Term (LinkReport L)) (old mid new : Option (List (Term (LinkReport L)))) → AreToldTerms terms old mid → HasAdded term mid new → AreToldTerms (terms ++ term ∷ []) old new
  told_more terms term None mid new are added = subst (λ (m : Option (List (Term (LinkReport L)))). HasAdded term m new) are added
  told_more terms term (Some before) mid new are added =
      let last : new ≡ Some ((before ++ terms) ++ term ∷ []) = subst (λ (m : Option (List (Term (LinkReport L)))). HasAdded term m new) are added in
      last ∙ ap (λ (ts : List (Term (LinkReport L))). Some ts) (append_assoc before terms (term ∷ []))

  are_more : (left : List (ℕ × HostedAccount)) (coming : List (Option (List ℕ))) (terms : List (Term (LinkReport L))) (term : Term (LinkReport L)) (handed handed' : List (ℕ × HostedAccount)) (coming' coming'' : List (Option (List ℕ)))
      → AreTerms manner tells closed says left coming terms handed coming' → IsTermOf manner tells closed says handed coming' term handed' coming'' → AreTerms manner tells closed says left coming (terms ++ term ∷ []) handed' coming''
  are_more left coming [] term handed handed' coming' coming'' are of =
      (handed', coming'', subst (λ (c : List (Option (List ℕ))). IsTermOf manner tells closed says left c term handed' coming'') are.1 (subst (λ (h : List (ℕ × HostedAccount)). IsTermOf manner tells closed says h coming' term handed' coming'') are.0 of), (refl, refl))
  are_more left coming (first ∷ terms) term handed handed' coming' coming'' are of = (are.0, are.1, are.2, are_more are.0 are.1 terms term handed handed' coming' coming'' are.3 of)

  links_more : (terms : List (Term (LinkReport L))) (term : Term (LinkReport L)) → links_of (terms ++ term ∷ []) ≡ links_of terms + length term.reports
  links_more terms term = omega (arith, sum_by-append (λ (t : Term (LinkReport L)). length t.reports) terms (term ∷ []))

  abbrev is_short : ℕ → Term (LinkReport L) → ℕ
  is_short connections term = if nat_lt (length term.reports) connections then 1 else 0

  short_more : (connections : ℕ) (terms : List (Term (LinkReport L))) (term : Term (LinkReport L)) → short_of connections (terms ++ term ∷ []) ≡ short_of connections terms + is_short connections term
  short_more connections terms term = omega (arith, sum_by-append (is_short connections) terms (term ∷ []))

  is_whole : (connections : ℕ) (term : Term (LinkReport L)) → length term.reports ≡ connections → is_short connections term ≡ 0
  is_whole connections term whole = let t : nat_lt (length term.reports) connections ≡ false = grind (arith, nat_tests) in ap (λ (b : Bool). if b then 1 else 0) t

  is_less : (connections : ℕ) (term : Term (LinkReport L)) → length term.reports < connections → is_short connections term ≡ 1
  is_less connections term fewer = let t : nat_lt (length term.reports) connections ≡ true = grind (arith, nat_tests) in ap (λ (b : Bool). if b then 1 else 0) t

  one_more : (terms : List (Term (LinkReport L))) (term : Term (LinkReport L)) → terms ++ term ∷ [] ≢ []
  one_more terms term = λ none. absurd (omega (arith, length-append terms (term ∷ []), ap length none))

  -- one term more
  stage_more : (opened : List (ℕ × HostedAccount)) (coming : List (Option (List ℕ))) (port port' : Accepts) (terms : List (Term (LinkReport L))) (handed given handed' : List (ℕ × HostedAccount)) (coming' coming'' : List (Option (List ℕ)))
      (connections : ℕ) (term : Term (LinkReport L)) → connections ≤ 1000 → Stage opened coming port terms handed coming' → AllZip BeginsAnew handed given
      → TookPlace manner tells closed says given handed' coming' coming'' connections port port' term → Stage opened coming port' (terms ++ term ∷ []) handed' coming''
  stage_more opened coming port port' terms handed given handed' coming' coming'' connections term small stage anew took = record {
    are = are_more opened coming terms term handed handed' coming' coming'' stage.are (record { given = given; anew = anew; journals = took.journals; served = took.served; gated = took.gated });
    failed = λ any. elim (Contains-push_cases terms term any.1 (any.0, any.2, any.3)) [
      | inl there ↦ term_faulty given handed' term.reports coming' coming'' (all_begun handed given anew) took.served (anew_faulty handed given anew (stage.failed (there.0, any.1, there.1, there.2, any.4)))
      | inr same ↦ term_marked given handed' term.reports coming' coming'' took.served
          (subst (λ (js : List (ℕ × Journal)). Any (λ (j : ℕ × Journal). keeper_marks j.1.entries ≢ 0) js) took.journals
          (subst (λ (t : Term (LinkReport L)). Any (λ (j : ℕ × Journal). keeper_marks j.1.entries ≢ 0) t.journals) (sym same) any.4))
    ];
    uids = IsPermutation-trans (uids_in opened) (uids_in given) (uids_in handed') (subst (λ (us : List ℕ). IsPermutation (uids_in opened) us) (sym (anew_uids handed given anew)) stage.uids)
        (term_uids given handed' term.reports coming' coming'' took.served);
    links = subst (λ (n : ℕ). RoseBy n 0 port'.links) (sym (links_more terms term)) (rose_then (links_of terms) (length term.reports) 0 port.links port'.links stage.links took.links);
    few = omega (arith, stage.few, took.few, small, links_more terms term, length-append terms (term ∷ []));
  }

  -- how many terms are left: none are counted where they have no end
  pub record Remaining (asked left count : ℕ) : Type 0 where
    pub endless : asked ≡ 0 → left ≡ 0
    pub some : asked ≢ 0 → (left + count ≡ asked) × (0 < left)

  -- the terms of a server so far, before the next one begins
  pub record Progress (opened : List (ℕ × HostedAccount)) (coming : List (Option (List ℕ))) (connections asked : ℕ) (told told' : Option (List (Term (LinkReport L)))) (old new : Counts) (port : Accepts) (left : ℕ)
      (accounts : List (ℕ × HostedAccount)) (coming' : List (Option (List ℕ))) (number number' : ℕ) (logs logs' : Option Files) : Type 0 where
    pub terms : List (Term (LinkReport L))
    pub handed : List (ℕ × HostedAccount)
    pub are_told : AreToldTerms terms told told'
    pub numbered : number' ≡ number_after number terms
    pub saved : AreSavedLogs (logs_of number terms) logs logs'
    pub stage : Stage opened coming port terms handed coming'
    pub anew : AllZip BeginsAnew handed accounts
    pub few : All (λ (term : Term (LinkReport L)). length term.reports ≤ connections) terms
    pub rested : asked ≢ 0 → RoseBy (short_of connections terms) 0 port.rests
    pub remaining : Remaining asked left (length terms)
    pub counts : new ≡ old

  pub told_none : (told : Option (List (Term (LinkReport L)))) → AreToldTerms [] told told
  told_none None = refl
  told_none (Some terms) = ap (λ (ts : List (Term (LinkReport L))). Some ts) (sym (append-nil terms))

  pub progress_first : (opened : List (ℕ × HostedAccount)) (coming : List (Option (List ℕ))) (connections asked : ℕ) (told : Option (List (Term (LinkReport L)))) (old : Counts) (port : Accepts) (number : ℕ) (logs : Option Files)
      → All (λ (a : ℕ × HostedAccount). HasEmptyJournal a.1) opened → port ≡ idle_port → Progress opened coming connections asked told told old old port asked opened coming number number logs logs
  progress_first opened coming connections asked told old port number logs begun idle = record {
    terms = [];
    handed = opened;
    are_told = told_none told;
    numbered = refl;
    saved = none_saved logs;
    stage = record {
      are = (refl, refl);
      failed = λ any. absurd (omega (arith, any.2));
      uids = IsPermutation-refl (uids_in opened);
      links = subst (λ (p : Accepts). RoseBy 0 0 p.links) (sym idle) (record { later = omega arith; risen = omega arith; most = omega arith });
      few = omega arith;
    };
    anew = begin_themselves opened begun;
    few = All-nil (λ (term : Term (LinkReport L)). length term.reports ≤ connections);
    rested = λ asks. subst (λ (p : Accepts). RoseBy 0 0 p.rests) (sym idle) (record { later = omega arith; risen = omega arith; most = omega arith });
    remaining = record { endless = λ none. none; some = λ asks. (omega arith, omega (arith, asks)) };
    counts = refl;
  }

  pub failed_of : (accounts : List (ℕ × HostedAccount)) → Any IsFaulty accounts → Any HasFailed accounts
  failed_of accounts any = (any.0, any.1, any.2, any.3, inr any.4)

  -- all terms were told
  pub all_of : (terms : List (Term (LinkReport L))) (stop : Stop) → IsToldOf stop terms terms
  all_of terms stops.Site = inl refl
  all_of terms stops.Memory = inl refl
  all_of terms stops.PortEnded = refl
  all_of terms stops.Terms = refl
  all_of terms stops.Port = refl
  all_of terms (stops.Damaged uid) = refl
  all_of terms (stops.Keeper uid) = refl
  all_of terms (stops.Account uid fault) = refl
  all_of terms stops.Logs = refl

  no_faults : (old : Counts) → CountsFaults old old
  no_faults old = record { faults = omega arith; links = refl; ends = refl; rests = refl }

  module _ (opened : List (ℕ × HostedAccount)) (coming : List (Option (List ℕ))) (connections asked : ℕ) (told told' told'' : Option (List (Term (LinkReport L)))) (old mid new : Counts) (port port' : Accepts) (left : ℕ)
      (given handed : List (ℕ × HostedAccount)) (coming' coming'' : List (Option (List ℕ))) (number number' : ℕ) (logs logs' logs'' : Option Files) where
    within : (progress : Progress opened coming connections asked told told' old mid port left given coming' number number' logs logs') → AreWithin connections asked progress.terms
    within progress = record { few = progress.few; most = λ asks. (let counted = progress.remaining.some asks in omega (arith, counted.0, counted.1)) }

    few_more : (progress : Progress opened coming connections asked told told' old mid port left given coming' number number' logs logs') (term : Term (LinkReport L)) → TookPlace manner tells closed says given handed coming' coming'' connections port port' term
        → All (λ (t : Term (LinkReport L)). length t.reports ≤ connections) (progress.terms ++ term ∷ [])
    few_more progress term took = All-push (λ (t : Term (LinkReport L)). length t.reports ≤ connections) progress.terms term progress.few took.few

    within_more : (progress : Progress opened coming connections asked told told' old mid port left given coming' number number' logs logs') (term : Term (LinkReport L)) → TookPlace manner tells closed says given handed coming' coming'' connections port port' term
        → AreWithin connections asked (progress.terms ++ term ∷ [])
    within_more progress term took = record {
      few = few_more progress term took;
      most = λ asks. (let counted = progress.remaining.some asks in omega (arith, counted.0, counted.1, length-append progress.terms (term ∷ [])));
    }

    -- no log was saved since
    logged_left : (progress : Progress opened coming connections asked told told' old mid port left given coming' number number' logs logs') (stop : Stop) → logs'' ≡ logs' → AreLoggedUntil stop (logs_of number progress.terms) logs logs''
    logged_left progress stop same = logged_of stop (logs_of number progress.terms) logs logs'' (subst (λ (l : Option Files). AreSavedLogs (logs_of number progress.terms) logs l) (sym same) progress.saved)

    -- the logs of the terms so far, and those of one more
    more_logs : (progress : Progress opened coming connections asked told told' old mid port left given coming' number number' logs logs') (term : Term (LinkReport L))
        → logs_of number progress.terms ++ logs_of_term number' term.journals ≡ logs_of number (progress.terms ++ term ∷ [])
    more_logs progress term = ap (λ (n : ℕ). logs_of number progress.terms ++ logs_of_term n term.journals) progress.numbered ∙ sym (logs_more number progress.terms term)

    logged_more : (progress : Progress opened coming connections asked told told' old mid port left given coming' number number' logs logs') (stop : Stop) (term : Term (LinkReport L))
        → AreLoggedUntil stop (logs_of_term number' term.journals) logs' logs'' → AreLoggedUntil stop (logs_of number (progress.terms ++ term ∷ [])) logs logs''
    logged_more progress stop term logged = subst (λ (all : List NamedLog). AreLoggedUntil stop all logs logs'') (more_logs progress term)
        (logged_then stop (logs_of number progress.terms) (logs_of_term number' term.journals) logs logs' logs'' progress.saved logged)

    saved_more : (progress : Progress opened coming connections asked told told' old mid port left given coming' number number' logs logs')
        → (done : IsToldTerm manner tells closed says connections number' None (stand given coming' told' mid port logs') (stand handed coming'' told'' new port' logs'')) → AreSavedLogs (logs_of number (progress.terms ++ done.term ∷ [])) logs logs''
    saved_more progress done = subst (λ (all : List NamedLog). AreSavedLogs all logs logs'') (more_logs progress done.term)
        (saved_then (logs_of number progress.terms) (logs_of_term number' done.term.journals) logs logs' logs'' progress.saved done.logged)

    -- a term took place, after which no further one begins
    pub progress_done : (stop : Stop) → connections ≤ 1000 → Progress opened coming connections asked told told' old mid port left given coming' number number' logs logs'
        → IsToldTerm manner tells closed says connections number' (Some stop) (stand given coming' told' mid port logs') (stand handed coming'' told'' new port' logs'')
        → Course manner tells closed says opened coming connections asked told told'' old new port' handed stop number logs logs''
    progress_done stop small progress done =
        let stage = stage_more opened coming port port' progress.terms progress.handed given handed coming' coming'' connections done.term small progress.stage progress.anew done.took in
        record {
          terms = progress.terms ++ done.term ∷ [];
          told = progress.terms ++ done.term ∷ [];
          are_told = told_more progress.terms done.term told told' told'' progress.are_told done.told;
          of = all_of (progress.terms ++ done.term ∷ []) stop;
          logged = logged_more progress stop done.term done.logged;
          handed = handed;
          coming' = coming'';
          are = stage.are;
          within = within_more progress done.term done.took;
          links = stage.links;
          back = stage.uids;
          left = left_themselves handed;
          failed = λ any. failed_of handed (stage.failed any);
          uids = stage.uids;
          counts = subst (λ (c : Counts). CountsFaults old c) (sym (done.counts ∙ progress.counts)) (no_faults old);
          refused = unrefused stop done.why (ap (λ (c : Counts). c.refused) (done.counts ∙ progress.counts));
          stops = stopped (progress.terms ++ done.term ∷ []) stop done.why (one_more progress.terms done.term);
        }
      where
        unrefused : (stop : Stop) → IsLast connections port port' (Some stop) → new.refused ≡ old.refused → IsRefusedAs stop old.refused new.refused
        unrefused stops.PortEnded why same = same
        unrefused stops.Port why same = same
        unrefused stops.Memory why same = same
        unrefused stops.Logs why same = same
        unrefused stops.Terms why same = absurd why
        unrefused stops.Site why same = absurd why
        unrefused (stops.Damaged uid) why same = absurd why
        unrefused (stops.Keeper uid) why same = absurd why
        unrefused (stops.Account uid fault) why same = absurd why

        stopped : (terms : List (Term (LinkReport L))) (stop : Stop) → IsLast connections port port' (Some stop) → terms ≢ [] → Stops connections asked terms port' old new stop
        stopped terms stops.PortEnded why any = (why, any)
        stopped terms stops.Port why any = (why, any)
        stopped terms stops.Memory why any = tt
        stopped terms stops.Terms why any = absurd why
        stopped terms stops.Site why any = absurd why
        stopped terms (stops.Damaged uid) why any = absurd why
        stopped terms (stops.Keeper uid) why any = absurd why
        stopped terms (stops.Account uid fault) why any = absurd why
        stopped terms stops.Logs why any = tt

    untold_counts : (stop : Stop) → IsUntold old new stop → CountsFaults old new
    untold_counts stops.Site why = record { faults = why.faults.later; links = why.links; ends = why.ends; rests = why.rests }
    untold_counts stops.Memory why = subst (λ (c : Counts). CountsFaults old c) (sym why) (no_faults old)
    untold_counts stops.PortEnded why = absurd why
    untold_counts stops.Terms why = absurd why
    untold_counts stops.Port why = absurd why
    untold_counts (stops.Damaged uid) why = absurd why
    untold_counts (stops.Keeper uid) why = absurd why
    untold_counts (stops.Account uid fault) why = absurd why
    untold_counts stops.Logs why = absurd why

    untold_stops : (terms : List (Term (LinkReport L))) (stop : Stop) → IsUntold old new stop → Stops connections asked terms port' old new stop
    untold_stops terms stops.Site why = why.faults
    untold_stops terms stops.Memory why = tt
    untold_stops terms stops.PortEnded why = absurd why
    untold_stops terms stops.Terms why = absurd why
    untold_stops terms stops.Port why = absurd why
    untold_stops terms (stops.Damaged uid) why = absurd why
    untold_stops terms (stops.Keeper uid) why = absurd why
    untold_stops terms (stops.Account uid fault) why = absurd why
    untold_stops terms stops.Logs why = absurd why

    -- no term took place
    pub progress_lost : (stop : Stop) → Progress opened coming connections asked told told' old mid port left given coming' number number' logs logs' → IsLost (Some stop) (stand given coming' told' mid port logs') (stand handed coming'' told'' new port' logs'')
        → Course manner tells closed says opened coming connections asked told told'' old new port' handed stop number logs logs''
    progress_lost stop progress lost =
        let same : lost.stop ≡ stop = cc in
        let why : IsUntold mid new stop = subst (λ (s : Stop). IsUntold mid new s) same lost.why in
        let why' : IsUntold old new stop = subst (λ (c : Counts). IsUntold c new stop) progress.counts why in
        record {
          terms = progress.terms;
          told = progress.terms;
          are_told = subst (λ (t : Option (List (Term (LinkReport L)))). AreToldTerms progress.terms told t) (sym lost.untold) progress.are_told;
          of = all_of progress.terms stop;
          logged = logged_left progress stop lost.unlogged;
          handed = progress.handed;
          coming' = coming';
          are = progress.stage.are;
          within = within progress;
          links = subst (λ (n : ℕ). RoseBy (links_of progress.terms) 0 n) (sym lost.links) progress.stage.links;
          back = progress.stage.uids;
          left = left_through progress.handed given handed (left_zip BeginsAnew (λ x y anew. (anew.uid, left_anew x y anew)) progress.handed given progress.anew) lost.left;
          failed = λ any. lost.failed (failed_of given (anew_faulty progress.handed given progress.anew (progress.stage.failed any)));
          uids = IsPermutation-trans (uids_in opened) (uids_in given) (uids_in handed) (subst (λ (us : List ℕ). IsPermutation (uids_in opened) us) (sym (anew_uids progress.handed given progress.anew)) progress.stage.uids) lost.uids;
          counts = untold_counts stop why';
          refused = untold_refused stop old new why';
          stops = untold_stops progress.terms stop why';
        }

    -- a term took place, and the site wasn't told
    pub progress_unheard : (stop : Stop) → connections ≤ 1000 → Progress opened coming connections asked told told' old mid port left given coming' number number' logs logs'
        → IsUnheard manner tells closed says connections (Some stop) (stand given coming' told' mid port logs') (stand handed coming'' told'' new port' logs'')
        → Course manner tells closed says opened coming connections asked told told'' old new port' handed stop number logs logs''
    progress_unheard stop small progress unheard =
        let same : unheard.stop ≡ stop = cc in
        let why : IsUntold mid new stop = subst (λ (s : Stop). IsUntold mid new s) same unheard.why in
        let why' : IsUntold old new stop = subst (λ (c : Counts). IsUntold c new stop) progress.counts why in
        let stage = stage_more opened coming port port' progress.terms progress.handed given handed coming' coming'' connections unheard.term small progress.stage progress.anew unheard.took in
        record {
          terms = progress.terms ++ unheard.term ∷ [];
          told = progress.terms;
          are_told = subst (λ (t : Option (List (Term (LinkReport L)))). AreToldTerms progress.terms told t) (sym unheard.untold) progress.are_told;
          of = but_last progress.terms unheard.term stop why';
          logged = logged_left progress stop unheard.unlogged;
          handed = handed;
          coming' = coming'';
          are = stage.are;
          within = within_more progress unheard.term unheard.took;
          links = stage.links;
          back = stage.uids;
          left = left_themselves handed;
          failed = λ any. failed_of handed (stage.failed any);
          uids = stage.uids;
          counts = untold_counts stop why';
          refused = untold_refused stop old new why';
          stops = untold_stops (progress.terms ++ unheard.term ∷ []) stop why';
        }
      where
        but_last : (terms : List (Term (LinkReport L))) (term : Term (LinkReport L)) (stop : Stop) → IsUntold old new stop → IsToldOf stop (terms ++ term ∷ []) terms
        but_last terms term stops.Site why = inr (term, refl)
        but_last terms term stops.Memory why = inr (term, refl)
        but_last terms term stops.PortEnded why = absurd why
        but_last terms term stops.Terms why = absurd why
        but_last terms term stops.Port why = absurd why
        but_last terms term (stops.Damaged uid) why = absurd why
        but_last terms term (stops.Keeper uid) why = absurd why
        but_last terms term (stops.Account uid fault) why = absurd why
        but_last terms term stops.Logs why = absurd why

    -- of the terms so far as many were short as the port rested times
    rested_more : connections ≤ 1000 → asked ≤ 999999999999 → (progress : Progress opened coming connections asked told told' old mid port left given coming' number number' logs logs')
        → (done : IsToldTerm manner tells closed says connections number' None (stand given coming' told' mid port logs') (stand handed coming'' told'' new port' logs'')) → asked ≢ 0
        → RoseBy (short_of connections (progress.terms ++ done.term ∷ [])) 0 port'.rests
    rested_more small most progress done asks =
        let counted = progress.remaining.some asks in
        let bound : links_of progress.terms + connections < 2 ^ 64 - 1 = omega (arith, progress.stage.few, counted.0, counted.1, small, most) in
        let both : (one : ℕ) → is_short connections done.term ≡ one → RoseBy one port.rests port'.rests → RoseBy (short_of connections (progress.terms ++ done.term ∷ [])) 0 port'.rests =
        λ one is rose. subst (λ (n : ℕ). RoseBy n 0 port'.rests) (sym (short_more connections progress.terms done.term ∙ ap (λ (n : ℕ). short_of connections progress.terms + n) is))
        (rose_then (short_of connections progress.terms) one 0 port.rests port'.rests (progress.rested asks) rose) in
        elim done.why.0 [
          | inl all ↦
              let whole = rose_once connections (length done.term.reports) port.links port'.links (links_of progress.terms) progress.stage.links all.0 done.took.links done.took.few bound in
              both 0 (is_whole connections done.term whole) (rose_none port.rests port'.rests all.3)
          | inr rest ↦
              let fewer = rose_less connections rest.3.count (length done.term.reports) port.links port'.links (links_of progress.terms) progress.stage.links rest.3.rose done.took.links rest.3.few bound in
              both 1 (is_less connections done.term fewer) rest.0
        ]

    -- the last term that was asked took place
    pub progress_terms : connections ≤ 1000 → asked ≤ 999999999999 → left ≡ 1 → Progress opened coming connections asked told told' old mid port left given coming' number number' logs logs'
        → IsToldTerm manner tells closed says connections number' None (stand given coming' told' mid port logs') (stand handed coming'' told'' new port' logs'')
        → Course manner tells closed says opened coming connections asked told told'' old new port' handed stops.Terms number logs logs''
    progress_terms small most last progress done =
        let stage = stage_more opened coming port port' progress.terms progress.handed given handed coming' coming'' connections done.term small progress.stage progress.anew done.took in
        let asks : asked ≢ 0 = λ none. absurd (omega (arith, progress.remaining.endless none, last)) in
        let long : length (progress.terms ++ done.term ∷ []) ≡ asked = omega (arith, length-append progress.terms (done.term ∷ []), (progress.remaining.some asks).0, last) in
        record {
          terms = progress.terms ++ done.term ∷ [];
          told = progress.terms ++ done.term ∷ [];
          are_told = told_more progress.terms done.term told told' told'' progress.are_told done.told;
          of = refl;
          logged = saved_more progress done;
          handed = handed;
          coming' = coming'';
          are = stage.are;
          within = within_more progress done.term done.took;
          links = stage.links;
          back = stage.uids;
          left = left_themselves handed;
          failed = λ any. failed_of handed (stage.failed any);
          uids = stage.uids;
          counts = subst (λ (c : Counts). CountsFaults old c) (sym (done.counts ∙ progress.counts)) (no_faults old);
          refused = ap (λ (c : Counts). c.refused) (done.counts ∙ progress.counts);
          stops = (asks, long, rested_more small most progress done asks);
        }

    -- a term took place, and the accounts couldn't all begin anew
    pub progress_short : (accounts : List (ℕ × HostedAccount)) → connections ≤ 1000 → Progress opened coming connections asked told told' old mid port left given coming' number number' logs logs'
        → IsToldTerm manner tells closed says connections number' None (stand given coming' told' mid port logs') (stand handed coming'' told'' new port' logs'') → AllZip SameKeeper handed accounts
        → Course manner tells closed says opened coming connections asked told told'' old new port' accounts stops.Memory number logs logs''
    progress_short accounts small progress done keepers =
        let stage = stage_more opened coming port port' progress.terms progress.handed given handed coming' coming'' connections done.term small progress.stage progress.anew done.took in
        record {
          terms = progress.terms ++ done.term ∷ [];
          told = progress.terms ++ done.term ∷ [];
          are_told = told_more progress.terms done.term told told' told'' progress.are_told done.told;
          of = inl refl;
          logged = all_partly (logs_of number (progress.terms ++ done.term ∷ [])) logs logs'' (saved_more progress done);
          handed = handed;
          coming' = coming'';
          are = stage.are;
          within = within_more progress done.term done.took;
          links = stage.links;
          back = stage.uids;
          left = left_zip SameKeeper (λ x y same. (same.uid, same.left)) handed accounts keepers;
          failed = λ any. failed_of accounts (keeper_faulty handed accounts keepers (stage.failed any));
          uids = subst (λ (us : List ℕ). IsPermutation (uids_in opened) us) (sym (keeper_uids handed accounts keepers)) stage.uids;
          counts = subst (λ (c : Counts). CountsFaults old c) (sym (done.counts ∙ progress.counts)) (no_faults old);
          refused = ap (λ (c : Counts). c.refused) (done.counts ∙ progress.counts);
          stops = tt;
        }

    -- a term took place, and the accounts begin anew
    pub progress_on : (accounts : List (ℕ × HostedAccount)) (number'' : ℕ) → connections ≤ 1000 → asked ≤ 999999999999 → left ≢ 1 → Progress opened coming connections asked told told' old mid port left given coming' number number' logs logs'
        → IsToldTerm manner tells closed says connections number' None (stand given coming' told' mid port logs') (stand handed coming'' told'' new port' logs'') → AllZip BeginsAnew handed accounts
        → number'' ≡ raised_count number' → Progress opened coming connections asked told told'' old new port' (left - 1) accounts coming'' number number'' logs logs''
    progress_on accounts number'' small most more progress done anew next = record {
      terms = progress.terms ++ done.term ∷ [];
      handed = handed;
      are_told = told_more progress.terms done.term told told' told'' progress.are_told done.told;
      numbered = next ∙ ap raised_count progress.numbered ∙ sym (number_more number progress.terms done.term);
      saved = saved_more progress done;
      stage = stage_more opened coming port port' progress.terms progress.handed given handed coming' coming'' connections done.term small progress.stage progress.anew done.took;
      anew = anew;
      few = few_more progress done.term done.took;
      rested = rested_more small most progress done;
      remaining = record {
        endless = λ none. omega (arith, progress.remaining.endless none);
        some = λ asks. (let counted = progress.remaining.some asks in
            (omega (arith, counted.0, counted.1, more, length-append progress.terms (done.term ∷ [])), omega (arith, counted.1, more)));
      };
      counts = done.counts ∙ progress.counts;
    }

    -- a term after which no further one begins
    pub progress_stop : (stop : Stop) (last : Option Stop) → connections ≤ 1000 → Progress opened coming connections asked told told' old mid port left given coming' number number' logs logs'
        → IsOnce manner tells closed says connections number' last (stand given coming' told' mid port logs') (stand handed coming'' told'' new port' logs'') → last ≡ Some stop
        → Course manner tells closed says opened coming connections asked told told'' old new port' handed stop number logs logs''
    progress_stop stop last small progress once is =
        let now : IsOnce manner tells closed says connections number' (Some stop) (stand given coming' told' mid port logs') (stand handed coming'' told'' new port' logs'') =
        subst (λ (l : Option Stop). IsOnce manner tells closed says connections number' l (stand given coming' told' mid port logs') (stand handed coming'' told'' new port' logs'')) is once in
        elim now [ inl lost ↦ progress_lost stop progress lost | inr took ↦ elim took [ inl unheard ↦ progress_unheard stop small progress unheard | inr done ↦ progress_done stop small progress done ] ]

    -- a term after which a further one may begin
    pub once_on : (last : Option Stop) → IsOnce manner tells closed says connections number' last (stand given coming' told' mid port logs') (stand handed coming'' told'' new port' logs'') → last ≡ None
        → IsToldTerm manner tells closed says connections number' None (stand given coming' told' mid port logs') (stand handed coming'' told'' new port' logs'')
    once_on last once is =
        let now : IsOnce manner tells closed says connections number' None (stand given coming' told' mid port logs') (stand handed coming'' told'' new port' logs'') =
        subst (λ (l : Option Stop). IsOnce manner tells closed says connections number' l (stand given coming' told' mid port logs') (stand handed coming'' told'' new port' logs'')) is once in
        elim now [ inl lost ↦ impossible lost.stop lost.is | inr took ↦ elim took [ inl unheard ↦ impossible unheard.stop unheard.is | inr done ↦ done ] ]
      where
        impossible : (stop : Stop) → None ≡ Some stop → IsToldTerm manner tells closed says connections number' None (stand given coming' told' mid port logs') (stand handed coming'' told'' new port' logs'')
        impossible stop is = absurd cc
