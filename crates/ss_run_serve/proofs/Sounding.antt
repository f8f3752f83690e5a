-- The journals of an account's terms are sound logs: each is made by calls, and each after the first opens with the account that the
-- one before leaves.
use Rattle.std.specs.Prelude.{◌≡◌, ◌<◌, ◌≤◌, ◌+◌, ℕ, zero, suc, Bool, List, [], ◌∷◌, length, map, get_or, replicate}
use Rattle.std.specs.Prelude.{Option, All, Contains, ⊤, refl}
use Rattle.std.specs.List.{AllZip, AllAdjacentBelow}
use Rattle.std.specs.List.Sorted.{IsStrictlyIncreasing}
use Rattle.std.proofs.Common.{sym, ap, subst, ◌∙◌, arith}
use Rattle.std.proofs.lemmas.List.Elements.{All-cons, All-contains, All-contains_itself, All-nil, All-weaker}
use mathlib.Core.Option.{some}
use lib.ListN.{get_elem?}
use Rattle.ss_desk.proofs.Lists.{at_get, at_length, one_at}
use Rattle.ss_desk.proofs.Beside.{there_is}
use Rattle.ss_town.proofs.Sorting.{moved_at, one_place}
use Rattle.ss_outside.specs.Told.{Meanings}
use Rattle.ss_bso.specs.declared.account.Plain.{Plain}
use Rattle.ss_bso.specs.Validity.{SameAccount}
use Rattle.ss_laws.specs.Journal.{Journal}
use Rattle.ss_laws.specs.Journals.{account_after}
use Rattle.ss_booked.specs.declared.booked.Terms.{Terms}
use Rattle.ss_booked.specs.Sizes.{most_entries}
use Rattle.ss_booked.specs.Turns.{IsMadeByCalls}
use Rattle.ss_audit.specs.Sound.{AreSound}
use Rattle.ss_audit.specs.Terms.{AreOfTerms, IsOfTerm}
use Rattle.ss_audit.proofs.Terms.{terms_sound}
use Rattle.ss_route.specs.declared.manner.Manner.{Manner}
use Rattle.ss_site.specs.Sites.{Entries, Term}
use Rattle.ss_serve.specs.declared.report.LinkReport.{LinkReport}
use Rattle.ss_serve.specs.Terms.{uids_in}
use Rattle.ss_serve.proofs.Crews.{at_map}
use Rattle.ss_words.specs.declared.commands.ServeCommand.{ServeCommand}
use Rattle.ss_run_serve.specs.Hosted.{HostedAccount, journal_in, left_by}
use Rattle.ss_run_serve.specs.Opening.{OpensAccount}
use Rattle.ss_run_serve.specs.Terms.{AreTerms, BeginsAnew, IsTermOf}
use Rattle.ss_run_serve.specs.Serving.{AreServedBy, ServedSite}
use Rattle.ss_run_serve.specs.Logged.{AreJournalsOf}
use Rattle.ss_run_serve.proofs.Handed.{contains_at}
use Rattle.ss_run_serve.proofs.Progress.{map_there}

-- what stands beside an element of the second list
beside : {X Y : Type 0} (R : X → Y → Type 0) (xs : List X) (ys : List Y) (y : Y) → AllZip R xs ys → Contains ys y → (x : X) × Contains xs x × R x y
beside R [] [] y zip there = absurd (omega (arith, there.1))
beside R [] (b ∷ ys) y zip there = absurd zip
beside R (a ∷ xs) [] y zip there = absurd zip
beside R (a ∷ xs) (b ∷ ys) y zip (zero, lt, is) = (a, (0, omega arith, refl), subst (λ (v : _). R a v) is zip.0)
beside R (a ∷ xs) (b ∷ ys) y zip (suc k, lt, is) =
    let t = beside R xs ys y zip.1 (k, omega (arith, lt), is) in
    (t.0, (suc t.1.0, omega (arith, t.1.1), t.1.2), t.2)

-- of accounts whose uids rise, no two have the same
only_one : (accounts : List (ℕ × HostedAccount)) → IsStrictlyIncreasing (uids_in accounts) → (a b : ℕ × HostedAccount) → Contains accounts a → Contains accounts b → a.0 ≡ b.0 → a ≡ b
only_one accounts rise a b first second same =
    let here : get_elem? accounts first.0 ≡ some a = at_get accounts first.0 a first.1 ∙ ap some first.2 in
    let there : get_elem? accounts second.0 ≡ some b = at_get accounts second.0 b second.1 ∙ ap some second.2 in
    let uid : ℕ × HostedAccount → ℕ = λ (account : ℕ × HostedAccount). account.0 in
    let one : first.0 ≡ second.0 = one_place (uids_in accounts) rise first.0 second.0 b.0 (at_map uid accounts first.0 a here ∙ ap some same) (at_map uid accounts second.0 b there) in
    one_at accounts second.0 a b (subst (λ (k : ℕ). get_elem? accounts k ≡ some a) one here) there

-- the journal of each has room for no more entries than a journal may have
abbrev Roomy : List (ℕ × HostedAccount) → Type 0
Roomy accounts = All (λ (account : ℕ × HostedAccount). account.1.fixed.most ≤ most_entries) accounts

opened_roomy : (folder : List ℕ) (kept : Option Entries) (accounts : List (ℕ × HostedAccount)) → All (OpensAccount folder kept) accounts → Roomy accounts
opened_roomy folder kept accounts from = All-weaker (OpensAccount folder kept) (λ (account : ℕ × HostedAccount). account.1.fixed.most ≤ most_entries) (λ account is. omega (arith, is.most)) accounts from

-- the account with this uid that was left, where the journal goes on
record GoesOnFrom (left : List (ℕ × HostedAccount)) (uid : ℕ) (fixed : Terms) : Type 0 where
  account : ℕ × HostedAccount
  there : Contains left account
  named : account.0 ≡ uid
  opening : SameAccount (left_by account.1) fixed.opening
  most : fixed.most ≡ account.1.fixed.most

-- the account with this uid opens the first of these journals
abbrev Opens : List (ℕ × HostedAccount) → ℕ → List Journal → Type 0
Opens left uid [] = ⊤
Opens left uid (journal ∷ journals) = (account : ℕ × HostedAccount) × Contains left account × (account.0 ≡ uid) × SameAccount (left_by account.1) journal.opening

abbrev GoesOn : Journal → Journal → Type 0
GoesOn journal next = SameAccount (account_after journal.opening journal.entries) next.opening

-- the first of these journals goes on from this one
abbrev Follow : Journal → List Journal → Type 0
Follow journal [] = ⊤
Follow journal (next ∷ journals) = GoesOn journal next

abbrev Chain : List Journal → Type 0
Chain [] = ⊤
Chain (journal ∷ journals) = Follow journal journals × Chain journals

adjacent_next : (journals : List Journal) → Chain journals → (k : ℕ) (d : Journal) → suc k < length journals → GoesOn (get_or journals k d) (get_or journals (suc k) d)
adjacent_next [] chain k d lt = absurd (omega (arith, lt))
adjacent_next (journal ∷ []) chain k d lt = absurd (omega (arith, lt))
adjacent_next (journal ∷ next ∷ journals) chain zero d lt = chain.0
adjacent_next (journal ∷ next ∷ journals) chain (suc k) d lt = adjacent_next (next ∷ journals) chain.1 k d (omega (arith, lt))

adjacent : (journals : List Journal) → Chain journals → (k : ℕ) (d : Journal) → k + 1 < length journals → GoesOn (get_or journals k d) (get_or journals (k + 1) d)
adjacent journals chain k d lt =
    let one : suc k ≡ k + 1 = omega arith in
    subst (λ (n : ℕ). GoesOn (get_or journals k d) (get_or journals n d)) one (adjacent_next journals chain k d (omega (arith, lt)))

follows : (between : List (ℕ × HostedAccount)) → IsStrictlyIncreasing (uids_in between) → (uid : ℕ) (h : HostedAccount) → Contains between (uid, h) → (journals : List Journal) → Opens between uid journals → Follow (journal_in h) journals
follows between rise uid h there [] opens = tt
follows between rise uid h there (next ∷ journals) (account, here, named, opening) =
    let one : account ≡ (uid, h) = only_one between rise account (uid, h) here there named in
    subst (λ (a : ℕ × HostedAccount). SameAccount (left_by a.1) next.opening) one opening

module _ {L : Type 0} (manner : Manner) (tells : L → Meanings) (closed : L → Bool) (says : ℕ → ℕ → Bool → Type 0) where
  -- an account that a term hands back: calls made its journal, which goes on from an account that was left
  from_left : (left : List (ℕ × HostedAccount)) (coming : List (Option (List ℕ))) (term : Term (LinkReport L)) (handed : List (ℕ × HostedAccount)) (coming' : List (Option (List ℕ)))
      → IsTermOf manner tells closed says left coming term handed coming' → (account : ℕ × HostedAccount) → Contains handed account → IsMadeByCalls (journal_in account.1) × GoesOnFrom left account.0 account.1.fixed
  from_left left coming term handed coming' of account there =
      let k = there.0 in
      let at : get_elem? handed k ≡ some account = at_get handed k account there.1 ∙ ap some there.2 in
      let before = there_is of.served.order k (omega (arith, there.1, of.served.count)) in
      let back = of.served.back k before.0.0 before.0.1 before.1 in
      let same : (before.0.0, back.0) ≡ account = one_at handed k (before.0.0, back.0) account back.1 at in
      let given = moved_at of.given of.served.order k before.0 of.served.moved before.1 in
      let left_one = beside BeginsAnew left of.given before.0 of.anew (contains_at of.given given.0 before.0 given.1) in
      let fixed : account.1.fixed ≡ before.0.1.fixed = ap (λ (a : ℕ × HostedAccount). a.1.fixed) (sym same) ∙ back.2 in
      let made : IsMadeByCalls (journal_in account.1) = (of.served.served.lawful k account.0 account.1 at).0 in (
        made,
        record {
          account = left_one.0;
          there = left_one.1;
          named = sym left_one.2.uid ∙ ap (λ (a : ℕ × HostedAccount). a.0) same;
          opening = subst (λ (t : Terms). SameAccount (left_by left_one.0.1) t.opening) (sym fixed) left_one.2.opening;
          most = ap (λ (t : Terms). t.most) fixed ∙ left_one.2.most;
        },
      )

  term_roomy : (left : List (ℕ × HostedAccount)) (coming : List (Option (List ℕ))) (term : Term (LinkReport L)) (handed : List (ℕ × HostedAccount)) (coming' : List (Option (List ℕ)))
      → IsTermOf manner tells closed says left coming term handed coming' → Roomy left → Roomy handed
  term_roomy left coming term handed coming' of roomy =
      All-weaker (Contains handed) (λ (account : ℕ × HostedAccount). account.1.fixed.most ≤ most_entries)
      (λ account there.
      let from = (from_left left coming term handed coming' of account there).1 in
      let room : from.account.1.fixed.most ≤ most_entries = All-contains (λ (a : ℕ × HostedAccount). a.1.fixed.most ≤ most_entries) left from.account roomy from.there in
      omega (arith, from.most, room)) handed (All-contains_itself handed)

  -- what is known of the journals of an account, from the accounts that were left on
  record AreLogged (left : List (ℕ × HostedAccount)) (uid : ℕ) (journals : List Journal) : Type 0 where
    each : All IsOfTerm journals
    chain : Chain journals
    opens : Opens left uid journals

  logged : (left : List (ℕ × HostedAccount)) (coming : List (Option (List ℕ))) (terms : List (Term (LinkReport L))) (handed : List (ℕ × HostedAccount)) (coming' : List (Option (List ℕ)))
      → Roomy left → AreTerms manner tells closed says left coming terms handed coming' → (uid : ℕ) (journals : List Journal) → AreJournalsOf uid terms journals → AreLogged left uid journals
  logged left coming [] handed coming' roomy are uid [] zip = record { each = All-nil IsOfTerm; chain = tt; opens = tt }
  logged left coming [] handed coming' roomy are uid (journal ∷ journals) zip = absurd zip
  logged left coming (term ∷ terms) handed coming' roomy are uid [] zip = absurd zip
  logged left coming (term ∷ terms) handed coming' roomy (between, coming_between, of, more) uid (journal ∷ journals) zip =
      let name : ℕ × HostedAccount → ℕ × Journal = λ (a : ℕ × HostedAccount). (a.0, journal_in a.1) in
      let found = map_there name between (uid, journal) (subst (λ (js : List (ℕ × Journal)). Contains js (uid, journal)) of.journals zip.0) in
      let own : found.0.0 ≡ uid = ap (λ (j : ℕ × Journal). j.0) found.2 in
      let is : journal_in found.0.1 ≡ journal = ap (λ (j : ℕ × Journal). j.1) found.2 in
      let there : Contains between (uid, found.0.1) = subst (λ (u : ℕ). Contains between (u, found.0.1)) own found.1 in
      let from = from_left left coming term between coming_between of found.0 found.1 in
      let later = logged between coming_between terms handed coming' (term_roomy left coming term between coming_between of roomy) more uid journals zip.1 in
      let room : from.1.account.1.fixed.most ≤ most_entries = All-contains (λ (a : ℕ × HostedAccount). a.1.fixed.most ≤ most_entries) left from.1.account roomy from.1.there in
      let made : IsOfTerm (journal_in found.0.1) = record { made = from.0; room = omega (arith, from.1.most, room) } in
      record {
        each = All-cons IsOfTerm journal journals (subst IsOfTerm is made) later.each;
        chain = (subst (λ (j : Journal). Follow j journals) is (follows between of.served.sorted uid found.0.1 there journals later.opens), later.chain);
        opens = (from.1.account, from.1.there, from.1.named ∙ own, subst (λ (j : Journal). SameAccount (left_by from.1.account.1) j.opening) is from.1.opening);
      }

pub logs_sound : {L : Type 0} (tells : L → Meanings) (closed : L → Bool) (says : ℕ → ℕ → Bool → Type 0) (command : ServeCommand) (terms : List (Term (LinkReport L))) (old new : ServedSite (LinkReport L))
    → AreServedBy tells closed says command terms old new → (uid : ℕ) (journals : List Journal) → AreJournalsOf uid terms journals → AreSound journals
logs_sound tells closed says command terms old new served uid journals zip =
    let all = logged command.manner tells closed says served.opened (replicate command.workers old.readings) terms served.handed served.coming' (opened_roomy command.folder old.kept served.opened served.from) served.are uid journals zip in
    terms_sound journals record { each = all.each; go_on = adjacent journals all.chain }
