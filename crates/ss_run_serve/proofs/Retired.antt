-- Entries and counts of a site once keepers came back.
use Rattle.std.specs.Prelude.{◌≡◌, ◌≢◌, ◌⊎◌, ◌≤◌, ℕ, zero, suc, Bool, true, false, ◌==◌, List, [], ◌∷◌, ◌++◌, map}
use Rattle.std.specs.Prelude.{length, Option, Some, None, bytes_eq, All, Any, Contains, refl}
use Rattle.std.proofs.Common.{sym, ap, subst, ◌∙◌, inl, inr, arith}
use Rattle.std.proofs.lemmas.Bool.{false≢true, eqb-true, eqb-false}
use Rattle.std.proofs.lemmas.List.{map-append}
use Rattle.std.proofs.lemmas.List.Elements.{All-contains, All-cons, All-head, All-nil, All-tail, Contains-append_left}
use Rattle.std.proofs.lemmas.List.Elements.{Contains-append_right, Contains-push, Contains-push_cases}
use Rattle.ss_outside.specs.Causes.{Rose}
use Rattle.ss_bso.specs.declared.changes.Kept.{Kept}
use Rattle.ss_site.specs.Sites.{Counts, Entries, IsEntry, IsWith, HasRetired, CountsKeeper, RefusedCalls, RoseUnless}
use Rattle.ss_site.specs.Sites.{TellsStill}
use Rattle.ss_account.specs.declared.faults.OpenFault.{OpenFault}
use Rattle.ss_account.specs.declared.faults.OpenFault.TheVariants as opening
use Rattle.ss_run_serve.specs.Hosted.{HostedAccount}
use Rattle.ss_run_serve.specs.declared.stop.Stop.{Stop}
use Rattle.ss_run_serve.specs.declared.stop.Stop.TheVariants as stops
use Rattle.ss_run_serve.specs.Opening.{AreAsBefore, CountsFaults, IsWhyUnopened, RefusesOne, stop_at}
use Rattle.ss_run_serve.specs.Once.{IsUntold}
use Rattle.ss_run_serve.specs.Refusals.{IsRefusedAs}
use Rattle.ss_run_serve.specs.Retiring.{uids_in, ComeBack, HaveRetired, CountsKeepers}
use Rattle.ss_text.proofs.Basics.{same_text, bytes_eq-same}

-- a text is another one, or isn't
text_cases : (b : Bool) (x y : List ℕ) → bytes_eq x y ≡ b → (x ≡ y) ⊎ (x ≢ y)
text_cases true x y e = inl (same_text x y e)
text_cases false x y e = inr (λ s. false≢true (sym e ∙ bytes_eq-same x y s))

number_cases : (b : Bool) (x y : ℕ) → (x == y) ≡ b → (x ≡ y) ⊎ (x ≢ y)
number_cases true x y e = inl (eqb-true x y e)
number_cases false x y e = inr (eqb-false x y e)

pub listed_cases : (uids : List ℕ) (uid : ℕ) → Contains uids uid ⊎ ¬ Contains uids uid
listed_cases [] uid = inr (λ c. absurd (omega (arith, c.1)))
listed_cases (first ∷ uids) uid =
    elim (number_cases (first == uid) first uid refl) [
      | inl same ↦ inl (subst (λ (u : ℕ). Contains (first ∷ uids) u) same (0, omega arith, refl))
      | inr apart ↦ elim (listed_cases uids uid) [ inl there ↦ inl (Contains-append_right (first ∷ []) uids uid there) | inr not ↦ inr (none_there first uids uid apart not) ]
    ]
  where
    none_there : (first : ℕ) (uids : List ℕ) (uid : ℕ) → first ≢ uid → ¬ Contains uids uid → ¬ Contains (first ∷ uids) uid
    none_there first uids uid apart not (zero, lt, is) = apart is
    none_there first uids uid apart not (suc k, lt, is) = not (k, omega (arith, lt), is)

-- where the keeper told the entry, nothing changed
each_same : (folder : List ℕ) (uid : ℕ) (kept : Kept) (before after : Entries) → kept ≡ before folder uid → IsWith folder uid kept before after → (f : List ℕ) (u : ℕ) → after f u ≡ before f u
each_same folder uid kept before after same now f u =
    elim (text_cases (bytes_eq f folder) f folder refl) [
      | inr apart ↦ now.others f u (inl apart)
      | inl here ↦ elim (number_cases (u == uid) u uid refl) [
        | inr apart ↦ now.others f u (inr apart)
        | inl there ↦ ap (λ (x : List ℕ). after x u) here ∙ ap (after folder) there ∙ now.here ∙ same ∙ sym (ap (λ (x : List ℕ). before x u) here ∙ ap (before folder) there)
      ]
    ]

pub retired_as_before : (folder : List ℕ) (uid : ℕ) (told : Option Kept) (old new : Option Entries) → IsEntry folder uid told old → HasRetired folder uid told old new → AreAsBefore old new
retired_as_before folder uid told old new entry retired = λ after is.
    let r = retired after is in
    let at : told ≡ Some (r.0 folder uid) = (let P : Option Entries → Type 0 = λ (o : Option Entries). IsEntry folder uid told o in subst P r.2 entry) in
    let there : Some r.1 ≡ Some (r.0 folder uid) = sym r.3 ∙ at in
    let same : r.1 ≡ r.0 folder uid = cc in
    (r.0, r.2, each_same folder uid r.1 r.0 after same r.4)

-- nothing was taken or given: all is as before
pub unchanged_as_before : (old new : Option Entries) → new ≡ old → AreAsBefore old new
unchanged_as_before old new same = λ after is. (after, sym same ∙ is, λ f u. refl)

pub as_before_then : (old mid new : Option Entries) → AreAsBefore old mid → AreAsBefore mid new → AreAsBefore old new
as_before_then old mid new first then = λ after is.
    let t = then after is in
    let f = first t.0 t.1 in
    (f.0, f.1, λ folder uid. t.2 folder uid ∙ f.2 folder uid)

pub counts_one : (n : ℕ) (old new : Counts) → CountsKeeper n old new → CountsFaults old new
counts_one n old new counted = record { faults = later n old.faults new.faults counted.faults; links = counted.links; ends = counted.ends; rests = counted.rests }
  where
    later : (n before now : ℕ) → RoseUnless n before now → before ≤ now
    later zero before now rose = omega (arith, rose.none refl)
    later (suc n) before now rose = (rose.some (omega arith)).later

-- one keeper more came back
come_back_more : (folder : List ℕ) (done : List (ℕ × HostedAccount)) (account : ℕ × HostedAccount) (kept : Kept) (before mid after : Entries) → account.1.told ≡ Some kept → ComeBack folder done before mid
    → IsWith folder account.0 kept mid after → ComeBack folder (done ++ account ∷ []) before after
come_back_more folder done account kept before mid after told back now = record {
  listed = λ uid c. elim (number_cases (account.0 == uid) account.0 uid refl) [
    | inl same ↦ last uid same
    | inr apart ↦ earlier uid apart (back.listed uid (elim (Contains-push_cases (uids_in done) account.0 uid (subst (λ (us : List ℕ). Contains us uid) uids c)) [ inl there ↦ there | inr same ↦ absurd (apart same) ]))
  ];
  others = λ f u apart. elim apart [
    | inl f_apart ↦ now.others f u (inl f_apart) ∙ back.others f u (inl f_apart)
    | inr not ↦ now.others f u (inr (λ same. not (subst (λ (us : List ℕ). Contains us u) (sym uids) (subst (λ (v : ℕ). Contains (uids_in done ++ account.0 ∷ []) v) (sym same) (Contains-push (uids_in done) account.0)))))
        ∙ back.others f u (inr (λ there. not (subst (λ (us : List ℕ). Contains us u) (sym uids) (Contains-append_left (uids_in done) (account.0 ∷ []) u there))))
  ];
}
  where
    uids : uids_in (done ++ account ∷ []) ≡ uids_in done ++ account.0 ∷ []
    uids = map-append (λ (a : ℕ × HostedAccount). a.0) done (account ∷ [])

    last : (uid : ℕ) → account.0 ≡ uid → Any (λ (a : ℕ × HostedAccount). (a.0 ≡ uid) × (a.1.told ≡ Some (after folder uid))) (done ++ account ∷ [])
    last uid same = let c = Contains-push done account in
        (c.0, account, c.1, c.2, (same, told ∙ ap Some (sym now.here ∙ ap (after folder) same)))

    earlier : (uid : ℕ) → account.0 ≢ uid → Any (λ (a : ℕ × HostedAccount). (a.0 ≡ uid) × (a.1.told ≡ Some (mid folder uid))) done
        → Any (λ (a : ℕ × HostedAccount). (a.0 ≡ uid) × (a.1.told ≡ Some (after folder uid))) (done ++ account ∷ [])
    earlier uid apart any =
        let c = Contains-append_left done (account ∷ []) any.1 (any.0, any.2, any.3) in
        (c.0, any.1, c.1, c.2, (any.4.0, any.4.1 ∙ ap Some (sym (now.others folder uid (inr (λ s. apart (sym s)))))))

pub have_retired_more : (folder : List ℕ) (done : List (ℕ × HostedAccount)) (account : ℕ × HostedAccount) (old mid new : Option Entries) → HaveRetired folder done old mid → HasRetired folder account.0 account.1.told mid new
    → HaveRetired folder (done ++ account ∷ []) old new
have_retired_more folder done account old mid new first now = λ after is.
    let r = now after is in
    let h = first r.0 r.2 in
    (h.0, h.1, come_back_more folder done account r.1 h.0 r.0 after r.3 h.2 r.4)

pub none_retired : (folder : List ℕ) (old : Option Entries) → HaveRetired folder [] old old
none_retired folder old = λ after is. (after, is, record { listed = λ uid c. absurd (omega (arith, c.1)); others = λ f u apart. refl })

pub none_counted : (old : Counts) → CountsKeepers [] old old
none_counted old = record { some = λ any. absurd (omega (arith, any.2)); none = λ all. refl; later = omega arith; refused = refl; links = refl; ends = refl; rests = refl }

-- an entry that a keeper told, where the entries are as they were
pub entry_as_before : (folder : List ℕ) (uid : ℕ) (told : Option Kept) (old new : Option Entries) → AreAsBefore old new → IsEntry folder uid told old → IsEntry folder uid told new
entry_as_before folder uid told old None before entry = tt
entry_as_before folder uid told old (Some after) before entry =
    let b = before after refl in
    let there : told ≡ Some (b.0 folder uid) = (let P : Option Entries → Type 0 = λ (o : Option Entries). IsEntry folder uid told o in subst P b.1 entry) in
    there ∙ ap Some (sym (b.2 folder uid))

-- why an account isn't opened, once the keepers of others came back
pub refused_then : (folder : List ℕ) (kept : Option Entries) (old mid new : Counts) (accounts : List (ℕ × HostedAccount)) (uids : List ℕ) (uid : ℕ) (stop : Stop) → IsWhyUnopened folder kept old mid uid stop → CountsKeepers accounts mid new → Contains uids uid
    → RefusesOne folder kept old new uids stop
refused_then folder kept old mid new accounts uids uid stop why counted there = inr (there.0, uid, there.1, there.2, later stop why)
  where
    rose : Rose old.faults mid.faults → Rose old.faults new.faults
    rose r = record { later = omega (arith, r.later, counted.later); risen = omega (arith, r.risen, counted.later) }

    later : (s : Stop) → IsWhyUnopened folder kept old mid uid s → IsWhyUnopened folder kept old new uid s
    later stops.Site why = rose why
    later (stops.Damaged u) why = (why.0, rose why.1)
    later (stops.Keeper u) why = (why.0, rose why.1)
    later (stops.Account u fault) why = why
    later stops.Memory why = tt
    later stops.PortEnded why = absurd why
    later stops.Terms why = absurd why
    later stops.Port why = absurd why
    later stops.Logs why = absurd why

pub counts_then : (old mid new : Counts) (accounts : List (ℕ × HostedAccount)) → CountsFaults old mid → CountsKeepers accounts mid new → CountsFaults old new
counts_then old mid new accounts first then = record { faults = omega (arith, first.faults, then.later); links = then.links ∙ first.links; ends = then.ends ∙ first.ends; rests = then.rests ∙ first.rests }

pub counts_unchanged : (old new : Counts) → new ≡ old → CountsFaults old new
counts_unchanged old new same = record {
  faults = omega (arith, ap (λ (c : Counts). c.faults) same);
  links = ap (λ (c : Counts). c.links) same;
  ends = ap (λ (c : Counts). c.ends) same;
  rests = ap (λ (c : Counts). c.rests) same;
}

-- all keepers told their entries: each entry is as it was
pub all_as_before : (folder : List ℕ) (accounts : List (ℕ × HostedAccount)) (old new : Option Entries) → All (λ (a : ℕ × HostedAccount). IsEntry folder a.0 a.1.told old) accounts → HaveRetired folder accounts old new → AreAsBefore old new
all_as_before folder accounts old new entries retired = λ after is.
    let r = retired after is in
    (r.0, r.1, λ f u. each f u after r.0 r.1 r.2 (text_cases (bytes_eq f folder) f folder refl) (listed_cases (uids_in accounts) u))
  where
    told : (u : ℕ) (after before : Entries) → old ≡ Some before → Any (λ (a : ℕ × HostedAccount). (a.0 ≡ u) × (a.1.told ≡ Some (after folder u))) accounts → after folder u ≡ before folder u
    told u after before was any =
        let entry : IsEntry folder any.1.0 any.1.1.told (Some before) = subst (λ (o : Option Entries). IsEntry folder any.1.0 any.1.1.told o) was (All-contains (λ (a : ℕ × HostedAccount). IsEntry folder a.0 a.1.told old) accounts any.1 entries (any.0, any.2, any.3)) in
        let there : any.1.1.told ≡ Some (before folder u) = entry ∙ ap (λ (v : ℕ). Some (before folder v)) any.4.0 in
        let same : Some (after folder u) ≡ Some (before folder u) = sym any.4.1 ∙ there in cc

    each : (f : List ℕ) (u : ℕ) (after before : Entries) → old ≡ Some before → ComeBack folder accounts before after → ((f ≡ folder) ⊎ (f ≢ folder)) → (Contains (uids_in accounts) u ⊎ ¬ Contains (uids_in accounts) u) → after f u ≡ before f u
    each f u after before was back (inr apart) listed = back.others f u (inl apart)
    each f u after before was back (inl here) (inr not) = back.others f u (inr not)
    each f u after before was back (inl here) (inl there) =
        ap (λ (x : List ℕ). after x u) here ∙ told u after before was (back.listed u there) ∙ sym (ap (λ (x : List ℕ). before x u) here)

pub all_front : {X : Type 0} (P : X → Type 0) (xs ys : List X) → All P (xs ++ ys) → All P xs
all_front P [] ys all = All-nil P
all_front P (x ∷ xs) ys all = All-cons P x xs (All-head P x (xs ++ ys) all) (all_front P xs ys (All-tail P x (xs ++ ys) all))

-- the counts once one keeper more came back
pub counts_more : (done : List (ℕ × HostedAccount)) (account : ℕ × HostedAccount) (old mid new : Counts) → CountsKeepers done old mid → CountsKeeper account.1.faults mid new → CountsKeepers (done ++ account ∷ []) old new
counts_more done account old mid new first now = record {
  some = λ any. rises any (Contains-push_cases done account any.1 (any.0, any.2, any.3));
  none = λ all. now.faults.none (last all) ∙ first.none (front all);
  later = omega (arith, first.later, later);
  refused = now.refused ∙ first.refused;
  links = now.links ∙ first.links;
  ends = now.ends ∙ first.ends;
  rests = now.rests ∙ first.rests;
}
  where
    later : mid.faults ≤ new.faults
    later = (counts_one account.1.faults mid new now).faults

    last : All (λ (a : ℕ × HostedAccount). a.1.faults ≡ 0) (done ++ account ∷ []) → account.1.faults ≡ 0
    last all = All-contains (λ (a : ℕ × HostedAccount). a.1.faults ≡ 0) (done ++ account ∷ []) account all (Contains-push done account)

    front : All (λ (a : ℕ × HostedAccount). a.1.faults ≡ 0) (done ++ account ∷ []) → All (λ (a : ℕ × HostedAccount). a.1.faults ≡ 0) done
    front all = all_front (λ (a : ℕ × HostedAccount). a.1.faults ≡ 0) done (account ∷ []) all

    rises : (any : Any (λ (a : ℕ × HostedAccount). a.1.faults ≢ 0) (done ++ account ∷ [])) → (Contains done any.1 ⊎ (account ≡ any.1)) → Rose old.faults new.faults
    rises any (inl there) = let r = first.some (there.0, any.1, there.1, there.2, any.4) in record { later = omega (arith, r.later, later); risen = omega (arith, r.risen, later) }
    rises any (inr same) = let r = now.faults.some (subst (λ (a : ℕ × HostedAccount). a.1.faults ≢ 0) (sym same) any.4) in record { later = omega (arith, r.later, first.later); risen = omega (arith, r.risen, first.later) }

-- ---- the site's own calls

-- what becomes of an account that isn't opened is no call of the site
pub kept_refused : (uid : ℕ) (fault : OpenFault) (old new : RefusedCalls) → new ≡ old → IsRefusedAs (stop_at uid fault) old new
kept_refused uid opening.Keeper old new same = same
kept_refused uid opening.Memory old new same = same
kept_refused uid (opening.BadCollection n) old new same = same
kept_refused uid (opening.BadRow n) old new same = same
kept_refused uid (opening.BadBatch n) old new same = same

-- the same stop, by counts that are the same
pub refused_on : (stop : Stop) (old mid new : RefusedCalls) → new ≡ mid → IsRefusedAs stop old mid → IsRefusedAs stop old new
refused_on stop old mid new same is = subst (λ (r : RefusedCalls). IsRefusedAs stop old r) (sym same) is

pub refused_from : (stop : Stop) (old mid new : RefusedCalls) → mid ≡ old → IsRefusedAs stop mid new → IsRefusedAs stop old new
refused_from stop old mid new same is = subst (λ (r : RefusedCalls). IsRefusedAs stop r new) same is

pub untold_refused : (stop : Stop) (old new : Counts) → IsUntold old new stop → IsRefusedAs stop old.refused new.refused
untold_refused stops.Site old new why = (why.failed, why.damaged)
untold_refused stops.Memory old new why = ap (λ (c : Counts). c.refused) why
untold_refused stops.PortEnded old new why = absurd why
untold_refused stops.Terms old new why = absurd why
untold_refused stops.Port old new why = absurd why
untold_refused (stops.Damaged uid) old new why = absurd why
untold_refused (stops.Keeper uid) old new why = absurd why
untold_refused (stops.Account uid fault) old new why = absurd why
untold_refused stops.Logs old new why = absurd why

-- ---- entries that are told still

pub tells_same : (old new : Option Entries) → new ≡ old → TellsStill old new
tells_same old new same = subst (λ (o : Option Entries). TellsStill old o) (sym same) (λ told. told)

pub tells_then : (old mid new : Option Entries) → TellsStill old mid → TellsStill mid new → TellsStill old new
tells_then old mid new first then = λ told. then (first told)
