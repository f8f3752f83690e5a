use Rattle.std.specs.Prelude.{◌≡◌, ℕ, List, [], ◌∷◌, ◌++◌, length, map, All, Contains, refl}
use Rattle.std.proofs.Common.{sym, subst, ◌∙◌}
use Rattle.std.proofs.lemmas.List.{length-append, map-append}
use Rattle.std.proofs.lemmas.List.Elements.{All-contains, All-nil, All-push}
use Rattle.std.proofs.lemmas.Iterator.Adapters.{YieldsList-from_vec}
use Rattle.std.proofs.lemmas.Iterator.Consumers.{YieldsList-end, YieldsList-turn}
use Rattle.ss_booked.specs.declared.booked.Booked.{Booked}
use Rattle.ss_run_serve.specs.Hosted.{HostedAccount, Stands, hosted_at}
use Rattle.ss_run_serve.specs.Lending.{HaveComeBack}
use Rattle.ss_run_serve.specs.Retiring.{CountsKeepers, HaveRetired}
use Rattle.ss_run_serve.proofs.Lent.{back_more, none_back}
use Rattle.ss_run_serve.proofs.Given.{contains_map}
use Rattle.ss_run_serve.proofs.Retired.{counts_more, have_retired_more, none_counted, none_retired, tells_then}
use Rattle.ss_run_serve.proofs.retiring.retire_all.Goals as goal
use Rattle.ss_text.proofs.Basics.{map_same}

pub loop-uid-init : goal.loop-uid-init
loop-uid-init g c = record {
  entries = none_retired c.args.folder.now (g.X.Site.kept c.args.site.now);
  stays = λ told. told;
  counted = none_counted (g.X.Site.counts c.args.site.now);
  stand = All-nil (λ (account : ℕ × HostedAccount). Stands account.1);
  returned = none_back (g.X.Site.lent c.args.site.now);
  terms = refl;
  logs = refl;
}

pub loop-uid-preserved : goal.loop-uid-preserved
loop-uid-preserved g c =
    let f : ℕ × Booked g.row.X-Keeper.Denot g.X.Keeper.Keeper → ℕ × HostedAccount = hosted_at g.X.Keeper.Keeper.told g.X.Keeper.Keeper.keep_faults in
    let done : List (ℕ × HostedAccount) = map f c.loop-uid.yielded in
    let account : ℕ × HostedAccount = f (c.in-Some.uid, c.in-Some.booked) in
    let gives = c.into_iter-uid-iterator.ensures.into_iter_gives in
    let turn = YieldsList-turn (YieldsList-from_vec c.args.accounts.items gives.0 (gives.1 ∙ c.args.accounts.ok.0)) c.loop-uid.yielded c.loop-uid.uid-iterator c.loop-uid.yielded_by c.next.result c.next.new.self (c.in-Some.uid, c.in-Some.booked) c.in-Some.is c.next.ensures.steps in
    let given : Contains (g.X.Site.lent c.loop-uid.site).keepers (c.args.folder.now, c.in-Some.uid) = subst (λ (ks : List (List ℕ × ℕ)). Contains ks (c.args.folder.now, c.in-Some.uid)) (sym c.loop-uid.invariant.returned.keepers)
    (All-contains (λ (a : ℕ × HostedAccount). Contains (g.X.Site.lent c.args.site.now).keepers (c.args.folder.now, a.0)) (map f c.args.accounts.items) account c.requires.given
    (contains_map f c.args.accounts.items (c.in-Some.uid, c.in-Some.booked) (length c.loop-uid.yielded, turn.0, sym turn.1))) in
    let e : map f (c.loop-uid.yielded ++ (c.in-Some.uid, c.in-Some.booked) ∷ []) ≡ done ++ account ∷ [] = map-append f c.loop-uid.yielded ((c.in-Some.uid, c.in-Some.booked) ∷ []) in
    record {
      entries = subst (λ (accounts : List (ℕ × HostedAccount)). HaveRetired c.args.folder.now accounts (g.X.Site.kept c.args.site.now) (g.X.Site.kept c.retire.new.site)) (sym e)
          (have_retired_more c.args.folder.now done account (g.X.Site.kept c.args.site.now) (g.X.Site.kept c.loop-uid.site) (g.X.Site.kept c.retire.new.site) c.loop-uid.invariant.entries c.retire.ensures.entry);
      stays = tells_then (g.X.Site.kept c.args.site.now) (g.X.Site.kept c.loop-uid.site) (g.X.Site.kept c.retire.new.site) c.loop-uid.invariant.stays (c.retire.ensures.stays given);
      counted = subst (λ (accounts : List (ℕ × HostedAccount)). CountsKeepers accounts (g.X.Site.counts c.args.site.now) (g.X.Site.counts c.retire.new.site)) (sym e)
          (counts_more done account (g.X.Site.counts c.args.site.now) (g.X.Site.counts c.loop-uid.site) (g.X.Site.counts c.retire.new.site) c.loop-uid.invariant.counted c.retire.ensures.counted);
      stand = subst (λ (accounts : List (ℕ × HostedAccount)). All (λ (a : ℕ × HostedAccount). Stands a.1) accounts) (sym e) (All-push (λ (a : ℕ × HostedAccount). Stands a.1) done account c.loop-uid.invariant.stand c.retire.ensures.stands);
      returned = subst (λ (n : ℕ). HaveComeBack n (g.X.Site.lent c.args.site.now) (g.X.Site.lent c.retire.new.site)) (sym (length-append c.loop-uid.yielded ((c.in-Some.uid, c.in-Some.booked) ∷ [])))
          (back_more (length c.loop-uid.yielded) (g.X.Site.lent c.args.site.now) (g.X.Site.lent c.loop-uid.site) (g.X.Site.lent c.retire.new.site) c.loop-uid.invariant.returned c.retire.ensures.returned);
      terms = c.retire.ensures.terms ∙ c.loop-uid.invariant.terms;
      logs = c.retire.ensures.logs ∙ c.loop-uid.invariant.logs;
    }

pub returns-clause-entries : goal.returns-clause-entries
returns-clause-entries g c =
    let gives = c.into_iter-uid-iterator.ensures.into_iter_gives in
    let all = YieldsList-end (YieldsList-from_vec c.args.accounts.items gives.0 (gives.1 ∙ c.args.accounts.ok.0)) c.loop-uid.yielded c.loop-uid.uid-iterator c.loop-uid.yielded_by c.next.result c.next.new.self c.in-None.is c.next.ensures.steps in
    let whole : c.loop-uid.yielded ≡ c.args.accounts.items = sym (map_same c.loop-uid.yielded) ∙ all.0 in
    subst (λ (xs : List (ℕ × Booked g.row.X-Keeper.Denot g.X.Keeper.Keeper)). HaveRetired c.args.folder.now (map (hosted_at g.X.Keeper.Keeper.told g.X.Keeper.Keeper.keep_faults) xs) (g.X.Site.kept c.args.site.now) (g.X.Site.kept c.loop-uid.site)) whole c.loop-uid.invariant.entries

pub returns-clause-counted : goal.returns-clause-counted
returns-clause-counted g c =
    let gives = c.into_iter-uid-iterator.ensures.into_iter_gives in
    let all = YieldsList-end (YieldsList-from_vec c.args.accounts.items gives.0 (gives.1 ∙ c.args.accounts.ok.0)) c.loop-uid.yielded c.loop-uid.uid-iterator c.loop-uid.yielded_by c.next.result c.next.new.self c.in-None.is c.next.ensures.steps in
    let whole : c.loop-uid.yielded ≡ c.args.accounts.items = sym (map_same c.loop-uid.yielded) ∙ all.0 in
    subst (λ (xs : List (ℕ × Booked g.row.X-Keeper.Denot g.X.Keeper.Keeper)). CountsKeepers (map (hosted_at g.X.Keeper.Keeper.told g.X.Keeper.Keeper.keep_faults) xs) (g.X.Site.counts c.args.site.now) (g.X.Site.counts c.loop-uid.site)) whole c.loop-uid.invariant.counted

pub returns-clause-stand : goal.returns-clause-stand
returns-clause-stand g c =
    let gives = c.into_iter-uid-iterator.ensures.into_iter_gives in
    let all = YieldsList-end (YieldsList-from_vec c.args.accounts.items gives.0 (gives.1 ∙ c.args.accounts.ok.0)) c.loop-uid.yielded c.loop-uid.uid-iterator c.loop-uid.yielded_by c.next.result c.next.new.self c.in-None.is c.next.ensures.steps in
    let whole : c.loop-uid.yielded ≡ c.args.accounts.items = sym (map_same c.loop-uid.yielded) ∙ all.0 in
    subst (λ (xs : List (ℕ × Booked g.row.X-Keeper.Denot g.X.Keeper.Keeper)). All (λ (a : ℕ × HostedAccount). Stands a.1) (map (hosted_at g.X.Keeper.Keeper.told g.X.Keeper.Keeper.keep_faults) xs)) whole c.loop-uid.invariant.stand

pub returns-clause-returned : goal.returns-clause-returned
returns-clause-returned g c =
    let gives = c.into_iter-uid-iterator.ensures.into_iter_gives in
    let all = YieldsList-end (YieldsList-from_vec c.args.accounts.items gives.0 (gives.1 ∙ c.args.accounts.ok.0)) c.loop-uid.yielded c.loop-uid.uid-iterator c.loop-uid.yielded_by c.next.result c.next.new.self c.in-None.is c.next.ensures.steps in
    let whole : c.loop-uid.yielded ≡ c.args.accounts.items = sym (map_same c.loop-uid.yielded) ∙ all.0 in
    subst (λ (xs : List (ℕ × Booked g.row.X-Keeper.Denot g.X.Keeper.Keeper)). HaveComeBack (length xs) (g.X.Site.lent c.args.site.now) (g.X.Site.lent c.loop-uid.site)) whole c.loop-uid.invariant.returned

pub returns-clause-stays : goal.returns-clause-stays
returns-clause-stays g c = c.loop-uid.invariant.stays
