use Rattle.std.specs.Prelude.{◌≡◌, ℕ, length, map, All}
use Rattle.ss_run_serve.specs.Hosted.{HostedAccount, Stands, hosted_at}
use Rattle.ss_site.specs.Sites.{TellsStill}
use Rattle.ss_run_serve.specs.Lending.{HaveComeBack}
use Rattle.ss_run_serve.specs.Retiring.{CountsKeepers, HaveRetired}
use Rattle.ss_run_serve.proofs.retiring.retire_all.Given as goal

-- the keepers of the accounts so far came back
abbrev pub invariant-loop-uid : goal.invariant-loop-uid
invariant-loop-uid g l = record {
  entries : HaveRetired l.folder (map (hosted_at g.X.Keeper.Keeper.told g.X.Keeper.Keeper.keep_faults) l.yielded) (g.X.Site.kept l.initial.site) (g.X.Site.kept l.site);
  stays : TellsStill (g.X.Site.kept l.initial.site) (g.X.Site.kept l.site);
  counted : CountsKeepers (map (hosted_at g.X.Keeper.Keeper.told g.X.Keeper.Keeper.keep_faults) l.yielded) (g.X.Site.counts l.initial.site) (g.X.Site.counts l.site);
  stand : All (λ (account : ℕ × HostedAccount). Stands account.1) (map (hosted_at g.X.Keeper.Keeper.told g.X.Keeper.Keeper.keep_faults) l.yielded);
  returned : HaveComeBack (length l.yielded) (g.X.Site.lent l.initial.site) (g.X.Site.lent l.site);
  terms : g.X.Site.terms l.site ≡ g.X.Site.terms l.initial.site;
  logs : g.X.Site.logs l.site ≡ g.X.Site.logs l.initial.site;
}
