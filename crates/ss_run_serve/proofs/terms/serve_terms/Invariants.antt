use Rattle.std.specs.Prelude.{◌≡◌, map, vec_len}
use Rattle.ss_run_serve.specs.Hosted.{hosted_at}
use Rattle.ss_run_serve.specs.Logbooks.{number_in, is_kept, files_in}
use Rattle.ss_run_serve.specs.Watched.{port_in}
use Rattle.ss_run_serve.proofs.Progress.{Progress}
use Rattle.ss_run_serve.proofs.terms.serve_terms.Given as goal

-- the terms so far, whose logs are saved; there are as many clocks as at first, and what the site keeps and its own logs are as they were
abbrev pub invariant-terms : goal.invariant-terms
invariant-terms g l = record {
  progress : Progress l.command.manner g.X.Port.Link.Told.told g.X.Port.Link.Closable.closed (g.G.Gate.says l.gate) (map (hosted_at g.X.Keeper.Keeper.told g.X.Keeper.Keeper.keep_faults) l.initial.crew.accounts.items)
      (map g.X.Clock.Clock.coming l.initial.crew.clocks.items) l.command.connections l.command.terms (g.X.Site.terms l.initial.site) (g.X.Site.terms l.site) (g.X.Site.counts l.initial.site) (g.X.Site.counts l.site)
      (g.X.Port.Port.counts (port_in l.port)) l.left (map (hosted_at g.X.Keeper.Keeper.told g.X.Keeper.Keeper.keep_faults) l.crew.accounts.items) (map g.X.Clock.Clock.coming l.crew.clocks.items)
      (number_in l.initial.book) (number_in l.book) (files_in g.X.Log.Store.held l.initial.book) (files_in g.X.Log.Store.held l.book);
  clocks : vec_len l.crew.clocks ≡ vec_len l.initial.crew.clocks;
  lent : g.X.Site.lent l.site ≡ g.X.Site.lent l.initial.site;
  kept : g.X.Site.kept l.site ≡ g.X.Site.kept l.initial.site;
  logs : g.X.Site.logs l.site ≡ g.X.Site.logs l.initial.site;
  same : is_kept l.book ≡ is_kept l.initial.book;
}
