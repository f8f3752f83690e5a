use Rattle.std.specs.Prelude.{◌≡◌, ◌++◌, ◌-◌, map, take, drop, length, refl}
use Rattle.std.proofs.Common.{arith, ◌∙◌}
use Rattle.std.proofs.lemmas.List.{length-map}
use Rattle.ss_run_serve.specs.Logs.{HasCut}
use Rattle.ss_run_serve.specs.Logbooks.{number_in, failures_in, files_in}
use Rattle.ss_run_serve.specs.Watched.{port_in}
use Rattle.ss_run_serve.specs.Hosted.{hosted_at}
use Rattle.ss_run_serve.specs.Terms.{BeginsAnew}
use Rattle.ss_run_serve.specs.Course.{SameKeeper}
use Rattle.ss_run_serve.proofs.Opened.{zip_written}
use Rattle.ss_run_serve.proofs.OneTerm.{are_bare}
use Rattle.ss_run_serve.proofs.Progress.{all_begun, once_on, progress_first, progress_on, progress_short, progress_stop}
use Rattle.ss_run_serve.proofs.Progress.{progress_terms}
use Rattle.ss_run_serve.proofs.Saving.{none_holds, some_holds}
use Rattle.ss_run_serve.proofs.terms.serve_terms.Goals as goal

pub terms-init : goal.terms-init
terms-init g c = record {
  progress = progress_first c.args.command.now.manner g.X.Port.Link.Told.told g.X.Port.Link.Closable.closed (g.G.Gate.says c.args.gate.now) (map (hosted_at g.X.Keeper.Keeper.told g.X.Keeper.Keeper.keep_faults) c.args.crew.accounts.items) (map g.X.Clock.Clock.coming c.args.crew.clocks.items) c.args.command.now.connections c.args.command.now.terms
      (g.X.Site.terms c.args.site.now) (g.X.Site.counts c.args.site.now) (g.X.Port.Port.counts (port_in c.args.port.now)) (number_in c.args.book.now) (files_in g.X.Log.Store.held c.args.book.now) c.requires.begun c.requires.idle;
  clocks = refl;
  lent = refl;
  kept = refl;
  logs = refl;
  same = refl;
}

pub serve_once-after-requires-clause-bare : goal.serve_once-after-requires-clause-bare
serve_once-after-requires-clause-bare g c κs within =
    are_bare g.X.Keeper.Keeper.told g.X.Keeper.Keeper.keep_faults c.terms.crew.accounts.items (all_begun c.terms.invariant.progress.handed (map (hosted_at g.X.Keeper.Keeper.told g.X.Keeper.Keeper.keep_faults) c.terms.crew.accounts.items) c.terms.invariant.progress.anew)

pub serve_once-after-requires-clause-begun : goal.serve_once-after-requires-clause-begun
serve_once-after-requires-clause-begun g c κs within = all_begun c.terms.invariant.progress.handed (map (hosted_at g.X.Keeper.Keeper.told g.X.Keeper.Keeper.keep_faults) c.terms.crew.accounts.items) c.terms.invariant.progress.anew

pub returns-in-Some-last-clause-course : goal.returns-in-Some-last-clause-course
returns-in-Some-last-clause-course g c =
    progress_stop c.args.command.now.manner g.X.Port.Link.Told.told g.X.Port.Link.Closable.closed (g.G.Gate.says c.args.gate.now) (map (hosted_at g.X.Keeper.Keeper.told g.X.Keeper.Keeper.keep_faults) c.args.crew.accounts.items) (map g.X.Clock.Clock.coming c.args.crew.clocks.items) c.args.command.now.connections c.args.command.now.terms
    (g.X.Site.terms c.args.site.now) (g.X.Site.terms c.terms.site) (g.X.Site.terms c.serve_once-after.new.site) (g.X.Site.counts c.args.site.now) (g.X.Site.counts c.terms.site) (g.X.Site.counts c.serve_once-after.new.site)
    (g.X.Port.Port.counts (port_in c.terms.port)) (g.X.Port.Port.counts (port_in c.serve_once-after.new.port)) c.terms.left (map (hosted_at g.X.Keeper.Keeper.told g.X.Keeper.Keeper.keep_faults) c.terms.crew.accounts.items) (map (hosted_at g.X.Keeper.Keeper.told g.X.Keeper.Keeper.keep_faults) c.serve_once-after.result.0.accounts.items)
    (map g.X.Clock.Clock.coming c.terms.crew.clocks.items) (map g.X.Clock.Clock.coming c.serve_once-after.result.0.clocks.items) (number_in c.args.book.now) (number_in c.terms.book) (files_in g.X.Log.Store.held c.args.book.now) (files_in g.X.Log.Store.held c.terms.book) (files_in g.X.Log.Store.held c.serve_once-after.new.book)
    c.in-Some-last.stop c.serve_once-after.result.1 c.requires.connections c.terms.invariant.progress c.serve_once-after.ensures.once c.in-Some-last.is

pub returns-then-left-eq1-clause-course : goal.returns-then-left-eq1-clause-course
returns-then-left-eq1-clause-course g c =
    progress_terms c.args.command.now.manner g.X.Port.Link.Told.told g.X.Port.Link.Closable.closed (g.G.Gate.says c.args.gate.now) (map (hosted_at g.X.Keeper.Keeper.told g.X.Keeper.Keeper.keep_faults) c.args.crew.accounts.items) (map g.X.Clock.Clock.coming c.args.crew.clocks.items) c.args.command.now.connections c.args.command.now.terms
    (g.X.Site.terms c.args.site.now) (g.X.Site.terms c.terms.site) (g.X.Site.terms c.serve_once-after.new.site) (g.X.Site.counts c.args.site.now) (g.X.Site.counts c.terms.site) (g.X.Site.counts c.serve_once-after.new.site)
    (g.X.Port.Port.counts (port_in c.terms.port)) (g.X.Port.Port.counts (port_in c.serve_once-after.new.port)) c.terms.left (map (hosted_at g.X.Keeper.Keeper.told g.X.Keeper.Keeper.keep_faults) c.terms.crew.accounts.items) (map (hosted_at g.X.Keeper.Keeper.told g.X.Keeper.Keeper.keep_faults) c.serve_once-after.result.0.accounts.items)
    (map g.X.Clock.Clock.coming c.terms.crew.clocks.items) (map g.X.Clock.Clock.coming c.serve_once-after.result.0.clocks.items) (number_in c.args.book.now) (number_in c.terms.book) (files_in g.X.Log.Store.held c.args.book.now) (files_in g.X.Log.Store.held c.terms.book) (files_in g.X.Log.Store.held c.serve_once-after.new.book)
    c.requires.connections c.requires.terms c.if-left-eq1.true c.terms.invariant.progress
    (once_on c.args.command.now.manner g.X.Port.Link.Told.told g.X.Port.Link.Closable.closed (g.G.Gate.says c.args.gate.now) (map (hosted_at g.X.Keeper.Keeper.told g.X.Keeper.Keeper.keep_faults) c.args.crew.accounts.items) (map g.X.Clock.Clock.coming c.args.crew.clocks.items) c.args.command.now.connections c.args.command.now.terms
    (g.X.Site.terms c.args.site.now) (g.X.Site.terms c.terms.site) (g.X.Site.terms c.serve_once-after.new.site) (g.X.Site.counts c.args.site.now) (g.X.Site.counts c.terms.site) (g.X.Site.counts c.serve_once-after.new.site)
    (g.X.Port.Port.counts (port_in c.terms.port)) (g.X.Port.Port.counts (port_in c.serve_once-after.new.port)) c.terms.left (map (hosted_at g.X.Keeper.Keeper.told g.X.Keeper.Keeper.keep_faults) c.terms.crew.accounts.items) (map (hosted_at g.X.Keeper.Keeper.told g.X.Keeper.Keeper.keep_faults) c.serve_once-after.result.0.accounts.items)
    (map g.X.Clock.Clock.coming c.terms.crew.clocks.items) (map g.X.Clock.Clock.coming c.serve_once-after.result.0.clocks.items) (number_in c.args.book.now) (number_in c.terms.book) (files_in g.X.Log.Store.held c.args.book.now) (files_in g.X.Log.Store.held c.terms.book) (files_in g.X.Log.Store.held c.serve_once-after.new.book) c.serve_once-after.result.1 c.serve_once-after.ensures.once c.in-None-last.is)

pub returns-in-Err-clause-course : goal.returns-in-Err-clause-course
returns-in-Err-clause-course g c =
    progress_short c.args.command.now.manner g.X.Port.Link.Told.told g.X.Port.Link.Closable.closed (g.G.Gate.says c.args.gate.now) (map (hosted_at g.X.Keeper.Keeper.told g.X.Keeper.Keeper.keep_faults) c.args.crew.accounts.items) (map g.X.Clock.Clock.coming c.args.crew.clocks.items) c.args.command.now.connections c.args.command.now.terms
    (g.X.Site.terms c.args.site.now) (g.X.Site.terms c.terms.site) (g.X.Site.terms c.serve_once-after.new.site) (g.X.Site.counts c.args.site.now) (g.X.Site.counts c.terms.site) (g.X.Site.counts c.serve_once-after.new.site)
    (g.X.Port.Port.counts (port_in c.terms.port)) (g.X.Port.Port.counts (port_in c.serve_once-after.new.port)) c.terms.left (map (hosted_at g.X.Keeper.Keeper.told g.X.Keeper.Keeper.keep_faults) c.terms.crew.accounts.items) (map (hosted_at g.X.Keeper.Keeper.told g.X.Keeper.Keeper.keep_faults) c.serve_once-after.result.0.accounts.items)
    (map g.X.Clock.Clock.coming c.terms.crew.clocks.items) (map g.X.Clock.Clock.coming c.serve_once-after.result.0.clocks.items) (number_in c.args.book.now) (number_in c.terms.book) (files_in g.X.Log.Store.held c.args.book.now) (files_in g.X.Log.Store.held c.terms.book) (files_in g.X.Log.Store.held c.serve_once-after.new.book)
    (map (hosted_at g.X.Keeper.Keeper.told g.X.Keeper.Keeper.keep_faults) (take c.serve_once-after.result.0.accounts.len (c.fold_all.new.accounts ++ drop (length c.fold_all.new.accounts) c.serve_once-after.result.0.accounts.items)))
    c.requires.connections c.terms.invariant.progress
    (once_on c.args.command.now.manner g.X.Port.Link.Told.told g.X.Port.Link.Closable.closed (g.G.Gate.says c.args.gate.now) (map (hosted_at g.X.Keeper.Keeper.told g.X.Keeper.Keeper.keep_faults) c.args.crew.accounts.items) (map g.X.Clock.Clock.coming c.args.crew.clocks.items) c.args.command.now.connections c.args.command.now.terms
    (g.X.Site.terms c.args.site.now) (g.X.Site.terms c.terms.site) (g.X.Site.terms c.serve_once-after.new.site) (g.X.Site.counts c.args.site.now) (g.X.Site.counts c.terms.site) (g.X.Site.counts c.serve_once-after.new.site)
    (g.X.Port.Port.counts (port_in c.terms.port)) (g.X.Port.Port.counts (port_in c.serve_once-after.new.port)) c.terms.left (map (hosted_at g.X.Keeper.Keeper.told g.X.Keeper.Keeper.keep_faults) c.terms.crew.accounts.items) (map (hosted_at g.X.Keeper.Keeper.told g.X.Keeper.Keeper.keep_faults) c.serve_once-after.result.0.accounts.items)
    (map g.X.Clock.Clock.coming c.terms.crew.clocks.items) (map g.X.Clock.Clock.coming c.serve_once-after.result.0.clocks.items) (number_in c.args.book.now) (number_in c.terms.book) (files_in g.X.Log.Store.held c.args.book.now) (files_in g.X.Log.Store.held c.terms.book) (files_in g.X.Log.Store.held c.serve_once-after.new.book) c.serve_once-after.result.1 c.serve_once-after.ensures.once c.in-None-last.is)
    (zip_written SameKeeper (hosted_at g.X.Keeper.Keeper.told g.X.Keeper.Keeper.keep_faults) c.serve_once-after.result.0.accounts.len c.serve_once-after.result.0.accounts.items c.as_mut_slice.result.now c.fold_all.new.accounts c.as_mut_slice.ensures.len c.as_mut_slice.ensures.value c.fold_all.ensures.same)

pub terms-preserved : goal.terms-preserved
terms-preserved g c =
    let done = (once_on c.args.command.now.manner g.X.Port.Link.Told.told g.X.Port.Link.Closable.closed (g.G.Gate.says c.args.gate.now) (map (hosted_at g.X.Keeper.Keeper.told g.X.Keeper.Keeper.keep_faults) c.args.crew.accounts.items) (map g.X.Clock.Clock.coming c.args.crew.clocks.items) c.args.command.now.connections c.args.command.now.terms
    (g.X.Site.terms c.args.site.now) (g.X.Site.terms c.terms.site) (g.X.Site.terms c.serve_once-after.new.site) (g.X.Site.counts c.args.site.now) (g.X.Site.counts c.terms.site) (g.X.Site.counts c.serve_once-after.new.site)
    (g.X.Port.Port.counts (port_in c.terms.port)) (g.X.Port.Port.counts (port_in c.serve_once-after.new.port)) c.terms.left (map (hosted_at g.X.Keeper.Keeper.told g.X.Keeper.Keeper.keep_faults) c.terms.crew.accounts.items) (map (hosted_at g.X.Keeper.Keeper.told g.X.Keeper.Keeper.keep_faults) c.serve_once-after.result.0.accounts.items)
    (map g.X.Clock.Clock.coming c.terms.crew.clocks.items) (map g.X.Clock.Clock.coming c.serve_once-after.result.0.clocks.items) (number_in c.args.book.now) (number_in c.terms.book) (files_in g.X.Log.Store.held c.args.book.now) (files_in g.X.Log.Store.held c.terms.book) (files_in g.X.Log.Store.held c.serve_once-after.new.book) c.serve_once-after.result.1 c.serve_once-after.ensures.once c.in-None-last.is) in
    let less : c.saturating_sub-left.result ≡ c.terms.left - 1 = omega arith in
    record {
      progress = rw less (progress_on c.args.command.now.manner g.X.Port.Link.Told.told g.X.Port.Link.Closable.closed (g.G.Gate.says c.args.gate.now) (map (hosted_at g.X.Keeper.Keeper.told g.X.Keeper.Keeper.keep_faults) c.args.crew.accounts.items) (map g.X.Clock.Clock.coming c.args.crew.clocks.items) c.args.command.now.connections c.args.command.now.terms
          (g.X.Site.terms c.args.site.now) (g.X.Site.terms c.terms.site) (g.X.Site.terms c.serve_once-after.new.site) (g.X.Site.counts c.args.site.now) (g.X.Site.counts c.terms.site) (g.X.Site.counts c.serve_once-after.new.site)
          (g.X.Port.Port.counts (port_in c.terms.port)) (g.X.Port.Port.counts (port_in c.serve_once-after.new.port)) c.terms.left (map (hosted_at g.X.Keeper.Keeper.told g.X.Keeper.Keeper.keep_faults) c.terms.crew.accounts.items) (map (hosted_at g.X.Keeper.Keeper.told g.X.Keeper.Keeper.keep_faults) c.serve_once-after.result.0.accounts.items)
          (map g.X.Clock.Clock.coming c.terms.crew.clocks.items) (map g.X.Clock.Clock.coming c.serve_once-after.result.0.clocks.items) (number_in c.args.book.now) (number_in c.terms.book) (files_in g.X.Log.Store.held c.args.book.now) (files_in g.X.Log.Store.held c.terms.book) (files_in g.X.Log.Store.held c.serve_once-after.new.book)
          (map (hosted_at g.X.Keeper.Keeper.told g.X.Keeper.Keeper.keep_faults) (take c.serve_once-after.result.0.accounts.len (c.fold_all.new.accounts ++ drop (length c.fold_all.new.accounts) c.serve_once-after.result.0.accounts.items)))
          (number_in c.serve_once-after.new.book) c.requires.connections c.requires.terms c.if-left-eq1.false c.terms.invariant.progress done
          (zip_written BeginsAnew (hosted_at g.X.Keeper.Keeper.told g.X.Keeper.Keeper.keep_faults) c.serve_once-after.result.0.accounts.len c.serve_once-after.result.0.accounts.items c.as_mut_slice.result.now c.fold_all.new.accounts c.as_mut_slice.ensures.len c.as_mut_slice.ensures.value c.in-Ok.ensures.folded)
          (none_holds c.serve_once-after.result.1 c.in-None-last.is c.serve_once-after.ensures.number));
      clocks = omega (arith, done.took.served.served.clocks, length-map c.terms.crew.clocks.items g.X.Clock.Clock.coming, length-map c.serve_once-after.result.0.clocks.items g.X.Clock.Clock.coming, c.terms.invariant.clocks);
      lent = c.serve_once-after.ensures.lent ∙ c.terms.invariant.lent;
      kept = c.serve_once-after.ensures.kept ∙ c.terms.invariant.kept;
      logs = c.serve_once-after.ensures.logs ∙ c.terms.invariant.logs;
      same = c.serve_once-after.ensures.same ∙ c.terms.invariant.same;
    }

pub returns-in-Some-last-clause-cut : goal.returns-in-Some-last-clause-cut
returns-in-Some-last-clause-cut g c = some_holds (HasCut (failures_in g.X.Log.Store.store_faults c.serve_once-after.new.book)) c.serve_once-after.result.1 c.in-Some-last.stop c.in-Some-last.is c.serve_once-after.ensures.cut
