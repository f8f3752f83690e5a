use Rattle.std.specs.Prelude.{◌≡◌, ◌≤◌, map, replicate, vec_len, vec_capacity}
use Rattle.ss_run_serve.proofs.serving.clocks_of.Given as goal

-- so many clocks were made, of which none was read, there is room for the others, and the site tells what it told
abbrev pub invariant-loop-worker : goal.invariant-loop-worker
invariant-loop-worker g l = record {
  count : vec_len l.clocks ≡ l._worker;
  unread : map g.X.Clock.Clock.coming l.clocks.items ≡ replicate l._worker (g.X.Site.lent l.initial.site).readings;
  room : l.workers ≤ vec_capacity l.clocks;
  counts : g.X.Site.counts l.site ≡ g.X.Site.counts l.initial.site;
  terms : g.X.Site.terms l.site ≡ g.X.Site.terms l.initial.site;
  lent : g.X.Site.lent l.site ≡ g.X.Site.lent l.initial.site;
  kept : g.X.Site.kept l.site ≡ g.X.Site.kept l.initial.site;
  logs : g.X.Site.logs l.site ≡ g.X.Site.logs l.initial.site;
}
