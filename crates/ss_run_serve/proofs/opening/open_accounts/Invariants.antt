use Rattle.std.specs.Prelude.{◌≡◌, ◌≤◌, ◌++◌, ℕ, length, map, take, vec_len, vec_capacity, All}
use Rattle.ss_booked.specs.declared.booked.Booked.{Booked}
use Rattle.ss_run_serve.specs.Hosted.{hosted_at}
use Rattle.ss_run_serve.specs.Lending.{keepers_at, AreOut}
use Rattle.ss_run_serve.specs.Opening.{OpensAccount}
use Rattle.ss_run_serve.proofs.opening.open_accounts.Given as goal

-- the accounts so far are open, there is room for the others, and the site tells what it told
abbrev pub invariant-loop-uid : goal.invariant-loop-uid
invariant-loop-uid g l = record {
  uids : map (λ (account : ℕ × Booked g.row.X-Keeper.Denot g.X.Keeper.Keeper). account.0) l.accounts.items ≡ take l.uid-index l.uids;
  opened : All (OpensAccount l.folder (g.X.Site.kept l.initial.site)) (map (hosted_at g.X.Keeper.Keeper.told g.X.Keeper.Keeper.keep_faults) l.accounts.items);
  room : length l.uids ≤ vec_capacity l.accounts;
  long : vec_len l.accounts ≡ l.uid-index;
  counts : g.X.Site.counts l.site ≡ g.X.Site.counts l.initial.site;
  addresses : (g.X.Site.lent l.site).addresses ≡ (g.X.Site.lent l.initial.site).addresses;
  keepers : (g.X.Site.lent l.site).keepers ≡ (g.X.Site.lent l.initial.site).keepers ++ keepers_at l.folder (take l.uid-index l.uids);
  readings : (g.X.Site.lent l.site).readings ≡ (g.X.Site.lent l.initial.site).readings;
  lent : AreOut l.uid-index (g.X.Site.lent l.initial.site) (g.X.Site.lent l.site);
  terms : g.X.Site.terms l.site ≡ g.X.Site.terms l.initial.site;
  kept : g.X.Site.kept l.site ≡ g.X.Site.kept l.initial.site;
  logs : g.X.Site.logs l.site ≡ g.X.Site.logs l.initial.site;
}
