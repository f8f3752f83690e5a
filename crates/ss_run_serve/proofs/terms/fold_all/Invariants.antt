use Rattle.std.specs.Prelude.{ℕ}
use Rattle.ss_booked.specs.declared.booked.Booked.{Booked}
use Rattle.ss_run_serve.specs.Hosted.{hosted_at}
use Rattle.ss_run_serve.specs.Terms.{BeginsAnew}
use Rattle.ss_run_serve.proofs.Opened.{Done}
use Rattle.ss_run_serve.proofs.terms.fold_all.Given as goal

-- the accounts so far begin anew, and the others are as they were
abbrev pub invariant-loop-account : goal.invariant-loop-account
invariant-loop-account g l =
    Done (λ (x y : ℕ × Booked g.row.K.Denot g.K.Keeper). BeginsAnew (hosted_at g.K.Keeper.told g.K.Keeper.keep_faults x) (hosted_at g.K.Keeper.told g.K.Keeper.keep_faults y)) l.account-index l.initial.accounts l.accounts
