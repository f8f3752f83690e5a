use Rattle.std.specs.Prelude.{◌≡◌, ℕ, length, refl}
use Rattle.std.proofs.Common.{sym, subst, arith, add-one}
use Rattle.ss_booked.specs.declared.booked.Booked.{Booked}
use Rattle.ss_run_serve.specs.Hosted.{hosted_at}
use Rattle.ss_run_serve.specs.Terms.{BeginsAnew}
use Rattle.ss_run_serve.specs.Course.{SameKeeper}
use Rattle.ss_run_serve.proofs.Opened.{Done, done_all, done_more, done_partly, keeper_anew, keeper_self, zip_map}
use Rattle.ss_run_serve.proofs.Opened.{zip_weaker}
use Rattle.ss_run_serve.proofs.terms.fold_all.Given.{Over}
use Rattle.ss_run_serve.proofs.terms.fold_all.Goals as goal

abbrev Anew : (g : Over) → ℕ × Booked g.row.K.Denot g.K.Keeper → ℕ × Booked g.row.K.Denot g.K.Keeper → Type 0
Anew g x y = BeginsAnew (hosted_at g.K.Keeper.told g.K.Keeper.keep_faults x) (hosted_at g.K.Keeper.told g.K.Keeper.keep_faults y)

abbrev Same : (g : Over) → ℕ × Booked g.row.K.Denot g.K.Keeper → ℕ × Booked g.row.K.Denot g.K.Keeper → Type 0
Same g x y = SameKeeper (hosted_at g.K.Keeper.told g.K.Keeper.keep_faults x) (hosted_at g.K.Keeper.told g.K.Keeper.keep_faults y)

pub loop-account-init : goal.loop-account-init
unfolding Done
loop-account-init g c = refl

pub returns-in_err-fold-clause-same : goal.returns-in_err-fold-clause-same
returns-in_err-fold-clause-same g c =
    zip_map SameKeeper (hosted_at g.K.Keeper.told g.K.Keeper.keep_faults) c.args.accounts.now _
    (done_partly (Anew g) (Same g) (λ x y. keeper_anew (hosted_at g.K.Keeper.told g.K.Keeper.keep_faults x) (hosted_at g.K.Keeper.told g.K.Keeper.keep_faults y))
    (λ x. keeper_self (hosted_at g.K.Keeper.told g.K.Keeper.keep_faults x)) c.loop-account.account-index c.args.accounts.now c.loop-account.accounts c.account-item.result c.fold.new.account
    c.loop-account.invariant (omega arith) c.account-item.is (subst (λ (x : ℕ × Booked g.row.K.Denot g.K.Keeper). Same g x c.fold.new.account) (sym c.account-item.is) c.fold.ensures.same))

pub loop-account-preserved : goal.loop-account-preserved
loop-account-preserved g c =
    rw add-one (done_more (Anew g) c.loop-account.account-index c.args.accounts.now c.loop-account.accounts c.account-item.result c.fold.new.account c.loop-account.invariant (omega arith) c.account-item.is (subst (λ (x : ℕ × Booked g.row.K.Denot g.K.Keeper). Anew g x c.fold.new.account) (sym c.account-item.is) c.in_ok-fold.ensures.folded))

pub returns-clause-folded : goal.returns-clause-folded
returns-clause-folded g c =
    zip_map BeginsAnew (hosted_at g.K.Keeper.told g.K.Keeper.keep_faults) c.args.accounts.now c.loop-account.accounts
    (done_all (Anew g) c.args.accounts.now c.loop-account.accounts (subst (λ (n : ℕ). Done (Anew g) n c.args.accounts.now c.loop-account.accounts) (let e : c.loop-account.account-index ≡ length c.loop-account.accounts = omega arith in e) c.loop-account.invariant))

pub returns-clause-same : goal.returns-clause-same
returns-clause-same g c =
    zip_map SameKeeper (hosted_at g.K.Keeper.told g.K.Keeper.keep_faults) c.args.accounts.now c.loop-account.accounts
    (zip_weaker (Anew g) (Same g) (λ x y. keeper_anew (hosted_at g.K.Keeper.told g.K.Keeper.keep_faults x) (hosted_at g.K.Keeper.told g.K.Keeper.keep_faults y)) c.args.accounts.now c.loop-account.accounts
    (done_all (Anew g) c.args.accounts.now c.loop-account.accounts (subst (λ (n : ℕ). Done (Anew g) n c.args.accounts.now c.loop-account.accounts) (let e : c.loop-account.account-index ≡ length c.loop-account.accounts = omega arith in e) c.loop-account.invariant)))
