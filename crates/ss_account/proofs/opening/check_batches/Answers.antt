use Rattle.std.proofs.Common.{◌≡◌, ℕ, ◌+◌, sym, ap, take, ◌∙◌}
use Rattle.ss_account.specs.Opening.{is_bad_batch}
use Rattle.ss_account.proofs.Opened.{bad-at, none-at}
use Rattle.ss_account.proofs.opening.check_batches.Goals as goal

pub loop-staged-preserved : goal.loop-staged-preserved
loop-staged-preserved c =
    let all = c.args.batches.now in
    let k = c.loop-staged.staged-index in
    let staged = c.staged-item.result in
    let bad : c.is_bad_batch.result ≡ is_bad_batch c.args.counter (take k all) staged = c.is_bad_batch.ensures ∙ ap (λ (m : ℕ). is_bad_batch c.args.counter (take m all) staged) c.loop-staged.invariant.number in
    record {
      number = ap (λ (m : ℕ). m + 1) c.loop-staged.invariant.number;
      good = none-at (is_bad_batch c.args.counter) all k staged c.loop-staged-test.true c.staged-item.is c.loop-staged.invariant.good (sym bad ∙ c.if-is_bad_batch.false);
    }

pub returns-then-is_bad_batch-clause-bad : goal.returns-then-is_bad_batch-clause-bad
returns-then-is_bad_batch-clause-bad c =
    let all = c.args.batches.now in
    let k = c.loop-staged.staged-index in
    let staged = c.staged-item.result in
    let bad : c.is_bad_batch.result ≡ is_bad_batch c.args.counter (take k all) staged = c.is_bad_batch.ensures ∙ ap (λ (m : ℕ). is_bad_batch c.args.counter (take m all) staged) c.loop-staged.invariant.number in
    bad-at (is_bad_batch c.args.counter) all k (c.loop-staged.place + 1) staged c.loop-staged-test.true c.staged-item.is c.loop-staged.invariant.good (sym bad ∙ c.if-is_bad_batch.true) (ap (λ (m : ℕ). m + 1) c.loop-staged.invariant.number)
