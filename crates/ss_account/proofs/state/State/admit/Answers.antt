use Rattle.std.proofs.Common.{sym, ◌∙◌}
use Rattle.ss_account.proofs.Batching.{IsRefusedSo, comes_in, refused-by_batch}
use Rattle.ss_account.proofs.state.State.admit.Goals as goal

refused : (c : goal.After-refuse-in-Some-batch_refusal) → IsRefusedSo c.args.self.now c.args.request.now c.in-Some-batch_refusal.body
refused c =
    refused-by_batch c.args.self.now c.args.request.now c.in-Some-batch_refusal.body
    (comes_in c.args.self.now c.args.request.now c.in-Some.time (sym c.in-Some.is ∙ c.target_time.ensures) (sym c.stopped.ensures ∙ c.in_default-stopped.is))
    (sym c.in-Some-batch_refusal.is ∙ c.batch_refusal.ensures)

pub returns-in-Some-batch_refusal-clause-reply : goal.returns-in-Some-batch_refusal-clause-reply
returns-in-Some-batch_refusal-clause-reply c = c.refuse-in-Some-batch_refusal.ensures ∙ (refused c).reply

pub returns-in-Some-batch_refusal-clause-account : goal.returns-in-Some-batch_refusal-clause-account
returns-in-Some-batch_refusal-clause-account c = (refused c).account_left

pub returns-in-Some-batch_refusal-clause-refused : goal.returns-in-Some-batch_refusal-clause-refused
returns-in-Some-batch_refusal-clause-refused c = (refused c).refuses
