-- A keeper's refusal has the same cause, and came of the same calls, whatever would have been given.
use Rattle.std.proofs.Common.{ℕ}
use Rattle.std.specs.Prelude.{Err}
use Rattle.ss_keeper.specs.declared.calls.KeeperCalls.{KeeperCalls}
use Rattle.ss_keeper.specs.declared.faults.KeepFault.{KeepFault}
use Rattle.ss_keeper.specs.Keeping.{HasCause}
use Rattle.ss_account.specs.Steps.{HasAsked}

pub cause-as : {A B : Type 0} {before now : ℕ} {fault : KeepFault} → HasCause {T = A} before now (Err fault) → HasCause {T = B} before now (Err fault)
cause-as cause = record {
  later = cause.later;
  fault = λ e. cause.fault (cc);
  quiet = λ no. cause.quiet (λ e. no (cc));
}

pub asked-as : {A B : Type 0} {before now : KeeperCalls} {fault : KeepFault} → HasAsked {T = A} before now (Err fault) → HasAsked {T = B} before now (Err fault)
asked-as asked = record {
  once = λ no. asked.once (λ e. no (cc));
  most = asked.most;
}
