use Rattle.ss_route.proofs.Sendable.{sent_is_read}
use Rattle.ss_route.proofs.Sent.{sent_is_meant, sent_is_routed}
use Rattle.ss_route.proofs.laws.requests_are_routed.Goals as goal

pub returns-clause-read : goal.returns-clause-read
returns-clause-read c = sent_is_read

pub returns-clause-routed : goal.returns-clause-routed
returns-clause-routed c = sent_is_routed

pub returns-clause-meant : goal.returns-clause-meant
returns-clause-meant c = sent_is_meant
