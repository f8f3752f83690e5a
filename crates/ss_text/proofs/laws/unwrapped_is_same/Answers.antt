use Rattle.ss_text.proofs.Printed.{kept_stays, kept_tokens, printed_stays}
use Rattle.ss_text.proofs.laws.unwrapped_is_same.Goals as goal

pub returns-clause-same : goal.returns-clause-same
returns-clause-same c = kept_stays

pub returns-clause-whole : goal.returns-clause-whole
returns-clause-whole c = kept_tokens

pub returns-clause-printed : goal.returns-clause-printed
returns-clause-printed c = printed_stays
