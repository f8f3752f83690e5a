use Rattle.ss_text.proofs.TokensStay.{wrapped_stay, marked_stay}
use Rattle.ss_text.proofs.laws.tokens_stay.Goals as goal

pub returns-clause-wrapped : goal.returns-clause-wrapped
returns-clause-wrapped c = wrapped_stay

pub returns-clause-marked : goal.returns-clause-marked
returns-clause-marked c = marked_stay
