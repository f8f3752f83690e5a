use Rattle.ss_serving.proofs.Told.{heard_is_told, replies_are_of_kind}
use Rattle.ss_serving.proofs.laws.replies_say_what_is_told.Goals as goal

pub returns-clause-heard : goal.returns-clause-heard
returns-clause-heard c = λ awaited reply last typed kind. heard_is_told c.batch_ids_are_given_out.ensures.back reply last awaited typed kind

pub returns-clause-kinds : goal.returns-clause-kinds
returns-clause-kinds c = λ account now ask e. replies_are_of_kind account now ask e
