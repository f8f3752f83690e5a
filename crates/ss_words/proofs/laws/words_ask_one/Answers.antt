use Rattle.ss_words.proofs.Asked.{one_command}
use Rattle.ss_words.proofs.laws.words_ask_one.Goals as goal

pub returns : goal.returns
returns c = one_command
