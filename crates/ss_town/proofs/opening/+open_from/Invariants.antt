use Rattle.std.proofs.Common.{vec_len}
use Rattle.ss_town.proofs.opening.+open_from.Given as goal

abbrev pub decreases-open_from : goal.decreases-open_from
decreases-open_from g l = vec_len l.accounts
