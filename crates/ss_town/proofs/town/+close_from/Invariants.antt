use Rattle.std.proofs.Common.{vec_len}
use Rattle.ss_town.proofs.town.+close_from.Given as goal

abbrev pub decreases-close_from : goal.decreases-close_from
decreases-close_from g l = vec_len l.desks
