use Rattle.std.proofs.Common.{vec_len}
use Rattle.ss_serve.proofs.crew.+lay_all_down.Given as goal

abbrev pub decreases-lay_all_down : goal.decreases-lay_all_down
decreases-lay_all_down g l = vec_len l.crew
