use Rattle.std.proofs.Common.{sym}
use Rattle.ss_hearing.specs.Limits.{limits_of}
use Rattle.ss_hearing.proofs.limits.limits_of.Goals as goal

pub returns : goal.returns
unfolding limits_of
returns c =
    rw (sym c.in_ok-limit_in.ensures, sym c.in_ok-limit_in-2.ensures, sym c.in_ok-limit_in-3.ensures, sym c.in_ok-limit_in-4.ensures, sym c.in_ok-limit_in-5.ensures, sym c.in_ok-limit_in-6.ensures)
