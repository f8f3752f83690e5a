use Rattle.std.proofs.Common.{refl}
use Rattle.ss_run_audit.specs.Endings.{partly}
use Rattle.ss_run_audit.proofs.running.write_out.Goals as goal

pub returns-in-Err : goal.returns-in-Err
returns-in-Err g c = let p = c.in-Err.ensures.partly in partly p.0 p.1 p.2 p.3 c.in-Err.ensures.cause refl
