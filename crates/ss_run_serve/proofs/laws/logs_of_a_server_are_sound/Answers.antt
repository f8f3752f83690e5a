use Rattle.ss_run_serve.proofs.Sounding.{logs_sound}
use Rattle.ss_run_serve.proofs.laws.logs_of_a_server_are_sound.Goals as goal

pub returns : goal.returns
returns g c = λ gate. logs_sound g.L.Told.told g.L.Closable.closed (g.G.Gate.says gate)
