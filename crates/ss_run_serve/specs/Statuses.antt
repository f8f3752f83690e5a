-- The statuses of a server.
use Rattle.std.specs.Prelude.{ℕ}
use Rattle.ss_run_serve.specs.declared.stop.Stop.{Stop}
use Rattle.ss_run_serve.specs.declared.stop.Stop.TheVariants as stops
use Rattle.ss_run_serve.specs.declared.endings.Ending.{Ending}
use Rattle.ss_run_serve.specs.declared.endings.Ending.TheVariants.{Stopped, OtherWords, Memory}

-- the status that says why a server stopped
abbrev pub status_of_stop : Stop → ℕ
status_of_stop stops.PortEnded = 0
status_of_stop stops.Terms = 0
status_of_stop stops.Site = 2
status_of_stop (stops.Keeper uid) = 2
status_of_stop stops.Port = 3
status_of_stop (stops.Damaged uid) = 4
status_of_stop (stops.Account uid fault) = 4
status_of_stop stops.Logs = 7
status_of_stop stops.Memory = 8

-- the status that says how a run ended
abbrev pub status_of : Ending → ℕ
status_of (Stopped stop) = status_of_stop stop
status_of OtherWords = 1
status_of Memory = 8
