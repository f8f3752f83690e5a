-- What a port that is watched holds.
use Rattle.ss_links.specs.declared.port.Port.{Ghosts}
use Rattle.ss_links.specs.declared.link.Closable.{Ghosts as LinkGhosts}
use Rattle.ss_outside.specs.declared.told.Told.{Ghosts as ToldGhosts}
use Rattle.ss_run_serve.specs.declared.watched.Watched.{Watched}

module _ {P L : Type 0} {G : Ghosts P L} {C : LinkGhosts L} {T : ToldGhosts L} where
  -- the port itself
  abbrev pub port_in : Watched P L G C T → P
  port_in w = w.port
