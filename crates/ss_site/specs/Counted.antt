-- What keepers, ports and stores that count hold.
use Rattle.std.specs.Prelude.{ℕ}
use Rattle.ss_links.specs.Ports.{Accepts}
use Rattle.ss_site.specs.declared.counted_keeper.CountedKeeper.{CountedKeeper}
use Rattle.ss_site.specs.declared.counted_port.CountedPort.{CountedPort}
use Rattle.ss_site.specs.declared.counted_store.CountedStore.{CountedStore}

module _ {K : Type 0} where
  -- the keeper, and how often it failed since it was given
  abbrev pub keeper_in : CountedKeeper K → K
  keeper_in k = k.keeper

  abbrev pub faults_of : CountedKeeper K → ℕ
  faults_of k = k.faults

module _ {P : Type 0} where
  -- the port, and what it counted since it was given
  abbrev pub port_in : CountedPort P → P
  port_in p = p.port

  abbrev pub accepts_of : CountedPort P → Accepts
  accepts_of p = record { faults = p.faults; ends = p.ends; links = p.links; rests = p.rests }

module _ {S : Type 0} where
  -- the store, and how often it failed since it was given
  abbrev pub store_in : CountedStore S → S
  store_in s = s.store

  abbrev pub failed_of : CountedStore S → ℕ
  failed_of s = s.faults
