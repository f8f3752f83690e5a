-- Why a site gives no keeper.
use Rattle.ss_site.specs.declared.site.SiteFault.{SiteFault}
use Rattle.ss_site.specs.declared.site.SiteFault.TheVariants as faults
use Rattle.ss_site.specs.declared.site.NoKeeper.{NoKeeper}
use Rattle.ss_site.specs.declared.site.NoKeeper.TheVariants as missing

-- a fault of a site, where a keeper was asked for
abbrev pub without_keeper : SiteFault → NoKeeper
without_keeper faults.Fault = missing.Fault
without_keeper faults.Memory = missing.Memory
