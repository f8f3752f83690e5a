-- What a site's own calls come to as a server stops.
use Rattle.std.specs.Prelude.{◌≡◌}
use Rattle.ss_outside.specs.Causes.{Rose}
use Rattle.ss_site.specs.Sites.{RefusedCalls}
use Rattle.ss_run_serve.specs.declared.stop.Stop.{Stop}
use Rattle.ss_run_serve.specs.declared.stop.Stop.TheVariants as stops

-- a call of the site failed where that is why a server stops, and with no other stop; and likewise one found no account in what is kept
abbrev pub IsRefusedAs : Stop → RefusedCalls → RefusedCalls → Type 0
IsRefusedAs stops.Site old new = Rose old.failed new.failed × (new.damaged ≡ old.damaged)
IsRefusedAs (stops.Damaged uid) old new = (new.failed ≡ old.failed) × Rose old.damaged new.damaged
IsRefusedAs _ old new = new ≡ old
