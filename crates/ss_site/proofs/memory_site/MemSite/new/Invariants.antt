use Rattle.std.specs.Prelude.{◌≡◌, map}
use Rattle.ss_site.specs.Tables.{held_of}
use Rattle.ss_site.proofs.memory_site.MemSite.new.Given as goal

-- the entries so far stand in the table
abbrev pub invariant-loop-folder : goal.invariant-loop-folder
invariant-loop-folder g l = l.table ≡ map held_of l.yielded
