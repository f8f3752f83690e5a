-- Which databases are taken as an account's, and why others aren't.
use Rattle.std.specs.Prelude.{◌≡◌, ◌≢◌, ◌⊎◌, ℤ, ⊤}
use Rattle.ss_keep_sql.specs.declared.tables.TheConstants.{VERSION, VERSION_WITHOUT_NUMBERS}
use Rattle.ss_keep_sql.specs.declared.tables.TheConstants.{VERSION_WITHOUT_COMMITS, VERSION_WITHOUT_BATCHES}
use Rattle.ss_keep_sql.specs.declared.faults.SqlFault.{SqlFault}
use Rattle.ss_keep_sql.specs.declared.faults.SqlFault.TheVariants.{Version}
use Rattle.ss_keep_sql.specs.declared.faults.FileFault.{FileFault}
use Rattle.ss_keep_sql.specs.declared.faults.FileFault.TheVariants.{Refused}

-- the versions of tables that are taken: the one that this crate writes, the one without numbers of rows, the one without
-- commits, and the one without batches
abbrev pub IsTakenVersion : ℤ → Type 0
IsTakenVersion found = (found ≡ VERSION) ⊎ ((found ≡ VERSION_WITHOUT_NUMBERS)
    ⊎ ((found ≡ VERSION_WITHOUT_COMMITS) ⊎ (found ≡ VERSION_WITHOUT_BATCHES)))

-- the others
abbrev pub IsOther : ℤ → Type 0
IsOther found = (found ≢ VERSION) × ((found ≢ VERSION_WITHOUT_NUMBERS)
    × ((found ≢ VERSION_WITHOUT_COMMITS) × (found ≢ VERSION_WITHOUT_BATCHES)))

-- a version is refused only where it is another one
abbrev pub HasVersion : SqlFault → Type 0
HasVersion (Version found) = IsOther found
HasVersion _ = ⊤

-- so it is for the database of a file
abbrev pub TellsVersion : FileFault → Type 0
TellsVersion (Refused fault) = HasVersion fault
TellsVersion _ = ⊤
