-- What the file of an account holds.
use Rattle.ss_keep_sql.specs.Counts.{Counts}
use Rattle.ss_site.specs.declared.counted_keeper.CountedKeeper.{CountedKeeper}
use Rattle.ss_real_site.specs.declared.account_file.AccountFile.{AccountFile}

-- the keeper over its database, with its counts
abbrev pub counted_in : AccountFile → CountedKeeper Counts
counted_in file = file.keeper
