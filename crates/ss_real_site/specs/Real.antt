-- What the site of the system counts; it tells neither terms nor what is kept nor logs.
use Rattle.std.specs.Prelude.{List, Option, None}
use Rattle.ss_links.specs.Stores.{Files}
use Rattle.ss_site.specs.Sites.{Counts, Entries, LentParts, Term}

-- its counts, and the keepers and ports that it gave and that came back
pub record Tally : Type 0 where
  pub counts : Counts
  pub lent : LentParts

-- no terms of such reports are told
abbrev pub no_terms : {R : Type 0} → List R → Option (List (Term R))
no_terms reports = None

-- nothing of what is kept is told
abbrev pub no_entries : Option Entries
no_entries = None

-- no logs are told
abbrev pub no_logs : Option Files
no_logs = None
