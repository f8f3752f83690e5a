-- A journal as a list of requests (this project).
use Rattle.std.specs.Prelude.{List, map, Option, Some, None}
use Rattle.ss_query.specs.declared.replies.Mark.{Mark}
use Rattle.ss_query.specs.declared.replies.Mark.TheVariants.{Done, Keeper, Memory}
use Rattle.ss_query.specs.declared.requests.Request.{Request}
use Rattle.ss_query.specs.Flat.{Ask}
use Rattle.ss_laws.specs.declared.journal.Entry.{Entry}

-- a request that was done; of one that ended for want of memory or by its keeper's failure the reading of the clock alone is left
abbrev pub done_request : Mark → Request → Option Request
done_request Done request = Some request
done_request Keeper request = None
done_request Memory request = None

-- an entry, and the entries of a journal, as readings of the clock with a request or bare
abbrev pub ask_of : Entry → Ask
ask_of entry = record { now = entry.now; request = done_request entry.mark entry.request }

abbrev pub asks_of : List Entry → List Ask
asks_of entries = map ask_of entries
