-- How often a keeper is called.
use Rattle.ss_outside.specs.Plans.{raised_count}
use Rattle.ss_keeper.specs.declared.calls.KeeperCalls.{KeeperCalls}

-- of a keeper that was never called
abbrev pub no_keeper_calls : KeeperCalls
no_keeper_calls = record { loads = 0; commits = 0 }

-- calls, and one more for what it holds; a count stops at the greatest u64
abbrev pub with_load : KeeperCalls → KeeperCalls
with_load calls = record calls { loads = raised_count calls.loads }

-- calls, and one more to make changes
abbrev pub with_commit : KeeperCalls → KeeperCalls
with_commit calls = record calls { commits = raised_count calls.commits }
