-- How a request is entered in the journal.
use Rattle.std.specs.Prelude.{Bool, true, false, ◌&&◌, ◌==◌, if◌then◌else◌}
use Rattle.ss_query.specs.declared.replies.Reply.{Reply}
use Rattle.ss_query.specs.declared.replies.Body.{Body}
use Rattle.ss_query.specs.declared.replies.Body.TheVariants as body
use Rattle.ss_query.specs.declared.replies.Said.TheVariants as said
use Rattle.ss_query.specs.declared.replies.Mark.{Mark}
use Rattle.ss_query.specs.declared.replies.Mark.TheVariants.{Done, Keeper, Memory}

-- the body says that the keeper failed
abbrev pub says_keeper : Body → Bool
says_keeper (body.Said said.Keeper) = true
says_keeper b = false

-- want of memory by its status, a keeper's failure by its status and word, and else done
abbrev pub mark_of : Reply → Mark
mark_of reply = if reply.status == 507 then Memory else (if reply.status == 503 && says_keeper reply.body then Keeper else Done)
