-- The parts of a step over plain lists.
use Rattle.std.specs.Prelude.{Bool, ◌||◌, is_some, if◌then◌else◌}
use Rattle.ss_bso.specs.declared.account.Plain.{Plain}
use Rattle.ss_query.specs.declared.requests.Request.{Request}
use Rattle.ss_query.specs.Api.{misses_item, condition_cause, lacks_room, misses_batch, overfills_batch}
use Rattle.ss_query.specs.Effect.{is_over}

-- whether a request is refused by its item, its condition or its batch
abbrev pub is_stopped : Plain → Request → Bool
is_stopped account request =
    misses_item account request || is_some (condition_cause account request)
    || lacks_room account request || misses_batch account request || overfills_batch account request

-- the account after a write, or before it where the write would pass the account's limits
abbrev pub within : Plain → Plain → Plain
within before after = if is_over after then before else after
