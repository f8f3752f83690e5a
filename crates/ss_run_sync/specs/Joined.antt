-- What went over the links of a sync, joined in order.
use Rattle.std.specs.Prelude.{◌≡◌, ◌⊎◌, ℕ, List, [], ◌++◌, Some}
use Rattle.std.specs.List.{flat_map}
use Rattle.ss_links.specs.Dials.{HungLink}
use Rattle.ss_device.specs.Device.{DeviceView}
use Rattle.ss_client.specs.Runs.{MachineView}
use Rattle.ss_client.specs.Machine.{Next, Send}
use Rattle.ss_run_sync.specs.Moves.{IsFront}
use Rattle.ss_run_sync.specs.Course.{Account, Exchange, request_next, requests, responses, IsCourse}
use Rattle.ss_words.specs.declared.commands.SyncCommand.{SyncCommand}
use Rattle.ss_words.specs.declared.commands.Command.TheVariants.{Sync}
use Rattle.ss_words.specs.Commands.{Asks}
use Rattle.ss_run_sync.specs.Syncs.{Outside, Starts, account_of, machine_of}

-- What was written to these links is, joined, the text of a machine's requests for the responses that were taken from them, each request
-- after the response before; behind it stands at most a front of the next request, and behind the responses what is none
pub record AreJoinedLinks (account : Account) (m : MachineView) (links : List HungLink) : Type 0 where
  pub exchanges : List Exchange
  pub next : Next
  pub part : List ℕ
  pub more : List ℕ
  pub course : IsCourse m.device (Send m.run m.stage) exchanges next
  pub written : flat_map (λ link. link.written) links ≡ requests account m.device exchanges ++ part
  pub taken : flat_map (λ link. link.taken) links ≡ responses exchanges ++ more
  pub front : IsFront part (request_next account m.device next)

-- where it is told which links were hung up, these were, behind those before: none, or those of the run of the machine that is started
-- for the device of the file, with the account that the words name
abbrev pub HangsJoinedLinks : List (List ℕ) → Outside → Outside → Type 0
HangsJoinedLinks words old new = (y : List HungLink) → new.hung ≡ Some y → (x : List HungLink) × (links : List HungLink) × (old.hung ≡ Some x) × (y ≡ x ++ links)
    × ((links ≡ []) ⊎ ((command : SyncCommand) × (d : DeviceView) × Asks words (Sync command) × Starts old.held command.file d × AreJoinedLinks (account_of command) (machine_of command d) links))
