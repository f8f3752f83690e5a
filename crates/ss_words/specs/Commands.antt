-- What words ask (this project's).
use Rattle.std.specs.Prelude.{◌≡◌, ℕ, ◌≤◌, ⊤, true, IfSome, List, [], ◌∷◌, Option, Some, None, is_some, unwrap_or}
use Rattle.std.specs.Prelude.{option_map, option_and_then}
use Rattle.std.specs.Net.Socket.{IsSocketAddrV4}
use Rattle.std.specs.Net.Text.{socket_v4_text}
use Rattle.std.specs.declared.net.socket_addr.SocketAddrV4.{SocketAddrV4}
use Rattle.ss_route.specs.Targets.{uid_of}
use Rattle.ss_route.specs.declared.manner.Manner.{Manner}
use Rattle.ss_route.specs.declared.manner.Manner.TheVariants.{Profile, Browser}
use Rattle.ss_town.specs.Limits.{most_connections, most_workers}
use Rattle.ss_words.specs.declared.commands.Command.{Command}
use Rattle.ss_words.specs.declared.commands.Command.TheVariants as asked
use Rattle.ss_words.specs.declared.commands.LogFolder.{LogFolder}
use Rattle.ss_words.specs.declared.names.Name.{Name}
use Rattle.ss_words.specs.declared.names.Name.TheVariants.{Answer, Edit, Merge, Rehearse, Sync, Serve}
use Rattle.ss_words.specs.declared.names.OptionName.TheVariants.{At, Newer, Workers, Connections, Terms, Firefox}
use Rattle.ss_words.specs.declared.names.OptionName.TheVariants.{Journal, From}
use Rattle.ss_words.specs.Names.{name_of}
use Rattle.ss_words.specs.Lines.{Line, IsLine}
use Rattle.ss_words.specs.Values.{given_value, number_in, number_given, accounts_of, are_accounts}
use Rattle.ss_words.specs.Urls.{server_of, HasHost}
use Rattle.ss_words.specs.Actions.{action_in}

-- the greatest number of 12 digits
abbrev pub most : ℕ
most = 999999999999

-- `answer UID`
abbrev pub answer_words : Option ℕ → List (List ℕ) → Option Command
answer_words at (uid ∷ []) = option_map (λ uid. asked.Answer (record { uid = uid; at = at })) (uid_of uid)
answer_words at _ = None

unfoldable pub answer_in : Line → Option Command
answer_in line = option_and_then (λ at. answer_words at line.positionals) (number_given At 0 most line)

-- `edit ACTION ..`
unfoldable pub edit_in : Line → Option Command
edit_in line = option_and_then (λ at. option_map (λ action. asked.Edit (record { action = action; at = at })) (action_in line.positionals)) (number_given At 0 most line)

-- `merge`
abbrev pub merge_words : List (List ℕ) → Option Command
merge_words [] = Some asked.Merge
merge_words (word ∷ words) = None

-- `rehearse N S`
abbrev pub rehearse_words : List (List ℕ) → Option Command
rehearse_words (items ∷ seed ∷ []) =
    option_and_then (λ items. option_map (λ seed. asked.Rehearse (record { items = items; seed = seed })) (number_in 0 most seed)) (number_in 1 15000 items)
rehearse_words _ = None

-- `sync URL FILE`
abbrev pub sync_words : Option (List ℕ) → List (List ℕ) → Option Command
sync_words newer (url ∷ file ∷ []) = option_map (λ server. asked.Sync (record { server = server; file = file; newer = is_some newer })) (server_of url)
sync_words newer _ = None

unfoldable pub sync_in : Line → Option Command
sync_in line = option_and_then (λ newer. sync_words newer line.positionals) (given_value Newer line)

-- how a server reads conditions: as browsers mean them where `--firefox` is given, else by the letter
abbrev pub manner_of : Option (List ℕ) → Manner
manner_of None = Profile
manner_of (Some value) = Browser

-- the greatest number of the first term whose logs are kept
abbrev pub most_from : ℕ
most_from = 999999

-- where the logs of terms are kept: a folder has a name, and a number stands only beside a folder
abbrev pub logs_of : Option (List ℕ) → Option ℕ → Option (Option LogFolder)
logs_of None None = Some None
logs_of None (Some from) = None
logs_of (Some []) from = None
logs_of (Some (byte ∷ bytes)) from = Some (Some (record { folder = byte ∷ bytes; from = unwrap_or from 1 }))

unfoldable pub logs_in : Line → Option (Option LogFolder)
logs_in line = option_and_then (λ from. option_and_then (λ folder. logs_of folder from) (given_value Journal line)) (number_given From 1 most_from line)

-- `serve ADDRESS FOLDER UID ..`
abbrev pub serve_words : ℕ → ℕ → ℕ → Manner → Option LogFolder → List (List ℕ) → Option Command
serve_words workers connections terms manner logs (address ∷ folder ∷ uids) =
    option_map (λ uids. asked.Serve (record {
      address = address;
      folder = folder;
      uids = uids;
      workers = workers;
      connections = connections;
      terms = terms;
      manner = manner;
      logs = logs;
    })) (accounts_of uids)
serve_words workers connections terms manner logs _ = None

unfoldable pub serve_in : Line → Option Command
serve_in line =
    option_and_then (λ workers. option_and_then (λ connections. option_and_then (λ terms. option_and_then (λ firefox. option_and_then (λ logs.
    serve_words (unwrap_or workers 4) (unwrap_or connections 100) (unwrap_or terms 0) (manner_of firefox) logs line.positionals)
    (logs_in line)) (given_value Firefox line)) (number_given Terms 0 most line)) (number_given Connections 1 most_connections line)) (number_given Workers 1 most_workers line)

-- what the line of a command asks
abbrev pub command_in : Name → Line → Option Command
command_in Answer line = answer_in line
command_in Edit line = edit_in line
command_in Merge line = merge_words line.positionals
command_in Rehearse line = rehearse_words line.positionals
command_in Sync line = sync_in line
command_in Serve line = serve_in line

-- an IPv4 address, a colon and a port, as they are written: none of the five numbers has a leading zero
abbrev pub IsAddress : List ℕ → Type 0
IsAddress text = (address : SocketAddrV4) × IsSocketAddrV4 address × (text ≡ socket_v4_text address)

-- the address of a server is one
abbrev pub HasAddress : Command → Type 0
HasAddress (asked.Serve command) = IsAddress command.address
HasAddress _ = ⊤

-- the range of the number of the first term whose logs are kept
abbrev pub HasNumber : LogFolder → Type 0
HasNumber logs = (1 ≤ logs.from) × (logs.from ≤ most_from)

-- the ranges of the numbers of a command, its accounts, and the host of its server
abbrev pub HasRange : Command → Type 0
HasRange (asked.Answer command) = IfSome command.at (λ at. at ≤ most)
HasRange (asked.Edit command) = IfSome command.at (λ at. at ≤ most)
HasRange asked.Merge = ⊤
HasRange (asked.Rehearse command) = (1 ≤ command.items) × (command.items ≤ 15000) × (command.seed ≤ most)
HasRange (asked.Sync command) = HasHost command.server
HasRange (asked.Serve command) =
    (1 ≤ command.workers) × (command.workers ≤ most_workers) × (1 ≤ command.connections) × (command.connections ≤ most_connections) × (command.terms ≤ most) × (are_accounts command.uids ≡ true) × IfSome command.logs HasNumber

-- the words behind a command's name ask this
pub record AsksOf (name : Name) (words : List (List ℕ)) (command : Command) : Type 0 where
  pub line : Line
  pub is_line : IsLine name words line
  pub says : command_in name line ≡ Some command
  pub address : HasAddress command

-- the words ask this: the first is the command's name
pub record Asks (words : List (List ℕ)) (command : Command) : Type 0 where
  pub first : List ℕ
  pub others : List (List ℕ)
  pub name : Name
  pub words_are : words ≡ first ∷ others
  pub is_name : name_of first ≡ Some name
  pub asks : AsksOf name others command
