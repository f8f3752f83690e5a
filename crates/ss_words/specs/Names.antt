-- The names of the commands and of their options (this project's).
use Rattle.std.specs.Prelude.{ℕ, Bool, true, false, List, Option, Some, None, codes, bytes_eq, if◌then◌else◌}
use Rattle.ss_words.specs.declared.names.Name.{Name}
use Rattle.ss_words.specs.declared.names.Name.TheVariants.{Answer, Edit, Merge, Rehearse, Sync, Serve}
use Rattle.ss_words.specs.declared.names.OptionName.{OptionName}
use Rattle.ss_words.specs.declared.names.OptionName.TheVariants.{At, Newer, Workers, Connections, Terms, Firefox}
use Rattle.ss_words.specs.declared.names.OptionName.TheVariants.{Journal, From}

-- a command's name
abbrev pub name_text : Name → List ℕ
name_text Answer = codes "answer"
name_text Edit = codes "edit"
name_text Merge = codes "merge"
name_text Rehearse = codes "rehearse"
name_text Sync = codes "sync"
name_text Serve = codes "serve"

-- the command that a text names
unfoldable pub name_of : List ℕ → Option Name
name_of text =
    if bytes_eq text (codes "answer") then Some Answer
    else (if bytes_eq text (codes "edit") then Some Edit
    else (if bytes_eq text (codes "merge") then Some Merge
    else (if bytes_eq text (codes "rehearse") then Some Rehearse
    else (if bytes_eq text (codes "sync") then Some Sync
    else (if bytes_eq text (codes "serve") then Some Serve else None)))))

-- an option, as it is written
abbrev pub option_text : OptionName → List ℕ
option_text At = codes "--at"
option_text Newer = codes "--newer"
option_text Workers = codes "--workers"
option_text Connections = codes "--connections"
option_text Terms = codes "--terms"
option_text Firefox = codes "--firefox"
option_text Journal = codes "--journal"
option_text From = codes "--from"

-- the option that a text writes
unfoldable pub option_of : List ℕ → Option OptionName
option_of text =
    if bytes_eq text (codes "--at") then Some At
    else (if bytes_eq text (codes "--newer") then Some Newer
    else (if bytes_eq text (codes "--workers") then Some Workers
    else (if bytes_eq text (codes "--connections") then Some Connections
    else (if bytes_eq text (codes "--terms") then Some Terms
    else (if bytes_eq text (codes "--firefox") then Some Firefox
    else (if bytes_eq text (codes "--journal") then Some Journal
    else (if bytes_eq text (codes "--from") then Some From else None)))))))

-- the options of each command
abbrev pub takes : Name → OptionName → Bool
takes Answer At = true
takes Edit At = true
takes Sync Newer = true
takes Serve Workers = true
takes Serve Connections = true
takes Serve Terms = true
takes Serve Firefox = true
takes Serve Journal = true
takes Serve From = true
takes _ _ = false

-- whether a value belongs to an option
abbrev pub has_value : OptionName → Bool
has_value Newer = false
has_value At = true
has_value Workers = true
has_value Connections = true
has_value Terms = true
has_value Firefox = false
has_value Journal = true
has_value From = true
