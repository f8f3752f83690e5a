-- The status and the line of a sync by how it ends (this project's).
use Rattle.std.specs.Prelude.{◌≡◌, ◌⊎◌, ℕ, List, [], ◌++◌, Option, Some, None, codes, decimal}
use Rattle.ss_outside.specs.Told.{Meanings, HasWritten}
use Rattle.ss_outside.specs.Causes.{Rose}
use Rattle.ss_text.specs.Time.{stamp_text}
use Rattle.ss_plan.specs.declared.limits.PlanFault.{PlanFault}
use Rattle.ss_plan.specs.declared.limits.PlanFault.TheVariants as plan
use Rattle.ss_client.specs.declared.summaries.Summary.{Summary}
use Rattle.ss_client.specs.declared.summaries.SyncFault.{SyncFault}
use Rattle.ss_client.specs.declared.summaries.SyncFault.TheVariants as fault
use Rattle.ss_run_sync.specs.declared.endings.Ending.{Ending}
use Rattle.ss_run_sync.specs.declared.endings.Ending.TheVariants.{Synced, OtherWords, Stopped, Failed, Unprinted}
use Rattle.ss_run_sync.specs.declared.endings.Trouble.{Trouble}
use Rattle.ss_run_sync.specs.declared.endings.Trouble.TheVariants.{Wire, Device, Store, Memory}
use Rattle.ss_run_sync.specs.declared.reports.Report.{Report}
use Rattle.ss_run_sync.specs.declared.reports.Report.TheVariants.{Line, Short}

-- ---- statuses

abbrev pub status_of_trouble : Trouble → ℕ
status_of_trouble Wire = 2
status_of_trouble Device = 6
status_of_trouble Store = 7
status_of_trouble Memory = 8

-- how much of what is too large
abbrev pub too_large : PlanFault → Option ℕ
too_large (plan.RecordTooLarge id n) = Some n
too_large (plan.BodyTooLarge id n) = Some n
too_large (plan.TooManyRecords n) = Some n
too_large (plan.TooManyBytes n) = Some n
too_large plan.Memory = None

abbrev pub status_of_size : Option ℕ → ℕ
status_of_size (Some n) = 5
status_of_size None = 8

abbrev pub status_of_stop : SyncFault → ℕ
status_of_stop (fault.Refused status id) = 3
status_of_stop (fault.Changing first second third fourth) = 4
status_of_stop (fault.Plan f) = status_of_size (too_large f)
status_of_stop (fault.BadReply number) = 9
status_of_stop fault.Memory = 8

abbrev pub status_of : Ending → ℕ
status_of (Synced summary) = 0
status_of OtherWords = 1
status_of (Stopped f) = status_of_stop f
status_of (Failed trouble) = status_of_trouble trouble
status_of Unprinted = 10

-- ---- lines

abbrev pub line_of_trouble : Trouble → List ℕ
line_of_trouble Wire = codes "stopped: wire\n"
line_of_trouble Device = codes "stopped: device\n"
line_of_trouble Store = codes "stopped: store\n"
line_of_trouble Memory = codes "stopped: memory\n"

-- the items don't count the roots
unfoldable pub synced_line : Summary → List ℕ
synced_line s =
    codes "synced " ++ decimal s.items ++ codes " items, " ++ decimal s.posts ++ codes " posts, " ++ decimal s.fetches ++ codes " fetches, at " ++ stamp_text s.stamp ++ codes "\n"

-- the record that was refused, where one was
abbrev pub refused_record : Option (List ℕ) → List ℕ
refused_record None = []
refused_record (Some id) = codes " " ++ id

unfoldable pub refused_line : ℕ → Option (List ℕ) → List ℕ
refused_line status id = codes "stopped: refused " ++ decimal status ++ refused_record id ++ codes "\n"

-- the collection's times at the four changes
unfoldable pub changing_line : ℕ → ℕ → ℕ → ℕ → List ℕ
changing_line first second third fourth =
    codes "stopped: changing " ++ stamp_text first ++ codes " " ++ stamp_text second ++ codes " " ++ stamp_text third ++ codes " " ++ stamp_text fourth ++ codes "\n"

unfoldable pub numbered_line : List ℕ → ℕ → List ℕ
numbered_line words number = words ++ decimal number ++ codes "\n"

abbrev pub size_line : Option ℕ → List ℕ
size_line (Some n) = numbered_line (codes "stopped: too large ") n
size_line None = codes "stopped: memory\n"

abbrev pub stopped_line : SyncFault → List ℕ
stopped_line (fault.Refused status id) = refused_line status id
stopped_line (fault.Changing first second third fourth) = changing_line first second third fourth
stopped_line (fault.Plan f) = size_line (too_large f)
stopped_line (fault.BadReply number) = numbered_line (codes "stopped: reply ") number
stopped_line fault.Memory = codes "stopped: memory\n"

-- of words that ask no sync nothing is printed
abbrev pub line_of : Ending → List ℕ
line_of (Synced summary) = synced_line summary
line_of OtherWords = []
line_of (Stopped f) = stopped_line f
line_of (Failed trouble) = line_of_trouble trouble
line_of Unprinted = []

-- ---- what is told

abbrev pub ending_told : Report → Ending
ending_told (Line ending line) = ending
ending_told (Short trouble) = Failed trouble

abbrev pub line_told : Report → List ℕ
line_told (Line ending line) = line.items
line_told (Short trouble) = line_of_trouble trouble

-- a report tells this end
abbrev pub Tells : Ending → Report → Type 0
Tells ending (Line told line) = (told ≡ ending) × (line.items ≡ line_of ending)
Tells ending (Short trouble) = ending ≡ Failed trouble

-- a report tells this stop, or that no memory was found for its line
abbrev pub Reports : SyncFault → Report → Type 0
Reports f (Line told line) = (told ≡ Stopped f) × (line.items ≡ stopped_line f)
Reports f (Short trouble) = trouble ≡ Memory

-- the line of this end was printed, and the run ends so; or a write failed, and a front of the line was printed
abbrev pub Prints : Ending → List ℕ → Ending → Meanings → Meanings → Type 0
Prints ending line result output output' =
    ((result ≡ ending) × HasWritten line output output' × (output'.write_faults ≡ output.write_faults))
    ⊎ ((result ≡ Unprinted) × Rose output.write_faults output'.write_faults × (sent : List ℕ) × (rest : List ℕ) × (line ≡ sent ++ rest) × HasWritten sent output output')
