-- What a machine asks at each stage (SyncStorage API 1.5), and the reply that it awaits.
use Rattle.std.specs.Prelude.{ℕ, List, [], ◌∷◌, Option, Some, None, if◌then◌else◌, codes}
use Rattle.ss_text.specs.declared.stamps.Cond.TheVariants.{Free, IfUnmodified}
use Rattle.ss_bso.specs.declared.parts.Part.{Part}
use Rattle.ss_query.specs.declared.requests.Info.TheVariants.{Configuration}
use Rattle.ss_query.specs.declared.requests.Mode.{Mode}
use Rattle.ss_query.specs.declared.requests.Mode.TheVariants as mode
use Rattle.ss_query.specs.declared.requests.Request.{Request}
use Rattle.ss_query.specs.declared.requests.Request.TheVariants.{Info, List as ListOf, Post}
use Rattle.ss_route.specs.Sending.{page, all_ids}
use Rattle.ss_hearing.specs.declared.answer.Awaited.{Awaited}
use Rattle.ss_hearing.specs.declared.answer.Awaited.TheVariants as awaited
use Rattle.ss_client.specs.declared.runs.Stage.{Stage}
use Rattle.ss_client.specs.declared.runs.Stage.TheVariants.{Asks, Opens, Pages, Lists, Uploads}
use Rattle.ss_client.specs.Runs.{MachineView, post_of, rest_of}

-- the time above which rows are fetched
abbrev pub since : MachineView → Option ℕ
since m = if m.run.newer then Some m.device.stamp else None

-- how the records of a POST are taken: the last one of several commits the batch, a single one is plain
abbrev pub mode_of : Option ℕ → List Part → Mode
mode_of None [] = mode.Plain
mode_of None (p ∷ rest) = mode.Begin
mode_of (Some batch) [] = mode.Commit batch
mode_of (Some batch) (p ∷ rest) = mode.Append batch

-- the request: the limits; a first page; a further page, and the ids, where nothing has changed; a POST where nothing has
unfoldable pub asked : MachineView → Stage → Request
asked m Asks = Info Configuration Free
asked m Opens = ListOf (codes "bookmarks") (page (since m) 0) Free
asked m (Pages p) = ListOf (codes "bookmarks") (page (since m) p.offset) (IfUnmodified p.time)
asked m (Lists l) = ListOf (codes "bookmarks") all_ids (IfUnmodified l.time)
asked m (Uploads u) = Post (codes "bookmarks") (record { parts = post_of u; failed = [] }) (mode_of u.batch (rest_of u)) (IfUnmodified u.time)

abbrev pub ask : MachineView → Request
ask m = asked m m.stage

-- what a POST awaits: the last one that its records are written, the others that they are in the batch
abbrev pub awaited_of : List Part → Awaited
awaited_of [] = awaited.Writing
awaited_of (p ∷ rest) = awaited.Staging

-- the kind of reply that is awaited
unfoldable pub awaits : Stage → Awaited
awaits Asks = awaited.Configuration
awaits Opens = awaited.FirstPage
awaits (Pages p) = awaited.LaterPage
awaits (Lists l) = awaited.AllIds
awaits (Uploads u) = awaited_of (rest_of u)
