-- Worked rows: the definitions compute what is expected.
use Rattle.std.specs.Prelude.{◌≡◌, ℕ, pos, false, List, [], ◌∷◌, ◌++◌, filter_map, Option, Some, None, option_map}
use Rattle.std.specs.Prelude.{codes, refl}
use Rattle.ss_text.specs.declared.stamps.Cond.TheVariants.{Free, IfModified, IfUnmodified}
use Rattle.ss_bso.specs.declared.parts.Fields.{Fields}
use Rattle.ss_bso.specs.declared.parts.Part.{Part}
use Rattle.ss_bso.specs.declared.parts.Field.TheVariants.{Keep, Clear, Set}
use Rattle.ss_bso.specs.declared.account.Plain.{Plain}
use Rattle.ss_query.specs.declared.requests.Request.{Request}
use Rattle.ss_query.specs.declared.requests.Request.TheVariants.{Info, DeleteAll, List as ListOf, Post}
use Rattle.ss_query.specs.declared.requests.Request.TheVariants.{DeleteCollection, DeleteIds, Get, Put}
use Rattle.ss_query.specs.declared.requests.Info.{Info as InfoKind}
use Rattle.ss_query.specs.declared.requests.Info.TheVariants.{Collections, Counts, Usage, Quota}
use Rattle.ss_query.specs.declared.requests.Mode.{Mode}
use Rattle.ss_query.specs.declared.requests.Mode.TheVariants.{Plain as PlainPost, Begin, Append, Commit}
use Rattle.ss_query.specs.declared.requests.Query.{Query}
use Rattle.ss_query.specs.declared.requests.Sort.TheVariants.{Newest}
use Rattle.ss_query.specs.declared.replies.Body.{Body}
use Rattle.ss_query.specs.declared.replies.Body.TheVariants.{Times, Counts as CountsBody, Usage as UsageBody}
use Rattle.ss_query.specs.declared.replies.Body.TheVariants.{Quota as QuotaBody, Gone, Ids, Posted, Staged, One, At}
use Rattle.ss_query.specs.declared.replies.Body.TheVariants.{Empty, Said}
use Rattle.ss_query.specs.declared.replies.Said.TheVariants.{Item, Modified, Batches, Batch, Clock}
use Rattle.ss_query.specs.declared.replies.Reply.{Reply}
use Rattle.ss_bso.specs.declared.parts.Reason.TheVariants.{Ttl}
use Rattle.ss_bso.specs.Account.{fresh, tick}
use Rattle.ss_query.specs.Api.{api, done_outcome}
use Rattle.ss_query.specs.Flat.{Ask, Turn, turns, flat}

abbrev forms : List ℕ
forms = codes "forms"

abbrev tabs : List ℕ
tabs = codes "tabs"

abbrev a : List ℕ
a = codes "a"

abbrev b : List ℕ
b = codes "b"

abbrev c : List ℕ
c = codes "c"

abbrev x : List ℕ
x = codes "x"

abbrev z : List ℕ
z = codes "z"

abbrev none : Fields
none = record { payload = Keep; sortindex = Keep; ttl = Keep }

abbrev text : List ℕ → Fields
text payload = record { payload = Set payload; sortindex = Keep; ttl = Keep }

abbrev ttl : ℕ → Fields
ttl seconds = record { payload = Keep; sortindex = Keep; ttl = Set seconds }

abbrev at : ℕ → Request → Ask
at now request = record { now = now; request = Some request }

abbrev one : List ℕ → Fields → List Part
one id fields = record { id = id; fields = fields } ∷ []

abbrev post : Mode → List Part → Request
post mode parts = Post forms (record { parts = parts; failed = [] }) mode Free

abbrev all : Query
all = record { ids = None; newer = None; older = None; limit = None; offset = 0; sort = Newest; full = false }

-- what the asks are told: status, moment, modified and body
pub record Told : Type 0 where
  pub status : ℕ
  pub moment : ℕ
  pub modified : Option ℕ
  pub body : Body

abbrev told : Plain → List Ask → List Told
told opening asks = filter_map (λ (turn : Turn). option_map (λ reply. let t : Told = record { status = reply.status; moment = reply.moment; modified = reply.modified; body = reply.body } in t) turn.reply) (turns opening asks)

abbrev ok : ℕ → ℕ → Body → Told
ok moment modified body = record { status = 200; moment = moment; modified = Some modified; body = body }

abbrev staged_ok : ℕ → ℕ → Body → Told
staged_ok moment modified body = record { status = 202; moment = moment; modified = Some modified; body = body }

abbrev no : ℕ → ℕ → Body → Told
no status moment body = record { status = status; moment = moment; modified = None; body = body }

stamps_rise_when_the_clock_falls : told fresh (at 1000 (Put forms a none Free) ∷ at 1000 (Put forms b none Free) ∷ at 900 (Put forms c none Free) ∷ [])
    ≡ ok 1000 1000 (At 1000) ∷ ok 1001 1001 (At 1001) ∷ ok 1002 1002 (At 1002) ∷ []
stamps_rise_when_the_clock_falls = refl

ttl_ends_exactly : told fresh (at 1000 (Put forms a (text x) Free) ∷ at 1100 (Put forms a (ttl 2) Free) ∷ at 1299 (Get forms a Free) ∷ at 1300 (Get forms a Free) ∷ [])
    ≡ ok 1000 1000 (At 1000) ∷ ok 1100 1100 (At 1100)
    ∷ ok 1299 1100 (One (record { collection = forms; id = a; modified = 1100; sortindex = None; payload = x; expires = Some 1300 }))
    ∷ no 404 1300 (Said Item) ∷ []
ttl_ends_exactly = refl

sortindex_is_set_and_cleared : told fresh (at 1000 (Put forms a (record { payload = Keep; sortindex = Set (pos 999999999); ttl = Keep }) Free) ∷ at 1000 (Get forms a Free)
    ∷ at 1001 (Put forms a (record { payload = Keep; sortindex = Clear; ttl = Keep }) Free) ∷ at 1001 (Get forms a Free) ∷ [])
    ≡ ok 1000 1000 (At 1000) ∷ ok 1000 1000 (One (record { collection = forms; id = a; modified = 1000; sortindex = Some (pos 999999999); payload = []; expires = None }))
    ∷ ok 1001 1001 (At 1001) ∷ ok 1001 1001 (One (record { collection = forms; id = a; modified = 1001; sortindex = None; payload = []; expires = None })) ∷ []
sortindex_is_set_and_cleared = refl

-- one id twice: the parts are put one after the other, and the id is told once; a failed record is told with its reason
post_tells_each_record : told fresh (at 1000 (Post forms (record { parts = one a (text (codes "1")) ++ one a (text (codes "2")); failed = (b, Ttl) ∷ [] }) PlainPost Free) ∷ at 1000 (Get forms a Free) ∷ [])
    ≡ ok 1000 1000 (Posted 1000 (a ∷ []) ((b, Ttl) ∷ []))
    ∷ ok 1000 1000 (One (record { collection = forms; id = a; modified = 1000; sortindex = None; payload = codes "2"; expires = None })) ∷ []
post_tells_each_record = refl

-- an empty POST is no write: its time is the target's, and it makes no collection
empty_post_is_no_write : told fresh (at 1000 (post PlainPost []) ∷ at 1001 (Info Collections Free) ∷ [])
    ≡ ok 1000 0 (Posted 0 [] []) ∷ ok 1001 0 (Times []) ∷ []
empty_post_is_no_write = refl

newer_is_strict : told fresh (at 1000 (Put forms a none Free) ∷ at 1000 (ListOf forms (record all { newer = Some 1000 }) Free) ∷ at 1000 (ListOf forms (record all { newer = Some 999 }) Free)
    ∷ at 1000 (ListOf forms (record all { older = Some 1000 }) Free) ∷ at 1000 (ListOf forms (record all { older = Some 1001 }) Free) ∷ [])
    ≡ ok 1000 1000 (At 1000) ∷ ok 1000 1000 (Ids []) ∷ ok 1000 1000 (Ids (a ∷ [])) ∷ ok 1000 1000 (Ids []) ∷ ok 1000 1000 (Ids (a ∷ [])) ∷ []
newer_is_strict = refl

-- five records of one time, in pages of two: their ids go up, and the last page has no next
abbrev five : Plain
five = (api fresh 1000 (post PlainPost (one (codes "e") none ++ one (codes "d") none ++ one c none ++ one b none ++ one a none))).account

abbrev page : ℕ → Reply
page offset = (api five 1000 (ListOf forms (record all { limit = Some 2; offset = offset }) Free)).reply

abbrev paged : ℕ → Option ℕ → List (List ℕ) → Reply
paged count next ids = record { status = 200; moment = 1000; modified = Some 1000; count = Some count; next = next; body = Ids ids }

pages_follow_each_other : page 0 ∷ page 2 ∷ page 4 ∷ [] ≡ paged 2 (Some 2) (a ∷ b ∷ []) ∷ paged 2 (Some 4) (c ∷ codes "d" ∷ []) ∷ paged 1 None (codes "e" ∷ []) ∷ []
pages_follow_each_other = refl

conditions_stop : told fresh (at 1050 (Put forms a none Free) ∷ at 1100 (Get forms a (IfModified 1050)) ∷ at 1100 (Put forms a none (IfUnmodified 1040)) ∷ at 1100 (Get forms a (IfModified 1049)) ∷ at 1100 (Put forms a none (IfUnmodified 1050)) ∷ [])
    ≡ ok 1050 1050 (At 1050) ∷ record { status = 304; moment = 1100; modified = Some 1050; body = Empty } ∷ record { status = 412; moment = 1100; modified = Some 1050; body = Said Modified }
    ∷ ok 1100 1050 (One (record { collection = forms; id = a; modified = 1050; sortindex = None; payload = []; expires = None })) ∷ ok 1100 1100 (At 1100) ∷ []
conditions_stop = refl

abbrev info : InfoKind → Request
info what = Info what Free

-- payload bytes are counted; a deletion of ids makes a time, and the collection stays; a deletion of all leaves nothing
info_tells_the_account : told fresh (at 1000 (Put forms a (text (codes "xxxx")) Free) ∷ at 1000 (info Collections) ∷ at 1000 (info Usage) ∷ at 1000 (info Quota) ∷ at 1001 (DeleteIds forms (a ∷ codes "q" ∷ []) Free)
    ∷ at 1001 (info Counts) ∷ at 1002 (DeleteAll Free) ∷ at 1002 (info Collections) ∷ [])
    ≡ ok 1000 1000 (At 1000) ∷ ok 1000 1000 (Times ((forms, 1000) ∷ [])) ∷ ok 1000 1000 (UsageBody ((forms, 4) ∷ [])) ∷ ok 1000 1000 (QuotaBody 4) ∷ ok 1001 1001 (Gone 1001)
    ∷ ok 1001 1001 (CountsBody ((forms, 0) ∷ [])) ∷ ok 1002 1002 (Gone 1002) ∷ ok 1002 1002 (Times []) ∷ []
info_tells_the_account = refl

-- after the last stamp writes are refused and reads are not
the_clock_ends : told fresh (at 999999999999 (Put forms a none Free) ∷ at 999999999999 (Put forms b none Free) ∷ at 1 (DeleteAll Free) ∷ at 1 (ListOf forms all Free) ∷ [])
    ≡ ok 999999999999 999999999999 (At 999999999999) ∷ no 503 999999999999 (Said Clock) ∷ no 503 999999999999 (Said Clock) ∷ ok 999999999999 999999999999 (Ids (a ∷ [])) ∷ []
the_clock_ends = refl

-- what a deleted collection leaves: its condition's time is the deletion's
deleted_collection_has_the_deletions_time : told fresh (at 1000 (Put forms z none Free) ∷ at 1002 (DeleteCollection forms Free) ∷ at 1003 (Put forms z none (IfUnmodified 0)) ∷ at 1003 (post PlainPost (one a none))
    ∷ at 1004 (DeleteCollection tabs Free) ∷ at 1004 (Post tabs (record { parts = one a none; failed = [] }) PlainPost (IfUnmodified 1003)) ∷ [])
    ≡ ok 1000 1000 (At 1000) ∷ ok 1002 1002 (Gone 1002) ∷ ok 1003 1003 (At 1003) ∷ ok 1004 1004 (Posted 1004 (a ∷ []) [])
    ∷ ok 1005 1005 (Gone 1005) ∷ record { status = 412; moment = 1005; modified = Some 1005; body = Said Modified } ∷ []
deleted_collection_has_the_deletions_time = refl

-- an account with one row and one live batch, as a begin at 10.01 leaves it
abbrev begun : Plain
begun = record {
  rows = record { collection = forms; id = z; modified = 1000; sortindex = None; payload = []; expires = None } ∷ [];
  collections = (forms, 1000) ∷ [];
  store = 1000;
  last_delete = 0;
  moment = 1001;
  counter = 1;
  batches = record { number = 1; collection = forms; begun = 1001; parts = one a (text (codes "1")) } ∷ [];
}

-- what a begin that isn't refused does and is told
begin_stages_its_parts : done_outcome (tick (api fresh 1000 (Put forms z none Free)).account 1001) (post Begin (one a (text (codes "1"))))
    ≡ record { account = begun; reply = record { status = 202; moment = 1001; modified = Some 1000; count = None; next = None; body = Staged 1 (a ∷ []) [] } }
begin_stages_its_parts = refl

-- four batches may be live, and a number that was not given out names none
a_fifth_batch_is_refused : told fresh (at 1001 (post Begin (one a none)) ∷ at 1001 (post Begin []) ∷ at 1001 (post Begin []) ∷ at 1001 (post Begin []) ∷ at 1001 (post Begin (one a none)) ∷ at 1001 (post (Append 5) []) ∷ at 1001 (post (Commit 5) []) ∷ [])
    ≡ staged_ok 1001 0 (Staged 1 (a ∷ []) []) ∷ staged_ok 1001 0 (Staged 2 [] []) ∷ staged_ok 1001 0 (Staged 3 [] []) ∷ staged_ok 1001 0 (Staged 4 [] [])
    ∷ no 400 1001 (Said Batches) ∷ no 400 1001 (Said Batch) ∷ no 400 1001 (Said Batch) ∷ []
a_fifth_batch_is_refused = refl

-- a batch shows nothing until its commit, which ends it
batch_is_unseen_until_commit : told begun (at 1002 (post (Append 1) (one b none)) ∷ at 1003 (ListOf forms all Free) ∷ at 1004 (post (Commit 1) []) ∷ at 1004 (ListOf forms all Free) ∷ at 1005 (post (Commit 1) []) ∷ [])
    ≡ staged_ok 1002 1000 (Staged 1 (b ∷ []) [])
    ∷ ok 1003 1000 (Ids (z ∷ [])) ∷ ok 1004 1004 (Posted 1004 [] []) ∷ ok 1004 1004 (Ids (a ∷ b ∷ z ∷ [])) ∷ no 400 1005 (Said Batch) ∷ []
batch_is_unseen_until_commit = refl

batch_ends_after_two_hours : told begun (at 721000 (post (Commit 1) []) ∷ []) ≡ ok 721000 721000 (Posted 721000 [] []) ∷ []
batch_ends_after_two_hours = refl

batch_is_gone_after_two_hours : told begun (at 721001 (post (Commit 1) []) ∷ []) ≡ no 400 721001 (Said Batch) ∷ []
batch_is_gone_after_two_hours = refl

batch_is_of_one_collection : told begun (at 1001 (Post tabs (record { parts = []; failed = [] }) (Commit 1) Free) ∷ at 1002 (post (Commit 1) []) ∷ [])
    ≡ no 400 1001 (Said Batch) ∷ ok 1002 1002 (Posted 1002 [] []) ∷ []
batch_is_of_one_collection = refl

-- a commit's own condition counts, and a refused commit leaves its batch
commit_has_its_own_condition : told begun (at 1002 (Put forms z none Free) ∷ at 1003 (Post forms (record { parts = []; failed = [] }) (Commit 1) (IfUnmodified 1000)) ∷ at 1004 (post (Commit 1) []) ∷ [])
    ≡ ok 1002 1002 (At 1002) ∷ record { status = 412; moment = 1003; modified = Some 1002; body = Said Modified } ∷ ok 1004 1004 (Posted 1004 [] []) ∷ []
commit_has_its_own_condition = refl

deletion_ends_batches : told begun (at 1002 (DeleteCollection forms Free) ∷ at 1003 (post (Commit 1) [])
    ∷ at 1003 (Post forms (record { parts = []; failed = [] }) (Commit 1) (IfUnmodified 1000)) ∷ at 1003 (Post forms (record { parts = []; failed = [] }) Begin (IfUnmodified 1000))
    ∷ at 1003 (Info Collections Free) ∷ [])
    ≡ ok 1002 1002 (Gone 1002) ∷ no 400 1003 (Said Batch)
    ∷ record { status = 412; moment = 1003; modified = Some 1002; body = Said Modified } ∷ record { status = 412; moment = 1003; modified = Some 1002; body = Said Modified }
    ∷ ok 1003 1002 (Times []) ∷ []
deletion_ends_batches = refl

-- the flat list of a batch: bare readings, and one POST of all the parts at its commit
flat_list_of_a_batch : flat begun (at 1002 (post (Append 1) (one b none)) ∷ at 1003 (ListOf forms all Free) ∷ at 1004 (post (Commit 1) (one c none)) ∷ at 1005 (post (Commit 1) []) ∷ [])
    ≡ record { now = 1002; request = None } ∷ at 1003 (ListOf forms all Free) ∷ at 1004 (post PlainPost (one a (text (codes "1")) ++ one b none ++ one c none)) ∷ record { now = 1005; request = None } ∷ []
flat_list_of_a_batch = refl
