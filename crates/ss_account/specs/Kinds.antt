-- What a request is to an account: a read, a write, or a change of a batch alone.
use Rattle.std.specs.Prelude.{◌≡◌, true, false}
use Rattle.ss_text.specs.declared.stamps.Cond.TheVariants.{Free}
use Rattle.ss_bso.specs.declared.account.Plain.{Plain}
use Rattle.ss_query.specs.declared.requests.Request.{Request}
use Rattle.ss_query.specs.declared.requests.Request.TheVariants.{Info, DeleteAll, List as ListOf, Post}
use Rattle.ss_query.specs.declared.requests.Request.TheVariants.{DeleteCollection, DeleteIds, Get, Put, Delete}
use Rattle.ss_query.specs.declared.requests.Mode.TheVariants.{Plain as PlainPost, Begin, Append, Commit}
use Rattle.ss_query.specs.Refused.{with_condition}
use Rattle.ss_query.specs.Effect.{is_write}
use Rattle.ss_laws.specs.Laws.{is_of_batch}
use Rattle.ss_account.specs.declared.kinds.Kind.{Kind}
use Rattle.ss_account.specs.declared.kinds.Kind.TheVariants as kinds
use Rattle.ss_account.specs.declared.kinds.ReadRequest.{ReadRequest}
use Rattle.ss_account.specs.declared.kinds.ReadRequest.TheVariants as reads
use Rattle.ss_account.specs.declared.kinds.StageRequest.{StageRequest}
use Rattle.ss_account.specs.declared.kinds.StageRequest.TheVariants as stages
use Rattle.ss_account.specs.declared.kinds.WriteRequest.{WriteRequest}
use Rattle.ss_account.specs.declared.kinds.WriteRequest.TheVariants as writes

-- the request that a read is, under no condition
abbrev pub request_read : ReadRequest → Request
request_read (reads.Info what) = Info what Free
request_read (reads.List collection query) = ListOf collection.now query.now Free
request_read (reads.Get collection id) = Get collection.now id.now Free
request_read (reads.Post collection records) = Post collection.now records.now PlainPost Free
request_read (reads.DeleteIds collection ids) = DeleteIds collection.now ids.now Free

-- the request that a write is, under no condition
abbrev pub request_written : WriteRequest → Request
request_written writes.DeleteAll = DeleteAll Free
request_written (writes.DeleteCollection collection) = DeleteCollection collection.now Free
request_written (writes.DeleteIds collection ids) = DeleteIds collection.now ids.now Free
request_written (writes.Delete collection id) = Delete collection.now id.now Free
request_written (writes.Put collection id fields) = Put collection.now id.now fields.now Free
request_written (writes.Post collection records) = Post collection.now records.now PlainPost Free
request_written (writes.Commit collection records batch) = Post collection.now records.now (Commit batch) Free

-- the request that a change of a batch is, under no condition
abbrev pub request_staged : StageRequest → Request
request_staged (stages.Begin collection records) = Post collection.now records.now Begin Free
request_staged (stages.Append collection records batch) = Post collection.now records.now (Append batch) Free
request_staged (stages.End collection records batch) = Post collection.now records.now (Commit batch) Free

-- a request, whatever its condition, is this read: it is no write, and of no batch
pub record IsRead (account : Plain) (request : Request) (read : ReadRequest) : Type 0 where
  pub asks : with_condition Free request ≡ request_read read
  pub quiet : is_write account request ≡ false
  pub outside : is_of_batch request ≡ false

-- a request, whatever its condition, is this write
pub record IsWrite (account : Plain) (request : Request) (write : WriteRequest) : Type 0 where
  pub asks : with_condition Free request ≡ request_written write
  pub writes : is_write account request ≡ true

-- a request, whatever its condition, is this change of a batch, and no write
pub record IsStage (account : Plain) (request : Request) (stage : StageRequest) : Type 0 where
  pub asks : with_condition Free request ≡ request_staged stage
  pub quiet : is_write account request ≡ false
  pub of_batch : is_of_batch request ≡ true

-- what a request is to an account
abbrev pub IsKindOf : Plain → Request → Kind → Type 0
IsKindOf account request (kinds.Read read) = IsRead account request read
IsKindOf account request (kinds.Write write) = IsWrite account request write
IsKindOf account request (kinds.Stage stage) = IsStage account request stage
