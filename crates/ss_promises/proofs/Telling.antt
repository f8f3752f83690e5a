-- What the API tells of what a machine asks, and what its client hears.
use Rattle.std.specs.Prelude.{◌≡◌, ℕ, Option, Some, None}
use Rattle.std.proofs.Common.{sym, subst, arith}
use Rattle.ss_bso.specs.declared.account.Plain.{Plain}
use Rattle.ss_bso.specs.Account.{tick}
use Rattle.ss_query.specs.declared.requests.Request.{Request}
use Rattle.ss_query.specs.declared.requests.Request.TheVariants.{Info, DeleteAll, List as ListOf, Post}
use Rattle.ss_query.specs.declared.requests.Request.TheVariants.{DeleteCollection, DeleteIds, Put, Get as GetItem}
use Rattle.ss_query.specs.declared.requests.Request.TheVariants.{Delete as DeleteItem}
use Rattle.ss_query.specs.declared.requests.Mode.{Mode}
use Rattle.ss_query.specs.declared.requests.Mode.TheVariants.{Plain as PlainPost, Begin, Append, Commit}
use Rattle.ss_query.specs.Refused.{Refusal, NoItem, NotModified, WasModified, NoMoreBatches, NoBatch, BatchFull}
use Rattle.ss_query.specs.Refused.{ClockEnded, AccountFull, status_of as status_why}
use Rattle.ss_query.specs.Told.{ok_status, post_status}
use Rattle.ss_query.specs.Api.{api, outcome, refusal}
use Rattle.ss_route.specs.Wire.{HasReason}
use Rattle.ss_hearing.specs.Hearing.{status_of}
use Rattle.ss_client.specs.Asking.{ask, awaits}
use Rattle.ss_client.specs.Runs.{MachineView}
use Rattle.ss_serving.specs.Asking.{Ask, awaited_of, request_of}
use Rattle.ss_serving.specs.Typed.{IsOfKind}
use Rattle.ss_world.specs.Worlds.{asks}
use Rattle.ss_world.proofs.Asking.{asked-asks, awaits-asks}

-- ---- statuses

reason_why : (why : Refusal) → HasReason (status_why why)
reason_why NoItem = omega arith
reason_why NotModified = omega arith
reason_why WasModified = omega arith
reason_why NoMoreBatches = omega arith
reason_why NoBatch = omega arith
reason_why BatchFull = omega arith
reason_why ClockEnded = omega arith
reason_why AccountFull = omega arith

reason_post : (mode : Mode) → HasReason (post_status mode)
reason_post PlainPost = omega arith
reason_post Begin = omega arith
reason_post (Append number) = omega arith
reason_post (Commit number) = omega arith

reason_done : (request : Request) → HasReason (ok_status request)
reason_done (Info what x) = omega arith
reason_done (DeleteAll x) = omega arith
reason_done (ListOf collection query x) = omega arith
reason_done (Post collection records mode x) = reason_post mode
reason_done (DeleteCollection collection x) = omega arith
reason_done (DeleteIds collection ids x) = omega arith
reason_done (GetItem collection id x) = omega arith
reason_done (Put collection id fields x) = omega arith
reason_done (DeleteItem collection id x) = omega arith

reason_of : (account : Plain) (request : Request) (why : Option Refusal) → HasReason (outcome account request why).reply.status
reason_of account request None = reason_done request
reason_of account request (Some why) = reason_why why

-- each status of the API has a reason
pub has_reason : (account : Plain) (now : ℕ) (request : Request) → HasReason (api account now request).reply.status
has_reason account now request = reason_of (tick account now) request (refusal (tick account now) request)

-- ---- bodies

-- where the reply to what a machine asks has the awaited status, its body is of the awaited kind
pub kind_of : ((account : Plain) (now : ℕ) (ask : Ask) → (api account now (request_of ask)).reply.status ≡ status_of (awaited_of ask) → IsOfKind (awaited_of ask) (api account now (request_of ask)).reply.body)
    → (machine : MachineView) (account : Plain) (now : ℕ) → (api account now (ask machine)).reply.status ≡ status_of (awaits machine.stage)
    → IsOfKind (awaits machine.stage) (api account now (ask machine)).reply.body
kind_of kinds machine account now =
    let it : Ask = asks machine machine.stage in
    subst (λ (q : Request). (api account now q).reply.status ≡ status_of (awaits machine.stage) → IsOfKind (awaits machine.stage) (api account now q).reply.body) (sym (asked-asks machine machine.stage))
    (subst (λ awaited. (api account now (request_of it)).reply.status ≡ status_of awaited → IsOfKind awaited (api account now (request_of it)).reply.body) (sym (awaits-asks machine machine.stage)) (kinds account now it))
