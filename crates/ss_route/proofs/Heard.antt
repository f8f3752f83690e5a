-- What is heard of a reply.
use Rattle.std.proofs.Common.{◌≡◌, ℕ, ◌++◌, Bool, List, [], refl}
use Rattle.ss_http.specs.Hearing.{Hears}
use Rattle.ss_http.proofs.Replies.{hears_response}
use Rattle.ss_query.specs.declared.replies.Body.{Body}
use Rattle.ss_query.specs.declared.replies.Reply.{Reply}
use Rattle.ss_route.specs.Wire.{IsReply, HasReason, IsHeardWhole, wire, heard_of, head_of, content}
use Rattle.ss_route.proofs.Reasons.{three_digits}

empty : (status : ℕ) (newlines : Bool) (body : Body) → status ≡ 304 → content status newlines body ≡ []
empty status newlines body e = rw e refl

pub hears_reply : (reply : Reply) (newlines last : Bool) (rest : List ℕ) → IsReply reply → HasReason reply.status → IsHeardWhole reply newlines
    → Hears (wire reply newlines last ++ rest) (heard_of reply newlines last) rest
hears_reply reply newlines last rest numbers reasoned whole =
    hears_response (head_of reply newlines last) (content reply.status newlines reply.body) rest
    record {
      status = three_digits reply.status reasoned;
      moment = numbers.moment;
      modified = numbers.modified;
      count = numbers.count;
      next = numbers.next;
      allow = tt;
      size = whole;
      empty = empty reply.status newlines reply.body;
    }
