use Rattle.std.proofs.Common.{arith}
use Rattle.ss_http.proofs.MemoryLemmas.{chained, front_is}
use Rattle.ss_http.proofs.memory.memory_response.Goals as goal

pub returns : goal.returns
returns c =
    front_is c.put.result c.put.new.room _ (omega arith)
    (chained c.args.moment c.args.last _ _ _ _ _ _ _ _ c.put-stamp.ensures.text c.as_bytes.ensures.value c.put_stamp-behind.ensures.text c.put-close.ensures.text c.as_bytes-2.ensures.value
    c.put_close-body.ensures.text c.put.ensures.text c.as_bytes-3.ensures.value)
