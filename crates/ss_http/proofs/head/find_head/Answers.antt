use Rattle.std.proofs.Common.{◌≡◌, ℕ, take, drop, sym, subst, arith}
use Rattle.std.proofs.lemmas.List.{take-append-drop}
use Rattle.httparse.specs.Grammar.{HasNoRequest}
use Rattle.ss_http.proofs.HeadLemmas.{finds_ok, overflowing, no_head_in_all}
use Rattle.ss_http.proofs.head.find_head.Goals as goal
use Rattle.ss_http.specs.declared.limits.TheConstants.{HEAD_ROOM}

pub returns-in-Ok-Complete : goal.returns-in-Ok-Complete
returns-in-Ok-Complete c = finds_ok c.head_of.result c.min.result c.args.buf.now (omega arith) (λ few. omega arith) c.head_of.ensures

pub returns-else-buf-lt-HEAD_ROOM : goal.returns-else-buf-lt-HEAD_ROOM
returns-else-buf-lt-HEAD_ROOM c =
    let all : c.min.result ≡ HEAD_ROOM = omega arith in
    let P : ℕ → Type 0 = λ n. HasNoRequest (take n c.args.buf.now) in
    (tt, (omega arith, no_head_in_all c.args.buf.now (omega arith) (subst P all (rw c.in-Ok-Partial.field-0-is at c.in-Ok-Partial.ensures.partial))))

pub returns-in-Err : goal.returns-in-Err
returns-in-Err c =
    let n = c.min.result in
    (tt, overflowing c.args.buf.now (take n c.args.buf.now) (drop n c.args.buf.now) (sym (take-append-drop n c.args.buf.now)) c.in-Err.ensures.no_room)
