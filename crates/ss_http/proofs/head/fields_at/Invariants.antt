use Rattle.std.proofs.Common.{◌≡◌, take, map}
use Rattle.httparse.specs.Spans.{header_bytes}
use Rattle.ss_http.proofs.head.fields_at.Given as goal

abbrev pub invariant-loop-header : goal.invariant-loop-header
invariant-loop-header l = l.lines.items ≡ map (header_bytes l.buf) (take l.header-index l.headers)
