use Rattle.std.proofs.Common.{◌≡◌, map, drop}
use Rattle.httparse.specs.Spans.{header_bytes}
use Rattle.ss_http.specs.Fields.{first_named}
use Rattle.ss_http.proofs.fields.find.Given as goal

abbrev pub invariant-loop-header : goal.invariant-loop-header
invariant-loop-header l =
    first_named l.name (map (header_bytes l.buf) (drop l.header-index l.headers)) ≡ first_named l.name (map (header_bytes l.buf) l.headers)
