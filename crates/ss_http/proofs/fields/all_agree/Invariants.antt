use Rattle.std.proofs.Common.{◌≡◌, map, drop}
use Rattle.std.specs.List.{list_all}
use Rattle.httparse.specs.Spans.{header_bytes}
use Rattle.ss_http.specs.Fields.{agrees}
use Rattle.ss_http.proofs.fields.all_agree.Given as goal

abbrev pub invariant-loop-header : goal.invariant-loop-header
invariant-loop-header l =
    list_all (agrees l.size) (map (header_bytes l.buf) (drop l.header-index l.headers)) ≡ list_all (agrees l.size) (map (header_bytes l.buf) l.headers)
