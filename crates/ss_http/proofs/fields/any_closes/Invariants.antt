use Rattle.std.proofs.Common.{◌≡◌, map, drop}
use Rattle.std.specs.List.{list_any}
use Rattle.httparse.specs.Spans.{header_bytes}
use Rattle.ss_http.specs.Fields.{closes}
use Rattle.ss_http.proofs.fields.any_closes.Given as goal

abbrev pub invariant-loop-header : goal.invariant-loop-header
invariant-loop-header l = list_any closes (map (header_bytes l.buf) (drop l.header-index l.headers)) ≡ list_any closes (map (header_bytes l.buf) l.headers)
