use Rattle.std.proofs.Common.{◌≡◌, drop}
use Rattle.ss_http.specs.Fields.{first_named}
use Rattle.ss_http.proofs.message.first_of.Given as goal

abbrev pub invariant-loop-line : goal.invariant-loop-line
invariant-loop-line l = first_named l.name (drop l.line-index l.lines) ≡ first_named l.name l.lines
