use Rattle.std.proofs.Common.{◌≡◌, map, drop}
use Rattle.ss_bso.specs.Members.{parsed_body}
use Rattle.ss_bso.proofs.Elements.{Gathered}
use Rattle.ss_bso.proofs.bodies.records_in_lines.Given as goal

abbrev pub invariant-loop-line : goal.invariant-loop-line
invariant-loop-line l =
    (l.place ≡ l.line-index)
    × Gathered l.place l.gathering.parts.items l.gathering.failed.items (map (λ v. parsed_body v.now) (drop l.line-index l.lines)) (map (λ v. parsed_body v.now) l.lines)
