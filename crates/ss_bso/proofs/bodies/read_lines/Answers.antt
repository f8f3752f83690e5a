use Rattle.std.proofs.Common.{subst, sym, ap, ◌∙◌, map}
use Rattle.ss_bso.specs.Members.{parsed_body}
use Rattle.ss_bso.specs.Bodies.{GivesRecords, records_of}
use Rattle.ss_bso.proofs.Elements.{map_map}
use Rattle.ss_bso.proofs.bodies.read_lines.Goals as goal

pub returns : goal.returns
returns c =
    subst (GivesRecords c.records_in_lines.result)
    (ap records_of (sym (map_map parsed_body (λ l. l.now) c.as_slice.result.now)) ∙ ap (λ ls. records_of (map parsed_body ls)) (ap (map (λ l. l.now)) c.as_slice.ensures.value ∙ c.in_ok-lines.ensures))
    c.records_in_lines.ensures
