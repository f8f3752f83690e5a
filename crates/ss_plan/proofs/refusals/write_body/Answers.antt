use Rattle.std.proofs.Common.{◌++◌, ◌∙◌, ap₂, codes}
use Rattle.serde_json.specs.Data.{string}
use Rattle.serde_json.specs.Written.{compact_text}
use Rattle.ss_plan.specs.Refusals.{lone_body}
use Rattle.ss_bso.specs.Put.{payload_set}
use Rattle.ss_plan.proofs.Bodies.{body_text, five}
use Rattle.ss_plan.proofs.refusals.write_body.Goals as goal

pub returns : goal.returns
unfolding lone_body
returns c =
    five _ _ _ _ _ _ (codes "[{\"id\":") _ (codes ",\"payload\":") _ (codes "}]") c.requires c.in_ok-extend_from_slice.ensures.items c.in_ok-push_json_text.ensures.ok c.in_ok-extend_from_slice-2.ensures.items c.in_ok-push_json_text-2.ensures.ok c.in_ok-extend_from_slice-3.ensures.items
    ∙ (ap₂ (λ i p. codes "[{\"id\":" ++ (compact_text (string i) ++ (codes ",\"payload\":" ++ (compact_text (string p) ++ codes "}]")))) c.as_str.ensures.text c.payload_of.ensures
    ∙ body_text c.args.part.now.id (payload_set c.args.part.now.fields.payload))
