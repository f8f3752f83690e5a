use Rattle.std.proofs.Common.{ap, ◌∙◌}
use Rattle.serde_json.specs.Written.{compact_text, has_float}
use Rattle.ss_flat.proofs.NoFloats.{no_float}
use Rattle.ss_flat.proofs.texts.record_text.Goals as goal

pub returns : goal.returns
unfolding Rattle.ss_flat.specs.Texts.record_text
returns c =
    let made = c.in_ok-record.ensures in
    c.new.ensures ∙ c.in_ok-to_string.ensures.text (ap has_float made ∙ no_float c.args.kind c.args.id.now c.args.face.now c.args.visits.now) ∙ ap compact_text made
