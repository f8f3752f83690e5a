use Rattle.std.proofs.Common.{◌∙◌, ap, ◌++◌, append_assoc, codes, string_bytes}
use Rattle.serde_json.specs.View.{view, members_view}
use Rattle.ss_dupe.proofs.Members.{some_line, no_line}
use Rattle.ss_dupe.proofs.keys.push_line.Goals as goal

pub returns-in_ok-push_str-2 : goal.returns-in_ok-push_str-2
returns-in_ok-push_str-2 c =
    c.in_ok-push_str-2.ensures.bytes
    ∙ ap (λ b. b ++ c.as_str.result.now) c.in_ok-push_str.ensures.bytes
    ∙ append_assoc (string_bytes c.args.key.now) (codes "\n") c.as_str.result.now
    ∙ ap (λ w. string_bytes c.args.key.now ++ w)
    (ap (λ w. codes "\n" ++ w) c.as_str.ensures.value ∙ some_line (members_view c.args.members.now.entries) c.args.name.now c.requires (view c.in-Some.value.now) c.in-Some.ensures (string_bytes c.in_ok-to_string.field-0) c.in_ok-to_string.ensures.text)

pub returns-in_default : goal.returns-in_default
returns-in_default c = c.in_ok-push_str.ensures.bytes ∙ ap (λ w. string_bytes c.args.key.now ++ w) (no_line (members_view c.args.members.now.entries) c.args.name.now c.in_default.ensures)
