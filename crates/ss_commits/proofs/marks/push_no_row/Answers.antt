use Rattle.std.proofs.Common.{◌≡◌, ◌++◌, ◌∷◌, [], codes, ap, ap₂, ◌∙◌}
use Rattle.serde_json.specs.Data.{string}
use Rattle.serde_json.specs.Written.{compact_text}
use Rattle.ss_commits.proofs.Written.{two_is}
use Rattle.ss_commits.proofs.marks.push_no_row.Goals as goal

pub returns : goal.returns
returns c =
    c.in_ok-push_end.ensures
    ∙ (ap (λ t. t ++ 93 ∷ 10 ∷ []) (c.in_ok-push_text-2.ensures ∙ ap₂ (λ t u. t ++ 44 ∷ compact_text (string u))
    (c.in_ok-push_text.ensures ∙ ap₂ (λ t u. t ++ 44 ∷ compact_text (string u)) c.in_ok-push_tag.ensures c.as_str.ensures.text) c.as_str-2.ensures.text)
    ∙ two_is c.args.out.now.items (codes "no-row") (string c.args.collection.now) (string c.args.id.now))
