use Rattle.std.proofs.Common.{◌≡◌, ◌++◌, ◌∷◌, [], codes, ap, ◌∙◌}
use Rattle.serde_json.specs.Data.{string}
use Rattle.serde_json.specs.Written.{compact_text}
use Rattle.ss_lines.specs.Lines.{natural, time}
use Rattle.ss_commits.proofs.Written.{one_is}
use Rattle.ss_commits.proofs.marks.push_now.Goals as goal

pub returns : goal.returns
returns c =
    c.in_ok-push_end.ensures
    ∙ (ap (λ t. t ++ 93 ∷ 10 ∷ []) (c.in_ok-push_time.ensures ∙ ap (λ t. t ++ 44 ∷ compact_text (time c.args.moment)) c.in_ok-push_tag.ensures)
    ∙ one_is c.args.out.now.items (codes "now") (time c.args.moment))
