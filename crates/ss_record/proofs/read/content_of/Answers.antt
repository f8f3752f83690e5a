use Rattle.std.proofs.Common.{rules, ap, ◌∙◌, not, string_bytes}
use Rattle.std.proofs.lemmas.Map.Made.{filter_same_pairs}
use Rattle.serde_json.specs.View.{members_view}
use Rattle.ss_record.specs.Ids.{has}
use Rattle.ss_record.specs.Items.{names_of}
use Rattle.ss_record.proofs.Exact.{without_kept}
use Rattle.ss_record.proofs.read.content_of.Goals as goal

pub returns : goal.returns
returns c =
    ap members_view (filter_same_pairs _ (λ e. not (has (string_bytes e.0) (names_of c.args.kind))) _ (λ k v b w f' t. search rules) _ _ c.retain.ensures.filtered)
    ∙ without_kept (names_of c.args.kind) c.args.members.entries
