use Rattle.std.proofs.Common.{sym, ◌∙◌, ap, option_map}
use Rattle.serde_json.specs.View.{members_view}
use Rattle.ss_record.proofs.Exact.{no_float}
use Rattle.ss_record.proofs.items.has_content.Goals as goal

pub plain_text-requires : goal.plain_text-requires
plain_text-requires c = no_float c.args.content.now _ (sym c.in_ok-members.ensures ∙ ap (option_map (λ m. members_view m.entries)) c.in-Some.is)
