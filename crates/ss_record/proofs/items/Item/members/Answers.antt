use Rattle.std.proofs.Common.{ap, sym, ◌∙◌, option_map}
use Rattle.serde_json.specs.View.{members_view}
use Rattle.ss_record.specs.Payloads.{payload_members}
use Rattle.ss_record.proofs.Fit.{not_without}
use Rattle.ss_record.proofs.items.Item.members.Goals as goal

pub unreachable-requires : goal.unreachable-requires
unreachable-requires c =
    not_without c.args.self.now c.content.ensures.fit
    (ap payload_members (sym (c.as_str.ensures ∙ c.content.ensures.content)) ∙ (sym c.in_ok-members.ensures ∙ ap (option_map (λ m. members_view m.entries)) c.in-None.is))
