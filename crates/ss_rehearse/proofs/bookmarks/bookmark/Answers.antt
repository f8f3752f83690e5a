use Rattle.std.proofs.Common.{ap, ap₂, ◌∙◌}
use Rattle.serde_json.specs.Data.{object}
use Rattle.ss_record.specs.declared.kinds.Kind.TheVariants.{Bookmark}
use Rattle.ss_record.specs.Items.{is_fit}
use Rattle.ss_record.specs.Marks.{plain_text}
use Rattle.ss_rehearse.proofs.Fit.{fit}
use Rattle.ss_rehearse.proofs.bookmarks.bookmark.Goals as goal

pub item_of-requires : goal.item_of-requires
item_of-requires c =
    ap₂ (λ x y. is_fit (record { id = x; kind = Bookmark; content = y })) c.in_ok-id.ensures (c.in_ok-content.ensures ∙ ap (λ ms. plain_text (object ms)) c.in_ok-members.ensures) ∙ fit c.args.number c.args.drawn
