use Rattle.std.proofs.Common.{◌&&◌, not, bytes_eq, sym, ap, ◌∙◌}
use Rattle.serde_json.specs.Data.{object}
use Rattle.serde_json.specs.View.{members_view}
use Rattle.serde_json.specs.Written.{members_have_float}
use Rattle.ss_record.specs.Marks.{plain_text}
use Rattle.ss_record.specs.Ids.{has, places, roots}
use Rattle.ss_record.specs.Kinds.{is_folder}
use Rattle.ss_record.specs.Items.{names_of}
use Rattle.ss_record.proofs.Exact.{no_float_without}
use Rattle.ss_record.proofs.Fit.{read_is_fit}
use Rattle.ss_record.proofs.read.read_item.Goals as goal

pub plain_text-requires : goal.plain_text-requires
plain_text-requires c = ap members_have_float c.content_of.ensures ∙ no_float_without (names_of c.in-Some.kind) c.args.sheet.now.payload (members_view c.args.members.entries) c.requires.payload

pub fit-item-requires : goal.fit-item-requires
fit-item-requires c =
    read_is_fit c.args.sheet.now.payload (members_view c.args.members.entries) (record { id = c.in_ok-copy.field-0; kind = c.in-Some.kind; content = c.in_ok-content.content })
    c.requires.payload c.requires.live
    (sym (c.in_ok-content.ensures ∙ ap (λ m. plain_text (object m)) c.content_of.ensures))
    (ap (λ w. has w roots && not (is_folder c.in-Some.kind)) c.in_ok-copy.ensures ∙ (sym c.is_leaf_root.ensures ∙ c.if-is_leaf_root.false))
    (ap (λ w. bytes_eq w places) c.in_ok-copy.ensures ∙ c.requires.place)
