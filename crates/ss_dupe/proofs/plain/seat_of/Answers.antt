use Rattle.std.proofs.Common.{◌∙◌, ap}
use Rattle.ss_dupe.specs.Reading.{ids_at}
use Rattle.ss_dupe.proofs.ReadOut.{seat_is}
use Rattle.ss_dupe.proofs.plain.seat_of.Goals as goal

pub returns : goal.returns
returns c =
    let es = c.args.source.now in
    seat_is es c.requires.kept c.args.node (record { id = c.in_ok-copy.field-0; item = c.item-item.result; parent = c.in_ok-parent_of.field-0; children = c.in_ok-ids_of.field-0; time = c.time.result })
    c.item-item.ensures c.time.ensures (c.in_ok-copy.ensures ∙ c.id.ensures.id) c.in_ok-parent_of.ensures (c.in_ok-ids_of.ensures ∙ ap (ids_at es) (c.deref.ensures.value ∙ c.in_ok-children.ensures.nodes))
