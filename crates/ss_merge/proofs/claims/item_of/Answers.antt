use Rattle.std.proofs.Common.{◌≡◌, true, ◌∙◌, ap, Err}
use Rattle.ss_record.specs.Kinds.{is_folder}
use Rattle.ss_record.specs.Items.{is_fit}
use Rattle.ss_tree.specs.Trees.{PlacedItem}
use Rattle.ss_dupe.specs.Plains.{view}
use Rattle.ss_dupe.proofs.Shapes.{apart_places, has-roots}
use Rattle.ss_merge.proofs.Sided.{root_content, survivor_places}
use Rattle.ss_merge.proofs.Fit.{fit_again}
use Rattle.ss_merge.proofs.claims.item_of.Goals as goal
use Rattle.ss_text.proofs.Basics.{no_way}

pub unreachable-requires : goal.unreachable-requires
unreachable-requires c =
    let s = view c.args.plains.now in
    let x = c.args.id.now in
    let i = c.content_of-seat.result.now.item.now in
    let fit = fit_again i x c.content.ensures.fit (apart_places x (survivor_places s x c.requires.survives))
    (λ r. ap (λ (n : PlacedItem). is_folder n.kind) c.content_of-seat.ensures ∙ root_content s c.requires.shaped x (has-roots x r)) in
    let same : is_fit (record { id = c.in_ok-copy.field-0; kind = c.kind.result; content = c.in_ok-content.content }) ≡ true =
    (λ j. is_fit (record { id = c.in_ok-copy.ensures j; kind = c.kind.ensures j; content = (c.in_ok-content.ensures ∙ c.content.ensures.content) j })) ∙ fit in
    no_way _ same (c.in-Err-Unfit.ensures.unfit (ap Err c.in-Err-Unfit.field-0-is))
