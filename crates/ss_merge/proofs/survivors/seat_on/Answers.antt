use Rattle.std.proofs.Common.{◌∙◌, ap, sym, option_map}
use Rattle.ss_dupe.specs.Looks.{is_in}
use Rattle.ss_dupe.specs.Plains.{placed_at, view}
use Rattle.ss_dupe.specs.Sides.{tree_of}
use Rattle.ss_dupe.proofs.Shapes.{in-of_none}
use Rattle.ss_merge.proofs.survivors.seat_on.Goals as goal
use Rattle.ss_text.proofs.Basics.{no_way}

pub unreachable-requires : goal.unreachable-requires
unreachable-requires c =
    let t = tree_of (view c.args.plains.now) c.args.side in
    let x = c.args.id.now in
    no_way (is_in t x) c.requires (in-of_none t x (sym (c.get.ensures ∙ ap (λ f. f x) c.of.ensures) ∙ ap (option_map (λ s. placed_at s.now)) c.in-None.is))
