use Rattle.std.proofs.Common.{◌∙◌, ap}
use Rattle.ss_dupe.specs.Looks.{is_in}
use Rattle.ss_dupe.specs.Plains.{view}
use Rattle.ss_dupe.specs.Sides.{tree_of}
use Rattle.ss_merge.specs.Survivors.{same_content}
use Rattle.ss_merge.proofs.Sided.{survivor_in}
use Rattle.ss_merge.proofs.Taken.{side-in}
use Rattle.ss_merge.proofs.survivors.content_of.Goals as goal

pub seat_on-requires : goal.seat_on-requires
seat_on-requires c =
    let s = view c.args.plains.now in
    ap (λ side. is_in (tree_of s side) c.args.id.now) c.side_of.ensures ∙ side-in s same_content c.args.id.now (survivor_in s c.requires.shaped c.args.id.now c.requires.survives)
