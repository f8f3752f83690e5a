use Rattle.std.proofs.Common.{◌≡◌, true, rules, ap, ◌∙◌}
use Rattle.ss_keeper.specs.Keeping.{changed_by}
use Rattle.ss_dump.specs.Refilled.{is_fresh}
use Rattle.ss_dump.proofs.Refilled.{told_filled}
use Rattle.ss_dump.proofs.refilling.refill.Goals as goal

pub returns-in-Ok-commit-clause-filled : goal.returns-in-Ok-commit-clause-filled
returns-in-Ok-commit-clause-filled g c =
    let fresh : is_fresh c.in-Ok.held ≡ true = search rules in
    told_filled c.args.kept.now c.in-Ok.held (g.K.Keeper.told c.args.keeper.now) (g.K.Keeper.told c.commit.new.self) c.in_ok-changes.changes
    c.requires c.in-Ok.ensures.kept fresh c.in_ok-changes.ensures (c.in-Ok-commit.ensures.done ∙ ap (changed_by c.in_ok-changes.changes) c.load.ensures.left)
