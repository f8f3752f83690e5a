use Rattle.std.proofs.Common.{◌∙◌, true, false, sym, get_or, refl}
use Rattle.ss_build.proofs.Kept.{kept_both}
use Rattle.ss_build.proofs.repairs.is_kept.Goals as goal

pub returns-then-keeps_parent : goal.returns-then-keeps_parent
returns-then-keeps_parent c = kept_both c.args.claims.now c.args.told.now c.args.i true (get_or c.args.told.now c.args.i false) c.requires.inside c.requires.told (sym c.if-keeps_parent.true ∙ c.keeps_parent.ensures) refl

pub returns-else-keeps_parent : goal.returns-else-keeps_parent
returns-else-keeps_parent c = kept_both c.args.claims.now c.args.told.now c.args.i false (get_or c.args.told.now c.args.i false) c.requires.inside c.requires.told (sym c.if-keeps_parent.false ∙ c.keeps_parent.ensures) refl
