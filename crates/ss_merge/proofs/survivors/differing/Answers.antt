use Rattle.std.proofs.Common.{◌∙◌, ap, sym, true, false, Some}
use Rattle.ss_dupe.specs.Plains.{view}
use Rattle.ss_merge.specs.Parts.{alike}
use Rattle.ss_merge.proofs.Taken.{differ}
use Rattle.ss_merge.proofs.survivors.differing.Goals as goal

pub returns-then-remote : goal.returns-then-remote
returns-then-remote c =
    ap Some c.newer.ensures
    ∙ sym (differ (view c.args.plains.now) (alike c.args.part) c.args.id.now true true c.requires.local c.requires.remote (sym c.differs.ensures ∙ c.if-differs.true) (sym c.differs-remote.ensures ∙ c.if-remote.true))

pub returns-else-remote : goal.returns-else-remote
returns-else-remote c =
    sym (differ (view c.args.plains.now) (alike c.args.part) c.args.id.now true false c.requires.local c.requires.remote (sym c.differs.ensures ∙ c.if-differs.true) (sym c.differs-remote.ensures ∙ c.if-remote.false))

pub returns-then-remote-2 : goal.returns-then-remote-2
returns-then-remote-2 c =
    sym (differ (view c.args.plains.now) (alike c.args.part) c.args.id.now false true c.requires.local c.requires.remote (sym c.differs.ensures ∙ c.if-differs.false) (sym c.differs-remote.ensures ∙ c.if-remote-2.true))

pub returns-else-remote-2 : goal.returns-else-remote-2
returns-else-remote-2 c =
    sym (differ (view c.args.plains.now) (alike c.args.part) c.args.id.now false false c.requires.local c.requires.remote (sym c.differs.ensures ∙ c.if-differs.false) (sym c.differs-remote.ensures ∙ c.if-remote-2.false))
