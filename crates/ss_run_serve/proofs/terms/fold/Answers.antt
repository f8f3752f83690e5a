use Rattle.ss_run_serve.proofs.Opened.{folded_anew, folded_same}
use Rattle.ss_run_serve.proofs.terms.fold.Goals as goal

pub returns-clause-folded : goal.returns-clause-folded
returns-clause-folded g c =
    folded_anew g.K.Keeper.told g.K.Keeper.keep_faults c.args.account.now.0 c.args.account.now.1 c.fold.new.self c.fold.result c.fold.ensures.uid c.fold.ensures.account c.fold.ensures.follows c.fold.ensures.begun c.fold.ensures.before

pub returns-clause-same : goal.returns-clause-same
returns-clause-same g c =
    folded_same g.K.Keeper.told g.K.Keeper.keep_faults c.args.account.now.0 c.args.account.now.1 c.fold.new.self c.fold.result c.fold.ensures.account
    (folded_anew g.K.Keeper.told g.K.Keeper.keep_faults c.args.account.now.0 c.args.account.now.1 c.fold.new.self c.fold.result c.fold.ensures.uid c.fold.ensures.account c.fold.ensures.follows c.fold.ensures.begun c.fold.ensures.before)
    c.fold.ensures.unfolded
