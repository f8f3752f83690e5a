use Rattle.std.proofs.Common.{sym, subst}
use Rattle.std.proofs.lemmas.Result.{err_from_is_err_and}
use Rattle.ss_dump.specs.Stages.{kept_in}
use Rattle.ss_dump.specs.Undumped.{WouldBeDump}
use Rattle.ss_dump.proofs.Undumped.{is_dump, other, unfit, would_be}
use Rattle.ss_dump.proofs.undumping.undump.Goals as goal

pub returns-in_err-same_digests-clause-refused : goal.returns-in_err-same_digests-clause-refused
returns-in_err-same_digests-clause-refused c =
    let p = err_from_is_err_and c.from_residual-in_err-same_digests.result c.from_residual-in_err-same_digests.ensures.1 in
    rw (p.1, p.2) (other c.args.bytes.now (kept_in c.in_ok-told.told.draft) c.in_ok-told.told.digest c.in_ok-found.found c.in_ok-told.told.body
    c.in_ok-told.ensures.told c.in_ok-told.ensures.body c.in_ok-found.ensures c.in_err-same_digests.field-0.0 c.in_err-same_digests.ensures.other)

pub returns-in_err-check-clause-refused : goal.returns-in_err-check-clause-refused
returns-in_err-check-clause-refused c =
    let p = err_from_is_err_and c.from_residual-in_err-check.result c.from_residual-in_err-check.ensures.1 in
    let would = would_be c.args.bytes.now (kept_in c.in_ok-told.told.draft) c.in_ok-told.told.digest c.in_ok-found.found c.in_ok-told.told.body
    c.in_ok-told.ensures.told c.in_ok-told.ensures.body c.in_ok-found.ensures c.in_ok-same_digests.ensures.same in
    rw (p.1, p.2) (unfit c.args.bytes.now c.into_kept-kept.result (subst (WouldBeDump c.args.bytes.now) (sym c.into_kept-kept.ensures) would) c.in_err-check.field-0.0 c.in_err-check.ensures.unfit)

pub returns-clause-account : goal.returns-clause-account
returns-clause-account c =
    let would = would_be c.args.bytes.now (kept_in c.in_ok-told.told.draft) c.in_ok-told.told.digest c.in_ok-found.found c.in_ok-told.told.body
    c.in_ok-told.ensures.told c.in_ok-told.ensures.body c.in_ok-found.ensures c.in_ok-same_digests.ensures.same in
    is_dump c.args.bytes.now c.into_kept-kept.result (subst (WouldBeDump c.args.bytes.now) (sym c.into_kept-kept.ensures) would) c.in_ok-check.ensures.good
