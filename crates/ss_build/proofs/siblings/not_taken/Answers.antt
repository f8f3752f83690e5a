use Rattle.std.proofs.Common.{◌≡◌, ◌∙◌, ◌++◌, ◌∷◌, [], IfOk, cond, false, ap, ap₂, sym, subst, length, get_or, arith}
use Rattle.std.proofs.lemmas.List.{take_all}
use Rattle.ss_record.specs.Ids.{by_id, places}
use Rattle.ss_build.specs.Built.{ids}
use Rattle.ss_build.specs.Places.{untaken}
use Rattle.ss_build.proofs.Valid.{length-ids}
use Rattle.ss_build.proofs.Seats.{id_at}
use Rattle.ss_build.proofs.Taking.{item_at}
use Rattle.ss_build.proofs.Told.{untaken_more}
use Rattle.ss_build.proofs.siblings.not_taken.Goals as goal

pub loop-i-preserved : goal.loop-i-preserved
loop-i-preserved c =
    let n : length (ids c.args.claims.now) ≡ length c.args.claims.now = length-ids c.args.claims.now in
    c.in_ok-push_unless.ensures
    ∙ (ap₂ (λ l x. cond (get_or c.args.taken.now c.loop-i.i false) l (l ++ x ∷ [])) c.loop-i.invariant
    (c.id.ensures.id ∙ (ap (λ e. e.item.id) (sym c.index-claims-i.is ∙ item_at c.args.claims.now c.loop-i.i c.index-claims-i.result c.loop-i-test.true c.index-claims-i.is) ∙ sym (id_at c.args.claims.now c.loop-i.i)))
    ∙ sym (untaken_more (ids c.args.claims.now) c.args.taken.now c.loop-i.i places false (omega arith) (omega arith)))

pub returns : goal.returns
returns c =
    let n : length (ids c.args.claims.now) ≡ length c.args.claims.now = length-ids c.args.claims.now in
    subst (λ w. IfOk c.by_id.result (λ left. left ≡ by_id w)) (c.loop-i.invariant ∙ ap₂ untaken (take_all c.loop-i.i (ids c.args.claims.now) (omega arith)) (take_all c.loop-i.i c.args.taken.now (omega arith))) c.by_id.ensures
