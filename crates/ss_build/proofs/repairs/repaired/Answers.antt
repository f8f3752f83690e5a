use Rattle.std.proofs.Common.{◌≡◌, ◌∙◌, ◌++◌, ◌∷◌, [], IfOk, not, cond, filter, map, take, ap, sym, subst, arith}
use Rattle.ss_record.specs.Ids.{by_id}
use Rattle.ss_build.specs.Built.{is_kept}
use Rattle.ss_build.proofs.Taking.{item_at}
use Rattle.ss_build.proofs.Kept.{kept_more}
use Rattle.ss_build.proofs.repairs.repaired.Goals as goal

pub loop-i-preserved : goal.loop-i-preserved
loop-i-preserved c =
    kept_more c.args.claims.now c.loop-i.i c.loop-i.ids.items c.push_unless.new.ids.items c.is_kept-kept.result (omega arith) c.is_kept-kept.ensures c.loop-i.invariant
    (c.in_ok-push_unless.ensures ∙ ap (λ x. cond c.is_kept-kept.result c.loop-i.ids.items (c.loop-i.ids.items ++ x ∷ []))
    (c.id.ensures.id ∙ ap (λ e. e.item.id) (sym c.index-claims-i.is ∙ item_at c.args.claims.now c.loop-i.i c.index-claims-i.result (omega arith) c.index-claims-i.is)))

pub returns : goal.returns
returns c =
    let end : c.loop-i.i ≡ c.args.count = omega arith in
    subst (λ w. IfOk c.by_id.result (λ ids. ids ≡ by_id w)) (c.loop-i.invariant ∙ ap (λ n. map (λ e. e.item.id) (filter (λ e. not (is_kept c.args.claims.now e)) (take n c.args.claims.now))) end) c.by_id.ensures
