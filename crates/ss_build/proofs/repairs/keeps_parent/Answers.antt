use Rattle.std.proofs.Common.{◌≡◌, ◌∙◌, ap, sym, get_or, length, refl, arith}
use Rattle.ss_record.specs.Ids.{has, roots}
use Rattle.ss_build.proofs.Taking.{item_at, parents_length}
use Rattle.ss_build.proofs.Kept.{keeps_root, keeps_none, keeps_some}
use Rattle.ss_build.specs.Places.{at}
use Rattle.ss_build.proofs.repairs.keeps_parent.Goals as goal

pub bounds-parents-i : goal.bounds-parents-i
bounds-parents-i c =
    let n : length c.args.parents.now ≡ length c.args.claims.now = parents_length c.args.claims.now c.args.parents.now c.requires.parents in
    omega arith

pub returns-then-is_root : goal.returns-then-is_root
returns-then-is_root c =
    keeps_root c.args.claims.now (at c.args.claims.now c.args.i)
    (ap (λ e. has e.item.id roots) (sym (item_at c.args.claims.now c.args.i c.index-claims-i.result c.requires.inside c.index-claims-i.is))
    ∙ (ap (λ x. has x roots) (sym c.id.ensures.id) ∙ (sym c.is_root.ensures ∙ c.if-is_root.true)))

pub returns-in-Some : goal.returns-in-Some
returns-in-Some c =
    let own = item_at c.args.claims.now c.args.i c.index-claims-i.result c.requires.inside c.index-claims-i.is in
    keeps_some c.args.claims.now c.args.parents.now c.args.i (get_or c.args.parents.now c.args.i 0) c.in-Some.parentid c.has_id.result c.requires.items c.requires.inside c.requires.parents refl
    (ap (λ e. has e.item.id roots) (sym own) ∙ (ap (λ x. has x roots) (sym c.id.ensures.id) ∙ (sym c.is_root.ensures ∙ c.if-is_root.false)))
    (ap (λ e. e.parentid) (sym own) ∙ (cc))
    c.has_id.ensures

pub returns-in-None : goal.returns-in-None
returns-in-None c =
    let own = item_at c.args.claims.now c.args.i c.index-claims-i.result c.requires.inside c.index-claims-i.is in
    keeps_none c.args.claims.now (at c.args.claims.now c.args.i)
    (ap (λ e. has e.item.id roots) (sym own) ∙ (ap (λ x. has x roots) (sym c.id.ensures.id) ∙ (sym c.is_root.ensures ∙ c.if-is_root.false)))
    (ap (λ e. e.parentid) (sym own) ∙ (cc))
