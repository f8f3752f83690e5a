use Rattle.std.proofs.Common.{◌≡◌, ◌++◌, ◌∷◌, [], ◌∙◌, ap, sym, cond, length, get_or, arith}
use Rattle.std.proofs.lemmas.List.{append-nil, get_or_read}
use Rattle.ss_text.specs.Names.{is_id}
use Rattle.ss_record.specs.Ids.{has, places, roots}
use Rattle.ss_build.specs.Built.{empty_root, ids}
use Rattle.ss_build.proofs.Kept.{roots_more, roots_all, root_is_id}
use Rattle.ss_build.proofs.claims.add_roots.Goals as goal

pub add_root-requires : goal.add_root-requires
add_root-requires c =
    let e : c.deref-root-items.result.now ≡ roots = c.deref-root-items.ensures.value ∙ c.in_ok-roots.ensures in
    let n : length c.deref-root-items.result.now ≡ length roots = ap length e in
    ap is_id (get_or_read c.deref-root-items.result.now c.loop-root.root-index c.root-item.result c.loop-root-test.true c.root-item.is places ∙ ap (λ w. get_or w c.loop-root.root-index places) e)
    ∙ root_is_id c.loop-root.root-index places (omega arith)

pub loop-root-init : goal.loop-root-init
loop-root-init c = sym (append-nil c.args.claims.items)

pub loop-root-preserved : goal.loop-root-preserved
loop-root-preserved c =
    roots_more c.args.claims.items c.loop-root.claims.items c.add_root.new.claims.items (ids c.args.claims.items) c.deref-root-items.result.now c.loop-root.root-index c.root-item.result c.loop-root-test.true
    (get_or_read c.deref-root-items.result.now c.loop-root.root-index c.root-item.result c.loop-root-test.true c.root-item.is places)
    c.loop-root.invariant
    (c.in_ok-add_root.ensures ∙ ap (λ k. cond (has c.root-item.result k) c.loop-root.claims.items (c.loop-root.claims.items ++ empty_root c.root-item.result ∷ [])) (c.in_ok-read.ensures ∙ ap ids c.deref.ensures.value))

pub returns : goal.returns
returns c =
    roots_all c.args.claims.items c.loop-root.claims.items (ids c.args.claims.items) c.deref-root-items.result.now c.loop-root.root-index c.loop-root-test.false
    (c.deref-root-items.ensures.value ∙ c.in_ok-roots.ensures) (ap ids (sym c.deref.ensures.value) ∙ ap ids c.deref.ensures.value) c.loop-root.invariant
