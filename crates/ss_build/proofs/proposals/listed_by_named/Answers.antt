use Rattle.std.proofs.Common.{sym, ap, ◌∙◌, ◌&&◌, get_or, length, replicate, false, ◌≡◌, arith, rules}
use Rattle.std.proofs.lemmas.List.{take_at, get_or-replicate}
use Rattle.ss_build.specs.Places.{at, kept_at}
use Rattle.ss_build.proofs.Chosen.{folder_marked, all_marked}
use Rattle.ss_build.proofs.proposals.listed_by_named.Goals as goal
use Rattle.std.proofs.lemmas.Bool.{le-ltb}

pub loop-folder-init : goal.loop-folder-init
loop-folder-init c = (
  search rules,
  λ i l.
      let e : c.in_ok-kept.kept.items ≡ replicate (length c.args.claims.now) false = search rules in
      ap (λ w. get_or w i false) e ∙ (get_or-replicate (length c.args.claims.now) i false false l ∙ sym (ap (λ b. b && kept_at c.args.claims.now (at c.args.claims.now i)) (le-ltb (get_or c.args.claimed.now i 0) 0 (omega arith)))),
)

pub loop-folder-preserved : goal.loop-folder-preserved
loop-folder-preserved c = (
  c.loop-folder.invariant.0,
  λ i l.
      ap (λ w. get_or w i false) (take_at c.mark_by.new.kept _ _ (omega arith))
      ∙ folder_marked c.args.claims.now c.args.claimed.now c.loop-folder.folder i (get_or c.deref_mut.result.now i false) _ c.requires.apart l c.loop-folder-test.true c.requires.claimed
      (ap (λ w. get_or w i false) c.deref_mut.ensures.value ∙ c.loop-folder.invariant.1 i l) (c.in_ok-mark_by.ensures i l),
)

pub returns : goal.returns
returns c =
    let n : length c.loop-folder.kept.items ≡ length c.args.claims.now = omega arith in
    let end : c.loop-folder.folder ≡ length c.args.claims.now = omega arith in
    all_marked c.args.claims.now c.args.claimed.now c.loop-folder.kept.items n c.loop-folder.folder end c.requires.claimed c.loop-folder.invariant.1
