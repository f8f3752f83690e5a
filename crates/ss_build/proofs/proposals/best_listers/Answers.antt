use Rattle.std.proofs.Common.{ap, ◌∙◌, get_or, length, replicate, ◌≡◌, arith, rules}
use Rattle.std.proofs.lemmas.List.{take_at, get_or-replicate}
use Rattle.ss_build.proofs.Listers.{lister_more, all_raised, no_lister}
use Rattle.ss_build.proofs.proposals.best_listers.Goals as goal

pub loop-folder-init : goal.loop-folder-init
loop-folder-init c = (
  search rules,
  λ i l.
      let e : c.in_ok-listers.listers.items ≡ replicate (length c.args.claims.now) (length c.args.claims.now) = search rules in
      ap (λ w. get_or w i 0) e ∙ (get_or-replicate (length c.args.claims.now) i (length c.args.claims.now) 0 l ∙ no_lister c.args.claims.now),
)

pub loop-folder-preserved : goal.loop-folder-preserved
loop-folder-preserved c = (
  c.loop-folder.invariant.0,
  λ i l.
      ap (λ w. get_or w i 0) (take_at c.raise_by.new.listers _ _ (omega arith))
      ∙ (c.in_ok-raise_by.ensures i l
      ∙ lister_more c.args.claims.now c.loop-folder.folder i (get_or c.deref_mut.result.now i 0) c.requires.apart l c.loop-folder-test.true (ap (λ w. get_or w i 0) c.deref_mut.ensures.value ∙ c.loop-folder.invariant.1 i l)),
)

pub returns : goal.returns
returns c =
    let n : length c.loop-folder.listers.items ≡ length c.args.claims.now = omega arith in
    let end : c.loop-folder.folder ≡ length c.args.claims.now = omega arith in
    all_raised c.args.claims.now c.loop-folder.listers.items n c.loop-folder.folder end c.loop-folder.invariant.1
