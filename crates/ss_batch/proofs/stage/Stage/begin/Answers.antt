use Rattle.std.proofs.Common.{◌≡◌, ◌+◌, ◌++◌, ◌∷◌, [], sym, ap, subst, ◌∙◌, refl}
use Rattle.ss_bso.specs.declared.account.Staged.{Staged}
use Rattle.ss_batch.specs.Stage.{HaveOwnNumbers}
use Rattle.ss_batch.proofs.Numbers.{numbered-push}
use Rattle.ss_batch.proofs.stage.Stage.begin.Goals as goal

pub invariant_of-self-2 : goal.invariant_of-self-2
invariant_of-self-2 c =
    let new : Staged = record { number = c.self.inside.counter + 1; collection = c.in_ok-collection.collection; begun = c.args.now; parts = c.new.result } in
    let pushed : c.push_reserved.new.self.items ≡ c.self.inside.batches.items ++ new ∷ [] = c.push_reserved.ensures.items ∙ ap (λ bs. bs ++ new ∷ []) c.reserve.ensures.items in
    subst (HaveOwnNumbers (c.self.inside.counter + 1)) (sym pushed) (numbered-push c.self.inside.counter c.self.inside.batches.items new refl c.self.invariant)
