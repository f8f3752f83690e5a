use Rattle.std.proofs.Common.{◌≡◌, sym, ap, subst, ◌∙◌, rules, not, bytes_eq}
use Rattle.std.proofs.lemmas.Fn.{filter_same}
use Rattle.ss_bso.specs.declared.account.Staged.{Staged}
use Rattle.ss_batch.specs.Stage.{HaveOwnNumbers, StageView}
use Rattle.ss_bso.specs.Batches.{batches_elsewhere}
use Rattle.ss_batch.proofs.Numbers.{numbered-filter}
use Rattle.ss_batch.proofs.stage.Stage.drop_collection.Goals as goal

pub invariant_of-self : goal.invariant_of-self
invariant_of-self c =
    let kept : c.retain.new.self.items ≡ batches_elsewhere c.args.collection.now c.self.inside.batches.items = filter_same _ (λ (batch : Staged). not (bytes_eq batch.collection c.args.collection.now)) _ (λ x b f h. search rules) _ _ c.retain.ensures.filtered in
    subst (HaveOwnNumbers c.self.inside.counter) (sym kept) (numbered-filter (λ batch. not (bytes_eq batch.collection c.args.collection.now)) c.self.inside.counter c.self.inside.batches.items c.self.invariant)

pub returns : goal.returns
returns c =
    let kept : c.retain.new.self.items ≡ batches_elsewhere c.args.collection.now c.self.inside.batches.items = filter_same _ (λ (batch : Staged). not (bytes_eq batch.collection c.args.collection.now)) _ (λ x b f h. search rules) _ _ c.retain.ensures.filtered in
    let counter = ap (λ (s : StageView). s.counter) c.self.view_is in
    let batches = kept ∙ ap (λ (s : StageView). batches_elsewhere c.args.collection.now s.batches) c.self.view_is in
    λ i. record { counter = counter i; batches = batches i }
