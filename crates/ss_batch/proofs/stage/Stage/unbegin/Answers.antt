use Rattle.std.proofs.Common.{◌≡◌, ◌<◌, ◌-◌, IsSome, sym, ap, subst, ◌∙◌, rules, not, arith}
use Rattle.std.proofs.lemmas.Fn.{filter_same}
use Rattle.ss_bso.specs.declared.account.Staged.{Staged}
use Rattle.ss_batch.specs.Stage.{HaveOwnNumbers, StageView, has_number, live_batch}
use Rattle.ss_bso.specs.Batches.{batches_without}
use Rattle.ss_batch.proofs.Numbers.{above-found, numbered-fewer}
use Rattle.ss_batch.proofs.stage.Stage.unbegin.Goals as goal

pub overflow_sub-self : goal.overflow_sub-self
overflow_sub-self c =
    let found : IsSome (live_batch c.self.inside.counter c.self.inside.batches.items) = subst (λ (s : StageView). IsSome (live_batch s.counter s.batches)) (sym c.self.view_is) c.requires in
    let above : 0 < c.self.inside.counter = above-found c.self.inside.counter c.self.inside.counter c.self.inside.batches.items c.self.invariant found in
    omega (arith, above)

pub invariant_of-self : goal.invariant_of-self
invariant_of-self c =
    let last = c.self.inside.counter in
    let found : IsSome (live_batch last c.self.inside.batches.items) = subst (λ (s : StageView). IsSome (live_batch s.counter s.batches)) (sym c.self.view_is) c.requires in
    let kept : c.retain.new.self.items ≡ batches_without last c.self.inside.batches.items = filter_same _ (λ (batch : Staged). not (has_number last batch)) _ (λ x b f h. search rules) _ _ c.retain.ensures.filtered in
    subst (HaveOwnNumbers (last - 1)) (sym kept) (numbered-fewer last c.self.inside.batches.items c.self.invariant)

pub returns : goal.returns
returns c =
    let last = c.self.inside.counter in
    let kept : c.retain.new.self.items ≡ batches_without last c.self.inside.batches.items = filter_same _ (λ (batch : Staged). not (has_number last batch)) _ (λ x b f h. search rules) _ _ c.retain.ensures.filtered in
    let counter = ap (λ (s : StageView). s.counter - 1) c.self.view_is in
    let batches = kept ∙ ap (λ (s : StageView). batches_without s.counter s.batches) c.self.view_is in
    λ i. record { counter = counter i; batches = batches i }
