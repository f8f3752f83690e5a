use Rattle.std.proofs.Common.{◌≡◌, sym, ap, subst, ◌∙◌, rules, filter}
use Rattle.std.proofs.lemmas.Fn.{filter_same}
use Rattle.ss_bso.specs.Account.{is_open}
use Rattle.ss_batch.specs.Stage.{HaveOwnNumbers, StageView}
use Rattle.ss_batch.proofs.Numbers.{numbered-filter}
use Rattle.ss_batch.proofs.stage.Stage.expire.Goals as goal

pub invariant_of-self : goal.invariant_of-self
invariant_of-self c =
    let kept : c.retain.new.self.items ≡ filter (is_open c.args.moment) c.self.inside.batches.items = filter_same _ (is_open c.args.moment) _ (λ x b f h. search rules) _ _ c.retain.ensures.filtered in
    subst (HaveOwnNumbers c.self.inside.counter) (sym kept) (numbered-filter (is_open c.args.moment) c.self.inside.counter c.self.inside.batches.items c.self.invariant)

pub returns : goal.returns
returns c =
    let kept : c.retain.new.self.items ≡ filter (is_open c.args.moment) c.self.inside.batches.items = filter_same _ (is_open c.args.moment) _ (λ x b f h. search rules) _ _ c.retain.ensures.filtered in
    let counter = ap (λ (s : StageView). s.counter) c.self.view_is in
    let batches = kept ∙ ap (λ (s : StageView). filter (is_open c.args.moment) s.batches) c.self.view_is in
    λ i. record { counter = counter i; batches = batches i }
