use Rattle.std.proofs.Common.{◌≡◌, IfSome, get_or, sym, ap, subst, ◌∙◌}
use Rattle.ss_bso.specs.declared.account.Staged.{Staged}
use Rattle.ss_batch.specs.Stage.{HaveOwnNumbers, StageView, has_number}
use Rattle.ss_bso.specs.Batches.{batches_without}
use Rattle.ss_batch.proofs.Numbers.{IsAt, placed, placed-in, live-placed, found-at, remove-at, numbered-filter}
use Rattle.ss_batch.proofs.stage.Stage.take.Goals as goal

pub unreachable-requires : goal.unreachable-requires
unreachable-requires c = live-placed c.args.batch c.args.self.now.batches c.place.result c.place.ensures c.in-None.is c.requires

pub invariant_of-self : goal.invariant_of-self
invariant_of-self c =
    let batches = c.self.inside.batches.items in
    let number = c.args.batch in
    let same = ap (λ (s : StageView). s.batches) c.self.view_is in
    let at : IsAt (has_number number) batches c.in-Some.place = placed-in number batches c.args.self.now.batches c.place.result c.in-Some.place same c.place.ensures c.in-Some.is in
    let left : c.remove.new.self.items ≡ batches_without number batches = c.remove.ensures.items ∙ remove-at number c.self.inside.counter batches c.in-Some.place c.self.invariant at in
    subst (HaveOwnNumbers c.self.inside.counter) (sym left) (numbered-filter _ c.self.inside.counter batches c.self.invariant)

pub returns-clause-parts : goal.returns-clause-parts
returns-clause-parts c =
    let seen = c.args.self.now.batches in
    let number = c.args.batch in
    let taken = c.remove.result in
    let same = ap (λ (s : StageView). s.batches) c.self.view_is in
    let at : IsAt (has_number number) seen c.in-Some.place = placed (has_number number) seen c.in-Some.place (sym c.place.ensures ∙ c.in-Some.is) in
    let is : taken ≡ get_or seen c.in-Some.place taken = c.remove.ensures.value ∙ ap (λ bs. get_or bs c.in-Some.place taken) same in
    subst (λ o. IfSome o (λ (staged : Staged). c.into_vec.result.items ≡ staged.parts)) (sym (found-at (has_number number) seen c.in-Some.place taken at))
    (c.into_vec.ensures ∙ ap (λ (staged : Staged). staged.parts) is)

pub returns-clause-rest : goal.returns-clause-rest
returns-clause-rest c =
    let batches = c.self.inside.batches.items in
    let number = c.args.batch in
    let same = ap (λ (s : StageView). s.batches) c.self.view_is in
    let at : IsAt (has_number number) batches c.in-Some.place = placed-in number batches c.args.self.now.batches c.place.result c.in-Some.place same c.place.ensures c.in-Some.is in
    let left : c.remove.new.self.items ≡ batches_without number batches = c.remove.ensures.items ∙ remove-at number c.self.inside.counter batches c.in-Some.place c.self.invariant at in
    let counter = ap (λ (s : StageView). s.counter) c.self.view_is in
    let others = left ∙ ap (batches_without number) same in
    λ i. record { counter = counter i; batches = others i }
