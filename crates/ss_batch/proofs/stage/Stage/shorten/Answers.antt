use Rattle.std.proofs.Common.{◌≡◌, ◌≤◌, ◌-◌, List, length, take, get_or, sym, ap, subst, ◌∙◌}
use Rattle.std.specs.Prelude.{slice_set}
use Rattle.ss_bso.specs.declared.parts.Part.{Part}
use Rattle.ss_bso.specs.declared.account.Staged.{Staged}
use Rattle.ss_batch.specs.Stage.{HaveOwnNumbers, StageView, has_number, with_parts}
use Rattle.ss_batch.proofs.Numbers.{IsAt, placed, placed-in, live-placed, live-some, some-at, set-at}
use Rattle.ss_batch.proofs.Numbers.{numbered-with_parts}
use Rattle.ss_batch.proofs.stage.Stage.shorten.Goals as goal

pub unreachable-requires : goal.unreachable-requires
unreachable-requires c =
    live-placed c.args.batch c.args.self.now.batches c.place.result c.place.ensures c.in-None.is
    (live-some (λ (staged : Staged). c.args.parts ≤ length staged.parts) c.args.batch c.args.self.now.batches c.requires)

pub cut-requires : goal.cut-requires
cut-requires c =
    let seen = c.args.self.now.batches in
    let number = c.args.batch in
    let staged = c.index_mut.result.now in
    let same = ap (λ (s : StageView). s.batches) c.self.view_is in
    let at : IsAt (has_number number) seen c.in-Some.place = placed (has_number number) seen c.in-Some.place (sym c.place.ensures ∙ c.in-Some.is) in
    let is : staged ≡ get_or seen c.in-Some.place staged = c.index_mut.ensures.value ∙ ap (λ bs. get_or bs c.in-Some.place staged) same in
    let P : Staged → Type 0 = λ one. c.args.parts ≤ length one.parts in
    subst P (sym is) (some-at P number seen c.in-Some.place staged at c.requires)

pub invariant_of-self : goal.invariant_of-self
invariant_of-self c =
    let batches = c.self.inside.batches.items in
    let number = c.args.batch in
    let staged = c.index_mut.result.now in
    let change : List Part → List Part = λ old. take (length old - c.args.parts) old in
    let same = ap (λ (s : StageView). s.batches) c.self.view_is in
    let at : IsAt (has_number number) batches c.in-Some.place = placed-in number batches c.args.self.now.batches c.place.result c.in-Some.place same c.place.ensures c.in-Some.is in
    let left : slice_set batches c.in-Some.place c.cut.new.staged ≡ with_parts number change batches =
    set-at number change c.self.inside.counter batches c.in-Some.place staged c.cut.new.staged c.self.invariant at (c.cut.ensures ∙ ap (λ (one : Staged). record one { parts = change one.parts }) c.index_mut.ensures.value) in
    subst (HaveOwnNumbers c.self.inside.counter) (sym left) (numbered-with_parts number change c.self.inside.counter batches c.self.invariant)

pub returns : goal.returns
returns c =
    let batches = c.self.inside.batches.items in
    let number = c.args.batch in
    let staged = c.index_mut.result.now in
    let change : List Part → List Part = λ old. take (length old - c.args.parts) old in
    let same = ap (λ (s : StageView). s.batches) c.self.view_is in
    let at : IsAt (has_number number) batches c.in-Some.place = placed-in number batches c.args.self.now.batches c.place.result c.in-Some.place same c.place.ensures c.in-Some.is in
    let left : slice_set batches c.in-Some.place c.cut.new.staged ≡ with_parts number change batches =
    set-at number change c.self.inside.counter batches c.in-Some.place staged c.cut.new.staged c.self.invariant at (c.cut.ensures ∙ ap (λ (one : Staged). record one { parts = change one.parts }) c.index_mut.ensures.value) in
    let counter = ap (λ (s : StageView). s.counter) c.self.view_is in
    let others = left ∙ ap (with_parts number change) same in
    λ i. record { counter = counter i; batches = others i }
