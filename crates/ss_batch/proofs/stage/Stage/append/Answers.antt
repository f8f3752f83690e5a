use Rattle.std.proofs.Common.{◌≡◌, ◌++◌, List, Option, Some, None, sym, ap, subst, ◌∙◌, refl}
use Rattle.std.specs.Prelude.{Err, slice_set}
use Rattle.ss_bso.specs.declared.parts.Part.{Part}
use Rattle.ss_bso.specs.declared.account.Staged.{Staged}
use Rattle.ss_batch.specs.declared.faults.StageFault.TheVariants.{NotLive}
use Rattle.ss_batch.specs.Stage.{FaultIs, HaveOwnNumbers, StageView, append_fault, has_number, more, reach, with_parts}
use Rattle.ss_batch.proofs.Numbers.{IsAt, placed-in, unplaced-in, set-at, numbered-with_parts}
use Rattle.ss_batch.proofs.stage.Stage.append.Goals as goal

pub returns-in_default-clause-cause : goal.returns-in_default-clause-cause
returns-in_default-clause-cause c =
    let seen = c.args.self.now.batches in
    let none = unplaced-in c.args.batch seen c.place.result c.place.ensures (none-from c.place.result c.in_default.not-Some) in
    let why : append_fault c.args.self.now c.args.batch c.args.collection.now c.args.parts.items ≡ Some NotLive = ap (λ o. more c.args.parts.items (reach c.args.collection.now o)) none in
    subst (λ o. FaultIs {X = Unit {0}} o (Err NotLive)) (sym why) refl
  where
    none-from : {X : Type 0} (o : Option X) → ((x : X) → o ≡ Some x → ⊥) → o ≡ None
    none-from None h = refl
    none-from (Some x) h = absurd (h x refl)

pub invariant_of-self-2 : goal.invariant_of-self-2
invariant_of-self-2 c =
    let batches = c.self.inside.batches.items in
    let number = c.args.batch in
    let staged = c.index_mut.result.now in
    let change : List Part → List Part = λ old. old ++ c.args.parts.items in
    let same = ap (λ (s : StageView). s.batches) c.self.view_is in
    let at : IsAt (has_number number) batches c.in-Some.place = placed-in number batches c.args.self.now.batches c.place.result c.in-Some.place same c.place.ensures c.in-Some.is in
    let left : slice_set batches c.in-Some.place c.extend.new.staged ≡ with_parts number change batches =
    set-at number change c.self.inside.counter batches c.in-Some.place staged c.extend.new.staged c.self.invariant at (c.in_ok-extend.ensures.ok ∙ ap (λ (one : Staged). record one { parts = change one.parts }) c.index_mut.ensures.value) in
    subst (HaveOwnNumbers c.self.inside.counter) (sym left) (numbered-with_parts number change c.self.inside.counter batches c.self.invariant)

pub returns-clause-ok : goal.returns-clause-ok
returns-clause-ok c =
    let batches = c.self.inside.batches.items in
    let number = c.args.batch in
    let staged = c.index_mut.result.now in
    let change : List Part → List Part = λ old. old ++ c.args.parts.items in
    let same = ap (λ (s : StageView). s.batches) c.self.view_is in
    let at : IsAt (has_number number) batches c.in-Some.place = placed-in number batches c.args.self.now.batches c.place.result c.in-Some.place same c.place.ensures c.in-Some.is in
    let left : slice_set batches c.in-Some.place c.extend.new.staged ≡ with_parts number change batches =
    set-at number change c.self.inside.counter batches c.in-Some.place staged c.extend.new.staged c.self.invariant at (c.in_ok-extend.ensures.ok ∙ ap (λ (one : Staged). record one { parts = change one.parts }) c.index_mut.ensures.value) in
    let counter = ap (λ (s : StageView). s.counter) c.self.view_is in
    let others = left ∙ ap (with_parts number change) same in
    λ i. record { counter = counter i; batches = others i }
