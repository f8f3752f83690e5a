use Rattle.std.proofs.Common.{◌≡◌, ◌-◌, ◌≤◌, [], length, take, drop, Option, Some, option_map, sym, ap, subst, ◌∙◌}
use Rattle.std.proofs.Common.{arith}
use Rattle.std.proofs.Math.ListN.{drop_of_length-le}
use Rattle.std.proofs.lemmas.List.{take_rest}
use Rattle.ss_commits.specs.Drafts.{changes_in}
use Rattle.ss_commits.specs.Telling.{Tells}
use Rattle.ss_commits.specs.declared.cutting.Front.{Front}
use Rattle.ss_commits.proofs.Steps.{IsFound, inside, none_found, none_mapped, none_more, over, present, stepped, tells}
use Rattle.ss_commits.proofs.reading.guess.Goals as goal

pub returns-in_default : goal.returns-in_default
returns-in_default c = λ k are is.
    let found = subst (λ r. IsFound r c.in_ok-front.field-0) (take_rest c.args.text.now c.lines.used) c.in_ok-front.ensures.front in
    absurd (none_found c.args.text.now c.lines.used (changes_in c.lines.draft) c.in_ok-front.field-0 c.lines-test.true found c.in_default.not-Some k (c.lines.invariant.1 k (tells c.args.text.now k are is)))

pub returns-in_default-2 : goal.returns-in_default-2
returns-in_default-2 c = λ k are is.
    let found = subst (λ r. IsFound r c.in_ok-front.field-0) (take_rest c.args.text.now c.lines.used) c.in_ok-front.ensures.front in
    let none = sym c.in_ok-more.ensures ∙ none_mapped changes_in c.in_ok-more.field-0 c.in_default-2.not-Some in
    absurd (none_more c.args.text.now c.lines.used (changes_in c.lines.draft) c.in_ok-front.field-0 c.in-Some.front c.lines-test.true found c.in-Some.is none k (c.lines.invariant.1 k (tells c.args.text.now k are is)))

pub lines-preserved : goal.lines-preserved
lines-preserved c =
    let rest = take_rest c.args.text.now c.lines.used in
    let found = subst (λ r. IsFound r c.in_ok-front.field-0) rest c.in_ok-front.ensures.front in
    let few = present (λ (f : Front). f.used ≤ length (take (length c.args.text.now - c.lines.used) (drop c.lines.used c.args.text.now))) c.in_ok-front.field-0 c.in-Some.front c.in-Some.is c.in_ok-front.ensures.inside in (
      inside c.args.text.now c.lines.used c.in-Some.front.used c.lines-test.true (subst (λ r. c.in-Some.front.used ≤ length r) rest few),
      λ k t. stepped c.args.text.now c.lines.used (changes_in c.lines.draft) (changes_in c.in-Some-2.more) c.in_ok-front.field-0 c.in-Some.front c.lines-test.true found c.in-Some.is
          (sym c.in_ok-more.ensures ∙ ap (option_map changes_in) c.in-Some-2.is) k (c.lines.invariant.1 k t),
    )

pub returns : goal.returns
returns c = λ k are is.
    let ends = c.lines-test.false in
    let long : length c.args.text.now ≤ c.lines.used = omega arith in
    ap (λ x. Some x) (c.into_changes.ensures ∙ over (changes_in c.lines.draft) k
    (subst (λ r. Tells r (changes_in c.lines.draft) k) (drop_of_length-le c.args.text.now long) (c.lines.invariant.1 k (tells c.args.text.now k are is))))
