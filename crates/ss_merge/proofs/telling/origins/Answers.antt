use Rattle.std.proofs.Common.{◌≡◌, ◌≤◌, ℕ, List, length, map, sym, ap, subst, ◌∙◌, arith, take, take_all}
use Rattle.ss_record.specs.Ids.{Apart, has}
use Rattle.ss_dupe.specs.Plains.{view}
use Rattle.ss_merge.specs.Survivors.{same_content, taken}
use Rattle.ss_merge.specs.declared.merging.Origin.{Origin}
use Rattle.ss_merge.specs.Merged.{origin_of}
use Rattle.ss_merge.proofs.Told.{firsts_of}
use Rattle.ss_merge.proofs.telling.origins.Goals as goal

pub returns-clause-once : goal.returns-clause-once
returns-clause-once c =
    let ids = c.deref-id-items.result.now in
    let le : length ids ≤ c.loop-id.id-index = omega arith in
    let g : List ℕ → Origin = λ x. origin_of (taken (view c.args.plains.now) same_content x) in
    let is : map (λ p. p.0) c.loop-id.from.items ≡ c.in_ok-ids.ids.items = ap (map (λ p. p.0)) c.loop-id.invariant ∙ (firsts_of g (take c.loop-id.id-index ids) ∙ (take_all c.loop-id.id-index ids le ∙ c.deref-id-items.ensures.value)) in
    subst Apart (sym is) c.in_ok-ids.ensures.once

pub returns-clause-all : goal.returns-clause-all
returns-clause-all c = λ x.
    let ids = c.deref-id-items.result.now in
    let le : length ids ≤ c.loop-id.id-index = omega arith in
    let g : List ℕ → Origin = λ y. origin_of (taken (view c.args.plains.now) same_content y) in
    let is : map (λ p. p.0) c.loop-id.from.items ≡ c.in_ok-ids.ids.items = ap (map (λ p. p.0)) c.loop-id.invariant ∙ (firsts_of g (take c.loop-id.id-index ids) ∙ (take_all c.loop-id.id-index ids le ∙ c.deref-id-items.ensures.value)) in
    ap (has x) is ∙ c.in_ok-ids.ensures.all x
