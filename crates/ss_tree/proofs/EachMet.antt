-- What stands in a list of nodes that has each live node.
use Rattle.std.proofs.Common.{◌≡◌, ℕ, ◌<◌, List, [], ◌∷◌, Bool, true, cond, ap, ◌∙◌, arith, inl, inr}
use Rattle.ss_list.specs.Chain.{times}
use Rattle.ss_list.proofs.Times.{at_head}
use Rattle.ss_tree.specs.declared.entries.Entry.{Entry}
use Rattle.ss_tree.specs.Entries.{is_live}
use Rattle.ss_tree.proofs.Valid.{In}

pub in_times : (k : ℕ) (ks : List ℕ) → 0 < times k ks → In k ks
unfolding In
in_times k [] there = absurd (omega arith)
in_times k (j ∷ js) there =
    elim (at_head k j js) [
      | inl same ↦ inl same.0
      | inr other ↦ inr (in_times k js (omega arith))
    ]

pub each_met : (es : List Entry) (ks : List ℕ) → ((k : ℕ) → times k ks ≡ cond (is_live k es) 1 0) → (k : ℕ) → is_live k es ≡ true → In k ks
each_met es ks once k live =
    let one : times k ks ≡ 1 = once k ∙ ap (λ (b : Bool). cond b 1 0) live in
    in_times k ks (omega arith)
