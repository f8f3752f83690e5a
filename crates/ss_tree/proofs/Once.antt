-- Each node of a tree stands once in its preorder.
use Rattle.std.proofs.Common.{◌≡◌, ◌≢◌, ℕ, zero, suc, ◌+◌, ◌<◌, List, [], ◌∷◌, length, cond, refl, sym, ap, ap₂, subst}
use Rattle.std.proofs.Common.{◌∙◌, arith, inl, inr, Option, Some, None, option_and_then, is_some}
use Rattle.std.specs.List.{flat_map}
use Rattle.std.proofs.lemmas.Bool.Decides.{eqb_tells}
use Rattle.ss_list.specs.Chain.{times}
use Rattle.ss_list.proofs.Times.{times-here, times-apart, times-append, at_head}
use Rattle.ss_tree.specs.declared.entries.Entry.{Entry}
use Rattle.ss_tree.specs.Trees.{steps}
use Rattle.ss_tree.specs.Entries.{entry, above, up, is_live, kids, preorder, IsTree}
use Rattle.ss_tree.proofs.Ways.{first_zero, up_some}
use Rattle.ss_tree.proofs.Kin.{entry_kid, kid_once}
use Rattle.ss_tree.proofs.Listed.{absent}
use Rattle.ss_tree.proofs.Walked.{above_is, strictly}
use Rattle.std.proofs.lemmas.Option.{none-some}
use Rattle.ss_text.proofs.Basics.{some_same}

-- the way up, at most n nodes of it
abbrev pub way : List Entry → ℕ → Option ℕ → List ℕ
way es zero o = []
way es (suc n) None = []
way es (suc n) (Some k) = k ∷ way es n (above es k)

sum_over : (ℕ → ℕ) → List ℕ → ℕ
sum_over f [] = 0
sum_over f (c ∷ cs) = f c + sum_over f cs

times-flat : (k : ℕ) (f : ℕ → List ℕ) (cs : List ℕ) → times k (flat_map f cs) ≡ sum_over (λ c. times k (f c)) cs
unfolding sum_over
times-flat k f [] = refl
times-flat k f (c ∷ cs) = let ih = times-flat k f cs in omega (arith, times-append k (f c) (flat_map f cs))

sum-same : (f g : ℕ → ℕ) (cs : List ℕ) → ((c : ℕ) → f c ≡ g c) → sum_over f cs ≡ sum_over g cs
unfolding sum_over
sum-same f g [] same = refl
sum-same f g (c ∷ cs) same = ap₂ (λ x y. x + y) (same c) (sum-same f g cs same)

sum-none : (cs : List ℕ) → sum_over (λ c. times c []) cs ≡ 0
unfolding sum_over
sum-none [] = refl
sum-none (c ∷ cs) = let ih = sum-none cs in omega arith

sum-more : (w : ℕ) (ws cs : List ℕ) → sum_over (λ c. times c (w ∷ ws)) cs ≡ times w cs + sum_over (λ c. times c ws) cs
unfolding sum_over
sum-more w ws [] = refl
sum-more w ws (c ∷ cs) =
    let ih = sum-more w ws cs in
    elim (at_head w c cs) [
      | inl same ↦ let one = times-here c w ws (sym same.0) in let two = same.1 in omega arith
      | inr other ↦ let one = times-apart c w ws (λ is. other.0 (sym is)) in let two = other.1 in omega arith
    ]

way-none : (es : List Entry) (n : ℕ) → way es n None ≡ []
way-none es zero = refl
way-none es (suc n) = refl

module _ (es : List Entry) (t : IsTree es) where
  above_none : (k : ℕ) → entry k es ≡ None → above es k ≡ None
  unfolding above
  above_none k q = ap (option_and_then (λ e. e.parent)) q

  above_some : (k : ℕ) (e : Entry) → entry k es ≡ Some e → above es k ≡ e.parent
  unfolding above
  above_some k e q = ap (option_and_then (λ e. e.parent)) q

  -- of the nodes on the way up from k, those under j are as many as there are j on the way up from above k
  kids_met : (j n k : ℕ) → sum_over (λ c. times c (way es n (Some k))) (kids j es) ≡ times j (way es n (above es k))
  kids_met j zero k = sum-none (kids j es)
  kids_met j (suc n) k = go (above es k) refl (λ p. kids_met j n p)
    where
      go : (o : Option ℕ) → above es k ≡ o → ((p : ℕ) → sum_over (λ c. times c (way es n (Some p))) (kids j es) ≡ times j (way es n (above es p))) → sum_over (λ c. times c (k ∷ way es n (above es k))) (kids j es) ≡ times j (way es (suc n) (above es k))
      go None q ih =
          let gone : times k (kids j es) ≡ 0 = absent k (kids j es) (λ h. none-some _ (sym q ∙ above_is es t j k h)) in
          let rest : sum_over (λ c. times c (way es n (above es k))) (kids j es) ≡ 0 = ap (λ o. sum_over (λ c. times c (way es n o)) (kids j es)) q ∙ (ap (λ ws. sum_over (λ c. times c ws) (kids j es)) (way-none es n) ∙ sum-none (kids j es)) in
          let right : times j (way es (suc n) (above es k)) ≡ 0 = ap (λ o. times j (way es (suc n) o)) q in
          sum-more k (way es n (above es k)) (kids j es) ∙ (omega arith)
      go (Some p) q ih =
          let rest : sum_over (λ c. times c (way es n (above es k))) (kids j es) ≡ times j (way es n (above es p)) = ap (λ o. sum_over (λ c. times c (way es n o)) (kids j es)) q ∙ ih p in
          let right : times j (way es (suc n) (above es k)) ≡ times j (p ∷ way es n (above es p)) = ap (λ o. times j (way es (suc n) o)) q in
          elim (at_head j p (way es n (above es p))) [
            | inl same ↦
                let here : times k (kids j es) ≡ 1 = one p q same.0 in
                let two = same.1 in
                sum-more k (way es n (above es k)) (kids j es) ∙ (omega arith)
            | inr other ↦
                let gone : times k (kids j es) ≡ 0 = absent k (kids j es) (λ h. other.0 (some_same (sym (above_is es t j k h) ∙ q))) in
                let two = other.1 in
                sum-more k (way es n (above es k)) (kids j es) ∙ (omega arith)
          ]
        where
          one : (p : ℕ) → above es k ≡ Some p → j ≡ p → times k (kids j es) ≡ 1
          one p q is = at_one (entry k es) refl
            where
              at_one : (o : Option Entry) → entry k es ≡ o → times k (kids j es) ≡ 1
              at_one None r = absurd (none-some _ (sym (above_none k r) ∙ q))
              at_one (Some e) r =
                  let there : 0 < times k (kids p es) = entry_kid p k es e r (sym (above_some k e r) ∙ q) in
                  let there_j : 0 < times k (kids j es) = subst (λ i. 0 < times k (kids i es)) (sym is) there in
                  let most = kid_once j es t.nodes k in
                  omega arith

  -- k stands in what is below j as often as j on the way up from k
  met_as_often : (n k j : ℕ) → times k (preorder es n j) ≡ times j (way es n (Some k))
  unfolding preorder
  met_as_often zero k j = refl
  met_as_often (suc n) k j =
      let below : times k (flat_map (preorder es n) (kids j es)) ≡ times j (way es n (above es k)) =
      times-flat k (preorder es n) (kids j es) ∙ (sum-same (λ c. times k (preorder es n c)) (λ c. times c (way es n (Some k))) (kids j es) (λ c. met_as_often n k c) ∙ kids_met j n k) in
      elim (eqb_tells k j) [
        | inl same ↦ times-here k j (flat_map (preorder es n) (kids j es)) same.1 ∙ (ap (λ m. m + 1) below ∙ sym (times-here j k (way es n (above es k)) (sym same.1)))
        | inr other ↦ times-apart k j (flat_map (preorder es n) (kids j es)) other.1 ∙ (below ∙ sym (times-apart j k (way es n (above es k)) (λ is. other.1 (sym is))))
      ]

  top_alone : above es 0 ≡ None
  unfolding above
  top_alone = ap (option_and_then (λ e. e.parent)) t.top

  -- the way up from a node meets the top once
  top_met : (m n k : ℕ) (e : Entry) → entry k es ≡ Some e → steps (up es) m k ≡ 0 → m < n → times 0 (way es n (Some k)) ≡ 1
  unfolding steps
  top_met m zero k e q ends lt = absurd (omega arith)
  top_met m (suc n) k e q ends lt =
      elim (eqb_tells 0 k) [
        | inl same ↦
            let rest : way es n (above es k) ≡ [] = ap (way es n) (ap (above es) (sym same.1) ∙ top_alone) ∙ way-none es n in
            times-here 0 k (way es n (above es k)) same.1 ∙ ap (λ ws. times 0 ws + 1) rest
        | inr other ↦ times-apart 0 k (way es n (above es k)) other.1 ∙ up_once m lt ends (λ is. other.1 (sym is)) (λ i p f r ends2 lt2. top_met i n p f r ends2 lt2)
      ]
    where
      up_once : (m : ℕ) → m < suc n → steps (up es) m k ≡ 0 → k ≢ 0 → ((i p : ℕ) (f : Entry) → entry p es ≡ Some f → steps (up es) i p ≡ 0 → i < n → times 0 (way es n (Some p)) ≡ 1) → times 0 (way es n (above es k)) ≡ 1
      up_once zero lt ends ne ih = absurd (ne ends)
      up_once (suc i) lt ends ne ih =
          let f = t.folder k e q ne in
          let at : above es k ≡ Some f.0 = above_some k e q ∙ f.1 in
          let step : up es k ≡ f.0 = up_some es k f.0 at in
          ap (λ o. times 0 (way es n o)) at ∙ ih i f.0 f.2 f.3 (ap (steps (up es) i) (sym step) ∙ ends) (omega arith)

  -- each node once, and no other number
  pub once_each : (k : ℕ) → times k (preorder es (length es) 0) ≡ cond (is_live k es) 1 0
  once_each k = met_as_often (length es) k 0 ∙ go (entry k es) refl
    where
      alone : (n : ℕ) → entry k es ≡ None → times 0 (way es n (Some k)) ≡ 0
      alone zero q = refl
      alone (suc n) q =
          let rest : way es n (above es k) ≡ [] = ap (way es n) (above_none k q) ∙ way-none es n in
          let not_top : 0 ≢ k = λ is. none-some _ (sym (ap (λ i. entry i es) is ∙ q) ∙ t.top) in
          times-apart 0 k (way es n (above es k)) not_top ∙ ap (times 0) rest

      go : (o : Option Entry) → entry k es ≡ o → times 0 (way es (length es) (Some k)) ≡ cond (is_some (entry k es)) 1 0
      go None q = alone (length es) q ∙ sym (ap (λ o. cond (is_some {T = Entry} o) 1 0) q)
      go (Some e) q =
          let r = t.reaches k e q in
          let f = first_zero (up es) r.0 k r.1 in
          let low : f.0 < length es = strictly es t f.0 k e q f.1 f.2 in
          top_met f.0 (length es) k e q f.1 low ∙ sym (ap (λ o. cond (is_some {T = Entry} o) 1 0) q)
