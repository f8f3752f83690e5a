-- Each kind of step keeps the rule of the channel.
use Rattle.std.proofs.Common.{◌≡◌, inl, inr, ℕ, zero, suc, ◌+◌, ◌-◌, ◌<◌, ◌≤◌, List, [], ◌∷◌, ◌++◌, length, set, refl}
use Rattle.std.proofs.Common.{sym, ap, ◌∙◌, arith}
use mathlib.Core.Option.{some, some-ne-none, some-injective}
use lib.ListN.{get_elem?}
use Rattle.atomic_table.proofs.Lists.{set_else}
use Rattle.ss_desk.specs.Rule.{total}
use Rattle.ss_desk.proofs.Lists.{total_set, total_snoc, at_end, after}
use Rattle.crossbeam_channel.specs.Fifo.{Pushes, Pops, Learns, Forks, Merges}
use Rattle.ss_outside.specs.Told.{Meanings}
use Rattle.ss_serve.specs.declared.channel.Tally.{Tally}
use Rattle.ss_serve.specs.declared.channel.Job.{Job}
use Rattle.ss_serve.specs.Tallies.{tally, links_in, links, IsNew, AreNew, IsBalancedChannel, IsSettledTally}

module _ {L : Type 0} where
  links_more : (items : List (Job L)) (x : Job L) → links (items ++ x ∷ []) ≡ links items + links_in x
  links_more [] x = omega arith
  links_more (y ∷ ys) x = let r = links_more ys x in omega arith

part_le : (f : Tally → ℕ) (views : List Tally) (i : ℕ) (v : Tally) → get_elem? views i ≡ some v → f v ≤ total f views
part_le f [] i v at = absurd (some-ne-none v (sym at))
part_le f (x ∷ xs) zero v at = omega (arith, ap f (some-injective x v at))
part_le f (x ∷ xs) (suc i) v at = omega (arith, part_le f xs i v at)

zeros : (f : Tally → ℕ) (views : List Tally) → total (λ (u : Tally). u.parts) views ≡ 0 → ((j : ℕ) (u : Tally) → get_elem? views j ≡ some u → u.parts ≡ 0 → f u ≡ 0) → total f views ≡ 0
zeros f [] z none = refl
zeros f (x ∷ xs) z none = omega (arith, none zero x refl (omega arith), zeros f xs (omega arith) (λ j u a p. none (suc j) u a p))

-- the others have nothing where one has all parts
only : (f : Tally → ℕ) (views : List Tally) (i : ℕ) (v : Tally) → get_elem? views i ≡ some v → total (λ (u : Tally). u.parts) views ≡ v.parts → ((j : ℕ) (u : Tally) → get_elem? views j ≡ some u → u.parts ≡ 0 → f u ≡ 0) → total f views ≡ f v
only f [] i v at all none = absurd (some-ne-none v (sym at))
only f (x ∷ xs) zero v at all none =
    let is : x ≡ v = some-injective x v at in let e : x.parts ≡ v.parts = ap (λ (h : Tally). h.parts) is in
    let rest : total f xs ≡ 0 = zeros f xs (omega arith) (λ j u a p. none (suc j) u a p) in omega (arith, rest, ap f is)
only f (x ∷ xs) (suc i) v at all none =
    let le : v.parts ≤ total (λ (u : Tally). u.parts) xs = part_le (λ (u : Tally). u.parts) xs i v at in
    let here : f x ≡ 0 = none zero x refl (omega arith) in
    let rest : total f xs ≡ f v = only f xs i v at (omega arith) (λ j u a p. none (suc j) u a p) in omega arith

module _ {L : Type 0} (told : L → Meanings) where
  new_more : (items : List (Job L)) (x : Job L) → AreNew told items → IsNew told x → AreNew told (items ++ x ∷ [])
  new_more [] x h k = (k, tt)
  new_more (y ∷ ys) x h k = (h.0, new_more ys x h.1 k)

  first : (j : ℕ) (v : Tally) → get_elem? (tally 32 0 0 ∷ []) j ≡ some v → v.parts ≡ 0 → (v.put ≡ 0) × (v.taken ≡ 0)
  first zero v e none = absurd (let k : 32 ≡ v.parts = ap (λ (h : Tally). h.parts) (some-injective (tally 32 0 0) v e) in omega arith)
  first (suc j) v e none = absurd (some-ne-none v (sym e))

  Idle : ℕ → Tally → Type 0
  Idle j v = v.parts ≡ 0 → (v.put ≡ 0) × (v.taken ≡ 0)

  pub puts : (n pass : ℕ) (v : Tally) (x : Job L) → 0 < v.parts → IsNew told x → Pushes (IsBalancedChannel told) n pass v x (λ w. w ≡ tally v.parts (v.put + links_in x) v.taken)
  unfolding Idle
  puts n pass v x some_part is_new items views room b at =
      let w = tally v.parts (v.put + links_in x) v.taken in
      let p = total_set (λ (u : Tally). u.put) views pass v w at in
      let t = total_set (λ (u : Tally). u.taken) views pass v w at in
      let q = total_set (λ (u : Tally). u.parts) views pass v w at in
      let l = links_more items x in (
        w,
        record {
          whole = omega (arith, q, b.whole);
          balance = omega (arith, p, t, l, b.balance);
          idle = after Idle views pass w (λ none. absurd (omega arith)) (λ j u ne old. b.idle j u old);
          new = new_more items x b.new is_new;
        },
        refl,
      )

  pub takes : (pass : ℕ) (v : Tally) → 0 < v.parts → Pops (IsBalancedChannel told) pass v (λ x w. (w ≡ tally v.parts v.put (v.taken + links_in x)) × IsNew told x × (v.parts ≡ 32 → v.taken + links_in x ≤ v.put))
  unfolding Idle
  takes pass v some_part x items views b at =
      let w = tally v.parts v.put (v.taken + links_in x) in
      let p = total_set (λ (u : Tally). u.put) views pass v w at in
      let t = total_set (λ (u : Tally). u.taken) views pass v w at in
      let q = total_set (λ (u : Tally). u.parts) views pass v w at in (
        w,
        record {
          whole = omega (arith, q, b.whole);
          balance = omega (arith, p, t, b.balance);
          idle = after Idle views pass w (λ none. absurd (omega arith)) (λ j u ne old. b.idle j u old);
          new = b.new.1;
        },
        (refl, b.new.0, λ all. let a = only (λ (u : Tally). u.put) views pass v at (b.whole ∙ sym all) (λ j u e z. (b.idle j u e z).0) in let c = only (λ (u : Tally). u.taken) views pass v at (b.whole ∙ sym all) (λ j u e z. (b.idle j u e z).1) in omega (arith, a, c, b.balance)),
      )

  pub learns_none : (pass : ℕ) (v : Tally) → Learns (IsBalancedChannel told) pass v (λ items. Unit {0})
  learns_none pass v items views b at = tt

  pub learns : (pass : ℕ) (v : Tally) → Learns (IsBalancedChannel told) pass v (IsSettledTally v)
  learns pass v items views b at all =
      let p = only (λ (u : Tally). u.put) views pass v at (b.whole ∙ sym all) (λ j u e z. (b.idle j u e z).0) in
      let t = only (λ (u : Tally). u.taken) views pass v at (b.whole ∙ sym all) (λ j u e z. (b.idle j u e z).1) in omega (arith, p, t, b.balance)

  pub forks : (pass : ℕ) (v : Tally) → 1 < v.parts → Forks (IsBalancedChannel told) pass v (tally (v.parts - 1) v.put v.taken) (tally 1 0 0)
  unfolding Idle
  forks pass v many items views b at =
      let w = tally (v.parts - 1) v.put v.taken in let n = tally 1 0 0 in
      let p = total_set (λ (u : Tally). u.put) views pass v w at in
      let t = total_set (λ (u : Tally). u.taken) views pass v w at in
      let q = total_set (λ (u : Tally). u.parts) views pass v w at in
      let p' = total_snoc (λ (u : Tally). u.put) (set views pass w) n in
      let t' = total_snoc (λ (u : Tally). u.taken) (set views pass w) n in
      let q' = total_snoc (λ (u : Tally). u.parts) (set views pass w) n in record {
        whole = omega (arith, q, q', b.whole);
        balance = omega (arith, p, t, p', t', b.balance);
        idle = λ j u e. elim (at_end (set views pass w) n u j e) [
          | inl old ↦ after Idle views pass w (λ none. absurd (omega arith)) (λ k z ne was. b.idle k z was) j u old
          | inr new ↦ λ none. absurd (let k : 1 ≡ u.parts = ap (λ (h : Tally). h.parts) new.1 in omega arith)
        ];
        new = b.new;
      }

  pub forks_none : (pass : ℕ) (v : Tally) → Forks (IsBalancedChannel told) pass v v (tally 0 0 0)
  unfolding Idle
  forks_none pass v items views b at =
      let n = tally 0 0 0 in
      let p = total_set (λ (u : Tally). u.put) views pass v v at in
      let t = total_set (λ (u : Tally). u.taken) views pass v v at in
      let q = total_set (λ (u : Tally). u.parts) views pass v v at in
      let p' = total_snoc (λ (u : Tally). u.put) (set views pass v) n in
      let t' = total_snoc (λ (u : Tally). u.taken) (set views pass v) n in
      let q' = total_snoc (λ (u : Tally). u.parts) (set views pass v) n in record {
        whole = omega (arith, q, q', b.whole);
        balance = omega (arith, p, t, p', t', b.balance);
        idle = λ j u e. elim (at_end (set views pass v) n u j e) [
          | inl old ↦ after Idle views pass v (b.idle pass v at) (λ k z ne was. b.idle k z was) j u old
          | inr new ↦ λ none. (ap (λ (h : Tally). h.put) (sym new.1), ap (λ (h : Tally). h.taken) (sym new.1))
        ];
        new = b.new;
      }

  pub begins : IsBalancedChannel told [] (tally 32 0 0 ∷ [])
  begins = record { whole = refl; balance = refl; idle = first; new = tt }

  pub merges : (pass : ℕ) (v : Tally) (other : ℕ) (w : Tally) → Merges (IsBalancedChannel told) pass v other w (tally (v.parts + w.parts) (v.put + w.put) (v.taken + w.taken)) (tally 0 0 0)
  unfolding Idle
  merges pass v other w items views b at ne at' =
      let z = tally (v.parts + w.parts) (v.put + w.put) (v.taken + w.taken) in let n = tally 0 0 0 in
      let p = total_set (λ (u : Tally). u.put) views pass v z at in
      let t = total_set (λ (u : Tally). u.taken) views pass v z at in
      let q = total_set (λ (u : Tally). u.parts) views pass v z at in
      let p' = total_set (λ (u : Tally). u.put) (set views pass z) other w n at' in
      let t' = total_set (λ (u : Tally). u.taken) (set views pass z) other w n at' in
      let q' = total_set (λ (u : Tally). u.parts) (set views pass z) other w n at' in
      let was : get_elem? views other ≡ some w = sym (set_else views pass other z ne) ∙ at' in record {
        whole = omega (arith, q, q', b.whole);
        balance = omega (arith, p, t, p', t', b.balance);
        idle = after Idle (set views pass z) other n (λ none. (refl, refl))
            (λ j u apart old. after Idle views pass z (λ none. let a = b.idle pass v at (omega arith) in let c = b.idle other w was (omega arith) in (omega (arith, a.0, c.0), omega (arith, a.1, c.1))) (λ k y ne' was'. b.idle k y was') j u old);
        new = b.new;
      }

module _ {L : Type 0} where
  pub nothing_left : (v : Tally) (items : List (Job L)) → length items ≡ 0 → IsSettledTally v items → v.parts ≡ 32 → v.put ≡ v.taken
  nothing_left v [] none h all = omega (arith, h all)
  nothing_left v (x ∷ xs) none h all = absurd (omega arith)
