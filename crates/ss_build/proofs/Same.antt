-- Validity is about look-ups: the order of a tree's list means nothing.
use Rattle.std.proofs.Common.{◌≡◌, ◌↔◌, ℕ, List, sym, ap, ◌∙◌, unwrap_or, option_and_then}
use Rattle.ss_record.specs.Ids.{Apart, places}
use Rattle.ss_tree.specs.Trees.{IsUnder, IsValidTree, PlacedItem, node, node_ids, parent_in}
use Rattle.ss_build.proofs.Stand.{steps_same}

parent_same : (t u : List PlacedItem) → ((x : List ℕ) → node x u ≡ node x t) → (x : List ℕ) → parent_in u x ≡ parent_in t x
unfolding parent_in
parent_same t u e x = ap (λ o. unwrap_or (option_and_then (λ n. n.parent) o) places) (e x)

under_same : (t u : List PlacedItem) → ((x : List ℕ) → node x u ≡ node x t) → (y x : List ℕ) → IsUnder t y x ↔ IsUnder u y x
unfolding IsUnder
under_same t u e y x = ((λ h. (h.0, e x ∙ h.1, h.2)), (λ h. (h.0, sym (e x) ∙ h.1, h.2)))

pub valid_same : (t u : List PlacedItem) → IsValidTree t → Apart (node_ids u) → ((x : List ℕ) → node x u ≡ node x t) → IsValidTree u
valid_same t u v a e = record {
  apart = a;
  top_is = e places ∙ v.top_is;
  stands = λ y m q x. ((λ h. (under_same t u e y x).0 ((v.stands y m (sym (e y) ∙ q) x).0 h)), (λ h. (v.stands y m (sym (e y) ∙ q) x).1 ((under_same t u e y x).1 h)));
  once = λ y m q. v.once y m (sym (e y) ∙ q);
  folder = λ x n q ne. let f = v.folder x n (sym (e x) ∙ q) ne in (f.0, f.1, f.2, e f.0 ∙ f.3, f.4);
  root_folder = λ r n h q. v.root_folder r n h (sym (e r) ∙ q);
  reaches = λ x n q. let w = v.reaches x n (sym (e x) ∙ q) in (w.0, steps_same (parent_in u) (parent_in t) (parent_same t u e) w.0 x ∙ w.1);
}
