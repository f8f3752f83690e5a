-- The whole merge.
use Rattle.std.proofs.Common.{◌≡◌, ◌↔◌, ◌⊎◌, ◌||◌, ◌&&◌, ◌++◌, ◌∙◌, ◌∷◌, [], inl, inr, not, is_some, true, cond, List}
use Rattle.std.proofs.Common.{length, map, filter, bytes_eq, Option, None, refl, sym, ap, ap₂, subst}
use Rattle.ss_record.specs.Ids.{Apart, by_id, firsts, has, places}
use Rattle.ss_record.proofs.IdLists.{has-head, has-tail, has-append, has-firsts, has-by_id, Apart-firsts, Apart-by_id}
use Rattle.ss_tree.specs.declared.sides.Sides.{Sides as Asked}
use Rattle.ss_tree.specs.Entries.{tree}
use Rattle.ss_tree.specs.Trees.{IsSame, PlacedItem, node_ids}
use Rattle.ss_build.specs.declared.claims.Claim.{Claim}
use Rattle.ss_build.specs.Built.{tree_of}
use Rattle.ss_build.specs.Places.{AreItems}
use Rattle.ss_dupe.specs.Looks.{Id, is_in, is_root}
use Rattle.ss_dupe.specs.Walks.{passes}
use Rattle.ss_dupe.specs.Sides.{Sides}
use Rattle.ss_dupe.specs.Renaming.{renamed_id, renamed_sides, tree_renamed}
use Rattle.ss_dupe.specs.Shapes.{HaveShapes}
use Rattle.ss_dupe.proofs.Renamed.{node_ids-has}
use Rattle.ss_merge.specs.Survivors.{content_of, survives}
use Rattle.ss_merge.specs.Parents.{final}
use Rattle.ss_merge.specs.Merged.{all_ids, is_child, merged_children, entries_merged}
use Rattle.ss_merge.specs.Claims.{AreMerging, claim_at}
use Rattle.ss_merge.specs.Links.{Holds, claim_by, is_under}
use Rattle.ss_merge.proofs.Sided.{survivor_has}
use Rattle.ss_merge.proofs.Holding.{held}
use Rattle.ss_merge.proofs.Claimed.{are_items, es, kept, kept-survives, tree-is}
use Rattle.ss_merge.proofs.Valid.{merged_ids}
use Rattle.std.proofs.lemmas.Bool.{cases_Bool}

map_alike : {A : Type 0} (f g : Id → A) (xs : List Id) → ((x : Id) → has x xs ≡ true → f x ≡ g x) → map f xs ≡ map g xs
map_alike f g [] is = refl
map_alike f g (x ∷ xs) is = ap₂ (λ a l. a ∷ l) (is x (has-head x xs)) (map_alike f g xs (λ y k. is y (has-tail y x xs k)))

module _ (s : Sides) (ids : List Id) (m : AreMerging s ids) (g : Id → Option Id) (h : Holds g (final s (length ids)) ids) where
  under-is : (p x : Id) → is_under s g p x ≡ is_child s (length ids) p x
  unfolding is_under is_child
  under-is p x = elim (cases_Bool (survives s x)) [
    | inl k ↦ ap (λ o. (survives s x && not (is_root x)) && passes (bytes_eq p) o) (held g (final s (length ids)) ids x h (survivor_has s ids m x k))
    | inr k ↦ ap (λ b. (b && not (is_root x)) && passes (bytes_eq p) (g x)) k ∙ sym (ap (λ b. (b && not (is_root x)) && passes (bytes_eq p) (final s (length ids) x)) k)
  ]

  claim-is : (x : Id) → has x ids ≡ true → claim_by s g x ≡ claim_at s (length ids) x
  unfolding claim_by claim_at
  claim-is x k =
      let up = ap (λ o. cond (is_root x) None o) (held g (final s (length ids)) ids x h k) in
      λ i. record {
        item = record { id = x; kind = (content_of s x).kind; content = (content_of s x).content };
        parentid = up i;
        children = filter (λ y. under-is x y i) (merged_children s x);
        time = 0;
      }

  pub claims-are : map (claim_by s g) (filter (survives s) ids) ≡ es s ids m
  claims-are = map_alike (claim_by s g) (claim_at s (length ids)) (kept s ids m) (λ x k. claim-is x (survivor_has s ids m x (kept-survives s ids m x k)))

  pub claims_items : (cs : List Claim) → cs ≡ map (claim_by s g) (filter (survives s) ids) → AreItems cs
  claims_items cs e = subst AreItems (sym (e ∙ claims-are)) (are_items s ids m)

  pub claims_tree : (cs : List Claim) (t : List PlacedItem) → cs ≡ map (claim_by s g) (filter (survives s) ids) → IsSame t (tree_of cs) → IsSame t (entries_merged s ids)
  claims_tree cs t e same = subst (IsSame t) (ap tree_of (e ∙ claims-are) ∙ tree-is s ids m) same

-- ---- all ids

either : List (Id × Id) → Asked → List Id
either pairs s = firsts (node_ids (tree_renamed (renamed_id pairs) (tree s.local.now)) ++ node_ids (tree s.remote.now))

has-either : (pairs : List (Id × Id)) (s : Asked) (x : Id) → has x (either pairs s) ≡ (is_in (renamed_sides pairs s).local x || is_in (renamed_sides pairs s).remote x)
unfolding either
has-either pairs s x =
    has-firsts x _ ∙ has-append x (node_ids (tree_renamed (renamed_id pairs) (tree s.local.now))) (node_ids (tree s.remote.now))
    ∙ ap₂ (λ a b. a || b) (sym (node_ids-has (tree_renamed (renamed_id pairs) (tree s.local.now)) x)) (sym (node_ids-has (tree s.remote.now) x))

pub gathered : (pairs : List (Id × Id)) (s : Asked) (v : Sides) (ids : List Id) → v ≡ renamed_sides pairs s → ((all : List Id) → Apart all → ((x : Id) → has x all ≡ (is_in v.local x || is_in v.remote x)) → ids ≡ by_id all) → ids ≡ all_ids pairs s
unfolding all_ids either
gathered pairs s v ids same is = is (either pairs s) (Apart-firsts _) (λ x. has-either pairs s x ∙ sym (ap (λ (w : Sides). is_in w.local x || is_in w.remote x) same))

pub are_merging : (pairs : List (Id × Id)) (s : Asked) (v : Sides) (ids : List Id) → v ≡ renamed_sides pairs s → HaveShapes v → ids ≡ all_ids pairs s → AreMerging v ids
unfolding all_ids either
are_merging pairs s v ids same shaped is = record {
  shaped = shaped;
  apart = subst Apart (sym is) (Apart-by_id (either pairs s) (Apart-firsts (node_ids (tree_renamed (renamed_id pairs) (tree s.local.now)) ++ node_ids (tree s.remote.now))));
  all = λ x. ap (has x) is ∙ has-by_id x (either pairs s) ∙ has-either pairs s x ∙ sym (ap (λ (w : Sides). is_in w.local x || is_in w.remote x) same);
}

pub same_ids : (t u : List PlacedItem) → IsSame t u → (x : Id) → has x (node_ids t) ≡ has x (node_ids u)
unfolding is_in
same_ids t u same x = sym (node_ids-has t x) ∙ ap is_some (same x) ∙ node_ids-has u x

pub survivors : (s v : Sides) (ids : List Id) (t : List PlacedItem) → v ≡ s → AreMerging v ids → IsSame t (entries_merged v ids) → (x : Id) → (has x (node_ids t) ≡ true) ↔ ((x ≡ places) ⊎ (survives s x ≡ true))
survivors s v ids t same m is x =
    let e = same_ids t (entries_merged v ids) is x in
    let w = merged_ids v ids m x in
    subst (λ (z : Sides). (has x (node_ids t) ≡ true) ↔ ((x ≡ places) ⊎ (survives z x ≡ true))) same (λ h. w.0 (sym e ∙ h), λ h. e ∙ w.1 h)
