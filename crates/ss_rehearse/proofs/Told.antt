-- What is told of trees, and planned for them, is told by their look-ups alone.
use Rattle.std.proofs.Common.{◌≡◌, ℕ, ◌+◌, ◌&&◌, Bool, true, false, cond, not, List, [], ◌∷◌, ◌++◌, map, filter, find}
use Rattle.std.proofs.Common.{length, bytes_eq, refl, sym, ap, ap₂, ◌∙◌, Option, Some, None, option_map}
use Rattle.std.proofs.Common.{option_and_then, unwrap_or, codes}
use Rattle.std.specs.List.{sum_by}
use Rattle.std.specs.Cmp.Lexicographic.{pointwise}
use Rattle.std.proofs.lemmas.List.{length-map}
use Rattle.std.proofs.lemmas.List.Sums.{sum_by-cons}
use Rattle.ss_record.specs.Ids.{by_id}
use Rattle.ss_record.specs.Items.{ItemView}
use Rattle.ss_record.specs.Records.{tombstone_of}
use Rattle.ss_tree.specs.declared.entries.Entry.{Entry}
use Rattle.ss_tree.specs.Trees.{IsSame, PlacedItem, node}
use Rattle.ss_tree.specs.Entries.{IsTree, entry, kid_ids, kids, node_of, placed, stands_under, tree}
use Rattle.ss_build.specs.Rows.{is_item}
use Rattle.ss_merge.proofs.Whole.{same_ids}
use Rattle.ss_plan.specs.Plan.{Readings, gone, order, plan, puts, reading_at, record_due, record_for}
use Rattle.ss_tree.specs.Entries.{id_at}
use Rattle.ss_rehearse.specs.Summaries.{children_of, count, is_own, is_renamed, nodes, once_where, same_id, same_item}
use Rattle.ss_rehearse.specs.Summaries.{same_place, same_trees, summary_of}
use Rattle.ss_rehearse.proofs.Orders.{Seen, seen, seen_once}

-- ---- counts

abbrev once_seen : (ItemView → Bool) → Seen → ℕ
once_seen is s = once_where is s.item

sum_seen : (f : Seen → ℕ) (es : List Entry) (ks : List ℕ) → sum_by (λ k. f (seen es k)) ks ≡ sum_by f (map (seen es) ks)
sum_seen f es [] = refl
sum_seen f es (k ∷ ks) = sum_by-cons (λ j. f (seen es j)) k ks ∙ ap (λ n. f (seen es k) + n) (sum_seen f es ks) ∙ sym (sum_by-cons f (seen es k) (map (seen es) ks))

count_once : (is : ItemView → Bool) (es fs : List Entry) → IsTree es → IsTree fs → IsSame (tree es) (tree fs) → count is es ≡ count is fs
unfolding count
count_once is es fs t u same =
    sum_seen (once_seen is) es (nodes es) ∙ ap (sum_by (once_seen is)) (seen_once es fs t u same) ∙ sym (sum_seen (once_seen is) fs (nodes fs))

-- ---- the children of a root

find_placed : (es all : List Entry) (x : List ℕ) → find (λ (n : PlacedItem). bytes_eq x n.id) (map (placed all) es) ≡ option_map (placed all) (find (λ (e : Entry). bytes_eq x e.item.id) es)
unfolding placed
find_placed [] all x = refl
find_placed (e ∷ es) all x = go (bytes_eq x e.item.id) (find_placed es all x)
  where
    go : (b : Bool) → find (λ (n : PlacedItem). bytes_eq x n.id) (map (placed all) es) ≡ option_map (placed all) (find (λ (d : Entry). bytes_eq x d.item.id) es)
        → cond b (Some (placed all e)) (find (λ (n : PlacedItem). bytes_eq x n.id) (map (placed all) es)) ≡ option_map (placed all) (cond b (Some e) (find (λ (d : Entry). bytes_eq x d.item.id) es))
    go true h = refl
    go false h = h

children_are : (root : List ℕ) (es : List Entry) → children_of root es ≡ unwrap_or (option_map (λ (n : PlacedItem). length n.children) (node root (tree es))) 0
unfolding children_of node node_of tree placed kids kid_ids
children_are root es = go (find (λ (e : Entry). bytes_eq root e.item.id) es) ∙ sym (ap (λ o. unwrap_or (option_map (λ (n : PlacedItem). length n.children) o) 0) (find_placed es es root))
  where
    go : (o : Option Entry) → unwrap_or (option_map (λ k. length (map (λ e. e.node) (filter (stands_under k) es))) (option_map (λ (e : Entry). e.node) o)) 0
        ≡ unwrap_or (option_map (λ (n : PlacedItem). length n.children) (option_map (placed es) o)) 0
    go None = refl
    go (Some e) = length-map (filter (stands_under e.node) es) (λ (d : Entry). d.node) ∙ sym (length-map (filter (stands_under e.node) es) (λ (d : Entry). d.item.id))

children_once : (root : List ℕ) (es fs : List Entry) → IsSame (tree es) (tree fs) → children_of root es ≡ children_of root fs
children_once root es fs same = children_are root es ∙ ap (λ o. unwrap_or (option_map (λ (n : PlacedItem). length n.children) o) 0) (same root) ∙ sym (children_are root fs)

-- ---- equal trees

abbrev alike : Seen → Seen → Bool
alike s r = same_item s.item r.item && same_id s.under r.under

place_seen : (es fs : List Entry) (ks js : List ℕ) → pointwise (same_place es fs) ks js ≡ pointwise alike (map (seen es) ks) (map (seen fs) js)
unfolding same_place
place_seen es fs [] [] = refl
place_seen es fs [] (j ∷ js) = refl
place_seen es fs (k ∷ ks) [] = refl
place_seen es fs (k ∷ ks) (j ∷ js) = ap (λ b. alike (seen es k) (seen fs j) && b) (place_seen es fs ks js)

trees_once : (es fs gs hs : List Entry) → IsTree es → IsTree fs → IsTree gs → IsTree hs → IsSame (tree es) (tree gs) → IsSame (tree fs) (tree hs) → same_trees es fs ≡ same_trees gs hs
unfolding same_trees
trees_once es fs gs hs t u v w a b =
    place_seen es fs (nodes es) (nodes fs) ∙ ap₂ (pointwise alike) (seen_once es gs t v a) (seen_once fs hs u w b) ∙ sym (place_seen gs hs (nodes gs) (nodes hs))

pub summary_once : (first second other another : List Entry) → IsTree first → IsTree second → IsTree other → IsTree another → IsSame (tree first) (tree other) → IsSame (tree second) (tree another)
    → summary_of first second ≡ summary_of other another
unfolding summary_of
summary_once es fs gs hs t u v w a b =
    ap₂ (λ (n : ℕ × ℕ × ℕ) (e : Bool). record { items = n.0; menu = n.1; renamed = n.2; equal = e })
    (λ i. (count_once is_own es gs t v a i, children_once (codes "menu") es gs a i, count_once is_renamed es gs t v a i))
    (trees_once es fs gs hs t u v w a b)

-- ---- plans

abbrev id_seen : Seen → List ℕ
id_seen s = unwrap_or (option_map (λ (i : ItemView). i.id) s.item) []

ids_seen : (es : List Entry) (ks : List ℕ) → map (id_at es) ks ≡ map id_seen (map (seen es) ks)
ids_seen es [] = refl
ids_seen es (k ∷ ks) = ap₂ (λ x xs. x ∷ xs) (go (entry k es)) (ids_seen es ks)
  where
    go : (o : Option Entry) → unwrap_or (option_map (λ (e : Entry). e.item.id) o) [] ≡ unwrap_or (option_map (λ (i : ItemView). i.id) (option_map (λ (e : Entry). e.item) o)) []
    go None = refl
    go (Some e) = refl

order_once : (es fs : List Entry) → IsTree es → IsTree fs → IsSame (tree es) (tree fs) → order es ≡ order fs
order_once es fs t u same = ids_seen es (nodes es) ∙ ap (map id_seen) (seen_once es fs t u same) ∙ sym (ids_seen fs (nodes fs))

pub plan_once : (es fs : List Entry) (readings : Readings) → IsTree es → IsTree fs → IsSame (tree es) (tree fs) → plan es readings ≡ plan fs readings
unfolding plan record_for gone
plan_once es fs readings t u same = ap₂ (λ a b. a ++ b) changed removed
  where
    records : record_for (tree es) readings ≡ record_for (tree fs) readings
    records = λ i x. option_and_then (λ n. record_due n (reading_at x readings)) (same x i)

    changed : puts (record_for (tree es) readings) (order es) ≡ puts (record_for (tree fs) readings) (order fs)
    changed = ap₂ puts records (order_once es fs t u same)

    removed : puts (λ x. Some (tombstone_of x)) (gone (tree es) readings) ≡ puts (λ x. Some (tombstone_of x)) (gone (tree fs) readings)
    removed =
        ap (λ (has_id : List ℕ → Bool). puts (λ x. Some (tombstone_of x)) (by_id (map (λ r. r.0) (filter (λ r. is_item r.1 && not (has_id r.0)) readings))))
        (λ i x. same_ids (tree es) (tree fs) same x i)
