-- What several changes of a tree come to, by ids.
use Rattle.std.proofs.Common.{◌≡◌, ℕ, List, [], ◌∷◌, ◌++◌, map, filter, not, Bool, true, false, cond, ◌||◌, refl, sym}
use Rattle.std.proofs.Common.{ap, subst, ◌∙◌, Option, Some, None, option_map, option_and_then, unwrap_or, find, is_some}
use Rattle.std.proofs.Common.{bytes_eq}
use Rattle.std.proofs.lemmas.Bool.{false≢true}
use Rattle.ss_record.specs.Ids.{has, places}
use Rattle.ss_record.proofs.IdLists.{has-cons}
use Rattle.ss_record.specs.Items.{ItemView}
use Rattle.ss_tree.specs.Trees.{PlacedItem, IsSame, IsUnder, IsValidTree, node, node_ids, parent_in}
use Rattle.ss_device.proofs.Known.{has_is_node}
use Rattle.ss_device.specs.Edits.{tree_after_delete, is_within, left_node, without_child, tree_after_add}
use Rattle.ss_tree.specs.Trees.{item_of}
use Rattle.ss_device.specs.Edits.{tree_after_rename, tree_after_move, moved_node, moved_only, new_node, with_child}
use Rattle.ss_device.specs.Edits.{with_last, with_title, titled, revised_node, item_at_time, without_id}
use Rattle.ss_text.proofs.Basics.{same_text, bytes_eq-same, some_same}

-- the item of an id has it
pub node_id : (y : List ℕ) (t : List PlacedItem) (n : PlacedItem) → node y t ≡ Some n → n.id ≡ y
unfolding node
node_id y [] n q = cc
node_id y (m ∷ t) n q = go (bytes_eq y m.id) refl q (node_id y t n)
  where
    go : (b : Bool) → bytes_eq y m.id ≡ b → cond b (Some m) (find (λ k. bytes_eq y k.id) t) ≡ Some n → (find (λ k. bytes_eq y k.id) t ≡ Some n → n.id ≡ y) → n.id ≡ y
    go true h r ih = ap (λ (k : PlacedItem). k.id) (sym (some_same r)) ∙ sym (same_text y m.id h)
    go false h r ih = ih r

-- a change of items that leaves ids
pub node_map : (change : PlacedItem → PlacedItem) → ((n : PlacedItem) → (change n).id ≡ n.id) → (y : List ℕ) (t : List PlacedItem) → node y (map change t) ≡ option_map change (node y t)
unfolding node
node_map change same y [] = refl
node_map change same y (m ∷ t) = ap (λ x. cond (bytes_eq y x) (Some (change m)) (find (λ k. bytes_eq y k.id) (map change t))) (same m) ∙ go (bytes_eq y m.id) (node_map change same y t)
  where
    go : (b : Bool) → find (λ k. bytes_eq y k.id) (map change t) ≡ option_map change (find (λ k. bytes_eq y k.id) t)
        → cond b (Some (change m)) (find (λ k. bytes_eq y k.id) (map change t)) ≡ option_map change (cond b (Some m) (find (λ k. bytes_eq y k.id) t))
    go true ih = refl
    go false ih = ih

-- two changes that are one at an item
pub same_change : (f g : PlacedItem → PlacedItem) (o : Option PlacedItem) → ((n : PlacedItem) → o ≡ Some n → f n ≡ g n) → option_map f o ≡ option_map g o
same_change f g None h = refl
same_change f g (Some n) h = ap Some (h n refl)

pub twice : (f g : PlacedItem → PlacedItem) (o : Option PlacedItem) → option_map f (option_map g o) ≡ option_map (λ n. f (g n)) o
twice f g None = refl
twice f g (Some n) = refl

pub restamped : (t : List PlacedItem) (x content : List ℕ) (time : ℕ) → ((n : PlacedItem) → node x t ≡ Some n → n.content ≡ content) → (y : List ℕ)
    → option_map (λ n. cond (bytes_eq n.id x) (revised_node content time n) n) (node y t) ≡ option_map (item_at_time x time) (node y t)
restamped t x content time h y = same_change (λ n. cond (bytes_eq n.id x) (revised_node content time n) n) (item_at_time x time) (node y t) each
  where
    each : (n : PlacedItem) → node y t ≡ Some n → cond (bytes_eq n.id x) (revised_node content time n) n ≡ item_at_time x time n
    each n q = go (bytes_eq n.id x) refl
      where
        go : (b : Bool) → bytes_eq n.id x ≡ b → cond b (revised_node content time n) n ≡ record { id = n.id; kind = n.kind; content = n.content; parent = n.parent; children = n.children; time = cond b time n.time }
        go false w = refl
        go true w =
            let here : node x t ≡ Some n = ap (λ z. node z t) (sym (same_text n.id x w) ∙ node_id y t n q) ∙ q in
            ap (λ z. record { id = n.id; kind = n.kind; content = z; parent = n.parent; children = n.children; time = time }) (sym (h n here))

-- ---- what holds of an item after a change

pub through : (change : PlacedItem → PlacedItem) (o p : Option PlacedItem) (P : PlacedItem → Type 0) → p ≡ option_map change o → ((n : PlacedItem) → o ≡ Some n → P (change n)) → (m : PlacedItem) → p ≡ Some m → P m
through change None p P q h m r = absurd (never (sym q ∙ r))
  where
    never : {X : Type 0} {x : X} → None ≡ Some x → ⊥
    never f = cc
through change (Some n) p P q h m r = subst P (some_same (sym q ∙ r)) (h n refl)

pub still : (change : PlacedItem → PlacedItem) (o p : Option PlacedItem) → p ≡ option_map change o → is_some o ≡ true → is_some p ≡ true
still change None p q h = absurd (false≢true h)
still change (Some n) p q h = ap is_some q

-- ---- edits

pub add_same : (old new last : List PlacedItem) (time : ℕ) (parent : List ℕ) (i : ItemView)
    → ((y : List ℕ) → node y new ≡ cond (bytes_eq y i.id) (Some (new_node time parent i)) (option_map (λ n. cond (bytes_eq n.id parent) (with_child i.id n) n) (node y old)))
    → ((y : List ℕ) → node y last ≡ option_map (item_at_time parent time) (node y new)) → IsSame last (tree_after_add time parent i old)
unfolding tree_after_add node
add_same old new last time parent i first second y =
    second y ∙ (ap (option_map (item_at_time parent time)) (first y) ∙ (go (bytes_eq y i.id) ∙ sym (ap (cond (bytes_eq y i.id) (Some (new_node time parent i))) (node_map change same y old))))
  where
    change : PlacedItem → PlacedItem
    change n = cond (bytes_eq n.id parent) (with_last time i.id n) n

    same : (n : PlacedItem) → (change n).id ≡ n.id
    same n = pick (bytes_eq n.id parent)
      where
        pick : (b : Bool) → (cond b (with_last time i.id n) n).id ≡ n.id
        pick true = refl
        pick false = refl

    each : (n : PlacedItem) → item_at_time parent time (cond (bytes_eq n.id parent) (with_child i.id n) n) ≡ change n
    each n = pick (bytes_eq n.id parent) refl
      where
        at : (b : Bool) → PlacedItem
        at b = record { id = n.id; kind = n.kind; content = n.content; parent = n.parent; children = n.children; time = cond b time n.time }

        child : (b : Bool) → PlacedItem
        child b = record { id = n.id; kind = n.kind; content = n.content; parent = n.parent; children = n.children ++ i.id ∷ []; time = cond b time n.time }

        pick : (b : Bool) → bytes_eq n.id parent ≡ b → item_at_time parent time (cond b (with_child i.id n) n) ≡ cond b (with_last time i.id n) n
        pick true h = ap child h
        pick false h = ap at h

    own : (b : Bool) → cond b time time ≡ time
    own true = refl
    own false = refl

    go : (b : Bool) → option_map (item_at_time parent time) (cond b (Some (new_node time parent i)) (option_map (λ n. cond (bytes_eq n.id parent) (with_child i.id n) n) (node y old))) ≡ cond b (Some (new_node time parent i)) (option_map change (node y old))
    go true = ap (λ s. Some (record { id = i.id; kind = i.kind; content = i.content; parent = Some parent; children = []; time = s })) (own (bytes_eq i.id parent))
    go false = twice (item_at_time parent time) (λ n. cond (bytes_eq n.id parent) (with_child i.id n) n) (node y old) ∙ same_change (λ n. item_at_time parent time (cond (bytes_eq n.id parent) (with_child i.id n) n)) change (node y old) (λ n q. each n)

pub rename_same : (old new : List PlacedItem) (time : ℕ) (x title content : List ℕ) → ((n : PlacedItem) → node x old ≡ Some n → titled title n.content ≡ content)
    → ((y : List ℕ) → node y new ≡ option_map (λ n. cond (bytes_eq n.id x) (revised_node content time n) n) (node y old)) → IsSame new (tree_after_rename time x title old)
unfolding tree_after_rename
rename_same old new time x title content told nodes y =
    nodes y ∙ (same_change (λ n. cond (bytes_eq n.id x) (revised_node content time n) n) change (node y old) each ∙ sym (node_map change same y old))
  where
    change : PlacedItem → PlacedItem
    change n = cond (bytes_eq n.id x) (with_title time title n) n

    same : (n : PlacedItem) → (change n).id ≡ n.id
    same n = pick (bytes_eq n.id x)
      where
        pick : (b : Bool) → (cond b (with_title time title n) n).id ≡ n.id
        pick true = refl
        pick false = refl

    each : (n : PlacedItem) → node y old ≡ Some n → cond (bytes_eq n.id x) (revised_node content time n) n ≡ change n
    each n q = pick (bytes_eq n.id x) refl
      where
        pick : (b : Bool) → bytes_eq n.id x ≡ b → cond b (revised_node content time n) n ≡ cond b (with_title time title n) n
        pick false h = refl
        pick true h =
            let here : node x old ≡ Some n = ap (λ z. node z old) (sym (same_text n.id x h) ∙ node_id y old n q) ∙ q in
            ap (λ z. revised_node z time n) (sym (told n here))

pub move_same : (old one two three last : List PlacedItem) (time : ℕ) (x from parent : List ℕ) → from ≡ parent_in old x
    → ((y : List ℕ) → node y one ≡ option_map (moved_only x parent) (node y old)) → ((y : List ℕ) → node y two ≡ option_map (item_at_time x time) (node y one))
    → ((y : List ℕ) → node y three ≡ option_map (item_at_time from time) (node y two)) → ((y : List ℕ) → node y last ≡ option_map (item_at_time parent time) (node y three)) → IsSame last (tree_after_move time x parent old)
unfolding tree_after_move
move_same old one two three last time x from parent is first second third fourth y =
    fourth y
    ∙ (ap (option_map (item_at_time parent time)) (third y ∙ ap (option_map (item_at_time from time)) (second y ∙ ap (option_map (item_at_time x time)) (first y)))
    ∙ (all (node y old)
    ∙ (same_change (λ n. item_at_time parent time (item_at_time from time (item_at_time x time (moved_only x parent n)))) (moved_node time x from parent) (node y old) (λ n q. each n)
    ∙ (ap (λ z. option_map (moved_node time x z parent) (node y old)) is ∙ sym (node_map (moved_node time x (parent_in old x) parent) (λ n. refl) y old)))))
  where
    all : (o : Option PlacedItem) → option_map (item_at_time parent time) (option_map (item_at_time from time) (option_map (item_at_time x time) (option_map (moved_only x parent) o))) ≡ option_map (λ n. item_at_time parent time (item_at_time from time (item_at_time x time (moved_only x parent n)))) o
    all None = refl
    all (Some n) = refl

    times : (a b c : Bool) (s : ℕ) → cond c time (cond b time (cond a time s)) ≡ cond (a || b || c) time s
    times true true true s = refl
    times true true false s = refl
    times true false true s = refl
    times true false false s = refl
    times false true true s = refl
    times false true false s = refl
    times false false true s = refl
    times false false false s = refl

    each : (n : PlacedItem) → item_at_time parent time (item_at_time from time (item_at_time x time (moved_only x parent n))) ≡ moved_node time x from parent n
    each n = ap (λ s. record {
      id = n.id;
      kind = n.kind;
      content = n.content;
      parent = cond (bytes_eq n.id x) (Some parent) n.parent;
      children = cond (bytes_eq n.id parent) (without_id x n.children ++ x ∷ []) (without_id x n.children);
      time = s;
    }) (times (bytes_eq n.id x) (bytes_eq n.id from) (bytes_eq n.id parent) n.time)

-- ---- what an item that comes leaves of its parent

abbrev grown : List ℕ → List ℕ → PlacedItem → PlacedItem
grown parent x n = cond (bytes_eq n.id parent) (with_child x n) n

grown_item : (parent x : List ℕ) (n : PlacedItem) → item_of (grown parent x n) ≡ item_of n
grown_item parent x n = go (bytes_eq n.id parent)
  where
    go : (b : Bool) → item_of (cond b (with_child x n) n) ≡ item_of n
    go true = refl
    go false = refl

pub grown_parent : (old new : List PlacedItem) (time : ℕ) (parent : List ℕ) (i : ItemView) → bytes_eq parent i.id ≡ false
    → ((y : List ℕ) → node y new ≡ cond (bytes_eq y i.id) (Some (new_node time parent i)) (option_map (λ n. cond (bytes_eq n.id parent) (with_child i.id n) n) (node y old)))
    → (P : ItemView → Type 0) → ((n : PlacedItem) → node parent old ≡ Some n → P (item_of n)) → (m : PlacedItem) → node parent new ≡ Some m → P (item_of m)
grown_parent old new time parent i apart nodes P h m q =
    through (grown parent i.id) (node parent old) (node parent new) (λ n. P (item_of n))
    (nodes parent ∙ ap (λ b. cond b (Some (new_node time parent i)) (option_map (grown parent i.id) (node parent old))) apart)
    (λ n r. subst P (sym (grown_item parent i.id n)) (h n r)) m q

pub grown_there : (old new : List PlacedItem) (time : ℕ) (parent : List ℕ) (i : ItemView)
    → ((y : List ℕ) → node y new ≡ cond (bytes_eq y i.id) (Some (new_node time parent i)) (option_map (λ n. cond (bytes_eq n.id parent) (with_child i.id n) n) (node y old)))
    → is_some (node parent old) ≡ true → is_some (node parent new) ≡ true
grown_there old new time parent i nodes h = ap is_some (nodes parent) ∙ go (bytes_eq parent i.id) (node parent old) h
  where
    go : (b : Bool) (o : Option PlacedItem) → is_some o ≡ true → is_some (cond b (Some (new_node time parent i)) (option_map (grown parent i.id) o)) ≡ true
    go true o k = refl
    go false None k = k
    go false (Some n) k = refl

-- ---- a deletion

node_filter : (q : List ℕ → Bool) (y : List ℕ) (t : List PlacedItem) → node y (filter (λ n. q n.id) t) ≡ cond (q y) (node y t) None
unfolding node
node_filter q y [] = go (q y)
  where
    go : (b : Bool) → find (λ (k : PlacedItem). bytes_eq y k.id) [] ≡ cond b (find (λ (k : PlacedItem). bytes_eq y k.id) []) None
    go true = refl
    go false = refl
node_filter q y (m ∷ t) = go (q m.id) refl (bytes_eq y m.id) refl (node_filter q y t)
  where
    rest : Option PlacedItem
    rest = find (λ k. bytes_eq y k.id) t

    go : (a : Bool) → q m.id ≡ a → (b : Bool) → bytes_eq y m.id ≡ b → find (λ k. bytes_eq y k.id) (filter (λ n. q n.id) t) ≡ cond (q y) (find (λ k. bytes_eq y k.id) t) None
        → find (λ k. bytes_eq y k.id) (cond a (m ∷ filter (λ n. q n.id) t) (filter (λ n. q n.id) t)) ≡ cond (q y) (cond b (Some m) (find (λ k. bytes_eq y k.id) t)) None
    go true h true k ih = ap (λ b. cond b (Some m) (find (λ w. bytes_eq y w.id) (filter (λ n. q n.id) t))) k ∙ sym (ap (λ b. cond b (Some m) None) (ap q (same_text y m.id k) ∙ h))
    go true h false k ih = ap (λ b. cond b (Some m) (find (λ w. bytes_eq y w.id) (filter (λ n. q n.id) t))) k ∙ ih
    go false h true k ih = ih ∙ (ap (λ b. cond b (find (λ w. bytes_eq y w.id) t) None) out ∙ sym (ap (λ b. cond b (Some m) None) out))
      where
        out : q y ≡ false
        out = ap q (same_text y m.id k) ∙ h
    go false h false k ih = ih

abbrev left_or : ℕ → List ℕ → List ℕ → PlacedItem → PlacedItem
left_or time x from n = cond (bytes_eq n.id from) (without_child time x n) n

left_or_id : (time : ℕ) (x from : List ℕ) (n : PlacedItem) → (left_or time x from n).id ≡ n.id
left_or_id time x from n = go (bytes_eq n.id from)
  where
    go : (b : Bool) → (cond b (without_child time x n) n).id ≡ n.id
    go true = refl
    go false = refl

pub deleted_at : (time : ℕ) (x y : List ℕ) (t : List PlacedItem) → node y (tree_after_delete time x t) ≡ option_map (left_or time x (parent_in t x)) (cond (not (is_within t x y)) (node y t) None)
unfolding tree_after_delete
deleted_at time x y t =
    node_map (left_or time x (parent_in t x)) (left_or_id time x (parent_in t x)) y (filter (λ n. not (is_within t x n.id)) t) ∙ ap (option_map (left_or time x (parent_in t x))) (node_filter (λ z. not (is_within t x z)) y t)

pub deleted_ids : (time : ℕ) (x y : List ℕ) (t : List PlacedItem) → is_within t x y ≡ false → has y (node_ids (tree_after_delete time x t)) ≡ has y (node_ids t)
deleted_ids time x y t out =
    has_is_node y (tree_after_delete time x t) ∙ (ap is_some (deleted_at time x y t ∙ ap (λ b. option_map (left_or time x (parent_in t x)) (cond (not b) (node y t) None)) out) ∙ (some (node y t) ∙ sym (has_is_node y t)))
  where
    some : (o : Option PlacedItem) → is_some (option_map (left_or time x (parent_in t x)) o) ≡ is_some o
    some None = refl
    some (Some n) = refl

without_absent : (x : List ℕ) (ys : List (List ℕ)) → has x ys ≡ false → without_id x ys ≡ ys
without_absent x [] h = refl
without_absent x (y ∷ ys) h = go (bytes_eq x y) (sym (has-cons x y ys) ∙ h) (without_absent x ys)
  where
    go : (b : Bool) → (b || has x ys) ≡ false → (has x ys ≡ false → without_id x ys ≡ ys) → cond (not b) (y ∷ without_id x ys) (without_id x ys) ≡ y ∷ ys
    go true k ih = absurd (false≢true (sym k))
    go false k ih = ap (λ r. y ∷ r) (ih k)

pub delete_same : (old new last : List PlacedItem) (time : ℕ) (x from : List ℕ) → IsValidTree old → from ≡ parent_in old x
    → ((y : List ℕ) → node y new ≡ cond (is_within old x y) None (option_map (left_node x) (node y old))) → ((y : List ℕ) → node y last ≡ option_map (item_at_time from time) (node y new)) → IsSame last (tree_after_delete time x old)
unfolding parent_in IsUnder
delete_same old new last time x from valid is first second y =
    second y ∙ (ap (option_map (item_at_time from time)) (first y) ∙ (go (is_within old x y) ∙ (ap (λ z. option_map (left_or time x z) (cond (not (is_within old x y)) (node y old) None)) is ∙ sym (deleted_at time x y old))))
  where
    each : (n : PlacedItem) → node y old ≡ Some n → item_at_time from time (left_node x n) ≡ left_or time x from n
    each n q = pick (bytes_eq n.id from) refl
      where
        at : (b : Bool) → PlacedItem
        at b = record { id = n.id; kind = n.kind; content = n.content; parent = n.parent; children = without_id x n.children; time = cond b time n.time }

        absent : (b : Bool) → has x n.children ≡ b → bytes_eq n.id from ≡ false → b ≡ false
        absent false h k = refl
        absent true h k =
            let u = (valid.stands y n q x).0 h in
            let up : parent_in old x ≡ y = ap (λ o. unwrap_or (option_and_then (λ (m : PlacedItem). m.parent) o) places) u.1 ∙ ap (λ o. unwrap_or o places) u.2 in
            absurd (false≢true (sym k ∙ bytes_eq-same n.id from (node_id y old n q ∙ sym (is ∙ up))))

        pick : (b : Bool) → bytes_eq n.id from ≡ b → item_at_time from time (left_node x n) ≡ cond b (without_child time x n) n
        pick true h = ap at h
        pick false h = ap at h ∙ ap (λ cs. record { id = n.id; kind = n.kind; content = n.content; parent = n.parent; children = cs; time = n.time }) (without_absent x n.children (absent (has x n.children) refl h))

    go : (b : Bool) → option_map (item_at_time from time) (cond b None (option_map (left_node x) (node y old))) ≡ option_map (left_or time x from) (cond (not b) (node y old) None)
    go true = refl
    go false = twice (item_at_time from time) (left_node x) (node y old) ∙ same_change (λ n. item_at_time from time (left_node x n)) (left_or time x from) (node y old) each

-- the folder that is left
pub left_change : (old new : List PlacedItem) (x from : List ℕ) → is_within old x from ≡ false → ((y : List ℕ) → node y new ≡ cond (is_within old x y) None (option_map (left_node x) (node y old))) → node from new ≡ option_map (left_node x) (node from old)
left_change old new x from out nodes = nodes from ∙ ap (λ b. cond b None (option_map (left_node x) (node from old))) out
