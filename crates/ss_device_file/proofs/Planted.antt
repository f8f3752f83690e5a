-- The tree grows by the items that come.
use Rattle.std.proofs.Common.{◌≡◌, ℕ, zero, suc, ◌+◌, ◌<◌, ◌≤◌, ◌||◌, Bool, true, false, cond, List, [], ◌∷◌, ◌++◌}
use Rattle.std.proofs.Common.{length, take, get_or, map, filter, find, bytes_eq, append-nil, append_assoc, refl, sym}
use Rattle.std.proofs.Common.{ap, ap₂, subst, ◌∙◌, arith, Option, Some, None, option_map, unwrap_or}
use Rattle.std.specs.Option.{is_some, option_or}
use Rattle.std.specs.List.{list_any}
use Rattle.std.proofs.lemmas.Bool.{false≢true}
use Rattle.std.proofs.lemmas.List.{take_more, take_all}
use Rattle.ss_record.specs.declared.kinds.Kind.{Kind}
use Rattle.ss_record.specs.declared.kinds.Kind.TheVariants.{Folder}
use Rattle.ss_record.specs.Ids.{has, places, roots}
use Rattle.ss_record.proofs.IdLists.{bytes_eq-refl, has-cons, has-tail}
use Rattle.ss_record.proofs.OfId.{reading_is_read}
use Rattle.ss_tree.specs.Trees.{IsSame, PlacedItem, empty_node, empty_tree, node, places_node}
use Rattle.ss_device.specs.Edits.{new_node, revised_node, with_child}
use Rattle.ss_device_file.specs.declared.lines.ItemLine.{ItemLine}
use Rattle.ss_device_file.specs.Growing.{MayCome, as_come, come_to, come_under, grown_tree, line_of, not_come, partly}
use Rattle.ss_device_file.specs.Lines.{IsItemLine, record_in}
use Rattle.ss_device_file.specs.Places.{AreItemLines, ArePlaced, IsWhole, PlacedAfter, has_place, item_ids, placed_of}
use Rattle.ss_device_file.specs.Places.{seats_left, tree_of}
use Rattle.ss_device_file.proofs.Recorded.{record_back}
use Rattle.ss_device_file.proofs.Sound.{IsHere, IsSound, come_more, is_here, kids_told, known_parent, knows, line_more}
use Rattle.ss_device_file.proofs.Sound.{line_there, no_line, root_only, seated, unknown_come, sound_more, sound_none}
use Rattle.ss_device_file.proofs.Sound.{unknown_new}
use Rattle.ss_record.proofs.Fit.{folder_kind}
use Rattle.ss_text.proofs.Basics.{bytes_eq-sym, same_text}

-- ---- a root is a folder

root_kind : (i : ItemLine) → IsItemLine i → has i.item.id roots ≡ true → i.item.kind ≡ Folder
root_kind i h r = folder_kind i.item.kind ((reading_is_read i.item.id (record_in i)).folder i.item (Some i.parent) i.children (record_back i h) r)

-- ---- one more item

apart_from : (is : List ItemLine) (x p : List ℕ) → knows is x ≡ false → knows is p ≡ true → bytes_eq x p ≡ false
apart_from is x p u k = go (bytes_eq x p) refl
  where
    go : (b : Bool) → bytes_eq x p ≡ b → b ≡ false
    go true q = absurd (false≢true (sym u ∙ (ap (knows is) (same_text x p q) ∙ k)))
    go false q = refl

-- nothing has come under the new one
new_come : (is : List ItemLine) (i : ItemLine) → IsSound is → IsHere is i → IsItemLine i → come_under (is ++ i ∷ []) i.item.id ≡ []
new_come is i s here form =
    let u : knows is i.item.id ≡ false = unknown_new is i here form in
    come_more is i i.item.id ∙ ap₂ (λ a b. a ++ cond b (i.item.id ∷ []) []) (unknown_come is i.item.id is u s.lines) (apart_from is i.item.id i.parent u (known_parent is i s here))

pub line_id : (is : List ItemLine) (y : List ℕ) (j : ItemLine) → line_of y is ≡ Some j → j.item.id ≡ y
unfolding line_of
line_id [] y j e = cc
line_id (i ∷ is) y j e = go (bytes_eq y i.item.id) refl e (line_id is y j)
  where
    go : (b : Bool) → bytes_eq y i.item.id ≡ b → cond b (Some i) (find (λ (h : ItemLine). bytes_eq y h.item.id) is) ≡ Some j → (find (λ (h : ItemLine). bytes_eq y h.item.id) is ≡ Some j → j.item.id ≡ y) → j.item.id ≡ y
    go true q f ih = let same : i ≡ j = cc in ap (λ (h : ItemLine). h.item.id) (sym same) ∙ sym (same_text y i.item.id q)
    go false q f ih = ih f

none_none : {X : Type 0} (o : Option X) → option_or o None ≡ o
none_none None = refl
none_none (Some x) = refl

-- ---- the node of an id that was there, or not

-- under `places` nothing else changes
old_root : (is : List ItemLine) (i : ItemLine) (y : List ℕ) → bytes_eq y i.item.id ≡ false → bytes_eq y places ≡ false → i.parent ≡ places → (o : Option ItemLine) → ((j : ItemLine) → o ≡ Some j → j.item.id ≡ y)
    → option_map (λ n. cond (bytes_eq n.id i.item.id) (revised_node i.item.content i.time n) n) (as_come is y o) ≡ as_come (is ++ i ∷ []) y o
old_root is i y e inner p None at = go (has y roots)
  where
    go : (b : Bool) → option_map (λ n. cond (bytes_eq n.id i.item.id) (revised_node i.item.content i.time n) n) (cond b (Some (empty_node y)) None) ≡ cond b (Some (empty_node y)) None
    go true = ap (λ c. Some (cond c (revised_node i.item.content i.time (empty_node y)) (empty_node y))) e
    go false = refl
old_root is i y e inner p (Some j) at =
    let same : j.item.id ≡ y = at j refl in
    ap (λ c. Some (cond c (revised_node i.item.content i.time (partly is j)) (partly is j))) (ap (λ x. bytes_eq x i.item.id) same ∙ e)
    ∙ ap (λ cs. Some (record { id = j.item.id; kind = j.item.kind; content = j.item.content; parent = Some j.parent; children = cs; time = j.time }))
    (sym (come_more is i j.item.id ∙ (ap (λ b. come_under is j.item.id ++ cond b (i.item.id ∷ []) []) (ap₂ bytes_eq same p ∙ inner) ∙ append-nil (come_under is j.item.id))))

-- under a folder its last child is new
old_other : (is : List ItemLine) (i : ItemLine) (y : List ℕ) → knows is i.parent ≡ true → bytes_eq i.parent places ≡ false → bytes_eq y places ≡ false → (o : Option ItemLine) → line_of y is ≡ o
    → option_map (λ n. cond (bytes_eq n.id i.parent) (with_child i.item.id n) n) (as_come is y o) ≡ as_come (is ++ i ∷ []) y o
old_other is i y k far inner None at = go (has y roots)
  where
    unknown : knows is y ≡ false
    unknown = ap₂ (λ a b. a || b) inner (sym (line_there is y) ∙ ap is_some at)

    go : (b : Bool) → option_map (λ n. cond (bytes_eq n.id i.parent) (with_child i.item.id n) n) (cond b (Some (empty_node y)) None) ≡ cond b (Some (empty_node y)) None
    go true = ap (λ c. Some (cond c (with_child i.item.id (empty_node y)) (empty_node y))) (apart_from is y i.parent unknown k)
    go false = refl
old_other is i y k far inner (Some j) at =
    go (bytes_eq j.item.id i.parent) refl
  where
    go : (b : Bool) → bytes_eq j.item.id i.parent ≡ b → Some (cond b (with_child i.item.id (partly is j)) (partly is j)) ≡ Some (partly (is ++ i ∷ []) j)
    go true e = ap (λ cs. Some (record { id = j.item.id; kind = j.item.kind; content = j.item.content; parent = Some j.parent; children = cs; time = j.time })) (sym (come_more is i j.item.id ∙ ap (λ b. come_under is j.item.id ++ cond b (i.item.id ∷ []) []) e))
    go false e = ap (λ cs. Some (record { id = j.item.id; kind = j.item.kind; content = j.item.content; parent = Some j.parent; children = cs; time = j.time })) (sym (come_more is i j.item.id ∙ (ap (λ b. come_under is j.item.id ++ cond b (i.item.id ∷ []) []) e ∙ append-nil (come_under is j.item.id))))

abbrev after_root : ItemLine → Option PlacedItem → Option PlacedItem
after_root i o = option_map (λ n. cond (bytes_eq n.id i.item.id) (revised_node i.item.content i.time n) n) o

abbrev after_other : ItemLine → List ℕ → Option PlacedItem → Option PlacedItem
after_other i y o = cond (bytes_eq y i.item.id) (Some (new_node i.time i.parent i.item)) (option_map (λ n. cond (bytes_eq n.id i.parent) (with_child i.item.id n) n) o)

module _ (is : List ItemLine) (i : ItemLine) (s : IsSound is) (here : IsHere is i) (form : IsItemLine i) where
  fresh_line : line_of i.item.id is ≡ None
  fresh_line = no_line is i.item.id here.fresh

  new_line : (y : List ℕ) → bytes_eq y i.item.id ≡ true → line_of y (is ++ i ∷ []) ≡ Some i
  new_line y e = line_more is i y ∙ ap₂ (λ a b. option_or a (cond b (Some i) None)) (ap (λ x. line_of x is) (same_text y i.item.id e) ∙ fresh_line) e

  old_line : (y : List ℕ) → bytes_eq y i.item.id ≡ false → line_of y (is ++ i ∷ []) ≡ line_of y is
  old_line y e = line_more is i y ∙ (ap (λ b. option_or (line_of y is) (cond b (Some i) None)) e ∙ none_none (line_of y is))

  pub root_there : bytes_eq i.parent places ≡ true → grown_tree is i.item.id ≡ Some (empty_node i.item.id)
  unfolding grown_tree
  root_there p =
      ap₂ (λ b o. cond b (Some places_node) (as_come is i.item.id o)) form.inner fresh_line
      ∙ ap (λ b. cond b (Some (empty_node i.item.id)) None) (root_only is i s here (same_text i.parent places p))

  pub root_folder : bytes_eq i.parent places ≡ true → i.item.kind ≡ Folder
  root_folder p = root_kind i form (root_only is i s here (same_text i.parent places p))

  -- the new root
  new_root : (p : bytes_eq i.parent places ≡ true) → after_root i (Some (empty_node i.item.id)) ≡ Some (partly (is ++ i ∷ []) i)
  new_root p =
      ap (λ c. Some (cond c (revised_node i.item.content i.time (empty_node i.item.id)) (empty_node i.item.id))) (bytes_eq-refl i.item.id)
      ∙ ap₂ (λ (k : Kind) (q : List ℕ × List (List ℕ)). Some (record { id = i.item.id; kind = k; content = i.item.content; parent = Some q.0; children = q.1; time = i.time })) (sym (root_folder p))
      (ap₂ (λ a b. (a, b)) (sym (same_text i.parent places p)) (sym (new_come is i s here form)))

  new_other : Some (new_node i.time i.parent i.item) ≡ Some (partly (is ++ i ∷ []) i)
  new_other = ap (λ cs. Some (record { id = i.item.id; kind = i.item.kind; content = i.item.content; parent = Some i.parent; children = cs; time = i.time })) (sym (new_come is i s here form))

  pub grown_more : (y : List ℕ) → come_to i y (grown_tree is y) ≡ grown_tree (is ++ i ∷ []) y
  unfolding grown_tree places_node places
  grown_more y = by_parent (bytes_eq i.parent places) refl
    where
      top_apart : bytes_eq y places ≡ true → bytes_eq places i.item.id ≡ false
      top_apart t = sym (bytes_eq-sym i.item.id places) ∙ form.inner

      for_root : bytes_eq i.parent places ≡ true → (t : Bool) → bytes_eq y places ≡ t → after_root i (cond t (Some places_node) (as_come is y (line_of y is))) ≡ cond t (Some places_node) (as_come (is ++ i ∷ []) y (line_of y (is ++ i ∷ [])))
      for_root p true t = ap (λ c. Some (cond c (revised_node i.item.content i.time places_node) places_node)) (top_apart t)
      for_root p false t = at_id (bytes_eq y i.item.id) refl
        where
          at_id : (e : Bool) → bytes_eq y i.item.id ≡ e → after_root i (as_come is y (line_of y is)) ≡ as_come (is ++ i ∷ []) y (line_of y (is ++ i ∷ []))
          at_id true e =
              let same : y ≡ i.item.id = same_text y i.item.id e in
              ap (λ o. after_root i (as_come is y o)) (ap (λ x. line_of x is) same ∙ fresh_line)
              ∙ (ap (λ x. after_root i (not_come x)) same
              ∙ (ap (λ b. after_root i (cond b (Some (empty_node i.item.id)) None)) (root_only is i s here (same_text i.parent places p))
              ∙ (new_root p ∙ sym (ap (as_come (is ++ i ∷ []) y) (new_line y e)))))
          at_id false e = old_root is i y e t (same_text i.parent places p) (line_of y is) (λ j q. line_id is y j q) ∙ sym (ap (as_come (is ++ i ∷ []) y) (old_line y e))

      for_other : bytes_eq i.parent places ≡ false → (t : Bool) → bytes_eq y places ≡ t → after_other i y (cond t (Some places_node) (as_come is y (line_of y is))) ≡ cond t (Some places_node) (as_come (is ++ i ∷ []) y (line_of y (is ++ i ∷ [])))
      for_other p true t =
          ap (λ b. cond b (Some (new_node i.time i.parent i.item)) (option_map (λ n. cond (bytes_eq n.id i.parent) (with_child i.item.id n) n) (Some places_node))) (ap (λ x. bytes_eq x i.item.id) (same_text y places t) ∙ top_apart t)
          ∙ ap (λ c. Some (cond c (with_child i.item.id places_node) places_node)) (sym (bytes_eq-sym i.parent places) ∙ p)
      for_other p false t = at_id (bytes_eq y i.item.id) refl
        where
          at_id : (e : Bool) → bytes_eq y i.item.id ≡ e
              → cond e (Some (new_node i.time i.parent i.item)) (option_map (λ n. cond (bytes_eq n.id i.parent) (with_child i.item.id n) n) (as_come is y (line_of y is))) ≡ as_come (is ++ i ∷ []) y (line_of y (is ++ i ∷ []))
          at_id true e = new_other ∙ sym (ap (as_come (is ++ i ∷ []) y) (new_line y e))
          at_id false e = old_other is i y (known_parent is i s here) p t (line_of y is) refl ∙ sym (ap (as_come (is ++ i ∷ []) y) (old_line y e))

      by_parent : (b : Bool) → bytes_eq i.parent places ≡ b
          → cond b (after_root i (cond (bytes_eq y places) (Some places_node) (as_come is y (line_of y is)))) (after_other i y (cond (bytes_eq y places) (Some places_node) (as_come is y (line_of y is))))
          ≡ cond (bytes_eq y places) (Some places_node) (as_come (is ++ i ∷ []) y (line_of y (is ++ i ∷ [])))
      by_parent true p = for_root p (bytes_eq y places) refl
      by_parent false p = for_other p (bytes_eq y places) refl

-- ---- from the first item to the last

placed_at : (front is : List ItemLine) (k : ℕ) (d : ItemLine) → PlacedAfter front is → k < length is → has_place (front ++ take k is) (get_or is k d) ≡ true
placed_at front [] k d h lt = absurd (omega arith)
placed_at front (x ∷ is) zero d h lt = ap (λ f. has_place f x) (append-nil front) ∙ h.0
placed_at front (x ∷ is) (suc k) d h lt = ap (λ f. has_place f (get_or is k d)) (sym (append_assoc front (x ∷ []) (take k is))) ∙ placed_at (front ++ x ∷ []) is k d h.1 (omega arith)

pub place_at : (items : List ItemLine) (k : ℕ) (d : ItemLine) → ArePlaced items → k < length items → has_place (take k items) (get_or items k d) ≡ true
unfolding ArePlaced
place_at items k d h lt = placed_at [] items k d h lt

pub form_at : (items : List ItemLine) (k : ℕ) (d : ItemLine) → AreItemLines items → k < length items → IsItemLine (get_or items k d)
form_at [] k d h lt = absurd (omega arith)
form_at (x ∷ is) zero d h lt = h.0
form_at (x ∷ is) (suc k) d h lt = form_at is k d h.1 (omega arith)

pub record IsGrown (items : List ItemLine) (k : ℕ) (t : List PlacedItem) : Type 0 where
  pub sound : IsSound (take k items)
  pub nodes : (y : List ℕ) → node y t ≡ grown_tree (take k items) y

find_empty : (y : List ℕ) (rs : List (List ℕ)) → find (λ (n : PlacedItem). bytes_eq y n.id) (map empty_node rs) ≡ cond (has y rs) (Some (empty_node y)) None
unfolding has
find_empty y [] = refl
find_empty y (r ∷ rs) = go (bytes_eq y r) refl (find_empty y rs)
  where
    go : (b : Bool) → bytes_eq y r ≡ b → find (λ (n : PlacedItem). bytes_eq y n.id) (map empty_node rs) ≡ cond (list_any (bytes_eq y) rs) (Some (empty_node y)) None
        → cond b (Some (empty_node r)) (find (λ (n : PlacedItem). bytes_eq y n.id) (map empty_node rs)) ≡ cond (b || list_any (bytes_eq y) rs) (Some (empty_node y)) None
    go true e ih = ap (λ x. Some (empty_node x)) (sym (same_text y r e))
    go false e ih = ih

pub grown_none : (items : List ItemLine) (t : List PlacedItem) → IsSame t empty_tree → IsGrown items 0 t
unfolding node empty_tree grown_tree line_of places_node
grown_none items t same = record { sound = sound_none; nodes = λ y. same y ∙ ap (λ o. cond (bytes_eq y places) (Some places_node) o) (find_empty y roots) }

here_at : (items : List ItemLine) (k : ℕ) (i : ItemLine) → ArePlaced items → k < length items → i ≡ get_or items k i → IsHere (take k items) i
here_at items k i h lt at = is_here (take k items) i (ap (has_place (take k items)) at ∙ place_at items k i h lt)

formed : (items : List ItemLine) (k : ℕ) (i : ItemLine) → AreItemLines items → k < length items → i ≡ get_or items k i → IsItemLine i
formed items k i h lt at = subst IsItemLine (sym at) (form_at items k i h lt)

pub may_come_at : (items : List ItemLine) (k : ℕ) (t : List PlacedItem) (i : ItemLine) → IsWhole items → AreItemLines items → k < length items → i ≡ get_or items k i → IsGrown items k t → MayCome t i
may_come_at items k t i w f lt at g =
    let here = here_at items k i w.placed lt at in
    let form = formed items k i f lt at in
    record {
      inner = form.inner;
      fit = form.fit;
      root = λ p. g.nodes i.item.id ∙ root_there (take k items) i g.sound here form p;
      folder = λ p. root_folder (take k items) i g.sound here form p;
    }

pub grown_on : (items : List ItemLine) (k : ℕ) (t u : List PlacedItem) (i : ItemLine) → IsWhole items → AreItemLines items → k < length items → i ≡ get_or items k i → IsGrown items k t
    → ((y : List ℕ) → node y u ≡ come_to i y (node y t)) → IsGrown items (k + 1) u
grown_on items k t u i w f lt at g n =
    let here = here_at items k i w.placed lt at in
    let form = formed items k i f lt at in
    let more : take (k + 1) items ≡ take k items ++ i ∷ [] = take_more items k i lt ∙ ap (λ x. take k items ++ x ∷ []) (sym at) in
    record {
      sound = subst IsSound (sym more) (sound_more (take k items) i g.sound (ap (has_place (take k items)) at ∙ place_at items k i w.placed lt) form);
      nodes = λ y. n y ∙ (ap (come_to i y) (g.nodes y) ∙ (grown_more (take k items) i g.sound here form y ∙ ap (λ js. grown_tree js y) (sym more)));
    }

-- ---- nothing is left to come

find_placed : (y : List ℕ) (is : List ItemLine) → find (λ (n : PlacedItem). bytes_eq y n.id) (map placed_of is) ≡ option_map placed_of (find (λ (i : ItemLine). bytes_eq y i.item.id) is)
find_placed y [] = refl
find_placed y (i ∷ is) = go (bytes_eq y i.item.id) (find_placed y is)
  where
    go : (b : Bool) → find (λ (n : PlacedItem). bytes_eq y n.id) (map placed_of is) ≡ option_map placed_of (find (λ (h : ItemLine). bytes_eq y h.item.id) is)
        → cond b (Some (placed_of i)) (find (λ (n : PlacedItem). bytes_eq y n.id) (map placed_of is)) ≡ option_map placed_of (cond b (Some i) (find (λ (h : ItemLine). bytes_eq y h.item.id) is))
    go true ih = refl
    go false ih = ih

pub come_known : (is : List ItemLine) (y x : List ℕ) → has x (come_under is y) ≡ true → has x (item_ids is) ≡ true
unfolding come_under item_ids
come_known [] y x h = h
come_known (i ∷ is) y x h = go (bytes_eq y i.parent) h (come_known is y x)
  where
    go : (b : Bool) → has x (map (λ (h : ItemLine). h.item.id) (cond b (i ∷ filter (λ (h : ItemLine). bytes_eq y h.parent) is) (filter (λ (h : ItemLine). bytes_eq y h.parent) is))) ≡ true
        → (has x (map (λ (h : ItemLine). h.item.id) (filter (λ (h : ItemLine). bytes_eq y h.parent) is)) ≡ true → has x (map (λ (h : ItemLine). h.item.id) is) ≡ true)
        → has x (i.item.id ∷ map (λ (h : ItemLine). h.item.id) is) ≡ true
    go true e ih = has-cons x i.item.id (map (λ (h : ItemLine). h.item.id) is) ∙ pick (bytes_eq x i.item.id) (sym (has-cons x i.item.id (map (λ (h : ItemLine). h.item.id) (filter (λ (h : ItemLine). bytes_eq y h.parent) is))) ∙ e)
      where
        pick : (c : Bool) → (c || has x (map (λ (h : ItemLine). h.item.id) (filter (λ (h : ItemLine). bytes_eq y h.parent) is))) ≡ true → (c || has x (map (λ (h : ItemLine). h.item.id) is)) ≡ true
        pick true q = refl
        pick false q = ih q
    go false e ih = has-tail x i.item.id (map (λ (h : ItemLine). h.item.id) is) (ih e)

pub all_come : (is : List ItemLine) → IsSound is → seats_left is ≡ [] → (y : List ℕ) → knows is y ≡ true → come_under is y ≡ kids_told is y
all_come is s none y k = sym (append-nil (come_under is y)) ∙ (ap (λ ss. come_under is y ++ seated y ss) (sym none) ∙ s.kids y k)

line_inner : (is : List ItemLine) (y : List ℕ) (i : ItemLine) → AreItemLines is → line_of y is ≡ Some i → bytes_eq i.item.id places ≡ false
unfolding line_of
line_inner [] y i f e = cc
line_inner (j ∷ is) y i f e = go (bytes_eq y j.item.id) e (line_inner is y i f.1)
  where
    go : (b : Bool) → cond b (Some j) (find (λ (h : ItemLine). bytes_eq y h.item.id) is) ≡ Some i → (find (λ (h : ItemLine). bytes_eq y h.item.id) is ≡ Some i → bytes_eq i.item.id places ≡ false) → bytes_eq i.item.id places ≡ false
    go true q ih = let same : j ≡ i = cc in ap (λ (h : ItemLine). bytes_eq h.item.id places) (sym same) ∙ f.0.inner
    go false q ih = ih q

kids_are : (is : List ItemLine) (y : List ℕ) (i : ItemLine) → IsSound is → AreItemLines is → seats_left is ≡ [] → line_of y is ≡ Some i → come_under is i.item.id ≡ i.children
unfolding kids_told
kids_are is y i s f none e =
    let same : i.item.id ≡ y = line_id is y i e in
    let there : line_of i.item.id is ≡ Some i = ap (λ x. line_of x is) same ∙ e in
    let inner : bytes_eq i.item.id places ≡ false = line_inner is y i f e in
    all_come is s none i.item.id (ap₂ (λ a b. a || b) inner (sym (line_there is i.item.id) ∙ ap is_some there))
    ∙ ap₂ (λ b o. cond b roots (unwrap_or (option_map (λ (h : ItemLine). h.children) o) [])) inner there

pub grown_all : (is : List ItemLine) → IsSound is → AreItemLines is → seats_left is ≡ [] → (y : List ℕ) → grown_tree is y ≡ node y (tree_of is)
unfolding grown_tree node tree_of line_of places_node kids_told
grown_all is s f none y = ap (λ o. cond (bytes_eq y places) (Some places_node) o) (go (line_of y is) refl ∙ sym (find_placed y is))
  where
    go : (o : Option ItemLine) → line_of y is ≡ o → as_come is y o ≡ option_map placed_of o
    go None e = no_root (has y roots) refl
      where
        no_root : (b : Bool) → has y roots ≡ b → cond b (Some (empty_node y)) None ≡ None
        no_root true r = absurd (false≢true (ap is_some (sym e) ∙ (line_there is y ∙ come_known is places y (ap (has y) (all_come is s none places (ap (λ b. b || has places (item_ids is)) (bytes_eq-refl places)) ∙ ap (λ b. cond b roots (unwrap_or (option_map (λ (i : ItemLine). i.children) (line_of places is)) [])) (bytes_eq-refl places)) ∙ r))))
        no_root false r = refl
    go (Some i) e = ap (λ cs. Some (record { id = i.item.id; kind = i.item.kind; content = i.item.content; parent = Some i.parent; children = cs; time = i.time })) (kids_are is y i s f none e)

pub grown_whole : (items : List ItemLine) (k : ℕ) (t : List PlacedItem) → IsWhole items → AreItemLines items → length items ≤ k → IsGrown items k t → IsSame t (tree_of items)
grown_whole items k t w f le g = λ y.
    let all : take k items ≡ items = take_all k items le in
    g.nodes y ∙ (ap (λ js. grown_tree js y) all ∙ grown_all items (subst IsSound all g.sound) f w.left y)
