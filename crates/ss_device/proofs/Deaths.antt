-- Devices after edits.
use Rattle.std.proofs.Common.{◌≡◌, ℕ, List, [], ◌∷◌, map, Bool, true, false, cond, ◌||◌, refl, sym, ap, ap₂, ◌∙◌, subst}
use Rattle.std.proofs.Common.{Option, Some, None, option_map, is_some, bytes_eq}
use Rattle.std.specs.Map.{lookup}
use Rattle.std.specs.BTreeMap.{is_at}
use Rattle.std.proofs.lemmas.Map.Text.{is_eq-slice_cmp}
use Rattle.ss_text.specs.Texts.{text_cmp}
use Rattle.ss_record.specs.declared.readings.Sheet.{Sheet}
use Rattle.ss_record.specs.Ids.{has}
use Rattle.ss_record.specs.Items.{ItemView}
use Rattle.ss_record.proofs.IdLists.{has-nil, has-cons}
use Rattle.ss_tree.specs.declared.entries.Entry.{Entry}
use Rattle.ss_tree.specs.Trees.{PlacedItem, IsSame, node, node_ids, parent_in}
use Rattle.ss_tree.specs.Entries.{tree}
use Rattle.ss_device.specs.Device.{AreById, Dead, DeviceView, IsDevice, dead_at, dead_ids}
use Rattle.ss_device.specs.Edits.{EditsDevice, tree_after_delete, is_within, tree_after_add, tree_after_rename}
use Rattle.ss_device.specs.Edits.{tree_after_move, moved_node, with_last, with_title}
use Rattle.ss_device.proofs.Composed.{deleted_ids, node_map}
use Rattle.ss_device.proofs.Known.{has_is_node, same_ids}
use Rattle.ss_text.proofs.Basics.{bytes_eq-sym}

pub has_dead : (x : List ℕ) (dead : Dead) → has x (dead_ids dead) ≡ is_some (dead_at x dead)
has_dead x [] = has-nil x
has_dead x (d ∷ ds) = has-cons x d.0 (map (λ e. e.0) ds) ∙ go (bytes_eq x d.0) (has_dead x ds)
  where
    go : (b : Bool) → has x (dead_ids ds) ≡ is_some (dead_at x ds) → (b || has x (dead_ids ds)) ≡ is_some (cond b (Some d.1) (dead_at x ds))
    go true h = refl
    go false h = h

pub as_lookup : (x : List ℕ) (dead : Dead) → lookup (is_at (text_cmp x)) dead ≡ dead_at x dead
as_lookup x dead = λ i. lookup (λ y. is_eq-slice_cmp x y i) dead

-- ---- what an edit leaves of what holds of a device

pub kept_device : (es fs : List Entry) (dead new : Dead) (mirror : List Sheet) (stamp : ℕ) → IsDevice (record { tree = es; dead = dead; mirror = mirror; stamp = stamp }) → AreById (dead_ids new)
    → ((x : List ℕ) → (has x (node_ids (tree es)) || has x (dead_ids dead)) ≡ true → (has x (node_ids (tree fs)) || has x (dead_ids new)) ≡ true) → IsDevice (record { tree = fs; dead = new; mirror = mirror; stamp = stamp })
kept_device es fs dead new mirror stamp d ordered still = record { dead_by_id = ordered; mirror_by_id = d.mirror_by_id; known = λ x h. still x (d.known x h) }

pub same_device : (es fs : List Entry) (dead : Dead) (mirror : List Sheet) (stamp : ℕ) → IsDevice (record { tree = es; dead = dead; mirror = mirror; stamp = stamp })
    → ((x : List ℕ) → has x (node_ids (tree fs)) ≡ has x (node_ids (tree es))) → IsDevice (record { tree = fs; dead = dead; mirror = mirror; stamp = stamp })
same_device es fs dead mirror stamp d same = kept_device es fs dead dead mirror stamp d d.dead_by_id (λ x h. ap (λ b. b || has x (dead_ids dead)) (same x) ∙ h)

mapped_ids : (change : PlacedItem → PlacedItem) → ((n : PlacedItem) → (change n).id ≡ n.id) → (x : List ℕ) (t : List PlacedItem) → has x (node_ids (map change t)) ≡ has x (node_ids t)
mapped_ids change same x t = has_is_node x (map change t) ∙ (ap is_some (node_map change same x t) ∙ (some (node x t) ∙ sym (has_is_node x t)))
  where
    some : (o : Option PlacedItem) → is_some (option_map change o) ≡ is_some o
    some None = refl
    some (Some n) = refl

pub added_ids : (time : ℕ) (parent : List ℕ) (i : ItemView) (t : List PlacedItem) (x : List ℕ) → has x (node_ids (tree_after_add time parent i t)) ≡ (bytes_eq x i.id || has x (node_ids t))
unfolding tree_after_add node_ids
added_ids time parent i t x =
    has-cons x i.id (map (λ n. n.id) (map (λ n. cond (bytes_eq n.id parent) (with_last time i.id n) n) t))
    ∙ ap (λ b. bytes_eq x i.id || b) (mapped_ids (λ n. cond (bytes_eq n.id parent) (with_last time i.id n) n) same x t)
  where
    same : (n : PlacedItem) → (cond (bytes_eq n.id parent) (with_last time i.id n) n).id ≡ n.id
    same n = pick (bytes_eq n.id parent)
      where
        pick : (b : Bool) → (cond b (with_last time i.id n) n).id ≡ n.id
        pick true = refl
        pick false = refl

pub renamed_ids : (time : ℕ) (y title : List ℕ) (t : List PlacedItem) (x : List ℕ) → has x (node_ids (tree_after_rename time y title t)) ≡ has x (node_ids t)
unfolding tree_after_rename
renamed_ids time y title t x = mapped_ids (λ n. cond (bytes_eq n.id y) (with_title time title n) n) same x t
  where
    same : (n : PlacedItem) → (cond (bytes_eq n.id y) (with_title time title n) n).id ≡ n.id
    same n = pick (bytes_eq n.id y)
      where
        pick : (b : Bool) → (cond b (with_title time title n) n).id ≡ n.id
        pick true = refl
        pick false = refl

pub moved_ids : (time : ℕ) (y parent : List ℕ) (t : List PlacedItem) (x : List ℕ) → has x (node_ids (tree_after_move time y parent t)) ≡ has x (node_ids t)
unfolding tree_after_move
moved_ids time y parent t x = mapped_ids (moved_node time y (parent_in t y) parent) (λ n. refl) x t

-- ---- the edits

pub taken_told : (dead new : Dead) (x : List ℕ) → ((q : List ℕ) → lookup (is_at (text_cmp q)) new ≡ cond (is_at (text_cmp x) q) None (lookup (is_at (text_cmp q)) dead)) → (y : List ℕ) → dead_at y new ≡ cond (bytes_eq y x) None (dead_at y dead)
taken_told dead new x h y = sym (as_lookup y new) ∙ (h y ∙ ap₂ (λ b o. cond b None o) (is_eq-slice_cmp x y ∙ bytes_eq-sym x y) (as_lookup y dead))

pub added_device : (es fs : List Entry) (dead new : Dead) (mirror : List Sheet) (stamp time : ℕ) (parent : List ℕ) (i : ItemView) → IsDevice (record { tree = es; dead = dead; mirror = mirror; stamp = stamp }) → AreById (dead_ids new)
    → IsSame (tree fs) (tree_after_add time parent i (tree es)) → ((y : List ℕ) → dead_at y new ≡ cond (bytes_eq y i.id) None (dead_at y dead)) → IsDevice (record { tree = fs; dead = new; mirror = mirror; stamp = stamp })
added_device es fs dead new mirror stamp time parent i d ordered same told = kept_device es fs dead new mirror stamp d ordered (λ x h.
    ap₂ (λ a b. a || b) (same_ids x (tree fs) (tree_after_add time parent i (tree es)) same ∙ added_ids time parent i (tree es) x) (has_dead x new ∙ ap is_some (told x))
    ∙ go (bytes_eq x i.id) (has x (node_ids (tree es))) (dead_at x dead) (ap (λ b. has x (node_ids (tree es)) || b) (sym (has_dead x dead)) ∙ h))
  where
    go : (b a : Bool) (o : Option ℕ) → (a || is_some o) ≡ true → ((b || a) || is_some (cond b None o)) ≡ true
    go true a o h = refl
    go false a o h = h

pub edited_from : (old : DeviceView) (es : List Entry) (dead : Dead) (mirror : List Sheet) (stamp : ℕ) → record { tree = es; dead = dead; mirror = mirror; stamp = stamp } ≡ old → (fs : List Entry) (new : Dead) (t : List PlacedItem → List PlacedItem) (told : List PlacedItem → Dead → List ℕ → Option ℕ)
    → IsSame (tree fs) (t (tree es)) → ((y : List ℕ) → dead_at y new ≡ told (tree es) dead y) → EditsDevice old (record { tree = fs; dead = new; mirror = mirror; stamp = stamp }) (t (tree old.tree)) (told (tree old.tree) old.dead)
edited_from old es dead mirror stamp is fs new t told same deaths =
    subst (λ (o : DeviceView). EditsDevice o (record { tree = fs; dead = new; mirror = mirror; stamp = stamp }) (t (tree o.tree)) (told (tree o.tree) o.dead)) is (record { same = same; dead = deaths; mirror = refl; stamp = refl })

pub within_told : (dead new : Dead) (time : ℕ) (within : List ℕ → Bool) → ((q : List ℕ) → lookup (is_at (text_cmp q)) new ≡ cond (within q) (Some time) (lookup (is_at (text_cmp q)) dead)) → (y : List ℕ) → dead_at y new ≡ cond (within y) (Some time) (dead_at y dead)
within_told dead new time within h y = sym (as_lookup y new) ∙ (h y ∙ ap (λ o. cond (within y) (Some time) o) (as_lookup y dead))

pub deleted_device : (es fs : List Entry) (dead new : Dead) (mirror : List Sheet) (stamp time : ℕ) (x : List ℕ) → IsDevice (record { tree = es; dead = dead; mirror = mirror; stamp = stamp }) → AreById (dead_ids new)
    → IsSame (tree fs) (tree_after_delete time x (tree es)) → ((y : List ℕ) → dead_at y new ≡ cond (is_within (tree es) x y) (Some time) (dead_at y dead)) → IsDevice (record { tree = fs; dead = new; mirror = mirror; stamp = stamp })
deleted_device es fs dead new mirror stamp time x d ordered same told = kept_device es fs dead new mirror stamp d ordered (λ y h.
    ap (λ b. has y (node_ids (tree fs)) || b) (has_dead y new ∙ ap is_some (told y)) ∙ go (is_within (tree es) x y) y refl (dead_at y dead) (ap (λ b. has y (node_ids (tree es)) || b) (sym (has_dead y dead)) ∙ h))
  where
    always : (a : Bool) → (a || true) ≡ true
    always true = refl
    always false = refl

    go : (b : Bool) (y : List ℕ) → is_within (tree es) x y ≡ b → (o : Option ℕ) → (has y (node_ids (tree es)) || is_some o) ≡ true → (has y (node_ids (tree fs)) || is_some (cond b (Some time) o)) ≡ true
    go true y q o h = always (has y (node_ids (tree fs)))
    go false y q o h = ap (λ a. a || is_some o) (same_ids y (tree fs) (tree_after_delete time x (tree es)) same ∙ deleted_ids time x y (tree es) q) ∙ h
