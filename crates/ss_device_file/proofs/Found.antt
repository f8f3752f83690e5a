-- Which ids a device knows.
use Rattle.std.proofs.Common.{◌≡◌, ℕ, ◌&&◌, ◌||◌, Bool, true, false, not, cond, List, [], ◌∷◌, map, filter_map, find}
use Rattle.std.proofs.Common.{bytes_eq, Some, None, is_some, option_map, inl, inr, refl, sym, ap, ap₂, ◌∙◌}
use Rattle.std.specs.Map.{lookup}
use Rattle.std.specs.BTreeMap.{is_at}
use Rattle.std.proofs.lemmas.Bool.{false≢true, false_from_ne_true}
use Rattle.ss_text.specs.Texts.{text_cmp}
use Rattle.ss_record.specs.declared.readings.Sheet.{Sheet}
use Rattle.ss_record.specs.Ids.{Apart, has, places, roots}
use Rattle.ss_record.proofs.IdLists.{has-cons, has-head, has-nil, has-tail, Apart-head, Apart-tail}
use Rattle.ss_tree.specs.declared.entries.Entry.{Entry}
use Rattle.ss_tree.specs.Entries.{entry_ids, node_of, placed, tree}
use Rattle.ss_tree.specs.Trees.{IsSame, PlacedItem, node_ids}
use Rattle.ss_tree.proofs.Ids.{has_node}
use Rattle.ss_record.specs.declared.readings.Reading.{Reading}
use Rattle.ss_record.specs.declared.readings.Reading.TheVariants.{Item, Tombstone, Skipped}
use Rattle.ss_record.specs.Records.{reading}
use Rattle.ss_record.proofs.OfId.{reading_is_read}
use Rattle.std.specs.List.{cons_option}
use Rattle.ss_build.specs.declared.claims.Claim.{Claim}
use Rattle.ss_build.specs.Rows.{claim_at, claim_of, is_item, row_of, rows_of}
use Rattle.ss_build.proofs.Items.{In}
use Rattle.ss_build.specs.Built.{built, ids}
use Rattle.ss_device.specs.Device.{Dead, KnowsMirrorItems, dead_ids, row_ids}
use Rattle.ss_device.proofs.Deaths.{as_lookup, has_dead}
use Rattle.ss_device.proofs.Known.{built_ids, same_ids}
use Rattle.ss_device_file.specs.Files.{is_lost}
use Rattle.ss_device_file.specs.Joining.{HasRoots, loses, lost_of}
use Rattle.ss_text.proofs.Basics.{and_false, and_swap, same_text}

tree_ids : (all es : List Entry) → map (λ (n : PlacedItem). n.id) (map (placed all) es) ≡ map (λ (e : Entry). e.item.id) es
unfolding placed
tree_ids all [] = refl
tree_ids all (e ∷ es) = ap (λ t. e.item.id ∷ t) (tree_ids all es)

pub there_is : (x : List ℕ) (es : List Entry) → is_some (node_of x es) ≡ has x (node_ids (tree es))
unfolding node_ids tree entry_ids
there_is x es = sym (has_node x es) ∙ ap (has x) (sym (tree_ids es es))

pub dead_is : (x : List ℕ) (dead : Dead) → is_some (lookup (is_at (text_cmp x)) dead) ≡ has x (dead_ids dead)
dead_is x dead = ap is_some (as_lookup x dead) ∙ sym (has_dead x dead)

-- the same trees lose the same
pub same_lost : (b c t u : List PlacedItem) (dead : Dead) (x : List ℕ) → IsSame b c → IsSame t u → is_lost b t dead x ≡ is_lost c u dead x
same_lost b c t u dead x s r = ap₂ (λ p q. p && not (q || has x (dead_ids dead))) (same_ids x b c s) (same_ids x t u r)

pub find_same : (p q : List ℕ → Bool) (xs : List (List ℕ)) → ((x : List ℕ) → p x ≡ q x) → find p xs ≡ find q xs
find_same p q [] h = refl
find_same p q (x ∷ xs) h = ap₂ (λ b o. cond b (Some x) o) (h x) (find_same p q xs h)

find_none : (p : List ℕ → Bool) (xs : List (List ℕ)) (x : List ℕ) → find p xs ≡ None → has x xs ≡ true → p x ≡ false
find_none p [] x e h = absurd (false≢true (sym (has-nil x) ∙ h))
find_none p (y ∷ ys) x e h = go (p y) (bytes_eq x y) refl refl e (sym (has-cons x y ys) ∙ h) (find_none p ys x)
  where
    go : (b c : Bool) → p y ≡ b → bytes_eq x y ≡ c → cond b (Some y) (find p ys) ≡ None → (c || has x ys) ≡ true → (find p ys ≡ None → has x ys ≡ true → p x ≡ false) → p x ≡ false
    go true c q r f k ih = cc
    go false true q r f k ih = ap p (same_text x y r) ∙ q
    go false false q r f k ih = ih f k

-- ---- what a row loses

-- a claim is of a row
claims_rows : (sheets : List Sheet) (x : List ℕ) → has x (ids (filter_map claim_of (rows_of sheets))) ≡ true → has x (row_ids sheets) ≡ true
unfolding ids claim_of row_of
claims_rows [] x h = h
claims_rows (s ∷ sheets) x h = go (reading s.id s.payload) refl h (claims_rows sheets x)
  where
    rest : List Claim
    rest = filter_map claim_of (rows_of sheets)

    go : (d : Reading) → reading s.id s.payload ≡ d → has x (map (λ (e : Claim). e.item.id) (cons_option (claim_at s.modified d) (filter_map claim_of (rows_of sheets)))) ≡ true
        → (has x (map (λ (e : Claim). e.item.id) (filter_map claim_of (rows_of sheets))) ≡ true → has x (row_ids sheets) ≡ true) → has x (s.id ∷ row_ids sheets) ≡ true
    go (Item i p cs) q e ih =
        has-cons x s.id (row_ids sheets)
        ∙ pick (bytes_eq x i.id) (bytes_eq x s.id) (ap (bytes_eq x) ((reading_is_read s.id s.payload).same i p cs q)) (sym (has-cons x i.id (map (λ (c : Claim). c.item.id) (filter_map claim_of (rows_of sheets)))) ∙ e)
      where
        pick : (b c : Bool) → b ≡ c → (b || has x (map (λ (k : Claim). k.item.id) (filter_map claim_of (rows_of sheets)))) ≡ true → (c || has x (row_ids sheets)) ≡ true
        pick true c w f = ap (λ y. y || has x (row_ids sheets)) (sym w)
        pick false c w f = ap (λ y. y || has x (row_ids sheets)) (sym w) ∙ ih f
    go Tombstone q e ih = has-tail x s.id (row_ids sheets) (ih e)
    go Skipped q e ih = has-tail x s.id (row_ids sheets) (ih e)

-- what rows with distinct ids read as an item is told by the row of its id
row_there : (sheets : List Sheet) (x : Sheet) → In x sheets → has x.id (row_ids sheets) ≡ true
unfolding In
row_there [] x i = absurd i
row_there (s ∷ sheets) x (inl q) = ap (λ (w : Sheet). has w.id (s.id ∷ row_ids sheets)) q ∙ has-head s.id (row_ids sheets)
row_there (s ∷ sheets) x (inr i) = has-tail x.id s.id (row_ids sheets) (row_there sheets x i)

item_told : (sheets : List Sheet) → Apart (row_ids sheets) → (x : Sheet) → In x sheets → has x.id (ids (filter_map claim_of (rows_of sheets))) ≡ is_item (reading x.id x.payload)
unfolding In ids claim_of row_of
item_told [] a x i = absurd i
item_told (s ∷ sheets) a x (inl q) =
    ap (λ (w : Sheet). has w.id (ids (filter_map claim_of (rows_of (s ∷ sheets))))) q ∙ own (reading s.id s.payload) refl ∙ sym (ap (λ (w : Sheet). is_item (reading w.id w.payload)) q)
  where
    gone : has s.id (ids (filter_map claim_of (rows_of sheets))) ≡ false
    gone = false_from_ne_true _ (λ h. false≢true (sym (Apart-head s.id (row_ids sheets) a) ∙ claims_rows sheets s.id h))

    own : (d : Reading) → reading s.id s.payload ≡ d → has s.id (map (λ (e : Claim). e.item.id) (cons_option (claim_at s.modified d) (filter_map claim_of (rows_of sheets)))) ≡ is_item d
    own (Item i p cs) e = ap (λ z. has z (i.id ∷ ids (filter_map claim_of (rows_of sheets)))) (sym ((reading_is_read s.id s.payload).same i p cs e)) ∙ has-head i.id (ids (filter_map claim_of (rows_of sheets)))
    own Tombstone e = gone
    own Skipped e = gone
item_told (s ∷ sheets) a x (inr i) = later (item_told sheets (Apart-tail s.id (row_ids sheets) a) x i) (reading s.id s.payload) refl
  where
    apart : bytes_eq x.id s.id ≡ false
    apart = false_from_ne_true _ (λ e. false≢true (sym (Apart-head s.id (row_ids sheets) a) ∙ ap (λ z. has z (row_ids sheets)) (sym (same_text x.id s.id e)) ∙ row_there sheets x i))

    later : has x.id (ids (filter_map claim_of (rows_of sheets))) ≡ is_item (reading x.id x.payload) → (d : Reading) → reading s.id s.payload ≡ d → has x.id (map (λ (e : Claim). e.item.id) (cons_option (claim_at s.modified d) (filter_map claim_of (rows_of sheets)))) ≡ is_item (reading x.id x.payload)
    later rest (Item j p cs) e =
        has-cons x.id j.id (ids (filter_map claim_of (rows_of sheets)))
        ∙ ap (λ b. b || has x.id (ids (filter_map claim_of (rows_of sheets)))) (ap (bytes_eq x.id) ((reading_is_read s.id s.payload).same j p cs e) ∙ apart)
        ∙ rest
    later rest Tombstone e = rest
    later rest Skipped e = rest

-- the tree has `places` and the roots, so what it doesn't know was read of a row
lost_row : (rows : List Sheet) (t : List PlacedItem) (dead : Dead) → HasRoots t → Apart (row_ids rows) → (x : Sheet) → In x rows → is_lost (built (rows_of rows)) t dead x.id ≡ loses t dead x
unfolding loses
lost_row rows t dead roots_in a x i = by (has x.id (node_ids t)) (has x.id (dead_ids dead)) refl
  where
    inner : has x.id (node_ids t) ≡ false → has x.id (node_ids (built (rows_of rows))) ≡ is_item (reading x.id x.payload)
    inner out =
        let top : bytes_eq x.id places ≡ false = false_from_ne_true _ (λ e. false≢true (sym out ∙ ap (λ z. has z (node_ids t)) (same_text x.id places e) ∙ roots_in.top)) in
        let root : has x.id roots ≡ false = false_from_ne_true _ (λ e. false≢true (sym out ∙ roots_in.all x.id e)) in
        built_ids x.id rows
        ∙ ap₂ (λ b c. b || (has x.id (ids (filter_map claim_of (rows_of rows))) || c)) top root
        ∙ or_nothing (has x.id (ids (filter_map claim_of (rows_of rows))))
        ∙ item_told rows a x i
      where
        or_nothing : (b : Bool) → (false || (b || false)) ≡ b
        or_nothing true = refl
        or_nothing false = refl

    by : (b c : Bool) → has x.id (node_ids t) ≡ b → (has x.id (node_ids (built (rows_of rows))) && not (b || c)) ≡ (not (b || c) && is_item (reading x.id x.payload))
    by true c e = and_false (has x.id (node_ids (built (rows_of rows))))
    by false c e = ap (λ d. d && not c) (inner e) ∙ and_swap (is_item (reading x.id x.payload)) (not c)

find_rows : (p : List ℕ → Bool) (q : Sheet → Bool) (xs : List Sheet) → ((x : Sheet) → In x xs → p x.id ≡ q x) → find p (row_ids xs) ≡ option_map (λ (r : Sheet). r.id) (find q xs)
unfolding In
find_rows p q [] h = refl
find_rows p q (x ∷ xs) h = ap (λ b. cond b (Some x.id) (find p (row_ids xs))) (h x (inl refl)) ∙ by (q x) (find_rows p q xs (λ y i. h y (inr i)))
  where
    by : (b : Bool) → find p (row_ids xs) ≡ option_map (λ (r : Sheet). r.id) (find q xs) → cond b (Some x.id) (find p (row_ids xs)) ≡ option_map (λ (r : Sheet). r.id) (cond b (Some x) (find q xs))
    by true ih = refl
    by false ih = ih

pub lost_is : (rows : List Sheet) (t : List PlacedItem) (dead : Dead) → HasRoots t → Apart (row_ids rows) → lost_of rows t dead ≡ option_map (λ (r : Sheet). r.id) (find (loses t dead) rows)
unfolding lost_of
lost_is rows t dead roots_in a = find_rows (is_lost (built (rows_of rows)) t dead) (loses t dead) rows (lost_row rows t dead roots_in a)

pub known_is : (mirror : List Sheet) (es : List Entry) (dead : Dead) → HasRoots (tree es) → lost_of mirror (tree es) dead ≡ None → KnowsMirrorItems mirror es dead
unfolding lost_of
known_is mirror es dead roots_in none x h =
    by_kind (bytes_eq x places) (has x (ids (filter_map claim_of (rows_of mirror)))) (has x roots) refl refl refl (sym (built_ids x mirror) ∙ h)
  where
    first : (b : Bool) → has x (node_ids (tree es)) ≡ true → (has x (node_ids (tree es)) || b) ≡ true
    first b t = ap (λ a. a || b) t

    by_row : has x (row_ids mirror) ≡ true → (has x (node_ids (tree es)) || has x (dead_ids dead)) ≡ true
    by_row r = kept (has x (node_ids (tree es)) || has x (dead_ids dead)) (ap (λ a. a && not (has x (node_ids (tree es)) || has x (dead_ids dead))) (sym h) ∙ find_none (is_lost (built (rows_of mirror)) (tree es) dead) (row_ids mirror) x none r)
      where
        kept : (b : Bool) → (true && not b) ≡ false → b ≡ true
        kept true e = refl
        kept false e = absurd (false≢true (sym e))

    by_kind : (a b c : Bool) → bytes_eq x places ≡ a → has x (ids (filter_map claim_of (rows_of mirror))) ≡ b → has x roots ≡ c → (a || (b || c)) ≡ true → (has x (node_ids (tree es)) || has x (dead_ids dead)) ≡ true
    by_kind true b c p q r e = first (has x (dead_ids dead)) (ap (λ y. has y (node_ids (tree es))) (same_text x places p) ∙ roots_in.top)
    by_kind false true c p q r e = by_row (claims_rows mirror x q)
    by_kind false false true p q r e = first (has x (dead_ids dead)) (roots_in.all x r)
    by_kind false false false p q r e = absurd (false≢true e)
