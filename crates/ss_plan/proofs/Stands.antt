-- What agrees with an item, and who is gone.
use Rattle.std.proofs.Common.{◌≡◌, ◌≢◌, ◌⊎◌, ℕ, List, [], ◌∷◌, map, Bool, true, false, not, cond, ◌&&◌, inl, inr, refl}
use Rattle.std.proofs.Common.{sym, ap, ap₂, ◌∙◌, filter, find, bytes_eq, Some, None, option_map, unwrap_or}
use Rattle.std.proofs.lemmas.Bool.{and_parts, false≢true, false_from_ne_true}
use Rattle.ss_record.specs.declared.kinds.Kind.{Kind}
use Rattle.ss_record.specs.declared.kinds.Kind.TheVariants.{Bookmark, Folder, Livemark, Query, Separator}
use Rattle.ss_record.specs.declared.readings.Reading.{Reading}
use Rattle.ss_record.specs.declared.readings.Reading.TheVariants.{Item}
use Rattle.ss_record.specs.declared.readings.Sheet.{Sheet}
use Rattle.ss_record.specs.Ids.{has, places, roots, same_list}
use Rattle.ss_record.specs.Items.{is_fit}
use Rattle.ss_record.specs.Kinds.{is_folder, same_kind}
use Rattle.ss_record.specs.Records.{reading, record_of}
use Rattle.ss_tree.specs.Trees.{IsValidTree, IsUnder, PlacedItem, node, node_ids, places_node}
use Rattle.ss_build.specs.Rows.{is_item, readings, row_of, rows_of}
use Rattle.ss_build.specs.Stand.{agrees, row}
use Rattle.ss_record.proofs.IdLists.{bytes_eq-refl, has-head, has-by_id}
use Rattle.ss_record.proofs.Fit.{fit_reads_back}
use Rattle.ss_build.proofs.Items.{In, In-filter}
use Rattle.ss_build.proofs.Keyed.{key_found, key_in, has_key}
use Rattle.ss_build.proofs.Stand.{node_id, node_has, root_under}
use Rattle.ss_plan.specs.Plan.{Readings, gone, reading_at, record_at}
use Rattle.ss_tree.specs.Trees.{item_of}
use Rattle.ss_plan.specs.Written.{sheet}
use Rattle.ss_text.proofs.Basics.{some_same}

-- each item is fit: its record reads back as it
abbrev pub AreFit : List PlacedItem → Type 0
AreFit t = (x : List ℕ) (n : PlacedItem) → node x t ≡ Some n → is_fit (item_of n) ≡ true

-- ---- what agrees with an item

same_kind-refl : (k : Kind) → same_kind k k ≡ true
same_kind-refl Bookmark = refl
same_kind-refl Query = refl
same_kind-refl Folder = refl
same_kind-refl Livemark = refl
same_kind-refl Separator = refl

same_list-refl : (xs : List (List ℕ)) → same_list xs xs ≡ true
unfolding same_list
same_list-refl [] = refl
same_list-refl (x ∷ xs) = ap₂ (λ a b. a && b) (bytes_eq-refl x) (same_list-refl xs)

-- `places` stands under nothing
top_parent : (t : List PlacedItem) → IsValidTree t → (m : PlacedItem) (x : List ℕ) → node places t ≡ Some m → m.parent ≡ Some x → ⊥
unfolding places_node
top_parent t v m x q p = let same : places_node ≡ m = some_same (sym v.top_is ∙ q) in none (ap (λ k. k.parent) same ∙ p)
  where
    none : None ≡ Some x → ⊥
    none e = cc

-- an item that is no folder has no children
no_kids : (t : List PlacedItem) → IsValidTree t → (x : List ℕ) (n : PlacedItem) → node x t ≡ Some n → is_folder n.kind ≡ false → n.children ≡ []
unfolding IsUnder
no_kids t v x n q f = go n.children refl
  where
    go : (cs : List (List ℕ)) → n.children ≡ cs → n.children ≡ []
    go [] e = e
    go (c ∷ cs) e =
        let u = (v.stands x n q c).0 (ap (has c) e ∙ has-head c cs) in
        let w = v.folder c u.0 u.1 (λ s. top_parent t v u.0 x (ap (λ y. node y t) (sym s) ∙ u.1) u.2) in
        let same : x ≡ w.0 = some_same (sym u.2 ∙ w.1) in
        let there : n ≡ w.2 = some_same (sym q ∙ (ap (λ y. node y t) same ∙ w.3)) in
        absurd (false≢true (sym f ∙ (ap (λ m. is_folder m.kind) there ∙ w.4)))

own_agrees : (n : PlacedItem) (y : List ℕ) → n.parent ≡ Some y → agrees n (Item (item_of n) (Some y) n.children) ≡ true
own_agrees n y p =
    ap₂ (λ a b. a && b) (ap₂ (λ a b. a && b) (ap₂ (λ a b. a && b) (same_kind-refl n.kind) (bytes_eq-refl n.content)) (ap (λ o. unwrap_or (option_map (bytes_eq y) o) false) p ∙ bytes_eq-refl y)) (same_list-refl n.children)

-- the record of an item agrees with it
pub record_agrees : (t : List PlacedItem) → IsValidTree t → AreFit t → (x : List ℕ) (n : PlacedItem) → x ≢ places → node x t ≡ Some n → agrees n (reading x (record_at n)) ≡ true
unfolding record_at
record_agrees t v fit x n ne q =
    let id : n.id ≡ x = node_id t x n q in
    let f = v.folder x n q ne in
    let back = fit_reads_back (item_of n) (fit x n q) (λ e. ne (sym id ∙ e)) f.0 n.children in
    ap (agrees n)
    (ap₂ (λ i o. reading i (record_of (item_of n) (unwrap_or o []) n.children)) (sym id) f.1
    ∙ (back ∙ ap (Item (item_of n) (Some f.0)) (kids (is_folder n.kind) refl)))
    ∙ own_agrees n f.0 f.1
  where
    kids : (b : Bool) → is_folder n.kind ≡ b → cond (is_folder n.kind) n.children [] ≡ n.children
    kids true e = ap (λ b. cond b n.children []) e
    kids false e = ap (λ b. cond b n.children []) e ∙ sym (no_kids t v x n q e)

-- ---- sheets, their rows and their readings

pub reads : Sheet → Reading
reads s = reading s.id s.payload

pub reads_is : (s : Sheet) → reads s ≡ reading s.id s.payload
unfolding reads
reads_is s = refl

pub row_reading : (s : Sheet) → (row_of s).reading ≡ reads s
unfolding row_of reads
row_reading s = refl

pub row_is : (x : List ℕ) (sheets : List Sheet) → row x (rows_of sheets) ≡ option_map row_of (sheet x sheets)
unfolding row row_of sheet
row_is x [] = refl
row_is x (s ∷ ss) = by (bytes_eq x s.id) (row_is x ss)
  where
    by : (b : Bool) → find (λ r. bytes_eq x r.id) (map row_of ss) ≡ option_map row_of (find (λ w. bytes_eq x w.id) ss)
        → cond b (Some (row_of s)) (find (λ r. bytes_eq x r.id) (map row_of ss)) ≡ option_map row_of (cond b (Some s) (find (λ w. bytes_eq x w.id) ss))
    by true e = refl
    by false e = e

pub reading_is : (x : List ℕ) (sheets : List Sheet) → reading_at x (readings (rows_of sheets)) ≡ option_map reads (sheet x sheets)
unfolding reading_at row_of sheet reads
reading_is x [] = refl
reading_is x (s ∷ ss) = by (bytes_eq x s.id) (reading_is x ss)
  where
    by : (b : Bool) → option_map (λ r. r.1) (find (λ r. bytes_eq x r.0) (readings (rows_of ss))) ≡ option_map reads (find (λ w. bytes_eq x w.id) ss)
        → option_map (λ r. r.1) (cond b (Some (s.id, reading s.id s.payload)) (find (λ r. bytes_eq x r.0) (readings (rows_of ss)))) ≡ option_map reads (cond b (Some s) (find (λ w. bytes_eq x w.id) ss))
    by true e = refl
    by false e = e

-- a row that is found is read
pub read_found : (x : List ℕ) (sheets : List Sheet) (s : Sheet) → sheet x sheets ≡ Some s → In (x, reads s) (readings (rows_of sheets))
unfolding sheet In row_of reads
read_found x sheets s q = let f = key_found (λ (w : Sheet). w.id) sheets x s q in there sheets f.0 f.1
  where
    there : (ws : List Sheet) → In s ws → s.id ≡ x → In (x, reads s) (readings (rows_of ws))
    there [] i e = i
    there (w ∷ ws) (inl k) e = inl (ap₂ (λ y v. (y, reading v.id v.payload)) (sym e ∙ ap (λ v. v.id) k) k)
    there (w ∷ ws) (inr i) e = inr (there ws i e)

-- ---- the ids that are gone

filter_in : {X : Type 0} (p : X → Bool) (xs : List X) (x : X) → In x xs → p x ≡ true → In x (filter p xs)
unfolding In
filter_in p [] x i h = absurd i
filter_in {X} p (y ∷ ys) x i h = go (p y) refl i (λ j. filter_in p ys x j h)
  where
    go : (b : Bool) → p y ≡ b → (x ≡ y) ⊎ In x ys → (In x ys → In x (filter p ys)) → In x (cond b (y ∷ filter p ys) (filter p ys))
    go true e (inl k) more = inl k
    go true e (inr j) more = inr (more j)
    go false e (inl k) more = absurd (false≢true (sym e ∙ (ap p (sym k) ∙ h)))
    go false e (inr j) more = more j

-- what is gone isn't in the tree
pub gone_out : (t : List PlacedItem) (rs : Readings) (x : List ℕ) → has x (gone t rs) ≡ true → has x (node_ids t) ≡ false
unfolding gone
gone_out t rs x h =
    let p : (List ℕ × Reading) → Bool = λ r. is_item r.1 && not (has r.0 (node_ids t)) in
    let y = has_key (λ (r : List ℕ × Reading). r.0) (filter p rs) x (sym (has-by_id x (map (λ r. r.0) (filter p rs))) ∙ h) in
    let f = key_found (λ (r : List ℕ × Reading). r.0) (filter p rs) x y.0 y.1 in
    let i = In-filter p rs y.0 f.0 in
    let a = and_parts (is_item y.0.1) (not (has y.0.0 (node_ids t))) i.1 in
    ap (λ w. has w (node_ids t)) (sym f.1) ∙ no (has y.0.0 (node_ids t)) a.1
  where
    no : (b : Bool) → not b ≡ true → b ≡ false
    no true e = sym e
    no false e = refl

-- each item that isn't in the tree is gone
pub gone_to : (t : List PlacedItem) (rs : Readings) (r : List ℕ × Reading) → In r rs → is_item r.1 ≡ true → has r.0 (node_ids t) ≡ false → has r.0 (gone t rs) ≡ true
unfolding gone
gone_to t rs r i e f =
    let p : (List ℕ × Reading) → Bool = λ w. is_item w.1 && not (has w.0 (node_ids t)) in
    has-by_id r.0 (map (λ w. w.0) (filter p rs)) ∙ key_in (λ (w : List ℕ × Reading). w.0) (filter p rs) r (filter_in p rs r i (ap₂ (λ a b. a && not b) e f))

pub not_gone : (t : List PlacedItem) (rs : Readings) (x : List ℕ) → has x (node_ids t) ≡ true → has x (gone t rs) ≡ false
not_gone t rs x h = false_from_ne_true (has x (gone t rs)) (λ g. false≢true (sym (gone_out t rs x g) ∙ h))

-- what isn't in a valid tree is neither `places` nor a root
pub out_of : (t : List PlacedItem) (x : List ℕ) → IsValidTree t → has x (node_ids t) ≡ false → (x ≢ places) × (has x roots ≡ false)
out_of t x v h = (
  λ e. false≢true (sym h ∙ (ap (λ w. has w (node_ids t)) e ∙ node_has t places places_node v.top_is)),
  false_from_ne_true (has x roots) (λ r. let u = root_under t v x r in false≢true (sym h ∙ node_has t x u.0 u.1)),
)
