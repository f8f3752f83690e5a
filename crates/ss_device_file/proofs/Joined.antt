-- A device of the lines' parts.
use Rattle.std.proofs.Common.{◌≡◌, ℕ, ◌==◌, ◌||◌, Bool, true, false, cond, List, [], ◌∷◌, ◌++◌, length, map, filter}
use Rattle.std.proofs.Common.{filter_map, append_assoc, append-nil, option_map, unwrap_or, None, Result, Ok, Err, refl}
use Rattle.std.proofs.Common.{sym, ap, ap₂, subst, ◌∙◌, Less, inl, inr}
use Rattle.std.specs.List.{AllByRecursion}
use Rattle.std.specs.List.Sorted.{IsStrictlySortedBy}
use Rattle.std.specs.Result.{IfOk, IfErr}
use Rattle.ss_text.specs.Texts.{text_cmp}
use Rattle.ss_record.specs.declared.readings.Sheet.{Sheet}
use Rattle.ss_record.specs.Ids.{has, places, roots}
use Rattle.ss_record.proofs.IdLists.{bytes_eq-refl, has-head, has-tail}
use Rattle.ss_tree.specs.Trees.{IsSame, PlacedItem, node_ids, places_node}
use Rattle.ss_tree.specs.declared.entries.Entry.{Entry}
use Rattle.ss_tree.specs.Entries.{tree}
use Rattle.ss_build.specs.Rows.{rows_of}
use Rattle.ss_build.specs.Built.{built}
use Rattle.ss_device.specs.Device.{AreById, Dead, DeviceView, row_ids}
use Rattle.ss_device.proofs.Known.{same_ids}
use Rattle.ss_device_file.specs.declared.lines.Version.{Version}
use Rattle.ss_device_file.specs.declared.lines.Version.TheVariants.{First, Second}
use Rattle.ss_device_file.specs.declared.lines.ItemLine.{ItemLine}
use Rattle.ss_device_file.specs.declared.lines.Line.{Line}
use Rattle.ss_device_file.specs.declared.lines.Line.TheVariants.{Head, Synced, Row, Item, Dead as Died, End}
use Rattle.ss_device_file.specs.declared.faults.DeviceFault.{DeviceFault}
use Rattle.ss_device_file.specs.declared.faults.DeviceFault.TheVariants.{BadLine, BadTree, Memory}
use Rattle.ss_device_file.specs.Lines.{AreLines, ComeAfter, version_in}
use Rattle.ss_device_file.specs.Places.{AreItemLines, ArePlaced, IsWhole, PlacedAfter, item_ids, tree_of}
use Rattle.ss_device_file.specs.Files.{IsFaultOfPlace, TellsDevice, IsUnseatedBy, deaths_in, is_exact, is_lost, item_in}
use Rattle.ss_device_file.specs.Files.{items_in, kept_rows, lost_in, mirror_in, rows_in, stamp_in, synced_in}
use Rattle.ss_device_file.specs.Joining.{HasRoots, IsLostBy, lost_of, synced_with}
use Rattle.ss_device_file.proofs.Found.{find_same, same_lost}
use Rattle.ss_device_file.proofs.Planted.{all_come, come_known}
use Rattle.ss_device_file.specs.Growing.{line_of}
use Rattle.ss_device_file.specs.Places.{placed_of}
use Rattle.ss_device_file.proofs.Sound.{IsSound, kids_told, sound_more, sound_none}

-- ---- the rows that are kept

above_kept : (x : List ℕ) (rows : List Sheet) → AllByRecursion (λ z. text_cmp x z ≡ Less) (row_ids rows) → AllByRecursion (λ z. text_cmp x z ≡ Less) (row_ids (filter is_exact rows))
above_kept x [] a = tt
above_kept x (r ∷ rs) a = go (is_exact r) (above_kept x rs a.1)
  where
    go : (b : Bool) → AllByRecursion (λ z. text_cmp x z ≡ Less) (row_ids (filter is_exact rs)) → AllByRecursion (λ z. text_cmp x z ≡ Less) (row_ids (cond b (r ∷ filter is_exact rs) (filter is_exact rs)))
    go true ih = (a.0, ih)
    go false ih = ih

filter_by_id : (rows : List Sheet) → AreById (row_ids rows) → AreById (row_ids (filter is_exact rows))
unfolding AreById IsStrictlySortedBy
filter_by_id [] h = tt
filter_by_id (r ∷ rs) h = go (is_exact r) (filter_by_id rs h.1)
  where
    go : (b : Bool) → IsStrictlySortedBy text_cmp (row_ids (filter is_exact rs)) → IsStrictlySortedBy text_cmp (row_ids (cond b (r ∷ filter is_exact rs) (filter is_exact rs)))
    go true ih = (above_kept r.id rs h.0, ih)
    go false ih = ih

pub kept_by_id : (v : Version) (rows : List Sheet) → AreById (row_ids rows) → AreById (row_ids (kept_rows v rows))
kept_by_id First rows h = filter_by_id rows h
kept_by_id Second rows h = h

-- ---- the items are in form

formed : (front ls : List Line) → ComeAfter front ls → AreItemLines (filter_map item_in ls)
formed front [] h = tt
formed front (Head v ∷ ls) h = formed (front ++ Head v ∷ []) ls h.2
formed front (Synced t ∷ ls) h = formed (front ++ Synced t ∷ []) ls h.2
formed front (Row r ∷ ls) h = formed (front ++ Row r ∷ []) ls h.2
formed front (Item i ∷ ls) h = (h.1.form, formed (front ++ Item i ∷ []) ls h.2)
formed front (Died x t ∷ ls) h = formed (front ++ Died x t ∷ []) ls h.2
formed front (End ∷ ls) h = formed (front ++ End ∷ []) ls h.2

pub items_formed : (ls : List Line) → AreLines ls → AreItemLines (items_in ls)
unfolding AreLines items_in
items_formed ls h = formed [] ls h

-- ---- the roots are there

sound_on : (front is : List ItemLine) → IsSound front → PlacedAfter front is → AreItemLines is → IsSound (front ++ is)
sound_on front [] s p f = subst IsSound (sym (append-nil front)) s
sound_on front (i ∷ is) s p f = subst IsSound (append_assoc front (i ∷ []) is) (sound_on (front ++ i ∷ []) is (sound_more front i s p.0 f.0) p.1 f.1)

all_sound : (is : List ItemLine) → IsWhole is → AreItemLines is → IsSound is
unfolding ArePlaced
all_sound is w f = sound_on [] is sound_none w.placed f

told_roots : (is : List ItemLine) → kids_told is places ≡ roots
unfolding kids_told
told_roots is = ap (λ b. cond b roots (unwrap_or (option_map (λ (h : ItemLine). h.children) (line_of places is)) [])) (bytes_eq-refl places)

told_ids : (is : List ItemLine) → node_ids (tree_of is) ≡ places ∷ item_ids is
unfolding node_ids item_ids tree_of places_node places
told_ids is = ap (λ xs. places ∷ xs) (go is)
  where
    go : (js : List ItemLine) → map (λ (n : PlacedItem). n.id) (map placed_of js) ≡ map (λ (i : ItemLine). i.item.id) js
    go [] = refl
    go (j ∷ js) = ap (λ xs. j.item.id ∷ xs) (go js)

pub whole_roots : (is : List ItemLine) → IsWhole is → AreItemLines is → HasRoots (tree_of is)
whole_roots is w f = record {
  top = ap (has places) (told_ids is) ∙ has-head places (item_ids is);
  all = λ r h. ap (has r) (told_ids is) ∙ has-tail r places (item_ids is)
      (come_known is places r (ap (has r) (all_come is (all_sound is w f) w.left places (ap (λ b. b || has places (item_ids is)) (bytes_eq-refl places)) ∙ told_roots is) ∙ h));
}

pub roots_same : (t u : List PlacedItem) → IsSame t u → HasRoots u → HasRoots t
roots_same t u s h = record { top = same_ids places t u s ∙ h.top; all = λ r k. same_ids r t u s ∙ h.all r k }

-- ---- what is lost

same_self : (t : List PlacedItem) → IsSame t t
same_self t x = refl

pub lost_told : (ls : List Line) (es : List Entry) → IsSame (tree es) (tree_of (items_in ls)) → lost_of (kept_rows (version_in ls) (rows_in ls)) (tree es) (deaths_in ls) ≡ lost_in ls
unfolding lost_of lost_in mirror_in
lost_told ls es s = let rows : List Sheet = kept_rows (version_in ls) (rows_in ls) in
    find_same (is_lost (built (rows_of rows)) (tree es) (deaths_in ls)) (is_lost (built (rows_of rows)) (tree_of (items_in ls)) (deaths_in ls)) (row_ids rows)
    (λ x. same_lost (built (rows_of rows)) (built (rows_of rows)) (tree es) (tree_of (items_in ls)) (deaths_in ls) x (same_self (built (rows_of rows))) s)

-- ---- the answers

abbrev pub joined : Version → List Sheet → Dead → ℕ → List Entry → DeviceView
joined v rows dead time es = record { tree = es; dead = dead; mirror = kept_rows v rows; stamp = synced_with v rows time }

abbrev pub joined_of : List Line → List Entry → DeviceView
joined_of ls es = joined (version_in ls) (rows_in ls) (deaths_in ls) (stamp_in ls) es

told_one : (ls : List Line) (es : List Entry) → IsWhole (items_in ls) → IsSame (tree es) (tree_of (items_in ls)) → lost_of (kept_rows (version_in ls) (rows_in ls)) (tree es) (deaths_in ls) ≡ None → TellsDevice ls (joined_of ls es)
unfolding mirror_in synced_in
told_one ls es w s f = record { whole = w; found = sym (lost_told ls es s) ∙ f; tells = record { items = s; dead = refl; mirror = refl; stamp = refl } }

pub told : (r : Result DeviceView DeviceFault) (ls : List Line) (es : List Entry) → IsWhole (items_in ls) → IsSame (tree es) (tree_of (items_in ls)) → IfOk r (λ d. d ≡ joined_of ls es)
    → IfOk r (λ d. lost_of (kept_rows (version_in ls) (rows_in ls)) (tree es) (deaths_in ls) ≡ None) → IfOk r (λ d. TellsDevice ls d)
told (Ok d) ls es w s e f = subst (TellsDevice ls) (sym e) (told_one ls es w s f)
told (Err y) ls es w s e f = tt

pub untold : (r : Result DeviceView DeviceFault) (ls : List Line) (es : List Entry) → IsWhole (items_in ls) → IsSame (tree es) (tree_of (items_in ls))
    → IfErr r (λ fault. IsLostBy (lost_of (kept_rows (version_in ls) (rows_in ls)) (tree es) (deaths_in ls)) fault) → IfErr r (λ fault. IsUnseatedBy ls fault)
untold (Ok d) ls es w s h = tt
untold (Err (BadLine n)) ls es w s h = h
untold (Err (BadTree id)) ls es w s h = inr (inr (w, sym (lost_told ls es s) ∙ h))
untold (Err Memory) ls es w s h = tt

pub misplaced : (ls : List Line) (fault : DeviceFault) → IsFaultOfPlace (items_in ls) fault → IsUnseatedBy ls fault
misplaced ls (BadLine n) h = h
misplaced ls (BadTree id) (inl a) = inl a
misplaced ls (BadTree id) (inr s) = inr (inl s)
misplaced ls Memory h = tt

-- parts are those of the lines
pub record ArePartsOf (ls : List Line) (v : Version) (rows : List Sheet) (dead : Dead) (time : ℕ) : Type 0 where
  pub version : v ≡ version_in ls
  pub rows_are : rows ≡ rows_in ls
  pub dead_are : dead ≡ deaths_in ls
  pub time_is : time ≡ stamp_in ls

lost_by : (ls : List Line) (v : Version) (rows : List Sheet) (dead : Dead) (time : ℕ) (t : List PlacedItem) → ArePartsOf ls v rows dead time
    → lost_of (kept_rows v rows) t dead ≡ lost_of (kept_rows (version_in ls) (rows_in ls)) t (deaths_in ls)
lost_by ls v rows dead time t a = ap₂ (λ m d. lost_of m t d) (ap₂ kept_rows a.version a.rows_are) a.dead_are

joined_by : (ls : List Line) (v : Version) (rows : List Sheet) (dead : Dead) (time : ℕ) (es : List Entry) → ArePartsOf ls v rows dead time
    → joined v rows dead time es ≡ joined (version_in ls) (rows_in ls) (deaths_in ls) (stamp_in ls) es
joined_by ls v rows dead time es a = ap₂ (λ w rs. joined w rs dead time es) a.version a.rows_are ∙ ap₂ (λ d s. joined (version_in ls) (rows_in ls) d s es) a.dead_are a.time_is

pub told_by : (r : Result DeviceView DeviceFault) (ls : List Line) (v : Version) (rows : List Sheet) (dead : Dead) (time : ℕ) (es : List Entry) → ArePartsOf ls v rows dead time
    → IsWhole (items_in ls) → IsSame (tree es) (tree_of (items_in ls)) → IfOk r (λ d. d ≡ joined v rows dead time es)
    → IfOk r (λ d. lost_of (kept_rows v rows) (tree es) dead ≡ None) → IfOk r (λ d. TellsDevice ls d)
told_by (Ok d) ls v rows dead time es a w s e f = told (Ok d) ls es w s (e ∙ joined_by ls v rows dead time es a) (sym (lost_by ls v rows dead time (tree es) a) ∙ f)
told_by (Err y) ls v rows dead time es a w s e f = tt

pub untold_by : (r : Result DeviceView DeviceFault) (ls : List Line) (v : Version) (rows : List Sheet) (dead : Dead) (time : ℕ) (es : List Entry) → ArePartsOf ls v rows dead time
    → IsWhole (items_in ls) → IsSame (tree es) (tree_of (items_in ls)) → IfErr r (λ fault. IsLostBy (lost_of (kept_rows v rows) (tree es) dead) fault) → IfErr r (λ fault. IsUnseatedBy ls fault)
untold_by r ls v rows dead time es a w s h = untold r ls es w s (subst (λ o. IfErr r (λ fault. IsLostBy o fault)) (lost_by ls v rows dead time (tree es) a) h)

-- the time of the last sync
pub synced_is : (v : Version) (rows kept : List Sheet) (count len time stamp : ℕ) → kept ≡ kept_rows v rows → count ≡ length rows → len ≡ length kept
    → stamp ≡ cond (len == count) time 0 → stamp ≡ synced_with v rows time
synced_is v rows kept count len time stamp k c l e = e ∙ ap₂ (λ a b. cond (a == b) time 0) (l ∙ ap length k) c
