-- What is written for a device is a file of it.
use Rattle.std.proofs.Common.{◌≡◌, ℕ, ◌≤◌, ◌==◌, ◌&&◌, ◌||◌, not, nat_lt, Bool, true, false, cond, List, [], ◌∷◌, ◌++◌}
use Rattle.std.proofs.Common.{length, map, filter_map, find, codes, decimal, append_assoc, append-nil, refl, sym, ap}
use Rattle.std.proofs.Common.{ap₂, subst, ◌∙◌, arith, Option, Some, None, option_map, unwrap_or, Less, inl, inr}
use Rattle.std.specs.List.{AllByRecursion, cons_option, flat_map, list_all}
use Rattle.std.specs.List.Sorted.{IsStrictlySortedBy}
use Rattle.std.specs.Ordering.{is_lt}
use Rattle.std.specs.Str.{IsUtf8}
use Rattle.std.proofs.lemmas.Bool.{eqb-true, ltb-true, eq-eqb}
use Rattle.std.proofs.lemmas.Fmt.{IsAscii-decimal}
use Rattle.std.proofs.lemmas.Grind.{flat_map-append}
use Rattle.std.proofs.lemmas.Str.{IsUtf8-append, IsUtf8-from_ascii}
use Rattle.json.proofs.Printed.Utf8.{IsUtf8-quoted}
use Rattle.ss_text.specs.Texts.{text_cmp}
use Rattle.ss_text.specs.Time.{last_stamp, stamp_text}
use Rattle.ss_text.proofs.NameLemmas.{IsAscii-from_list_all, IsUtf8-from_id}
use Rattle.ss_record.specs.declared.readings.Sheet.{Sheet}
use Rattle.ss_record.specs.Ids.{before, has}
use Rattle.ss_tree.specs.declared.entries.Entry.{Entry}
use Rattle.ss_tree.specs.Trees.{node, node_ids}
use Rattle.ss_tree.specs.Entries.{IsTree, entry, preorder, tree}
use Rattle.ss_tree.proofs.Valid.{In}
use Rattle.ss_build.specs.Rows.{rows_of}
use Rattle.ss_build.specs.Built.{built}
use Rattle.ss_device.specs.Device.{AreById, Dead, DeviceView, dead_ids, row_ids}
use Rattle.ss_device.specs.Forms.{IsDeath, HasDeviceForm, IsRow}
use Rattle.ss_device.specs.Writing.{dead_line, device_line, device_text, end_line, item_line, node_line, node_lines}
use Rattle.ss_device.specs.Writing.{record_at, row_line, stamp_line}
use Rattle.ss_device.proofs.Known.{same_ids}
use Rattle.ss_device_file.specs.declared.lines.Version.TheVariants.{Second}
use Rattle.ss_device_file.specs.declared.lines.ItemLine.{ItemLine}
use Rattle.ss_device_file.specs.declared.lines.Line.{Line}
use Rattle.ss_device_file.specs.declared.lines.Line.TheVariants.{Head, Synced, Row, Item, Dead as Died, End}
use Rattle.ss_device_file.specs.Lines.{AreLines, ComeAfter, IsItemLine, IsLine, follows, is_end, is_ended, last_of}
use Rattle.ss_device_file.specs.Lines.{line_text, may_come, record_in, suits, text_of}
use Rattle.ss_device_file.specs.Places.{IsWhole, tree_of}
use Rattle.ss_device_file.specs.Files.{IsFileOf, death_in, deaths_in, is_lost, item_in, items_in, lost_in, mirror_in}
use Rattle.ss_device_file.specs.Files.{row_in, rows_in, synced_in}
use Rattle.ss_device_file.proofs.Ordered.{Chain, last_is}
use Rattle.ss_device_file.proofs.Preorder.{all_placed, inner, inner_below, inner_live, node_item, node_items, order_is}
use Rattle.ss_device_file.proofs.Standing.{item_formed, line_is, record_formed, record_same, same_items, there}
use Rattle.ss_device_file.proofs.Unique.{Each}
use Rattle.ss_text.proofs.StampTexts.{stamp_is_utf8}

-- ---- the lines of a device

abbrev pub dead_of : List ℕ × ℕ → Line
dead_of d = Died d.0 d.1

abbrev pub items_of : DeviceView → List ItemLine
items_of d = node_items d.tree (inner d.tree)

abbrev pub lines_of : DeviceView → List Line
lines_of d = Head Second ∷ Synced d.stamp ∷ (map Row d.mirror ++ (map Item (items_of d) ++ (map dead_of d.dead ++ End ∷ [])))

-- ---- their text

flat_same : {X : Type 0} (f : X → Line) (g : X → List ℕ) → ((x : X) → line_text (f x) ≡ g x) → (xs : List X) → flat_map line_text (map f xs) ≡ flat_map g xs
flat_same f g same [] = refl
flat_same f g same (x ∷ xs) = ap₂ (λ a b. a ++ b) (same x) (flat_same f g same xs)

items_text : (es : List Entry) (ks : List ℕ) → ((k : ℕ) → In k ks → line_text (Item (node_item es k)) ≡ node_line es k) → flat_map line_text (map Item (node_items es ks)) ≡ node_lines es ks
unfolding In
items_text es [] same = refl
items_text es (k ∷ ks) same = ap₂ (λ a b. a ++ b) (same k (inl refl)) (items_text es ks (λ j i. same j (inr i)))

module _ (es : List Entry) (t : IsTree es) where
  node_text : (k : ℕ) → In k (inner es) → line_text (Item (node_item es k)) ≡ node_line es k
  unfolding node_line
  node_text k i =
      let ne = inner_below es t k i in
      let h = there es t k ne (inner_live es t k i) in
      let time : (node_item es k).time ≡ h.item.time = ap (λ (j : ItemLine). j.time) (line_is es t k h) in
      ap₂ item_line time (record_same es t k h)
      ∙ sym (ap (λ b. cond b [] (unwrap_or (option_map (λ (e : Entry). item_line e.time (record_at es e)) (entry k es)) [])) (off (k == 0) refl)
      ∙ ap (λ o. unwrap_or (option_map (λ (e : Entry). item_line e.time (record_at es e)) o) []) h.at)
    where
      off : (b : Bool) → (k == 0) ≡ b → b ≡ false
      off false q = refl
      off true q = absurd (inner_below es t k i (eqb-true k 0 q))

  all_nodes : flat_map line_text (map Item (node_items es (inner es))) ≡ node_lines es (preorder es (length es) 0)
  unfolding node_line
  all_nodes = items_text es (inner es) node_text ∙ sym (ap (node_lines es) (order_is es t))

shape : (a b c d e f : List ℕ) → a ++ (b ++ (c ++ (d ++ (e ++ f)))) ≡ a ++ b ++ c ++ d ++ e ++ f
shape a b c d e f = simp append_assoc

pub device_text_is : (d : DeviceView) → IsTree d.tree → device_text d ≡ text_of (lines_of d)
unfolding device_text
device_text_is d t =
    let ends : flat_map line_text (map dead_of d.dead ++ End ∷ []) ≡ flat_map dead_line d.dead ++ end_line =
    flat_map-append line_text (map dead_of d.dead) (End ∷ []) ∙ ap₂ (λ a b. a ++ b) (flat_same dead_of dead_line (λ x. refl) d.dead) (append-nil end_line) in
    let items : flat_map line_text (map Item (items_of d) ++ (map dead_of d.dead ++ End ∷ [])) ≡ node_lines d.tree (preorder d.tree (length d.tree) 0) ++ (flat_map dead_line d.dead ++ end_line) =
    flat_map-append line_text (map Item (items_of d)) (map dead_of d.dead ++ End ∷ []) ∙ ap₂ (λ a b. a ++ b) (all_nodes d.tree t) ends in
    let rows : flat_map line_text (map Row d.mirror ++ (map Item (items_of d) ++ (map dead_of d.dead ++ End ∷ []))) ≡ flat_map row_line d.mirror ++ (node_lines d.tree (preorder d.tree (length d.tree) 0) ++ (flat_map dead_line d.dead ++ end_line)) =
    flat_map-append line_text (map Row d.mirror) (map Item (items_of d) ++ (map dead_of d.dead ++ End ∷ [])) ∙ ap₂ (λ a b. a ++ b) (flat_same Row row_line (λ x. refl) d.mirror) items in
    sym (ap (λ r. device_line ++ (stamp_line d.stamp ++ r)) rows ∙ shape device_line (stamp_line d.stamp) (flat_map row_line d.mirror) (node_lines d.tree (preorder d.tree (length d.tree) 0)) (flat_map dead_line d.dead) end_line)

-- ---- each follows the one in front

abbrev FirstRow : Line → List Sheet → Type 0
FirstRow prev [] = Unit {0}
FirstRow prev (r ∷ rs) = follows (Some prev) (Row r) ≡ true

next_row : (r : Sheet) (rs : List Sheet) → AllByRecursion (λ z. text_cmp r.id z ≡ Less) (row_ids rs) → FirstRow (Row r) rs
unfolding before
next_row r [] a = tt
next_row r (s ∷ ss) a = ap is_lt a.0

rows_chain : (prev : Line) (rows : List Sheet) (more : List Line) → AreById (row_ids rows) → FirstRow prev rows → ((q : Sheet) → Chain (Some (Row q)) more) → Chain (Some prev) more → Chain (Some prev) (map Row rows ++ more)
unfolding AreById IsStrictlySortedBy
rows_chain prev [] more s f after c = c
rows_chain prev (r ∷ rs) more s f after c = (f, rows_chain (Row r) rs more s.1 (next_row r rs s.0) after (after r))

items_chain : (prev : Line) (is : List ItemLine) (more : List Line) → ((i : ItemLine) → follows (Some prev) (Item i) ≡ true) → ((i : ItemLine) → Chain (Some (Item i)) more) → Chain (Some prev) more → Chain (Some prev) (map Item is ++ more)
items_chain prev [] more f after c = c
items_chain prev (i ∷ is) more f after c = (f i, items_chain (Item i) is more (λ j. refl) after (after i))

abbrev FirstDeath : Line → Dead → Type 0
FirstDeath prev [] = Unit {0}
FirstDeath prev (d ∷ ds) = follows (Some prev) (dead_of d) ≡ true

next_death : (d : List ℕ × ℕ) (ds : Dead) → AllByRecursion (λ z. text_cmp d.0 z ≡ Less) (dead_ids ds) → FirstDeath (dead_of d) ds
unfolding before
next_death d [] a = tt
next_death d (e ∷ es) a = ap is_lt a.0

deaths_chain : (prev : Line) (dead : Dead) → AreById (dead_ids dead) → FirstDeath prev dead → follows (Some prev) End ≡ true → Chain (Some prev) (map dead_of dead ++ End ∷ [])
unfolding AreById IsStrictlySortedBy
deaths_chain prev [] s f e = (e, tt)
deaths_chain prev (d ∷ ds) s f e = (f, deaths_chain (dead_of d) ds s.1 (next_death d ds s.0) refl)

any_death : (prev : Line) → ((d : List ℕ × ℕ) → follows (Some prev) (dead_of d) ≡ true) → (dead : Dead) → FirstDeath prev dead
any_death prev f [] = tt
any_death prev f (d ∷ ds) = f d

any_row : (prev : Line) → ((r : Sheet) → follows (Some prev) (Row r) ≡ true) → (rows : List Sheet) → FirstRow prev rows
any_row prev f [] = tt
any_row prev f (r ∷ rs) = f r

module _ (d : DeviceView) (mirror : AreById (row_ids d.mirror)) (dead : AreById (dead_ids d.dead)) where
  ends_on : (prev : Line) → ((x : List ℕ × ℕ) → follows (Some prev) (dead_of x) ≡ true) → follows (Some prev) End ≡ true → Chain (Some prev) (map dead_of d.dead ++ End ∷ [])
  ends_on prev f e = deaths_chain prev d.dead dead (any_death prev f d.dead) e

  items_on : (prev : Line) → ((i : ItemLine) → follows (Some prev) (Item i) ≡ true) → ((x : List ℕ × ℕ) → follows (Some prev) (dead_of x) ≡ true) → follows (Some prev) End ≡ true
      → Chain (Some prev) (map Item (items_of d) ++ (map dead_of d.dead ++ End ∷ []))
  items_on prev f g e = items_chain prev (items_of d) (map dead_of d.dead ++ End ∷ []) f (λ i. ends_on (Item i) (λ x. refl) refl) (ends_on prev g e)

  all_chain : Chain (Some (Head Second)) (Synced d.stamp ∷ (map Row d.mirror ++ (map Item (items_of d) ++ (map dead_of d.dead ++ End ∷ []))))
  all_chain = (
    refl,
    rows_chain (Synced d.stamp) d.mirror (map Item (items_of d) ++ (map dead_of d.dead ++ End ∷ [])) mirror (any_row (Synced d.stamp) (λ r. refl) d.mirror)
        (λ q. items_on (Row q) (λ i. refl) (λ x. refl) refl) (items_on (Synced d.stamp) (λ i. refl) (λ x. refl) refl),
  )

suits_second : (l : Line) → suits Second l ≡ true
suits_second (Head v) = refl
suits_second (Synced time) = refl
suits_second (Row r) = refl
suits_second (Item i) = refl
suits_second (Died x time) = refl
suits_second End = refl

come_from : (front ls : List Line) → Chain (last_of (Head Second ∷ front)) ls → Each ls → ComeAfter (Head Second ∷ front) ls
unfolding may_come
come_from front [] c e = tt
come_from front (l ∷ ls) c e = (
  ap₂ (λ a b. a && b) c.0 (suits_second l),
  e.0,
  come_from (front ++ l ∷ []) ls (subst (λ o. Chain o ls) (sym (last_is (Head Second ∷ front) l)) c.1) e.1,
)

-- ---- each is a text in form

small_ascii : (xs : List ℕ) → list_all (λ b. nat_lt b 128) xs ≡ true → IsUtf8 xs
small_ascii xs h = IsUtf8-from_ascii xs (IsAscii-from_list_all (λ b. nat_lt b 128) (λ b q. ltb-true b 128 q) xs h)

decimal_utf8 : (n : ℕ) → n ≤ last_stamp → IsUtf8 (decimal n)
decimal_utf8 n h = IsUtf8-from_ascii (decimal n) (IsAscii-decimal n (omega arith))

synced_line : (n : ℕ) → n ≤ last_stamp → IsLine (Synced n)
unfolding stamp_line
synced_line n h = record {
  form = h;
  utf8 = IsUtf8-append (codes "[\"stamp\",\"" ++ stamp_text n) (codes "\"]\n") (IsUtf8-append (codes "[\"stamp\",\"") (stamp_text n) (small_ascii (codes "[\"stamp\",\"") refl) (stamp_is_utf8 n h)) (small_ascii (codes "\"]\n") refl);
}

row_line_formed : (r : Sheet) → IsRow r → IsLine (Row r)
unfolding row_line
row_line_formed r h = record {
  form = (h.id, h.time);
  utf8 =
      IsUtf8-append _ (codes "]\n")
      (IsUtf8-append _ _ (IsUtf8-append _ (codes ",") (IsUtf8-append _ _ (IsUtf8-append _ (codes "\",") (IsUtf8-append (codes "[\"row\",\"") (stamp_text r.modified) (small_ascii (codes "[\"row\",\"") refl) (stamp_is_utf8 r.modified h.time)) (small_ascii (codes "\",") refl)) (IsUtf8-quoted r.id (IsUtf8-from_id r.id h.id))) (small_ascii (codes ",") refl)) (IsUtf8-quoted r.payload h.payload))
      (small_ascii (codes "]\n") refl);
}

item_line_formed : (i : ItemLine) → IsItemLine i → IsUtf8 (record_in i) → IsLine (Item i)
unfolding item_line
item_line_formed i h u = record {
  form = h;
  utf8 =
      IsUtf8-append _ (codes "]\n")
      (IsUtf8-append _ (record_in i) (IsUtf8-append _ (codes ",") (IsUtf8-append (codes "[\"item\",") (decimal i.time) (small_ascii (codes "[\"item\",") refl) (decimal_utf8 i.time h.time)) (small_ascii (codes ",") refl)) u)
      (small_ascii (codes "]\n") refl);
}

dead_line_formed : (d : List ℕ × ℕ) → IsDeath d → IsLine (dead_of d)
unfolding dead_line
dead_line_formed d h = record {
  form = (h.id, h.time);
  utf8 =
      IsUtf8-append _ (codes "]\n")
      (IsUtf8-append _ _ (IsUtf8-append _ (codes ",") (IsUtf8-append (codes "[\"dead\",") (decimal d.1) (small_ascii (codes "[\"dead\",") refl) (decimal_utf8 d.1 h.time)) (small_ascii (codes ",") refl)) (IsUtf8-quoted d.0 (IsUtf8-from_id d.0 h.id)))
      (small_ascii (codes "]\n") refl);
}

head_formed : IsLine (Head Second)
unfolding device_line
head_formed = record { form = tt; utf8 = small_ascii (codes "[\"device\",2]\n") refl }

end_formed : IsLine End
unfolding end_line
end_formed = record { form = tt; utf8 = small_ascii (codes "[\"end\"]\n") refl }

each_join : (ls ms : List Line) → Each ls → Each ms → Each (ls ++ ms)
each_join [] ms a b = b
each_join (l ∷ ls) ms a b = (a.0, each_join ls ms a.1 b)

each_map : {X : Type 0} (P : X → Type 0) (f : X → Line) → ((x : X) → P x → IsLine (f x)) → (xs : List X) → AllByRecursion P xs → Each (map f xs)
each_map P f to [] a = tt
each_map P f to (x ∷ xs) a = (to x a.0, each_map P f to xs a.1)

each_item : (es : List Entry) (ks : List ℕ) → ((k : ℕ) → In k ks → IsLine (Item (node_item es k))) → Each (map Item (node_items es ks))
unfolding In
each_item es [] h = tt
each_item es (k ∷ ks) h = (h k (inl refl), each_item es ks (λ j i. h j (inr i)))

-- ---- what they say

none_of : {X Y : Type 0} (f : X → Line) (g : Line → Option Y) → ((x : X) → g (f x) ≡ None) → (xs : List X) (more : List Line) → filter_map g (map f xs ++ more) ≡ filter_map g more
none_of f g none [] more = refl
none_of f g none (x ∷ xs) more = ap (λ o. cons_option o (filter_map g (map f xs ++ more))) (none x) ∙ none_of f g none xs more

all_of : {X : Type 0} (f : X → Line) (g : Line → Option X) → ((x : X) → g (f x) ≡ Some x) → (xs : List X) (more : List Line) → filter_map g (map f xs ++ more) ≡ xs ++ filter_map g more
all_of f g all [] more = refl
all_of f g all (x ∷ xs) more = ap₂ cons_option (all x) (all_of f g all xs more)

module _ (d : DeviceView) where
  ends : List Line
  ends = map dead_of d.dead ++ End ∷ []

  pub rows_are : rows_in (lines_of d) ≡ d.mirror
  unfolding rows_in
  rows_are =
      all_of Row row_in (λ r. refl) d.mirror (map Item (items_of d) ++ (map dead_of d.dead ++ End ∷ []))
      ∙ (ap (λ rs. d.mirror ++ rs) (none_of Item row_in (λ i. refl) (items_of d) (map dead_of d.dead ++ End ∷ []) ∙ none_of dead_of row_in (λ x. refl) d.dead (End ∷ [])) ∙ append-nil d.mirror)

  pub items_are : items_in (lines_of d) ≡ items_of d
  unfolding items_in
  items_are =
      none_of Row item_in (λ r. refl) d.mirror (map Item (items_of d) ++ (map dead_of d.dead ++ End ∷ []))
      ∙ (all_of Item item_in (λ i. refl) (items_of d) (map dead_of d.dead ++ End ∷ [])
      ∙ (ap (λ is. items_of d ++ is) (none_of dead_of item_in (λ x. refl) d.dead (End ∷ [])) ∙ append-nil (items_of d)))

  pub deaths_are : deaths_in (lines_of d) ≡ d.dead
  unfolding deaths_in
  deaths_are =
      none_of Row death_in (λ r. refl) d.mirror (map Item (items_of d) ++ (map dead_of d.dead ++ End ∷ []))
      ∙ (none_of Item death_in (λ i. refl) (items_of d) (map dead_of d.dead ++ End ∷ [])
      ∙ (all_of dead_of death_in (λ x. refl) d.dead (End ∷ []) ∙ append-nil d.dead))

  pub mirror_is : mirror_in (lines_of d) ≡ d.mirror
  unfolding mirror_in
  mirror_is = rows_are

  pub synced_is : synced_in (lines_of d) ≡ d.stamp
  unfolding synced_in mirror_in
  synced_is = ap (λ b. cond b d.stamp 0) (eq-eqb (length (rows_in (lines_of d))) (length (rows_in (lines_of d))) refl)

  ended : is_ended (lines_of d) ≡ true
  ended =
      let grouped : (Head Second ∷ Synced d.stamp ∷ (map Row d.mirror ++ (map Item (items_of d) ++ map dead_of d.dead))) ++ End ∷ [] ≡ lines_of d =
      ap (λ ls. Head Second ∷ Synced d.stamp ∷ ls) (append_assoc (map Row d.mirror) (map Item (items_of d) ++ map dead_of d.dead) (End ∷ []) ∙ ap (λ ls. map Row d.mirror ++ ls) (append_assoc (map Item (items_of d)) (map dead_of d.dead) (End ∷ []))) in
      ap is_ended (sym grouped) ∙ ap is_end (last_is (Head Second ∷ Synced d.stamp ∷ (map Row d.mirror ++ (map Item (items_of d) ++ map dead_of d.dead))) End)

-- ---- none of the mirror is lost

find_nothing : (p : List ℕ → Bool) (xs : List (List ℕ)) → ((x : List ℕ) → p x ≡ false) → find p xs ≡ None
find_nothing p [] none = refl
find_nothing p (x ∷ xs) none = ap (λ b. cond b (Some x) (find p xs)) (none x) ∙ find_nothing p xs none

not_lost : (a b c : Bool) → (a ≡ true → (b || c) ≡ true) → (a && not (b || c)) ≡ false
not_lost false b c h = refl
not_lost true b c h = ap not (h refl)

nothing_lost : (d : DeviceView) → HasDeviceForm d → lost_in (lines_of d) ≡ None
unfolding lost_in
nothing_lost d h =
    ap₂ (λ (m : List Sheet) (p : List ItemLine × Dead). find (is_lost (built (rows_of m)) (tree_of p.0) p.1) (row_ids m)) (mirror_is d) (ap₂ (λ a b. (a, b)) (items_are d) (deaths_are d))
    ∙ find_nothing (is_lost (built (rows_of d.mirror)) (tree_of (items_of d)) d.dead) (row_ids d.mirror)
    (λ x. not_lost (has x (node_ids (built (rows_of d.mirror)))) (has x (node_ids (tree_of (items_of d)))) (has x (dead_ids d.dead))
    (λ e. ap (λ b. b || has x (dead_ids d.dead)) (sym (same_ids x (tree d.tree) (tree_of (items_of d)) (same_items d.tree h.valid))) ∙ h.device.known x e))

-- ---- the file

all_lines : (d : DeviceView) → HasDeviceForm d → AreLines (lines_of d)
unfolding AreLines may_come
all_lines d h = (refl, head_formed, come_from [] (Synced d.stamp ∷ behind) (all_chain d h.device.mirror_by_id h.device.dead_by_id) (synced_line d.stamp h.stamp, each))
  where
    behind : List Line
    behind = map Row d.mirror ++ (map Item (items_of d) ++ (map dead_of d.dead ++ End ∷ []))

    last : Each (End ∷ [])
    last = (end_formed, tt)

    each : Each behind
    each =
        each_join (map Row d.mirror) (map Item (items_of d) ++ (map dead_of d.dead ++ End ∷ [])) (each_map IsRow Row row_line_formed d.mirror h.rows)
        (each_join (map Item (items_of d)) (map dead_of d.dead ++ End ∷ []) (each_item d.tree (inner d.tree) (λ k i. item_line_formed (node_item d.tree k) (item_formed d.tree h.valid h.items k i) (record_formed d.tree h.valid h.items k i)))
        (each_join (map dead_of d.dead) (End ∷ []) (each_map IsDeath dead_of dead_line_formed d.dead h.deaths) last))

pub written_read_back : (d : DeviceView) → HasDeviceForm d → IsFileOf (device_text d) d
written_read_back d h = record {
  lines = lines_of d;
  all = record { lines = all_lines d h; ended = ended d; text_is = device_text_is d h.valid };
  told = record {
    whole = subst IsWhole (sym (items_are d)) (all_placed d.tree h.valid);
    found = nothing_lost d h;
    tells = record {
      items = λ x. same_items d.tree h.valid x ∙ ap (λ is. node x (tree_of is)) (sym (items_are d));
      dead = sym (deaths_are d);
      mirror = sym (mirror_is d);
      stamp = sym (synced_is d);
    };
  };
}
