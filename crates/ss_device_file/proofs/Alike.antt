-- Devices that are the same have one text.
use Rattle.std.proofs.Common.{◌≡◌, ◌≢◌, ℕ, true, false, List, [], ◌∷◌, ◌++◌, map, bytes_eq, append_assoc, append-nil}
use Rattle.std.proofs.Common.{refl, sym, ap, ap₂, subst, ◌∙◌, inl, inr, Some, unwrap_or}
use Rattle.std.specs.List.{flat_map}
use Rattle.std.proofs.lemmas.Bool.{and_parts, false≢true}
use Rattle.std.proofs.lemmas.Grind.{flat_map-append}
use Rattle.ss_record.specs.declared.readings.Sheet.{Sheet}
use Rattle.ss_record.specs.Ids.{places, roots}
use Rattle.ss_record.specs.Items.{empty_folder}
use Rattle.ss_tree.specs.declared.entries.Entry.{Entry}
use Rattle.ss_tree.specs.Trees.{IsSame, PlacedItem, empty_tree, node, places_node}
use Rattle.ss_tree.specs.Entries.{IsTree, tree}
use Rattle.ss_tree.proofs.Valid.{In}
use Rattle.ss_device.specs.Device.{Dead, DeviceView, IsNew, IsSameDevice}
use Rattle.ss_device.specs.Forms.{HasDeviceForm}
use Rattle.ss_device.specs.Writing.{device_line, device_text, end_line, stamp_line}
use Rattle.ss_device.proofs.ByIds.{at_entry}
use Rattle.ss_device_file.specs.declared.lines.Version.TheVariants.{Second}
use Rattle.ss_device_file.specs.declared.lines.ItemLine.{ItemLine}
use Rattle.ss_device_file.specs.declared.lines.Line.TheVariants.{Head, Synced, Row, Item, End}
use Rattle.ss_device_file.specs.Fresh.{fresh_text, root_line}
use Rattle.ss_device_file.specs.Lines.{line_text, record_in, text_of}
use Rattle.ss_device_file.specs.Places.{Seat, is_next, placed_of, root_seats, seats_behind}
use Rattle.ss_device_file.proofs.Again.{dead_of, device_text_is, items_of}
use Rattle.ss_device_file.proofs.Preorder.{Goes, goes_all, inner, inner_below, inner_live, node_id_is, node_item}
use Rattle.ss_device_file.proofs.Preorder.{node_items}
use Rattle.ss_device_file.proofs.Sound.{AllLines}
use Rattle.ss_device_file.proofs.Standing.{placed_same, there}
use Rattle.ss_text.proofs.Basics.{same_text, some_same}

-- ---- lines that go through the same seats and are items of the same tree

abbrev AreOf : List PlacedItem → List ItemLine → Type 0
AreOf t is = AllLines (λ i. node i.item.id t ≡ Some (placed_of i)) is

-- a line is told by its item's place
abbrev line_back : PlacedItem → ItemLine
line_back n = record { time = n.time; item = record { id = n.id; kind = n.kind; content = n.content }; parent = unwrap_or n.parent []; children = n.children }

lines_same : (seats : List Seat) (is js : List ItemLine) (t u : List PlacedItem) → IsSame t u → Goes seats is [] → Goes seats js [] → AreOf t is → AreOf u js → is ≡ js
lines_same seats [] [] t u same g h a b = refl
lines_same seats [] (j ∷ js) t u same g h a b = absurd (false≢true (ap (λ ss. is_next ss j) (sym g) ∙ h.0))
lines_same seats (i ∷ is) [] t u same g h a b = absurd (false≢true (ap (λ ss. is_next ss i) (sym h) ∙ g.0))
lines_same [] (i ∷ is) (j ∷ js) t u same g h a b = absurd (false≢true g.0)
lines_same (s ∷ seats) (i ∷ is) (j ∷ js) t u same g h a b =
    let p = same_text s.0 i.item.id (and_parts (bytes_eq s.0 i.item.id) (bytes_eq s.1 i.parent) g.0).0 in
    let q = same_text s.0 j.item.id (and_parts (bytes_eq s.0 j.item.id) (bytes_eq s.1 j.parent) h.0).0 in
    let place : placed_of i ≡ placed_of j = some_same (sym a.0 ∙ (same i.item.id ∙ (ap (λ x. node x u) (sym p ∙ q) ∙ b.0))) in
    let one : i ≡ j = ap line_back place in
    ap₂ (λ x xs. x ∷ xs) one (lines_same (seats_behind (s ∷ seats) i) is js t u same g.1 (subst (λ x. Goes (seats_behind (s ∷ seats) x) js []) (sym one) h.1) a.1 b.1)

-- ---- the items of a tree

nodes_of : (es : List Entry) (ks : List ℕ) → ((k : ℕ) → In k ks → node (node_item es k).item.id (tree es) ≡ Some (placed_of (node_item es k))) → AreOf (tree es) (node_items es ks)
unfolding In
nodes_of es [] each = tt
nodes_of es (k ∷ ks) each = (each k (inl refl), nodes_of es ks (λ j i. each j (inr i)))

items_are_of : (es : List Entry) → IsTree es → AreOf (tree es) (node_items es (inner es))
items_are_of es t = nodes_of es (inner es) (λ k i.
    let h = there es t k (inner_below es t k i) (inner_live es t k i) in
    ap (λ x. node x (tree es)) (node_id_is es k h.item h.at) ∙ (at_entry es t k h.item h.at ∙ ap Some (sym (placed_same es t k h))))

pub text_once : (d e : DeviceView) → HasDeviceForm d → HasDeviceForm e → IsSameDevice d e → device_text d ≡ device_text e
text_once d e f g s =
    let items : items_of d ≡ items_of e = lines_same root_seats (items_of d) (items_of e) (tree d.tree) (tree e.tree) s.tree (goes_all d.tree f.valid) (goes_all e.tree g.valid) (items_are_of d.tree f.valid) (items_are_of e.tree g.valid) in
    device_text_is d f.valid
    ∙ (ap₂ (λ (n : ℕ × List Sheet) (p : List ItemLine × Dead). text_of (Head Second ∷ Synced n.0 ∷ (map Row n.1 ++ (map Item p.0 ++ (map dead_of p.1 ++ End ∷ [])))))
    (ap₂ (λ a b. (a, b)) s.stamp s.mirror) (ap₂ (λ a b. (a, b)) items s.dead)
    ∙ sym (device_text_is e g.valid))

-- ---- a new device

root_item : List ℕ → ItemLine
root_item r = record { time = 0; item = empty_folder r; parent = places; children = [] }

roots_go : Goes root_seats (map root_item roots) []
unfolding roots places root_item
roots_go = (refl, (refl, (refl, (refl, refl))))

roots_are : AreOf empty_tree (map root_item roots)
unfolding roots places root_item empty_tree node places_node
roots_are = (refl, (refl, (refl, (refl, tt))))

roots_text : text_of (map Item (map root_item roots)) ≡ flat_map root_line roots
unfolding roots root_item record_in
roots_text = refl

pub fresh_is : (d : DeviceView) → HasDeviceForm d → IsNew d → device_text d ≡ fresh_text
unfolding fresh_text
fresh_is d f n =
    let items : items_of d ≡ map root_item roots = lines_same root_seats (items_of d) (map root_item roots) (tree d.tree) empty_tree n.tree (goes_all d.tree f.valid) roots_go (items_are_of d.tree f.valid) roots_are in
    device_text_is d f.valid
    ∙ (ap₂ (λ (m : ℕ × List Sheet) (p : List ItemLine × Dead). text_of (Head Second ∷ Synced m.0 ∷ (map Row m.1 ++ (map Item p.0 ++ (map dead_of p.1 ++ End ∷ [])))))
    (ap₂ (λ a b. (a, b)) n.stamp n.mirror) (ap₂ (λ a b. (a, b)) items n.dead)
    ∙ (ap (λ t. device_line ++ (stamp_line 0 ++ t)) (flat_map-append line_text (map Item (map root_item roots)) (End ∷ []) ∙ ap₂ (λ a b. a ++ b) roots_text (append-nil end_line))
    ∙ four device_line (stamp_line 0) (flat_map root_line roots) end_line))
  where
    four : (a b c e : List ℕ) → a ++ (b ++ (c ++ e)) ≡ a ++ b ++ c ++ e
    four a b c e = simp append_assoc
