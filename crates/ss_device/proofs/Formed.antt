-- What is written of a device has its form.
use Rattle.std.proofs.Common.{◌≡◌, ◌≢◌, ℕ, ◌+◌, ◌<◌, ◌≤◌, List, [], ◌∷◌, ◌++◌, length, take, get_or, append-nil}
use Rattle.std.proofs.Common.{append_assoc, true, sym, ap, subst, ◌∙◌, Option, Some, None, option_map, option_and_then}
use Rattle.std.proofs.Common.{unwrap_or}
use Rattle.std.specs.Str.{IsUtf8}
use Rattle.std.proofs.lemmas.Grind.{flat_map-append}
use Rattle.std.proofs.lemmas.List.{take_more}
use Rattle.ss_text.specs.Names.{is_id}
use Rattle.ss_text.specs.Time.{last_stamp}
use Rattle.ss_record.specs.Items.{ItemView, is_fit}
use Rattle.ss_record.specs.Records.{record_of}
use Rattle.ss_tree.specs.declared.entries.Entry.{Entry}
use Rattle.ss_tree.specs.Entries.{above, entry, is_live, kid_ids, placed, IsTree}
use Rattle.ss_tree.proofs.Valid.{entry_in}
use Rattle.ss_device.specs.Forms.{IsItem}
use Rattle.ss_device.specs.Writing.{node_line, node_lines, record_at}
use Rattle.ss_device.proofs.ByIds.{idof}
use Rattle.ss_tree.proofs.Looked.{live_entry}
use Rattle.ss_text.proofs.Basics.{some_same, none_some}

-- only the top has nothing above it
pub some_above : (es : List Entry) → IsTree es → (k : ℕ) → is_live k es ≡ true → above es k ≡ None → k ≢ 0 → ⊥
unfolding above
some_above es t k live none ne =
    let e = live_entry es k live in
    let f = t.folder k e.0 e.1 ne in
    none_some (sym none ∙ (ap (option_and_then (λ (d : Entry). d.parent)) e.1 ∙ f.1))

record_is : (es : List Entry) (k p : ℕ) (e : Entry) (f : ItemView) → entry k es ≡ Some e → above es k ≡ Some p → option_map (λ (d : Entry). d.item) (entry p es) ≡ Some f → record_at es e ≡ record_of e.item f.id (kid_ids k es)
unfolding record_at placed above
record_is es k p e f h up folder =
    ap (λ x. record_of e.item (unwrap_or x []) (kid_ids e.node es)) parent ∙ ap (λ n. record_of e.item f.id (kid_ids n es)) (entry_in k es e h).1
  where
    id_of : (o : Option Entry) → option_map (λ (d : Entry). d.item) o ≡ Some f → option_map (λ (d : Entry). d.item.id) o ≡ Some f.id
    id_of None w = absurd (none_some w)
    id_of (Some d) w = ap (λ (v : ItemView). Some v.id) (some_same w)

    parent : option_and_then (idof es) e.parent ≡ Some f.id
    parent = ap (option_and_then (idof es)) (sym (ap (option_and_then (λ (d : Entry). d.parent)) h) ∙ up) ∙ id_of (entry p es) folder

-- an item as it was read out of a tree, with its record
pub item_formed : (es : List Entry) (k p time : ℕ) (i f : ItemView) (text : List ℕ) → above es k ≡ Some p → option_map (λ (d : Entry). d.item) (entry k es) ≡ Some i → option_map (λ (d : Entry). d.time) (entry k es) ≡ Some time
    → option_map (λ (d : Entry). d.item) (entry p es) ≡ Some f → text ≡ record_of i f.id (kid_ids k es) → is_id i.id ≡ true → is_fit i ≡ true → time ≤ last_stamp → IsUtf8 text
    → (e : Entry) → k ≢ 0 → entry k es ≡ Some e → IsItem es e
item_formed es k p time i f text up item at folder is id fit small utf8 e ne h =
    let item_is : e.item ≡ i = some_same (ap (option_map (λ (d : Entry). d.item)) (sym h) ∙ item) in
    let time_is : e.time ≡ time = some_same (ap (option_map (λ (d : Entry). d.time)) (sym h) ∙ at) in
    record {
      id = ap (λ (v : ItemView). is_id v.id) item_is ∙ id;
      fit = ap is_fit item_is ∙ fit;
      time = subst (λ n. n ≤ last_stamp) (sym time_is) small;
      record_utf8 = subst IsUtf8 (is ∙ (ap (λ (v : ItemView). record_of v f.id (kid_ids k es)) (sym item_is) ∙ sym (record_is es k p e f h up folder))) utf8;
    }

-- a line more, or none
pub line_next : (es : List Entry) (nodes : List ℕ) (i k : ℕ) (start old new : List ℕ) → i < length nodes → k ≡ get_or nodes i k → old ≡ start ++ node_lines es (take i nodes) → new ≡ old ++ node_line es k
    → new ≡ start ++ node_lines es (take (i + 1) nodes)
line_next es nodes i k start old new lt is was now =
    let more : take (i + 1) nodes ≡ take i nodes ++ k ∷ [] = take_more nodes i k lt ∙ ap (λ x. take i nodes ++ x ∷ []) (sym is) in
    let lines : node_lines es (take (i + 1) nodes) ≡ node_lines es (take i nodes) ++ node_line es k =
    ap (node_lines es) more ∙ (flat_map-append (node_line es) (take i nodes) (k ∷ []) ∙ ap (λ t. node_lines es (take i nodes) ++ t) (append-nil (node_line es k))) in
    now ∙ (ap (λ t. t ++ node_line es k) was ∙ (append_assoc start (node_lines es (take i nodes)) (node_line es k) ∙ ap (λ t. start ++ t) (sym lines)))
