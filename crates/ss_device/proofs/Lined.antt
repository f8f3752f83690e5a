-- The line of an item, as it is read out of a tree.
use Rattle.std.proofs.Common.{◌≡◌, ℕ, ◌==◌, List, [], Bool, true, false, cond, refl, sym, ap, ap₂, ◌∙◌, Option, Some}
use Rattle.std.proofs.Common.{None, option_map, option_and_then, unwrap_or}
use Rattle.std.proofs.lemmas.Bool.{eqb-true, eqb-false}
use Rattle.ss_record.specs.Items.{ItemView}
use Rattle.ss_record.specs.Records.{record_of}
use Rattle.ss_tree.specs.declared.entries.Entry.{Entry}
use Rattle.ss_tree.specs.Entries.{above, entry, is_live, kid_ids, placed, IsTree}
use Rattle.ss_tree.proofs.Valid.{entry_in}
use Rattle.ss_device.specs.Writing.{item_line, node_line, record_at}
use Rattle.ss_device.proofs.ByIds.{idof}
use Rattle.ss_tree.proofs.Looked.{live_entry}
use Rattle.ss_text.proofs.Basics.{some_same, none_some}

-- only the top has nothing above it
pub no_line : (es : List Entry) → IsTree es → (k : ℕ) → is_live k es ≡ true → above es k ≡ None → node_line es k ≡ []
unfolding node_line above
no_line es t k live none = go (k == 0) refl
  where
    go : (b : Bool) → (k == 0) ≡ b → cond b [] (unwrap_or (option_map (λ e. item_line e.time (record_at es e)) (entry k es)) []) ≡ []
    go true h = refl
    go false h =
        let e = live_entry es k live in
        let f = t.folder k e.0 e.1 (eqb-false k 0 h) in
        absurd (none_some (sym none ∙ (ap (option_and_then (λ (d : Entry). d.parent)) e.1 ∙ f.1)))

pub line_is : (es : List Entry) → IsTree es → (k p time : ℕ) (i f : ItemView) → above es k ≡ Some p → option_map (λ e. e.item) (entry k es) ≡ Some i → option_map (λ e. e.time) (entry k es) ≡ Some time → option_map (λ e. e.item) (entry p es) ≡ Some f
    → node_line es k ≡ item_line time (record_of i f.id (kid_ids k es))
unfolding node_line record_at above placed
line_is es t k p time i f up item at folder = with (entry k es) refl item at
  where
    inner : (b : Bool) → (k == 0) ≡ b → b ≡ false
    inner false h = refl
    inner true h = absurd (none_some (sym (ap (option_and_then (λ (d : Entry). d.parent)) t.top) ∙ (ap (λ n. option_and_then (λ (d : Entry). d.parent) (entry n es)) (sym (eqb-true k 0 h)) ∙ up)))

    with : (o : Option Entry) → entry k es ≡ o → option_map (λ e. e.item) o ≡ Some i → option_map (λ e. e.time) o ≡ Some time
        → cond (k == 0) [] (unwrap_or (option_map (λ e. item_line e.time (record_of e.item (unwrap_or (option_and_then (idof es) e.parent) []) (kid_ids e.node es))) (entry k es)) []) ≡ item_line time (record_of i f.id (kid_ids k es))
    with None h q r = absurd (none_some q)
    with (Some e) h q r =
        let parent : option_and_then (idof es) e.parent ≡ Some f.id = ap (option_and_then (idof es)) (sym (ap (option_and_then (λ (d : Entry). d.parent)) h) ∙ up) ∙ id_of (entry p es) folder in
        ap (λ b. cond b [] (unwrap_or (option_map (λ (d : Entry). item_line d.time (record_of d.item (unwrap_or (option_and_then (idof es) d.parent) []) (kid_ids d.node es))) (entry k es)) [])) (inner (k == 0) refl)
        ∙ (ap (λ o. unwrap_or (option_map (λ (d : Entry). item_line d.time (record_of d.item (unwrap_or (option_and_then (idof es) d.parent) []) (kid_ids d.node es))) o) []) h
        ∙ (ap (λ x. item_line e.time (record_of e.item (unwrap_or x []) (kid_ids e.node es))) parent
        ∙ (ap (λ n. item_line e.time (record_of e.item f.id (kid_ids n es))) (entry_in k es e h).1 ∙ ap₂ (λ s v. item_line s (record_of v f.id (kid_ids k es))) (some_same r) (some_same q))))
      where
        id_of : (o : Option Entry) → option_map (λ (d : Entry). d.item) o ≡ Some f → option_map (λ (d : Entry). d.item.id) o ≡ Some f.id
        id_of None w = absurd (none_some w)
        id_of (Some d) w = ap (λ (v : ItemView). Some v.id) (some_same w)
