-- Each item that a sync leaves to know is in the merged tree.
use Rattle.std.proofs.Common.{◌≡◌, ◌||◌, ℕ, List, [], refl, sym, ap, ◌∙◌, Option, Some, None, option_map, inl}
use Rattle.ss_record.specs.declared.readings.Reading.{Reading}
use Rattle.ss_record.specs.declared.readings.Sheet.{Sheet}
use Rattle.ss_record.specs.Ids.{has}
use Rattle.ss_tree.specs.declared.entries.Entry.{Entry}
use Rattle.ss_tree.specs.Trees.{PlacedItem, IsValidTree, node}
use Rattle.ss_tree.specs.Entries.{tree}
use Rattle.ss_build.specs.Rows.{readings, rows_of}
use Rattle.ss_build.specs.Built.{built}
use Rattle.ss_build.specs.Stand.{HasItsRows, without_time}
use Rattle.ss_build.proofs.Stand.{node_has, has_node}
use Rattle.ss_build.proofs.OfSheets.{sheets_built_back}
use Rattle.ss_bso.specs.declared.parts.Part.{Part}
use Rattle.ss_plan.specs.Written.{AreRowsAfter}
use Rattle.ss_client.specs.Leaves.{LeavesKnown, LeavesStanding}

there : (o p : Option PlacedItem) (n : PlacedItem) → o ≡ Some n → option_map without_time o ≡ option_map without_time p → (m : PlacedItem) × (p ≡ Some m)
there o None n e s = absurd (none (sym s ∙ ap (option_map without_time) e))
  where
    none : None ≡ Some (without_time n) → ⊥
    none q = cc
there o (Some m) n e s = (m, refl)

-- where the rows stand for the merged tree, each of their items is in it
pub standing_known : (rows : List Sheet) (parts : List Part) (merged : List Entry) → IsValidTree (tree merged) → LeavesStanding rows parts merged → LeavesKnown rows parts merged
standing_known rows parts merged valid stand = λ after stamp w x h.
    let same = sheets_built_back (tree merged) after valid w.apart (inl (stand after stamp w)) in
    let n = has_node (built (rows_of after)) x h in
    let m = there (node x (built (rows_of after))) (node x (tree merged)) n.0 n.1 (same x) in
    ap (λ b. b || has x []) (node_has (tree merged) x m.0 m.1)

pub leaves_known : (rows : List Sheet) (parts : List Part) (merged : List Entry) (read : List (List ℕ × Reading)) → IsValidTree (tree merged) → read ≡ readings (rows_of rows)
    → ((sheets after : List Sheet) (stamp : ℕ) → readings (rows_of sheets) ≡ read → AreRowsAfter sheets parts stamp after → HasItsRows (tree merged) (rows_of after)) → LeavesKnown rows parts merged
leaves_known rows parts merged read valid told stand = standing_known rows parts merged valid (λ after stamp w. stand rows after stamp (sym told) w)
