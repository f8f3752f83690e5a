-- A merge of trees that are the same has one result.
use Rattle.std.proofs.Common.{◌≡◌, ◌||◌, Bool, true, false, cond, List, [], ◌∷◌, ◌++◌, map, bytes_eq, Option, Some}
use Rattle.std.proofs.Common.{None, is_some, unwrap_or, refl, sym, ap, ap₂, subst, ◌∙◌}
use Rattle.std.proofs.lemmas.Option.{none-some}
use Rattle.std.specs.Map.{lookup}
use Rattle.ss_record.specs.declared.readings.Sheet.{Sheet}
use Rattle.ss_record.specs.Ids.{Apart, by_id, firsts, has}
use Rattle.ss_record.proofs.IdLists.{Apart-firsts, has-append, has-cons, has-firsts, has-nil}
use Rattle.ss_tree.specs.declared.entries.Entry.{Entry}
use Rattle.ss_tree.specs.Trees.{IsSame, IsValidTree, PlacedItem, node, node_ids}
use Rattle.ss_tree.specs.Entries.{tree}
use Rattle.ss_build.specs.Rows.{dead, rows_of}
use Rattle.ss_build.specs.Built.{built}
use Rattle.ss_build.proofs.OfSheets.{sheets_built_valid}
use Rattle.ss_dupe.specs.Looks.{Id, look}
use Rattle.ss_dupe.specs.Sides.{Sides, sides}
use Rattle.ss_dupe.specs.Pairs.{ArePairs}
use Rattle.ss_dupe.specs.Renaming.{renamed_id, tree_renamed}
use Rattle.ss_dupe.proofs.Renamed.{from-renamed, look-renamed}
use Rattle.ss_merge.specs.Merged.{entries_merged}
use Rattle.ss_merge.specs.Links.{AreNames, NamesAnew}
use Rattle.ss_merge.proofs.ByIds.{by_id_same}
use Rattle.ss_merge.proofs.Naming.{are_names, renamed_look}
use Rattle.ss_merge.proofs.Whole.{same_ids}
use Rattle.ss_device.specs.Device.{Dead, DeviceView, dead_at, dead_ids}
use Rattle.ss_sync.specs.Joined.{IsJoinedTree, merged_of}
use Rattle.ss_rehearse.specs.Alike.{AreAlike}

-- ---- sides of the same trees

-- the ids of two lists are the same
abbrev Alike : List Id → List Id → Type 0
Alike xs ys = (z : Id) → has z xs ≡ has z ys

same_sides : (m m' l l' r r' : List PlacedItem) (x x' y : List Id) → IsSame m m' → IsSame l l' → IsSame r r' → Alike x x' → sides m l r x y ≡ sides m' l' r' x' y
same_sides m m' l l' r r' x x' y a b c d =
    λ i. record { mirror = λ z. a z i; local = λ z. b z i; remote = λ z. c z i; local_dead = λ z. d z i; remote_dead = λ z. has z y }

-- the duplicate pairs are one relation, so each id has one name
same_pairs : (s : Sides) (ps qs : List (Id × Id)) → ArePairs s ps → ArePairs s qs → (l : Id) → lookup (bytes_eq l) ps ≡ lookup (bytes_eq l) qs
same_pairs s ps qs a b l = go (lookup (bytes_eq l) ps) refl (lookup (bytes_eq l) qs) refl
  where
    go : (o : Option Id) → lookup (bytes_eq l) ps ≡ o → (p : Option Id) → lookup (bytes_eq l) qs ≡ p → lookup (bytes_eq l) ps ≡ lookup (bytes_eq l) qs
    go (Some r) e p f = e ∙ sym (b.all l r (a.each l r e))
    go None e (Some r) f = absurd (none-some r (sym e ∙ a.all l r (b.each l r f)))
    go None e None f = e ∙ sym f

-- ---- renamed trees

same_renamed : (l l' : List PlacedItem) (ps : List (Id × Id)) → IsSame l l' → AreNames (look l) (renamed_id ps) → IsSame (tree_renamed (renamed_id ps) l) (tree_renamed (renamed_id ps) l')
same_renamed l l' ps same names x = sym (renamed_look l ps (look l) (look (tree_renamed (renamed_id ps) l')) (λ z. lookup (bytes_eq z) ps) (λ z. refl) (λ z. refl) names is x)
  where
    others : AreNames (look l') (renamed_id ps)
    others = subst (λ f. AreNames f (renamed_id ps)) (λ i z. same z i) names

    is : NamesAnew (look l) (renamed_id ps) (look (tree_renamed (renamed_id ps) l'))
    is = subst (λ f. NamesAnew f (renamed_id ps) (look (tree_renamed (renamed_id ps) l'))) (λ i z. sym (same z) i)
        (record { named = look-renamed l' (renamed_id ps) others.apart; from = from-renamed l' (renamed_id ps) others.apart })

-- ---- merged trees

same_all : (l l' r r' : List PlacedItem) → IsSame l l' → IsSame r r' → by_id (firsts (node_ids l ++ node_ids r)) ≡ by_id (firsts (node_ids l' ++ node_ids r'))
same_all l l' r r' a b =
    by_id_same (firsts (node_ids l ++ node_ids r)) (firsts (node_ids l' ++ node_ids r')) (Apart-firsts (node_ids l ++ node_ids r)) (Apart-firsts (node_ids l' ++ node_ids r'))
    (λ z. has-firsts z (node_ids l ++ node_ids r) ∙ has-append z (node_ids l) (node_ids r)
    ∙ ap₂ (λ p q. p || q) (same_ids l l' a z) (same_ids r r' b z)
    ∙ sym (has-append z (node_ids l') (node_ids r')) ∙ sym (has-firsts z (node_ids l' ++ node_ids r')))

same_merged : (m m' l l' r r' : List PlacedItem) (x x' y : List Id) (ps qs : List (Id × Id)) → IsSame m m' → IsSame l l' → IsSame r r' → Alike x x' → AreNames (look l) (renamed_id ps)
    → ((z : Id) → lookup (bytes_eq z) ps ≡ lookup (bytes_eq z) qs) → merged_of ps m l r x y ≡ merged_of qs m' l' r' x' y
same_merged m m' l l' r r' x x' y ps qs a b c d names pairs =
    let names_are : renamed_id ps ≡ renamed_id qs = λ i z. unwrap_or (pairs z i) z in
    let local : IsSame (tree_renamed (renamed_id ps) l) (tree_renamed (renamed_id ps) l') = same_renamed l l' ps b names in
    ap₂ entries_merged (same_sides m m' (tree_renamed (renamed_id ps) l) (tree_renamed (renamed_id ps) l') r r' x x' y a local c d) (same_all (tree_renamed (renamed_id ps) l) (tree_renamed (renamed_id ps) l') r r' local c)
    ∙ ap (λ (name : Id → Id). entries_merged (sides m' (tree_renamed name l') r' x' y) (by_id (firsts (node_ids (tree_renamed name l') ++ node_ids r')))) names_are

one_result : (mirror : List Sheet) (local other : List Entry) (gone lost : List Id) (rows : List Sheet) (joined again : List Entry) → Apart (map (λ s. s.id) rows) → IsValidTree (tree local)
    → IsSame (tree local) (tree other) → Alike gone lost → IsJoinedTree mirror local gone rows joined → IsJoinedTree mirror other lost rows again → IsSame (tree joined) (tree again)
one_result mirror local other gone lost rows joined again apart valid same ids j k x =
    let before : IsSame (tree j.before) (tree k.before) = λ z. j.before_is z ∙ sym (k.before_is z) in
    let remote : IsSame (tree j.remote) (tree k.remote) = λ z. j.remote_is z ∙ sym (k.remote_is z) in
    let one = same_sides (tree j.before) (tree k.before) (tree local) (tree other) (tree j.remote) (tree k.remote) gone lost (dead (rows_of rows)) before same remote ids in
    let pairs = same_pairs (sides (tree j.before) (tree local) (tree j.remote) gone (dead (rows_of rows))) j.pairs k.pairs j.are_pairs (subst (λ s. ArePairs s k.pairs) (sym one) k.are_pairs) in
    let of_rows = same_sides (tree j.before) (tree j.before) (tree local) (tree local) (tree j.remote) (built (rows_of rows)) gone gone (dead (rows_of rows)) (λ z. refl) (λ z. refl) j.remote_is (λ z. refl) in
    let names : AreNames (look (tree local)) (renamed_id j.pairs) =
    are_names (tree j.before) (tree local) (built (rows_of rows)) gone (dead (rows_of rows)) j.pairs (look (tree local)) (λ z. lookup (bytes_eq z) j.pairs) valid (sheets_built_valid rows apart)
    (subst (λ s. ArePairs s j.pairs) of_rows j.are_pairs) (λ z. refl) (λ z. refl) in
    j.joined_is x
    ∙ ap (node x) (same_merged (tree j.before) (tree k.before) (tree local) (tree other) (tree j.remote) (tree k.remote) gone lost (dead (rows_of rows)) j.pairs k.pairs before same remote ids names pairs)
    ∙ sym (k.joined_is x)

-- ---- of devices

dead_has : (x : Id) (deaths : Dead) → has x (dead_ids deaths) ≡ is_some (dead_at x deaths)
dead_has x [] = has-nil x
dead_has x (d ∷ ds) = has-cons x d.0 (dead_ids ds) ∙ go (bytes_eq x d.0) (dead_has x ds)
  where
    go : (b : Bool) → has x (dead_ids ds) ≡ is_some (dead_at x ds) → (b || has x (dead_ids ds)) ≡ is_some (cond b (Some d.1) (dead_at x ds))
    go true h = refl
    go false h = h

pub merged_alike : (d e : DeviceView) (rows : List Sheet) (joined again : List Entry) → IsValidTree (tree d.tree) → AreAlike d e → Apart (map (λ s. s.id) rows)
    → IsJoinedTree d.mirror d.tree (dead_ids d.dead) rows joined → IsJoinedTree e.mirror e.tree (dead_ids e.dead) rows again → IsSame (tree joined) (tree again)
merged_alike d e rows joined again valid a apart j k =
    one_result d.mirror d.tree e.tree (dead_ids d.dead) (dead_ids e.dead) rows joined again apart valid a.tree (λ x. dead_has x d.dead ∙ ap is_some (a.dead x) ∙ sym (dead_has x e.dead))
    j (subst (λ m. IsJoinedTree m e.tree (dead_ids e.dead) rows again) (sym a.mirror) k)
