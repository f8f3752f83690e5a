-- The final parents of a merge come to a root, and what that gives.
use Rattle.std.proofs.Common.{◌≡◌, ◌↔◌, ◌⊎◌, bytes_eq, refl, ℕ, zero, suc, Bool, true, false, cond, not, List, length}
use Rattle.std.proofs.Common.{Some, sym, ap, ◌∙◌, inl, inr}
use Rattle.ss_record.specs.declared.kinds.Kind.TheVariants.{Folder}
use Rattle.ss_record.specs.Ids.{has}
use Rattle.ss_record.specs.Kinds.{is_folder}
use Rattle.ss_dupe.specs.declared.sides.Side.{Side}
use Rattle.ss_dupe.specs.declared.sides.Side.TheVariants.{Local, Remote}
use Rattle.ss_dupe.specs.Looks.{Id, is_in, at, parent_of, is_places, is_root}
use Rattle.ss_dupe.specs.Walks.{meets, Meets}
use Rattle.ss_dupe.specs.Shapes.{HaveShapes}
use Rattle.ss_dupe.specs.Sides.{Sides, tree_of}
use Rattle.ss_dupe.proofs.Basics.{or_rest, some_from_passes, same-tells}
use Rattle.ss_dupe.proofs.Bounds.{meets_within}
use Rattle.ss_dupe.proofs.Shapes.{IsItem, item_up, rooted_within, root-not_places}
use Rattle.ss_merge.specs.Survivors.{content_of, is_merged_folder, same_content, same_parent, side_of, survives}
use Rattle.ss_merge.specs.Parents.{chosen, fallback, final, is_rooted, nearest_folder}
use Rattle.ss_merge.specs.Claims.{AreMerging}
use Rattle.ss_merge.proofs.Nearest.{nearest-stops}
use Rattle.ss_merge.proofs.Finals.{AreFinal, remote_reaches, local_reaches}
use Rattle.std.proofs.lemmas.Bool.{cases_Bool, or_left, and_from, or_right, not-true}
use Rattle.ss_text.proofs.Basics.{both_left, both_right, no_way}

pub root_survives : (s : Sides) (x : Id) → is_root x ≡ true → survives s x ≡ true
unfolding survives
root_survives s x r = or_left (is_root x) _ r

-- ---- final parents are merged folders

nearest-folder : (s : Sides) (n : ℕ) (side : Side) (x p : Id) → nearest_folder s n side x ≡ Some p → is_merged_folder s p ≡ true
unfolding nearest_folder
nearest-folder s n side x p e = nearest-stops (parent_of (tree_of s side)) (is_merged_folder s) n x p e

pub chosen-folder : (s : Sides) (n : ℕ) (x p : Id) → chosen s n x ≡ Some p → is_merged_folder s p ≡ true
unfolding chosen
chosen-folder s n x p e = nearest-folder s n (side_of s same_parent x) x p e

pub final-folder : (s : Sides) (n : ℕ) (x p : Id) → final s n x ≡ Some p → is_merged_folder s p ≡ true
unfolding final fallback
final-folder s n x p e = elim (cases_Bool (is_rooted s n x)) [
  | inl hit ↦ chosen-folder s n x p (sym (ap (λ b. cond b (chosen s n x) (fallback s n x)) hit) ∙ e)
  | inr miss ↦ nearest-folder s n (cond (is_in s.remote x) Remote Local) x p (sym (ap (λ b. cond b (chosen s n x) (fallback s n x)) miss) ∙ e)
]

pub folder_survives : (s : Sides) (x : Id) → is_merged_folder s x ≡ true → survives s x ≡ true
unfolding is_merged_folder
folder_survives s x h = both_left (survives s x) _ h

pub folder_kind : (s : Sides) (x : Id) → is_merged_folder s x ≡ true → is_folder (content_of s x).kind ≡ true
unfolding is_merged_folder
folder_kind s x h = both_right (survives s x) _ h

-- ---- survivors are items

one_of_two : (a b c d : Bool) → cond a (cond b true c) (cond b d false) ≡ true → (a ≡ true) ⊎ (b ≡ true)
one_of_two true b c d e = inl refl
one_of_two false true c d e = inr refl
one_of_two false false c d e = cc

pub survivor_places : (s : Sides) (x : Id) → survives s x ≡ true → is_places x ≡ false
unfolding survives
survivor_places s x h = elim (cases_Bool (is_root x)) [
  | inl r ↦ root-not_places x r
  | inr miss ↦ not-true (is_places x) (both_left (not (is_places x)) _ (or_rest (is_root x) _ h miss))
]

-- a survivor is in a tree
pub survivor_in : (s : Sides) → HaveShapes s → (x : Id) → survives s x ≡ true → (is_in s.local x ≡ true) ⊎ (is_in s.remote x ≡ true)
unfolding survives
survivor_in s shaped x h = cases (cases_Bool (is_root x))
  where
    cases : (is_root x ≡ true) ⊎ (is_root x ≡ false) → (is_in s.local x ≡ true) ⊎ (is_in s.remote x ≡ true)
    cases (inl r) = inl (shaped.local.roots_in x r).0
    cases (inr miss) = one_of_two _ _ _ _ (both_right (not (is_places x)) _ (or_rest (is_root x) _ h miss))

-- a root has the content of a folder
pub root_content : (s : Sides) → HaveShapes s → (x : Id) → is_root x ≡ true → is_folder (content_of s x).kind ≡ true
unfolding content_of
root_content s shaped x r = ap is_folder (root_kind (side_of s same_content x))
  where
    root_kind : (side : Side) → (at (tree_of s side) x).kind ≡ Folder
    root_kind Local = (shaped.local.roots_in x r).1
    root_kind Remote = (shaped.remote.roots_in x r).1

module _ (s : Sides) (ids : List Id) (m : AreMerging s ids) where
  abbrev most : ℕ
  most = length ids

  pub survivor_item : (x : Id) → survives s x ≡ true → IsItem s.local x ⊎ IsItem s.remote x
  survivor_item x h = elim (survivor_in s m.shaped x h) [
    | inl a ↦ inl (record { inside = a; not_places = survivor_places s x h })
    | inr b ↦ inr (record { inside = b; not_places = survivor_places s x h })
  ]

  local_has : (x : Id) → is_in s.local x ≡ true → has x ids ≡ true
  local_has x h = m.all x ∙ or_left (is_in s.local x) _ h

  remote_has : (x : Id) → is_in s.remote x ≡ true → has x ids ≡ true
  remote_has x h = m.all x ∙ or_right (is_in s.local x) _ h

  pub survivor_has : (x : Id) → survives s x ≡ true → has x ids ≡ true
  survivor_has x h = elim (survivor_item x h) [ inl i ↦ local_has x i.inside | inr i ↦ remote_has x i.inside ]

  pub root_folder : (x : Id) → is_root x ≡ true → is_folder (content_of s x).kind ≡ true
  root_folder x r = root_content s m.shaped x r

  root_is_folder : (x : Id) → is_root x ≡ true → is_merged_folder s x ≡ true
  unfolding is_merged_folder
  root_is_folder x r = and_from (survives s x) _ (root_survives s x r) (root_folder x r)

  abbrev AreFinalOf : Type 0
  AreFinalOf = AreFinal (parent_of s.remote) (parent_of s.local) (chosen s most) (final s most) is_root (is_merged_folder s) (is_in s.remote)
      (IsItem s.remote) (IsItem s.local) most most most

  finals : AreFinalOf
  unfolding final is_rooted fallback nearest_folder
  finals = record {
    roots_are_folders = root_is_folder;
    in_R = λ x r. r.inside;
    R_from = λ x l there. record { inside = there; not_places = l.not_places };
    R_up = item_up s.remote m.shaped.remote;
    L_up = item_up s.local m.shaped.local;
    R_rooted = rooted_within s.remote m.shaped.remote ids remote_has;
    L_rooted = rooted_within s.local m.shaped.local ids local_has;
    final_chosen = λ x h. ap (λ b. cond b (chosen s most x) (fallback s most x)) h;
    final_remote = λ x h there. ap (λ b. cond b (chosen s most x) (fallback s most x)) h ∙ ap (λ c. nearest_folder s most (cond c Remote Local) x) there;
    final_local = λ x h alone. ap (λ b. cond b (chosen s most x) (fallback s most x)) h ∙ ap (λ c. nearest_folder s most (cond c Remote Local) x) alone;
  }

  pub comes_to_root : (x : Id) → survives s x ≡ true → Meets (final s most) is_root x
  comes_to_root x h = elim (survivor_item x h) [
    | inl i ↦ local_reaches _ _ _ _ _ _ _ _ _ _ _ _ finals x i
    | inr i ↦ remote_reaches _ _ _ _ _ _ _ _ _ _ _ _ finals x i
  ]

  -- a survivor that is no root has a final parent
  pub has_final : (x : Id) → survives s x ≡ true → is_root x ≡ false → (p : Id) × (final s most x ≡ Some p) × (is_merged_folder s p ≡ true)
  has_final x h miss = cases (comes_to_root x h).0 (comes_to_root x h).1
    where
      cases : (n : ℕ) → meets (final s most) is_root n x ≡ true → (p : Id) × (final s most x ≡ Some p) × (is_merged_folder s p ≡ true)
      cases zero k = no_way (is_root x) k miss
      cases (suc n) k =
          let next = some_from_passes (meets (final s most) is_root n) (final s most x) (or_rest (is_root x) _ k miss) in
          (next.0, next.1, final-folder s most x next.0 next.1)

  -- ---- the bounded test of the walk of chosen parents is exact

  pub rooted_exact : (x : Id) → survives s x ≡ true → (is_rooted s most x ≡ true) ↔ Meets (chosen s most) is_root x
  unfolding is_rooted has
  rooted_exact x h = (λ r. (most, r), λ r. meets_within bytes_eq same-tells (chosen s most) is_root ids closed r.0 x (survivor_has x h) r.1)
    where
      closed : (y z : Id) → has y ids ≡ true → is_root y ≡ false → chosen s most y ≡ Some z → has z ids ≡ true
      closed y z k miss e = survivor_has z (folder_survives s z (chosen-folder s most y z e))
