-- Lines apart by kind.
use Rattle.std.proofs.Common.{◌≡◌, ℕ, List, [], ◌∷◌, ◌++◌, length, append_assoc, append-nil, refl, sym, ap, subst, ◌∙◌}
use Rattle.std.proofs.Common.{Less}
use Rattle.std.specs.List.{AllByRecursion}
use Rattle.std.specs.List.Sorted.{IsStrictlySortedBy}
use Rattle.std.specs.Ordering.{match_ordering}
use Rattle.std.specs.BTreeMap.{insert_entry}
use Rattle.ss_text.specs.Texts.{text_cmp}
use Rattle.ss_device.specs.Device.{AreById, Dead, dead_ids}

pub none_left : {A : Type 0} (done rest all : List A) → done ++ rest ≡ all → length rest ≡ 0 → done ≡ all
none_left done [] all is l = sym (append-nil done) ∙ is
none_left done (x ∷ rest) all is l = cc

-- ---- what is below all others is put in front

least_first : (x : List ℕ) (t : ℕ) (es : Dead) → AllByRecursion (λ y. text_cmp x y ≡ Less) (dead_ids es) → insert_entry text_cmp es x t ≡ (x, t) ∷ es
least_first x t [] a = refl
least_first x t (e ∷ es) a = ap (λ o. match_ordering o ((x, t) ∷ e ∷ es) ((e.0, t) ∷ es) (e ∷ insert_entry text_cmp es x t)) a.0

pub put_first : (front : Dead) (x : List ℕ) (t : ℕ) (es : Dead) → AreById (dead_ids (front ++ (x, t) ∷ es)) → insert_entry text_cmp es x t ≡ (x, t) ∷ es
unfolding AreById IsStrictlySortedBy
put_first [] x t es h = least_first x t es h.0
put_first (f ∷ front) x t es h = put_first front x t es h.1

pub map_on : (left new : Dead) (x : List ℕ) (t : ℕ) (es fs all : Dead) → AreById (dead_ids all) → left ≡ new ++ (x, t) ∷ [] → left ++ es ≡ all → fs ≡ insert_entry text_cmp es x t → new ++ fs ≡ all
map_on left new x t es fs all s l is f =
    let whole : new ++ (x, t) ∷ es ≡ all = sym (ap (λ ds. ds ++ es) l ∙ append_assoc new ((x, t) ∷ []) es) ∙ is in
    ap (λ ds. new ++ ds) (f ∙ put_first new x t es (subst (λ ds. AreById (dead_ids ds)) (sym whole) s)) ∙ whole
