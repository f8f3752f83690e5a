-- JSON lists in lists: what is written for one is read back as it, is UTF-8, and has no line break.
use Rattle.std.proofs.Common.{◌≡◌, ℕ, zero, suc, ◌≤◌, Bool, true, false, List, [], ◌∷◌, ◌++◌, map, Some, option_map}
use Rattle.std.proofs.Common.{option_and_then, refl, ap, ap₂, ◌∙◌, arith}
use Rattle.std.specs.Bool.{⊤}
use Rattle.std.specs.List.{AllByRecursion}
use Rattle.std.specs.Str.{IsUtf8}
use Rattle.std.proofs.lemmas.Str.{IsUtf8-append}
use Rattle.json.specs.Tree as tree
use Rattle.json.proofs.Printed.Utf8.{IsUtf8-are_ascii, IsUtf8-quoted}
use Rattle.serde_json.specs.Data.{Data, null, boolean, number, string, array, object, Items, no_items, item}
use Rattle.serde_json.specs.Read.{of_items, of_json, read}
use Rattle.serde_json.specs.View.{items_of}
use Rattle.serde_json.specs.Written.{comma_if, compact_text, items_outline, items_text, outline}
use Rattle.ss_lines.proofs.Flat.{AreFlat, IsFlat, IsFlatNumber, comma_noline, comma_utf8, number_back, number_is}
use Rattle.ss_lines.proofs.Flat.{number_noline, number_utf8, read_compact}
use Rattle.ss_lines.proofs.OneLine.{NoLine, noline_append, noline_by, quoted_noline}

-- ---- values of texts, whole numbers of 64 bits, booleans and `null`, in lists that nest so deep

abbrev mutual
  pub IsWithin : ℕ → Data → Type 0
  IsWithin k null = ⊤
  IsWithin k (boolean b) = ⊤
  IsWithin k (number n) = IsFlatNumber n
  IsWithin k (string s) = IsUtf8 s
  IsWithin zero (array ds) = ⊥
  IsWithin (suc k) (array ds) = AreWithin k ds
  IsWithin k (object ms) = ⊥

  pub AreWithin : ℕ → Items → Type 0
  AreWithin k no_items = ⊤
  AreWithin k (item d ds) = IsWithin k d × AreWithin k ds

pub all_within : {X : Type 0} (k : ℕ) (written : X → Data) (P : X → Type 0) → ((x : X) → P x → IsWithin k (written x)) → (xs : List X) → AllByRecursion P xs → AreWithin k (items_of (map written xs))
all_within k written P all [] h = tt
all_within k written P all (x ∷ xs) h = (all x h.0, all_within k written P all xs h.1)

pub flat_within : (k : ℕ) (d : Data) → IsFlat d → IsWithin (suc k) d
flat_within k null h = tt
flat_within k (boolean b) h = absurd h
flat_within k (number n) h = h
flat_within k (string s) h = h
flat_within k (array no_items) h = tt
flat_within k (array (item d ds)) h = absurd h
flat_within k (object ms) h = absurd h

pub flat_are_within : (k : ℕ) (ds : Items) → AreFlat ds → AreWithin (suc k) ds
flat_are_within k no_items h = tt
flat_are_within k (item d ds) h = (flat_within k d h.0, flat_are_within k ds h.1)

-- ---- what holds of them

pub record Reads (k : ℕ) (d : Data) : Type 0 where
  pub numbers : tree.HasNumbers (outline d)
  pub back : of_json (outline d) ≡ Some d
  pub shallow : tree.depth (outline d) ≤ k
  pub utf8 : IsUtf8 (compact_text d)
  pub noline : NoLine (compact_text d)

pub record ReadAll (k : ℕ) (ds : Items) : Type 0 where
  pub numbers : tree.ItemsHaveNumbers (items_outline ds)
  pub back : of_items (items_outline ds) ≡ Some ds
  pub shallow : tree.items_depth (items_outline ds) ≤ k
  pub utf8 : (later : Bool) → IsUtf8 (items_text later ds)
  pub noline : (later : Bool) → NoLine (items_text later ds)

null_reads : (k : ℕ) → Reads k null
null_reads k = record { numbers = tt; back = refl; shallow = omega arith; utf8 = IsUtf8-are_ascii (compact_text null) refl; noline = noline_by (compact_text null) refl }

boolean_reads : (k : ℕ) (b : Bool) → Reads k (boolean b)
boolean_reads k true = record { numbers = tt; back = refl; shallow = omega arith; utf8 = IsUtf8-are_ascii (compact_text (boolean true)) refl; noline = noline_by (compact_text (boolean true)) refl }
boolean_reads k false = record { numbers = tt; back = refl; shallow = omega arith; utf8 = IsUtf8-are_ascii (compact_text (boolean false)) refl; noline = noline_by (compact_text (boolean false)) refl }

list_reads : (k : ℕ) (ds : Items) → ReadAll k ds → Reads (suc k) (array ds)
list_reads k ds r = record {
  numbers = r.numbers;
  back = ap (option_map array) r.back;
  shallow = let inner : tree.items_depth (items_outline ds) ≤ k = r.shallow in omega arith;
  utf8 = IsUtf8-append (91 ∷ []) (items_text false ds) (IsUtf8-are_ascii (91 ∷ []) refl) (r.utf8 false);
  noline = ((λ is. omega arith), r.noline false);
}

none_read : (k : ℕ) → ReadAll k no_items
none_read k = record { numbers = tt; back = refl; shallow = omega arith; utf8 = λ later. IsUtf8-are_ascii (93 ∷ []) refl; noline = λ later. noline_by (93 ∷ []) refl }

one_more : (k : ℕ) (d : Data) (ds : Items) → Reads k d → ReadAll k ds → ReadAll k (item d ds)
one_more k d ds r s = record {
  numbers = (r.numbers, s.numbers);
  back = ap₂ (λ a b. option_and_then (λ e. option_map (item e) b) a) r.back s.back;
  shallow = let first : tree.depth (outline d) ≤ k = r.shallow in let rest : tree.items_depth (items_outline ds) ≤ k = s.shallow in omega arith;
  utf8 = λ later. IsUtf8-append (comma_if later) (compact_text d ++ items_text true ds) (comma_utf8 later) (IsUtf8-append (compact_text d) (items_text true ds) r.utf8 (s.utf8 true));
  noline = λ later. noline_append (comma_if later) (compact_text d ++ items_text true ds) (comma_noline later) (noline_append (compact_text d) (items_text true ds) r.noline (s.noline true));
}

mutual
  pub reads : (k : ℕ) (d : Data) → IsWithin k d → Reads k d
  reads k null h = null_reads k
  reads k (boolean b) h = boolean_reads k b
  reads k (number n) h = record { numbers = number_is n h; back = ap (option_map number) (number_back n h); shallow = omega arith; utf8 = number_utf8 n h; noline = number_noline n h }
  reads k (string s) h = record { numbers = tt; back = refl; shallow = omega arith; utf8 = IsUtf8-quoted s h; noline = quoted_noline s }
  reads zero (array ds) h = absurd h
  reads (suc k) (array ds) h = list_reads k ds (all_read k ds h)
  reads k (object ms) h = absurd h

  pub all_read : (k : ℕ) (ds : Items) → AreWithin k ds → ReadAll k ds
  all_read k no_items h = none_read k
  all_read k (item d ds) h = one_more k d ds (reads k d h.0) (all_read k ds h.1)

-- ---- a list

pub list_back : (ds : Items) → AreWithin 4 ds → read (compact_text (array ds)) ≡ Some (array ds)
list_back ds h =
    let r : Reads 5 (array ds) = list_reads 4 ds (all_read 4 ds h) in
    let shallow : tree.depth (outline (array ds)) ≤ 5 = r.shallow in
    read_compact (array ds) r.numbers (omega arith) ∙ r.back

pub list_utf8 : (ds : Items) → AreWithin 4 ds → IsUtf8 (compact_text (array ds))
list_utf8 ds h = (list_reads 4 ds (all_read 4 ds h)).utf8

pub list_noline : (ds : Items) → AreWithin 4 ds → NoLine (compact_text (array ds))
list_noline ds h = (list_reads 4 ds (all_read 4 ds h)).noline
