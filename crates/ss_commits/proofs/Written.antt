-- Lines that no account has: what is written for one is read back as it.
use Rattle.std.proofs.Common.{◌≡◌, ℕ, ◌+◌, ◌++◌, ◌∷◌, [], List, true, false, cond, Some, None, option_map}
use Rattle.std.proofs.Common.{option_and_then, codes, length, refl, sym, ap, ap₂, subst, ◌∙◌, arith, append_assoc}
use Rattle.std.proofs.Common.{length-append}
use Rattle.std.specs.Str.{IsUtf8}
use Rattle.json.specs.Print.{escape, escape_byte, quoted}
use Rattle.json.proofs.Printed.Utf8.{IsUtf8-are_ascii}
use Rattle.serde_json.specs.Data.{Data, array, item, no_items, string}
use Rattle.serde_json.specs.Read.{read}
use Rattle.serde_json.specs.Written.{compact_text}
use Rattle.ss_text.proofs.NameLemmas.{IsUtf8-from_id, IsUtf8-from_name}
use Rattle.ss_text.proofs.StampTexts.{stamp_again, stamp_is_utf8}
use Rattle.ss_text.proofs.Basics.{some_same, none_some}
use Rattle.ss_lines.proofs.Flat.{AreFlat, list_back, list_noline, list_utf8}
use Rattle.ss_lines.proofs.OneLine.{NoLine}
use Rattle.ss_commits.specs.declared.marks.Mark.{Mark}
use Rattle.ss_commits.specs.declared.marks.Mark.TheVariants.{Now, NoRow, NoCollection, NoBatch, NextParts}
use Rattle.ss_commits.specs.Commits.{IsMark, mark_list, mark_text}
use Rattle.ss_commits.specs.Values.{mark_from}

-- ---- the pieces that are appended for a line

one_shape : (out q t : List ℕ) → ((out ++ 91 ∷ 34 ∷ (q ++ 34 ∷ [])) ++ 44 ∷ t) ++ 93 ∷ 10 ∷ [] ≡ out ++ ((91 ∷ 34 ∷ ((q ++ 34 ∷ []) ++ 44 ∷ (t ++ 93 ∷ []))) ++ 10 ∷ [])
one_shape out q t = simp append_assoc

two_shape : (out q t u : List ℕ) → (((out ++ 91 ∷ 34 ∷ (q ++ 34 ∷ [])) ++ 44 ∷ t) ++ 44 ∷ u) ++ 93 ∷ 10 ∷ [] ≡ out ++ ((91 ∷ 34 ∷ ((q ++ 34 ∷ []) ++ 44 ∷ (t ++ 44 ∷ (u ++ 93 ∷ [])))) ++ 10 ∷ [])
two_shape out q t u = simp append_assoc

-- a first text and a value
pub one_is : (out tag : List ℕ) (d : Data) → ((out ++ 91 ∷ quoted tag) ++ 44 ∷ compact_text d) ++ 93 ∷ 10 ∷ [] ≡ out ++ (compact_text (array (item (string tag) (item d no_items))) ++ 10 ∷ [])
one_is out tag d = one_shape out (escape tag) (compact_text d)

-- a first text and two values
pub two_is : (out tag : List ℕ) (d e : Data) → (((out ++ 91 ∷ quoted tag) ++ 44 ∷ compact_text d) ++ 44 ∷ compact_text e) ++ 93 ∷ 10 ∷ []
    ≡ out ++ (compact_text (array (item (string tag) (item d (item e no_items)))) ++ 10 ∷ [])
two_is out tag d e = two_shape out (escape tag) (compact_text d) (compact_text e)

-- ---- a line from its list

pub flat : (m : Mark) → IsMark m → AreFlat (mark_list m)
flat (Now moment) h = (IsUtf8-are_ascii (codes "now") refl, (stamp_is_utf8 moment h, tt))
flat (NoRow collection id) h = (IsUtf8-are_ascii (codes "no-row") refl, (IsUtf8-from_name collection h.0, (IsUtf8-from_id id h.1, tt)))
flat (NoCollection name) h = (IsUtf8-are_ascii (codes "no-collection") refl, (IsUtf8-from_name name h, tt))
flat (NoBatch number) h = (IsUtf8-are_ascii (codes "no-batch") refl, (h, tt))
flat (NextParts number) h = (IsUtf8-are_ascii (codes "next-parts") refl, (h, tt))

told_again : (m : Mark) → IsMark m → mark_from (array (mark_list m)) ≡ Some m
told_again (Now moment) h = ap (option_map (λ t. Now t)) (stamp_again moment h)
told_again (NoRow collection id) h =
    ap₂ (λ a b. option_and_then (λ n. option_map (λ i. NoRow n i) (cond b (Some id) None)) (cond a (Some collection) None)) h.0 h.1
told_again (NoCollection name) h = ap (λ b. option_map (λ n. NoCollection n) (cond b (Some name) None)) h
told_again (NoBatch number) h = refl
told_again (NextParts number) h = refl

pub told_in : (d : Data) (text : List ℕ) → read text ≡ Some d → (m : Mark) → IsMark m → compact_text (array (mark_list m)) ≡ text → mark_from d ≡ Some m
told_in d text r m h is =
    let same : array (mark_list m) ≡ d = some_same (sym (list_back (mark_list m) (flat m h)) ∙ (ap read is ∙ r)) in
    ap mark_from (sym same) ∙ told_again m h

pub none_told : (text : List ℕ) → (IsUtf8 text → read text ≡ None) → (m : Mark) → IsMark m → compact_text (array (mark_list m)) ≡ text → ⊥
none_told text none m h is =
    none_some (sym (none (subst IsUtf8 is (list_utf8 (mark_list m) (flat m h)))) ∙ (ap read (sym is) ∙ list_back (mark_list m) (flat m h)))

pub noline : (m : Mark) → IsMark m → NoLine (compact_text (array (mark_list m)))
noline m h = list_noline (mark_list m) (flat m h)

-- ---- the last byte

ends_so : (xs ys : List ℕ) (a b : ℕ) → xs ++ a ∷ [] ≡ ys ++ b ∷ [] → (xs ≡ ys) × (a ≡ b)
ends_so [] [] a b e = (refl, cc)
ends_so [] (y ∷ ys) a b e =
    let l : length ([] ++ a ∷ []) ≡ length ((y ∷ ys) ++ b ∷ []) = ap length e in
    let m : length ((y ∷ ys) ++ b ∷ []) ≡ length (y ∷ ys) + 1 = length-append (y ∷ ys) (b ∷ []) in
    absurd (omega arith)
ends_so (x ∷ xs) [] a b e =
    let l : length ((x ∷ xs) ++ a ∷ []) ≡ length ([] ++ b ∷ []) = ap length e in
    let m : length ((x ∷ xs) ++ a ∷ []) ≡ length (x ∷ xs) + 1 = length-append (x ∷ xs) (a ∷ []) in
    absurd (omega arith)
ends_so (x ∷ xs) (y ∷ ys) a b e =
    let h : x ≡ y = cc in
    let t : xs ++ a ∷ [] ≡ ys ++ b ∷ [] = cc in
    let r = ends_so xs ys a b t in
    (ap₂ (λ u w. u ∷ w) h r.0, r.1)

pub ends_mark : (m : Mark) (text : List ℕ) (b : ℕ) → mark_text m ≡ text ++ b ∷ [] → (compact_text (array (mark_list m)) ≡ text) × (b ≡ 10)
ends_mark m text b e = let r = ends_so (compact_text (array (mark_list m))) text 10 b e in (r.0, sym r.1)

pub some_text : (m : Mark) → mark_text m ≡ [] → ⊥
some_text m e =
    let n : length (compact_text (array (mark_list m)) ++ 10 ∷ []) ≡ length (compact_text (array (mark_list m))) + 1 = length-append (compact_text (array (mark_list m))) (10 ∷ []) in
    let z : length (compact_text (array (mark_list m)) ++ 10 ∷ []) ≡ 0 = ap length e in
    omega arith
