-- A list that is written is its first value and the values behind it.
use Rattle.std.proofs.Common.{◌≡◌, ℕ, true, List, [], ◌∷◌, ◌++◌, map, append_assoc, refl, sym, ap, ◌∙◌}
use Rattle.serde_json.specs.Data.{Data}
use Rattle.serde_json.specs.View.{items_of}
use Rattle.serde_json.specs.Written.{compact_text, items_text}
use Rattle.ss_log_lines.specs.Arrays.{behind}
use Rattle.ss_log_lines.specs.Requests.{data_of_list}

items_are : {X : Type 0} (written : X → Data) (xs : List X) → items_text true (items_of (map written xs)) ≡ behind written xs ++ 93 ∷ []
items_are written [] = refl
items_are written (x ∷ xs) =
    ap (λ t. 44 ∷ (compact_text (written x) ++ t)) (items_are written xs) ∙ ap (λ t. 44 ∷ t) (sym (append_assoc (compact_text (written x)) (behind written xs) (93 ∷ [])))

shape : (out first rest : List ℕ) → (((out ++ 91 ∷ []) ++ first) ++ rest) ++ 93 ∷ [] ≡ out ++ 91 ∷ (first ++ (rest ++ 93 ∷ []))
shape out first rest = simp append_assoc

-- the pieces that are appended for a list
pub array_is : {X : Type 0} (written : X → Data) (out : List ℕ) (x : X) (xs : List X)
    → (((out ++ 91 ∷ []) ++ compact_text (written x)) ++ behind written xs) ++ 93 ∷ [] ≡ out ++ compact_text (data_of_list written (x ∷ xs))
array_is written out x xs =
    shape out (compact_text (written x)) (behind written xs) ∙ ap (λ t. out ++ 91 ∷ (compact_text (written x) ++ t)) (sym (items_are written xs))
