-- JSON values whose text is UTF-8 and is read back.
use Rattle.std.proofs.Common.{◌≡◌, ℕ, Bool, true, false, cond, List, [], ◌∷◌, ◌≤◌, Some, None, refl, ap, ◌∙◌, IsUtf8}
use Rattle.std.specs.Prelude.{⊤}
use Rattle.std.proofs.lemmas.Str.{IsUtf8-append, is_utf8-from_IsUtf8}
use Rattle.json.specs.Json.{Json, null, boolean, number, string, array, object, Items, no_items, item, Members}
use Rattle.json.specs.Json.{no_members, member, document, max_depth}
use Rattle.json.specs.Print.{IsNumber, quoted}
use Rattle.json.specs.Tree.{depth, HasNumbers, ItemsHaveNumbers, MembersHaveNumbers}
use Rattle.json.proofs.Printed.Utf8.{IsUtf8-are_ascii, IsUtf8-quoted, IsUtf8-boolean}
use Rattle.serde_json.specs.Written.{comma_if}
use Rattle.ss_hearing.specs.Bodies.{json_of}
use Rattle.ss_serving.proofs.JsonTexts.{json_text, items_text, members_text, document-json_text}

-- numbers are JSON's, and all texts are UTF-8
abbrev mutual
  pub IsClean : Json → Type 0
  IsClean null = ⊤
  IsClean (boolean b) = ⊤
  IsClean (number s) = IsNumber s × IsUtf8 s
  IsClean (string s) = IsUtf8 s
  IsClean (array js) = AreClean js
  IsClean (object ms) = HasClean ms

  pub AreClean : Items → Type 0
  AreClean no_items = ⊤
  AreClean (item j js) = IsClean j × AreClean js

  pub HasClean : Members → Type 0
  HasClean no_members = ⊤
  HasClean (member k j ms) = IsUtf8 k × IsClean j × HasClean ms

mutual
  numbers : (j : Json) → IsClean j → HasNumbers j
  numbers null h = tt
  numbers (boolean b) h = tt
  numbers (number s) h = h.0
  numbers (string s) h = tt
  numbers (array js) h = items_numbers js h
  numbers (object ms) h = members_numbers ms h

  items_numbers : (js : Items) → AreClean js → ItemsHaveNumbers js
  items_numbers no_items h = tt
  items_numbers (item j js) h = (numbers j h.0, items_numbers js h.1)

  members_numbers : (ms : Members) → HasClean ms → MembersHaveNumbers ms
  members_numbers no_members h = tt
  members_numbers (member k j ms) h = (numbers j h.1, members_numbers ms h.2)

comma_utf8 : (later : Bool) → IsUtf8 (comma_if later)
comma_utf8 true = IsUtf8-are_ascii (44 ∷ []) refl
comma_utf8 false = IsUtf8-are_ascii [] refl

one_utf8 : (b : ℕ) (rest : List ℕ) → IsUtf8 (b ∷ []) → IsUtf8 rest → IsUtf8 (b ∷ rest)
one_utf8 b rest h r = IsUtf8-append (b ∷ []) rest h r

mutual
  utf8 : (j : Json) → IsClean j → IsUtf8 (json_text j)
  utf8 null h = IsUtf8-are_ascii _ refl
  utf8 (boolean b) h = IsUtf8-boolean b
  utf8 (number s) h = h.1
  utf8 (string s) h = IsUtf8-quoted s h
  utf8 (array js) h = one_utf8 91 _ (IsUtf8-are_ascii (91 ∷ []) refl) (items_utf8 false js h)
  utf8 (object ms) h = one_utf8 123 _ (IsUtf8-are_ascii (123 ∷ []) refl) (members_utf8 false ms h)

  items_utf8 : (later : Bool) (js : Items) → AreClean js → IsUtf8 (items_text later js)
  items_utf8 later no_items h = IsUtf8-are_ascii (93 ∷ []) refl
  items_utf8 later (item j js) h = IsUtf8-append (comma_if later) _ (comma_utf8 later) (IsUtf8-append (json_text j) _ (utf8 j h.0) (items_utf8 true js h.1))

  members_utf8 : (later : Bool) (ms : Members) → HasClean ms → IsUtf8 (members_text later ms)
  members_utf8 later no_members h = IsUtf8-are_ascii (125 ∷ []) refl
  members_utf8 later (member k j ms) h =
      IsUtf8-append (comma_if later) _ (comma_utf8 later)
      (IsUtf8-append (quoted k) _ (IsUtf8-quoted k h.0) (one_utf8 58 _ (IsUtf8-are_ascii (58 ∷ []) refl) (IsUtf8-append (json_text j) _ (utf8 j h.1) (members_utf8 true ms h.2))))

-- the text of a clean value is read back as a body
pub json_of-text : (j : Json) → IsClean j → depth j ≤ max_depth → json_of (json_text j) ≡ Some j
unfolding json_of
json_of-text j h shallow =
    ap (λ b. cond b (document (json_text j)) None) (is_utf8-from_IsUtf8 (json_text j) (utf8 j h)) ∙ document-json_text j (numbers j h) shallow
