-- What a body is, by the answers of the reader of JSON.
use Rattle.std.proofs.Common.{◌≡◌, ℕ, List, Bool, true, false, cond, Option, Some, None, refl, sym, ap, ◌∙◌}
use Rattle.std.proofs.lemmas.Str.{IsUtf8-from_is_utf8, is_utf8-from_IsUtf8}
use Rattle.std.specs.Str.{IsUtf8, is_utf8}
use Rattle.json.specs.Json.{Json, document}
use Rattle.ss_hearing.specs.Bodies.{json_of}

pub json_yes : (body : List ℕ) (d : Json) → IsUtf8 body → document body ≡ Some d → Some d ≡ json_of body
unfolding json_of
json_yes body d utf8 reads = sym reads ∙ sym (ap (λ b. cond b (document body) None) (is_utf8-from_IsUtf8 body utf8))

either : (b : Bool) (o : Option Json) → (b ≡ true → o ≡ None) → None ≡ cond b o None
either true o h = sym (h refl)
either false o h = refl

pub json_no : (body : List ℕ) → (IsUtf8 body → document body ≡ None) → None ≡ json_of body
unfolding json_of
json_no body none = either (is_utf8 body) (document body) (λ t. none (IsUtf8-from_is_utf8 body t))
