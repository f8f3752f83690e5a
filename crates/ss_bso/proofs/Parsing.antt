-- What bytes are, by the answers of serde_json.
use Rattle.std.proofs.Common.{◌≡◌, ℕ, List, Bool, true, false, cond, Option, Some, None, refl, sym, ap, ◌∙◌}
use Rattle.std.proofs.lemmas.Str.{IsUtf8-from_is_utf8, is_utf8-from_IsUtf8}
use Rattle.std.specs.Str.{IsUtf8, is_utf8}
use Rattle.serde_json.specs.Data.{Data}
use Rattle.serde_json.specs.Read.{read}
use Rattle.ss_text.specs.Decimals.{wrapped_text}
use Rattle.ss_bso.specs.Members.{json_of, parsed_body}

pub json_yes : (bytes : List ℕ) (d : Data) → IsUtf8 bytes → read bytes ≡ Some d → Some d ≡ json_of bytes
json_yes bytes d utf8 reads = sym reads ∙ sym (ap (λ b. cond b (read bytes) None) (is_utf8-from_IsUtf8 bytes utf8))

either : (b : Bool) (o : Option Data) → (b ≡ true → o ≡ None) → None ≡ cond b o None
either true o h = sym (h refl)
either false o h = refl

pub json_no : (bytes : List ℕ) → (IsUtf8 bytes → read bytes ≡ None) → None ≡ json_of bytes
json_no bytes none = either (is_utf8 bytes) (read bytes) (λ t. none (IsUtf8-from_is_utf8 bytes t))

pub parsed_is : (text bytes : List ℕ) → bytes ≡ wrapped_text text → json_of bytes ≡ parsed_body text
unfolding parsed_body
parsed_is text bytes e = ap json_of e
