-- The text of a body with a part alone.
use Rattle.std.proofs.Common.{◌≡◌, ℕ, List, [], ◌++◌, append_assoc, ap, ◌∙◌, codes}
use Rattle.serde_json.specs.Data.{string, array, object, no_items, item, no_members, member}
use Rattle.serde_json.specs.Written.{compact_text}
use Rattle.json.specs.Print.{escape_byte}

-- five pieces, one behind the other
pub five : (o a b c d e p q r s t : List ℕ) → o ≡ [] → a ≡ o ++ p → b ≡ a ++ q → c ≡ b ++ r → d ≡ c ++ s → e ≡ d ++ t → e ≡ p ++ (q ++ (r ++ (s ++ t)))
five o a b c d e p q r s t none one two three four last =
    last
    ∙ (ap (λ x. x ++ t) (four ∙ ap (λ x. x ++ s) (three ∙ ap (λ x. x ++ r) (two ∙ ap (λ x. x ++ q) (one ∙ ap (λ x. x ++ p) none))))
    ∙ simp append_assoc)

pub body_text : (i p : List ℕ) → codes "[{\"id\":" ++ (compact_text (string i) ++ (codes ",\"payload\":" ++ (compact_text (string p) ++ codes "}]")))
    ≡ compact_text (array (item (object (member (codes "id") (string i) (member (codes "payload") (string p) no_members))) no_items))
unfolding escape_byte
body_text i p = simp append_assoc
