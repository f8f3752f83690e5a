-- Lines one after another.
use Rattle.std.proofs.Common.{◌≡◌, ℕ, List, [], ◌∷◌, ◌++◌, refl, sym, ap, ◌∙◌, append_assoc, append-nil, cond, codes}
use Rattle.std.proofs.Common.{decimal, ◌≢◌, Option, Some, None, option_map}
use Rattle.std.proofs.lemmas.Bool.{ne_eqb}
use Rattle.ss_http.specs.declared.response.ResponseHead.{ResponseHead}
use Rattle.ss_text.specs.Time.{stamp_text}
use Rattle.ss_http.specs.Fields.{line, lines, field_if}
use Rattle.ss_http.specs.Responses.{type_of, body_fields, fields}
use Rattle.ss_http.specs.Requests.{cond_fields, content_fields, request_fields}
use Rattle.ss_text.specs.declared.stamps.Cond.{Cond}

pub lines-append : (a b : List (List ℕ × List ℕ)) → lines (a ++ b) ≡ lines a ++ lines b
unfolding lines
lines-append [] b = refl
lines-append (f ∷ fs) b = ap (λ l. line f ++ l) (lines-append fs b) ∙ sym (append_assoc (line f) (lines fs) (lines b))

pub lines_one : (f : List ℕ × List ℕ) → lines (f ∷ []) ≡ line f
unfolding lines
lines_one f = append-nil (line f)

pub lines-nil : lines [] ≡ []
unfolding lines
lines-nil = refl

-- what is written after a list of lines goes on with it
pub then_lines : (old mid new : List ℕ) (a b : List (List ℕ × List ℕ)) → mid ≡ old ++ lines a → new ≡ mid ++ lines b → new ≡ old ++ lines (a ++ b)
then_lines old mid new a b p q = q ∙ ap (λ l. l ++ lines b) p ∙ append_assoc old (lines a) (lines b) ∙ ap (λ l. old ++ l) (sym (lines-append a b))

pub seven : (a b c d e f g : List (List ℕ × List ℕ)) → ((((((a ++ b) ++ c) ++ d) ++ e) ++ f) ++ g) ≡ a ++ (b ++ (c ++ (d ++ (e ++ (f ++ g)))))
seven a b c d e f g = simp append_assoc

pub body_lines : (h : ResponseHead) (n : ℕ) (form : List ℕ) (old mid new : List ℕ) → h.status ≢ 304 → form ≡ type_of h.newlines
    → mid ≡ old ++ lines ((codes "Content-Type", form) ∷ []) → new ≡ mid ++ lines ((codes "Content-Length", decimal n) ∷ []) → new ≡ old ++ lines (body_fields h n)
body_lines h n form old mid new other is p q =
    then_lines old mid new _ _ p q ∙ ap (λ f. old ++ lines ((codes "Content-Type", f) ∷ (codes "Content-Length", decimal n) ∷ [])) is
    ∙ ap (λ b. old ++ lines (cond b [] ((codes "Content-Type", type_of h.newlines) ∷ (codes "Content-Length", decimal n) ∷ []))) (sym (ne_eqb h.status 304 other))

pub fields_written : (h : ResponseHead) (n : ℕ) (o p q r s t u v : List ℕ)
    → p ≡ o ++ lines (field_if (codes "X-Weave-Timestamp") (Some (stamp_text h.moment)))
    → q ≡ p ++ lines (field_if (codes "X-Last-Modified") (option_map stamp_text h.modified))
    → r ≡ q ++ lines (field_if (codes "X-Weave-Records") (option_map decimal h.count))
    → s ≡ r ++ lines (field_if (codes "X-Weave-Next-Offset") (option_map decimal h.next))
    → t ≡ s ++ lines (field_if (codes "Allow") h.allow)
    → u ≡ t ++ lines (body_fields h n)
    → v ≡ u ++ lines (field_if (codes "Connection") (cond h.last (Some (codes "close")) None))
    → v ≡ o ++ lines (fields h n)
fields_written h n o p q r s t u v ep eq er es et eu ev =
    let two = then_lines o p q _ _ ep eq in
    let three = then_lines o q r _ _ two er in
    let four = then_lines o r s _ _ three es in
    let five = then_lines o s t _ _ four et in
    let six = then_lines o t u _ _ five eu in
    then_lines o u v _ _ six ev ∙ ap (λ fs. o ++ lines fs)
    (seven (field_if (codes "X-Weave-Timestamp") (Some (stamp_text h.moment))) (field_if (codes "X-Last-Modified") (option_map stamp_text h.modified))
    (field_if (codes "X-Weave-Records") (option_map decimal h.count)) (field_if (codes "X-Weave-Next-Offset") (option_map decimal h.next)) (field_if (codes "Allow") h.allow)
    (body_fields h n) (field_if (codes "Connection") (cond h.last (Some (codes "close")) None)))

-- the fields of a request
pub request_lines : (host : List ℕ) (cond : Cond) (body : Option (List ℕ)) (o p q r : List ℕ)
    → p ≡ o ++ lines (field_if (codes "Host") (Some host)) → q ≡ p ++ lines (cond_fields cond) → r ≡ q ++ lines (content_fields body) → r ≡ o ++ lines (request_fields host cond body)
request_lines host cond body o p q r ep eq er =
    let two = then_lines o p q (field_if (codes "Host") (Some host)) (cond_fields cond) ep eq in
    then_lines o q r _ (content_fields body) two er ∙ ap (λ fs. o ++ lines fs) (append_assoc (field_if (codes "Host") (Some host)) (cond_fields cond) (content_fields body))
