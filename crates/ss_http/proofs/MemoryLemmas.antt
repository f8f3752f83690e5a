-- The pieces of the response that is there without memory.
use Rattle.std.proofs.Common.{◌≡◌, ◌≤◌, ℕ, ◌+◌, ◌/◌, ◌%◌, List, ◌∷◌, ◌++◌, length, take, Bool, true, false, cond, Some}
use Rattle.std.proofs.Common.{None, codes, decimal, append_assoc, length-append, length-take-le, sym, ◌∙◌, ap, ap₂}
use Rattle.std.proofs.Common.{arith}
use Rattle.std.specs.Fmt.{digits}
use Rattle.ss_text.specs.Time.{stamp_text, two_digits}
use Rattle.ss_http.specs.Fields.{Line, lines, field_if}
use Rattle.ss_http.specs.Responses.{head_text, close_text, memory_response}

abbrev pub before : List ℕ
before = codes "HTTP/1.1 507 Insufficient Storage\r\nX-Weave-Timestamp: "

abbrev pub behind : List ℕ
behind = codes "\r\nContent-Type: application/json\r\nContent-Length: 8\r\n"

abbrev pub body : List ℕ
body = codes "\r\n\"memory\""

left : (v r c b : List ℕ) → ((v ++ codes "\r\n") ++ r) ++ c ++ b ≡ v ++ (codes "\r\n" ++ (r ++ (c ++ b)))
left v r c b = simp append_assoc

right : (v x c b : List ℕ) → v ++ x ++ c ++ b ≡ v ++ (x ++ (c ++ b))
right v x c b = simp append_assoc

-- the fields behind the time
abbrev rest : Bool → List Line
rest last = (codes "Content-Type", codes "application/json") ∷ (codes "Content-Length", decimal 8) ∷ field_if (codes "Connection") (cond last (Some (codes "close")) None)

-- the pieces in their order
pub memory_pieces : (moment : ℕ) (last : Bool) → memory_response moment last ≡ before ++ stamp_text moment ++ behind ++ close_text last ++ body
unfolding head_text lines digits
memory_pieces moment true =
    ap (λ l. before ++ l) (left (stamp_text moment) (lines (rest true)) (codes "\r\n") (codes "\"memory\"") ∙ sym (right (stamp_text moment) behind (close_text true) body))
memory_pieces moment false =
    ap (λ l. before ++ l) (left (stamp_text moment) (lines (rest false)) (codes "\r\n") (codes "\"memory\"") ∙ sym (right (stamp_text moment) behind (close_text false) body))

-- texts that were written one behind the other
pub chained : (moment : ℕ) (last : Bool) (a b c d e x y z : List ℕ) → a ≡ x → x ≡ before → b ≡ a ++ stamp_text moment → c ≡ b ++ y → y ≡ behind
    → d ≡ c ++ close_text last → e ≡ d ++ z → z ≡ body → e ≡ memory_response moment last
chained moment last a b c d e x y z ea ex eb ec ey ed ee ez =
    let first : a ≡ before = ea ∙ ex in
    let second : b ≡ before ++ stamp_text moment = eb ∙ ap (λ l. l ++ stamp_text moment) first in
    let third : c ≡ before ++ stamp_text moment ++ behind = ec ∙ ap₂ (λ l m. l ++ m) second ey in
    let fourth : d ≡ before ++ stamp_text moment ++ behind ++ close_text last = ed ∙ ap (λ l. l ++ close_text last) third in
    ee ∙ ap₂ (λ l m. l ++ m) fourth ez ∙ sym (memory_pieces moment last)

-- how long they are
pub sized : (moment : ℕ) (last : Bool) → length (memory_response moment last) ≡ 54 + length (stamp_text moment) + 53 + length (close_text last) + 10
sized moment last =
    ap length (memory_pieces moment last)
    ∙ omega (
      arith,
      length-append (before ++ stamp_text moment ++ behind ++ close_text last) body,
      length-append (before ++ stamp_text moment ++ behind) (close_text last),
      length-append (before ++ stamp_text moment) behind,
      length-append before (stamp_text moment),
    )

pub stamp_size : (moment : ℕ) → length (stamp_text moment) ≡ length (decimal (moment / 100)) + 3
unfolding stamp_text
stamp_size moment = length-append (decimal (moment / 100)) (46 ∷ two_digits (moment % 100))

-- a front that is known is as long as it says
pub front_is : (n : ℕ) (room text : List ℕ) → n ≤ length room → take n room ≡ text → take (length text) room ≡ text
front_is n room text within e =
    let size : length text ≡ n = sym (ap length e) ∙ length-take-le n room within in
    ap (λ k. take k room) size ∙ e
