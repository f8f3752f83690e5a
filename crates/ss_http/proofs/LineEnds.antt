-- A head ends in a line end, so bytes without one make no head whole.
use Rattle.std.proofs.Common.{◌≡◌, ◌≤◌, ◌<◌, ◌⊎◌, inl, inr, ℕ, ◌+◌, List, [], ◌∷◌, ◌++◌, length, true, false, ◌||◌}
use Rattle.std.proofs.Common.{◌==◌, refl, sym, ◌∙◌, ap, append_assoc, length-append, arith}
use Rattle.std.proofs.lemmas.Bool.{cases_lt, true≢false, ne_eqb, or_right}
use Rattle.std.specs.List.{list_any, flat_map}
use Rattle.httparse.specs.Grammar.{LineEnd, crlf, lf, print_end, print_blank, print_version, print_field, print_reason}
use Rattle.httparse.specs.Grammar.{RequestHead, print_request, ResponseHead, print_response, HasNoRequest}
use Rattle.httparse.specs.Grammar.{HasNoResponse}
use Rattle.ss_http.specs.Listening.{IsNoLonger}

-- one of two equal lists begins with a front of the other
pub front_of : (a b c d : List ℕ) → length c ≤ length a → a ++ b ≡ c ++ d → (k : List ℕ) × (a ≡ c ++ k) × (d ≡ k ++ b)
front_of a b [] d within e = (a, refl, sym e)
front_of [] b (y ∷ c) d within e = absurd (omega arith)
front_of (x ∷ a) b (y ∷ c) d within e =
    let heads : x ≡ y = cc in
    let tails : a ++ b ≡ c ++ d = cc in
    let rest = front_of a b c d (omega arith) tails in
    let same : a ≡ c ++ rest.0 = rest.1 in
    (rest.0, (let goal : x ∷ a ≡ y ∷ (c ++ rest.0) = cc in goal), rest.2)

-- a line end behind some bytes
pub has_line_end : (k rest : List ℕ) → list_any (λ b. b == 10) (k ++ 10 ∷ rest) ≡ true
has_line_end [] rest = refl
has_line_end (x ∷ k) rest = or_right (x == 10) _ (has_line_end k rest)

-- the bytes of a text end in a line end
abbrev pub EndsInLine : List ℕ → Type 0
EndsInLine text = (front : List ℕ) × (text ≡ front ++ 10 ∷ [])

-- a text that ends in a line end, and is there only with bytes that have none, was there before them
pub line_needed : (old got text rest : List ℕ) → EndsInLine text → old ++ got ≡ text ++ rest → list_any (λ b. b == 10) got ≡ false
    → (k : List ℕ) × (old ≡ text ++ k)
line_needed old got text rest ends e none = at (cases_lt (length old) (length text))
  where
    at : (length old < length text) ⊎ (length text ≤ length old) → (k : List ℕ) × (old ≡ text ++ k)
    at (inr long) = let split = front_of old got text rest long e in (split.0, split.1)
    at (inl short) =
        let size : length text ≡ length ends.0 + 1 = ap length ends.1 ∙ length-append ends.0 (10 ∷ []) in
        let whole : ends.0 ++ (10 ∷ rest) ≡ old ++ got = sym (append_assoc ends.0 (10 ∷ []) rest) ∙ ap (λ z. z ++ rest) (sym ends.1) ∙ sym e in
        let split = front_of ends.0 (10 ∷ rest) old got (omega arith) whole in
        let some : list_any (λ b. b == 10) got ≡ true = ap (list_any (λ b. b == 10)) split.2 ∙ has_line_end split.0 rest in
        absurd (true≢false (sym some ∙ none))

end_ends : (front : List ℕ) (end : LineEnd) → EndsInLine (front ++ print_end end)
end_ends front lf = (front, refl)
end_ends front crlf = (front ++ 13 ∷ [], sym (append_assoc front (13 ∷ []) (10 ∷ [])))

pub request_ends : (h : RequestHead) → EndsInLine (print_request h)
unfolding print_request
request_ends h =
    let front = print_blank h.blank ++ h.method ++ 32 ∷ h.target ++ 32 ∷ print_version h.minor ++ print_end h.line_end in
    let ends = end_ends (front ++ flat_map print_field h.fields) h.last in
    (ends.0, sym (append_assoc front (flat_map print_field h.fields) (print_end h.last)) ∙ ends.1)

pub response_ends : (h : ResponseHead) → EndsInLine (print_response h)
unfolding print_response
response_ends h =
    let front = print_blank h.blank ++ print_version h.minor ++ 32 ∷ h.digits ++ print_reason h.reason ++ print_end h.line_end in
    let ends = end_ends (front ++ flat_map print_field h.fields) h.last in
    (ends.0, sym (append_assoc front (flat_map print_field h.fields) (print_end h.last)) ∙ ends.1)

-- bytes without a line end make no head of a request whole
pub still_no_request : (old got : List ℕ) → HasNoRequest old → list_any (λ b. b == 10) got ≡ false → HasNoRequest (old ++ got)
still_no_request old got none lineless h rest reads =
    let before = line_needed old got (print_request h) rest (request_ends h) reads.1 lineless in
    none h before.0 (reads.0, before.1)

-- nor of a response
pub still_no_response : (old got : List ℕ) → HasNoResponse old → list_any (λ b. b == 10) got ≡ false → HasNoResponse (old ++ got)
still_no_response old got none lineless h rest reads =
    let before = line_needed old got (print_response h) rest (response_ends h) reads.1 lineless in
    none h before.0 (reads.0, before.1)

-- one byte more makes no head whole but one that ends with it
pub no_longer : (old : List ℕ) (b : ℕ) → HasNoResponse old → IsNoLonger (old ++ b ∷ [])
no_longer old b none h [] reads = refl
no_longer old b none h (x ∷ rest) reads =
    let size : length old + 1 ≡ length (print_response h) + (length rest + 1) = sym (length-append old (b ∷ [])) ∙ ap length reads.1 ∙ length-append (print_response h) (x ∷ rest) ∙ (let n : length (print_response h) + length (x ∷ rest) ≡ length (print_response h) + (length rest + 1) = omega arith in n) in
    let before = front_of old (b ∷ []) (print_response h) (x ∷ rest) (omega arith) reads.1 in
    absurd (none h before.0 (reads.0, before.1))

pub still_none : (old : List ℕ) (b : ℕ) → HasNoResponse old → (b ≡ 10 → ⊥) → HasNoResponse (old ++ b ∷ [])
still_none old b none other = still_no_response old (b ∷ []) none (ap (λ t. t || false) (ne_eqb b 10 other))
