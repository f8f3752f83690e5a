-- A written response is a head of the grammar with its body, and is heard as it was meant.
use Rattle.std.proofs.Common.{◌≡◌, ℕ, ◌^◌, ◌<◌, ◌≤◌, List, [], ◌∷◌, ◌++◌, length, map, Bool, true, false, ◌==◌, cond}
use Rattle.std.proofs.Common.{Option, Some, None, option_map, option_and_then, IfSome, decimal, codes, refl, sym, ap}
use Rattle.std.proofs.Common.{ap₂, ◌∙◌, arith, lit<, lit≤, append_assoc, append-nil, length-append, inl, inr, ◌⊎◌}
use Rattle.std.proofs.lemmas.Bool.{cases_lt, eqb-true}
use Rattle.std.proofs.lemmas.Fmt.{decimal_is_IsNumeral, length-decimal-le}
use Rattle.std.proofs.lemmas.Int.Digits.{digits_value-lt}
use Rattle.std.proofs.lemmas.List.{length-map}
use Rattle.std.proofs.lemmas.List.Sums.{AllPass-from_list_all}
use Rattle.std.proofs.lemmas.List.Elements.{All-from_recursion}
use Rattle.std.proofs.Math.Nat.{pow-le-pow_right}
use Rattle.std.specs.List.{list_all, list_any}
use Rattle.std.specs.Char.{is_ascii_digit}
use Rattle.std.specs.Str.Parse.{digits_value, IsNumeral}
use Rattle.httparse.specs.Grammar as grammar
use Rattle.httparse.specs.Grammar.{IsField, crlf, print_response, IsResponseHead, status_code, is_token_byte}
use Rattle.httparse.specs.Grammar.{is_value_byte}
use Rattle.httparse.proofs.GrammarLemmas.{print_response-append}
use Rattle.ss_text.specs.Numbers.{number_of}
use Rattle.ss_text.specs.Time.{stamp_text, stamp_of, last_stamp}
use Rattle.ss_http.specs.declared.response.ResponseHead.{ResponseHead}
use Rattle.ss_http.specs.declared.heard.Heard.{Heard}
use Rattle.ss_http.specs.Fields.{Line, lines, field_if, same_name, first_named, closes, holds_close, without_spaces}
use Rattle.ss_http.specs.Responses.{type_of, body_fields, fields, reason_of, head_text, response}
use Rattle.ss_http.specs.Hearing.{Hears, size_of, heard_of_response, IsBare, IsAllow, IsSound}
use Rattle.ss_http.proofs.LineLemmas.{lines-append}
use Rattle.ss_http.proofs.Written.{field_of, lines_print, Fit, fit-append, fit_if, bare_map, are_fields, values_are}
use Rattle.ss_http.proofs.Written.{none_named, named_here, or_none, none_closing, if_count, if_long, map_long}
use Rattle.ss_http.proofs.Written.{decimal_long, stamp_long, lines_length}
use Rattle.ss_http.proofs.Values.{decimal_is_bare, stamp_is_bare, visible_is_bare, number_again}
use Rattle.ss_http.specs.declared.limits.TheConstants.{HEAD_ROOM, LENGTH_DIGITS}
use Rattle.ss_text.proofs.StampTexts.{decimal_digits, stamp_again}

abbrev pub tree_of : ResponseHead → ℕ → grammar.ResponseHead
tree_of h n = record { blank = []; minor = 1; digits = decimal h.status; reason = Some (reason_of h.status); line_end = crlf; fields = map field_of (fields h n); last = crlf }

-- ---- the bytes

response_is_head : (h : ResponseHead) (body rest : List ℕ) → response h body ++ rest ≡ print_response (tree_of h (length body)) ++ (body ++ rest)
unfolding head_text
response_is_head h body rest =
    regroup (decimal h.status) (reason_of h.status) (lines (fields h (length body)))
    ∙ ap (λ l. codes "HTTP/1.1" ++ 32 ∷ (decimal h.status ++ ((32 ∷ reason_of h.status) ++ (codes "\r\n" ++ ((l ++ codes "\r\n") ++ (body ++ rest)))))) (sym (lines_print (fields h (length body))))
    ∙ sym (print_response-append (tree_of h (length body)) (body ++ rest))
  where
    regroup : (s r l : List ℕ) → ((codes "HTTP/1.1 " ++ s ++ codes " " ++ r ++ codes "\r\n") ++ l ++ codes "\r\n" ++ body) ++ rest
        ≡ codes "HTTP/1.1" ++ 32 ∷ (s ++ ((32 ∷ r) ++ (codes "\r\n" ++ ((l ++ codes "\r\n") ++ (body ++ rest)))))
    regroup s r l = simp append_assoc

body_fit : (h : ResponseHead) (n : ℕ) (b : Bool) → n < 2 ^ 64 → Fit (cond b [] ((codes "Content-Type", type_of h.newlines) ∷ (codes "Content-Length", decimal n) ∷ []))
unfolding is_token_byte
body_fit h n true few = tt
body_fit h n false few = (record { name = refl; value = type_bare h.newlines }, (record { name = refl; value = decimal_is_bare n few }, tt))
  where
    type_bare : (b : Bool) → IsBare (type_of b)
    type_bare true = visible_is_bare _ refl
    type_bare false = visible_is_bare _ refl

close_bare : (b : Bool) → IfSome (cond b (Some (codes "close")) None) IsBare
close_bare true = visible_is_bare _ refl
close_bare false = tt

bare_allow : (o : Option (List ℕ)) → IfSome o IsAllow → IfSome o IsBare
bare_allow None h = tt
bare_allow (Some v) h = h.0

fields_fit : (h : ResponseHead) (body : List ℕ) → IsSound h body → Fit (fields h (length body))
unfolding is_token_byte
fields_fit h body s =
    fit-append (field_if (codes "X-Weave-Timestamp") (Some (stamp_text h.moment))) _ (fit_if _ (Some (stamp_text h.moment)) refl (stamp_is_bare h.moment s.moment))
    (fit-append (field_if (codes "X-Last-Modified") (option_map stamp_text h.modified)) _ (fit_if _ (option_map stamp_text h.modified) refl (bare_map stamp_text (λ n. n ≤ last_stamp) h.modified stamp_is_bare s.modified))
    (fit-append (field_if (codes "X-Weave-Records") (option_map decimal h.count)) _ (fit_if _ (option_map decimal h.count) refl (bare_map decimal (λ n. n < 2 ^ 64) h.count decimal_is_bare s.count))
    (fit-append (field_if (codes "X-Weave-Next-Offset") (option_map decimal h.next)) _ (fit_if _ (option_map decimal h.next) refl (bare_map decimal (λ n. n < 2 ^ 64) h.next decimal_is_bare s.next))
    (fit-append (field_if (codes "Allow") h.allow) _ (fit_if _ h.allow refl (bare_allow h.allow s.allow))
    (fit-append (body_fields h (length body)) _ (body_fit h (length body) (h.status == 304) (let few : length body < 2 ^ 64 = omega (arith, s.size) in few))
    (fit_if (codes "Connection") (cond h.last (Some (codes "close")) None) refl (close_bare h.last)))))))

all_if : (b : Bool) (x y : List ℕ) → list_all is_value_byte x ≡ true → list_all is_value_byte y ≡ true → list_all is_value_byte (cond b x y) ≡ true
all_if true x y h k = h
all_if false x y h k = k

reason_passes : (s : ℕ) → list_all is_value_byte (reason_of s) ≡ true
reason_passes s = all_if (s == 200) (codes "OK") _ refl (all_if (s == 202) (codes "Accepted") _ refl (all_if (s == 304) (codes "Not Modified") _ refl (all_if (s == 400) (codes "Bad Request") _ refl (all_if (s == 401) (codes "Unauthorized") _ refl (all_if (s == 403) (codes "Forbidden") _ refl (all_if (s == 404) (codes "Not Found") _ refl (all_if (s == 405) (codes "Method Not Allowed") _ refl (all_if (s == 411) (codes "Length Required") _ refl (all_if (s == 412) (codes "Precondition Failed") _ refl (all_if (s == 413) (codes "Content Too Large") _ refl (all_if (s == 415) (codes "Unsupported Media Type") _ refl (all_if (s == 503) (codes "Service Unavailable") _ refl (all_if (s == 507) (codes "Insufficient Storage") _ refl (refl))))))))))))))

three_digits : (n : ℕ) → 100 ≤ n → n < 1000 → length (decimal n) ≡ 3
three_digits n low high = at (cases_lt (length (decimal n)) 3)
  where
    few : n < 2 ^ 64
    few = omega arith

    numeral : IsNumeral 10 (decimal n) × (digits_value 10 (decimal n) ≡ n)
    numeral = decimal_is_IsNumeral n few

    at : (length (decimal n) < 3) ⊎ (3 ≤ length (decimal n)) → length (decimal n) ≡ 3
    at (inr more) = omega (arith, length-decimal-le 3 n (lit< tt) high few)
    at (inl less) =
        let shorter : length (decimal n) ≤ 2 = omega arith in
        let below = digits_value-lt 10 (decimal n) numeral.0.1 in
        let power : 10 ^ length (decimal n) ≤ 10 ^ 2 = pow-le-pow_right (lit< tt) shorter in
        let never : ⊥ = omega (arith, below, power, numeral.1) in
        absurd never

is_head : (h : ResponseHead) (body : List ℕ) → IsSound h body → IsResponseHead (tree_of h (length body))
is_head h body s =
    let few : h.status < 2 ^ 64 = omega (arith, s.status) in
    record {
      minor = lit≤ tt;
      digits = (three_digits h.status s.status.0 s.status.1, AllPass-from_list_all is_ascii_digit (decimal h.status) (decimal_digits h.status few));
      reason = AllPass-from_list_all is_value_byte (reason_of h.status) (reason_passes h.status);
      fields = All-from_recursion IsField (map field_of (fields h (length body))) (are_fields (fields h (length body)) (fields_fit h body s));
    }

-- ---- what is heard

body_unnamed : (name : List ℕ) (b : Bool) (t l : List ℕ) (fs : List Line) → same_name (codes "Content-Type") name ≡ false → same_name (codes "Content-Length") name ≡ false
    → first_named name (cond b [] ((codes "Content-Type", t) ∷ (codes "Content-Length", l) ∷ []) ++ fs) ≡ first_named name fs
body_unnamed name true t l fs e f = refl
body_unnamed name false t l fs e f =
    ap (λ b. cond b (Some t) (cond (same_name (codes "Content-Length") name) (Some l) (first_named name fs))) e ∙ ap (λ b. cond b (Some l) (first_named name fs)) f

module _ (h : ResponseHead) (n : ℕ) where
  abbrev at_end : List Line
  at_end = field_if (codes "Connection") (cond h.last (Some (codes "close")) None)

  abbrev from_body : List Line
  from_body = body_fields h n ++ at_end

  abbrev from_allow : List Line
  from_allow = field_if (codes "Allow") h.allow ++ from_body

  abbrev from_next : List Line
  from_next = field_if (codes "X-Weave-Next-Offset") (option_map decimal h.next) ++ from_allow

  abbrev from_count : List Line
  from_count = field_if (codes "X-Weave-Records") (option_map decimal h.count) ++ from_next

  abbrev from_modified : List Line
  from_modified = field_if (codes "X-Last-Modified") (option_map stamp_text h.modified) ++ from_count

  end_unnamed : (name : List ℕ) → same_name (codes "Connection") name ≡ false → first_named name at_end ≡ None
  end_unnamed name e = ap (first_named name) (sym (append-nil at_end)) ∙ none_named name (codes "Connection") (cond h.last (Some (codes "close")) None) [] e

  allow_unnamed : (name : List ℕ) → same_name (codes "Allow") name ≡ false → same_name (codes "Content-Type") name ≡ false → same_name (codes "Content-Length") name ≡ false
      → same_name (codes "Connection") name ≡ false → first_named name from_allow ≡ None
  allow_unnamed name a t l c =
      none_named name (codes "Allow") h.allow from_body a ∙ body_unnamed name (h.status == 304) (type_of h.newlines) (decimal n) at_end t l ∙ end_unnamed name c

  modified_heard : first_named (codes "X-Last-Modified") (fields h n) ≡ option_map stamp_text h.modified
  modified_heard =
      let name = codes "X-Last-Modified" in
      named_here name name (option_map stamp_text h.modified) from_count refl
      ∙ or_none (option_map stamp_text h.modified) (first_named name from_count)
      (none_named name (codes "X-Weave-Records") (option_map decimal h.count) from_next refl
      ∙ none_named name (codes "X-Weave-Next-Offset") (option_map decimal h.next) from_allow refl
      ∙ allow_unnamed name refl refl refl refl)

  next_heard : first_named (codes "X-Weave-Next-Offset") (fields h n) ≡ option_map decimal h.next
  next_heard =
      let name = codes "X-Weave-Next-Offset" in
      none_named name (codes "X-Last-Modified") (option_map stamp_text h.modified) from_count refl
      ∙ none_named name (codes "X-Weave-Records") (option_map decimal h.count) from_next refl
      ∙ named_here name name (option_map decimal h.next) from_allow refl
      ∙ or_none (option_map decimal h.next) (first_named name from_allow) (allow_unnamed name refl refl refl refl)

  plain_heard : first_named (codes "Transfer-Encoding") (fields h n) ≡ None
  plain_heard =
      let name = codes "Transfer-Encoding" in
      none_named name (codes "X-Last-Modified") (option_map stamp_text h.modified) from_count refl
      ∙ none_named name (codes "X-Weave-Records") (option_map decimal h.count) from_next refl
      ∙ none_named name (codes "X-Weave-Next-Offset") (option_map decimal h.next) from_allow refl
      ∙ allow_unnamed name refl refl refl refl

  length_heard : (h.status == 304) ≡ false → first_named (codes "Content-Length") (fields h n) ≡ Some (decimal n)
  length_heard other =
      let name = codes "Content-Length" in
      none_named name (codes "X-Last-Modified") (option_map stamp_text h.modified) from_count refl
      ∙ none_named name (codes "X-Weave-Records") (option_map decimal h.count) from_next refl
      ∙ none_named name (codes "X-Weave-Next-Offset") (option_map decimal h.next) from_allow refl
      ∙ none_named name (codes "Allow") h.allow from_body refl
      ∙ ap (λ b. first_named name (cond b [] ((codes "Content-Type", type_of h.newlines) ∷ (codes "Content-Length", decimal n) ∷ []) ++ at_end)) other

body_closing : (b : Bool) (t l : List ℕ) (fs : List Line) → list_any closes (cond b [] ((codes "Content-Type", t) ∷ (codes "Content-Length", l) ∷ []) ++ fs) ≡ list_any closes fs
body_closing true t l fs = refl
body_closing false t l fs = refl

end_closing : (b : Bool) → list_any closes (field_if (codes "Connection") (cond b (Some (codes "close")) None)) ≡ b
unfolding holds_close without_spaces
end_closing true = refl
end_closing false = refl

last_heard : (h : ResponseHead) (n : ℕ) → list_any closes (fields h n) ≡ h.last
last_heard h n =
    none_closing (codes "X-Last-Modified") (option_map stamp_text h.modified) (from_count h n) refl
    ∙ none_closing (codes "X-Weave-Records") (option_map decimal h.count) (from_next h n) refl
    ∙ none_closing (codes "X-Weave-Next-Offset") (option_map decimal h.next) (from_allow h n) refl
    ∙ none_closing (codes "Allow") h.allow (from_body h n) refl
    ∙ body_closing (h.status == 304) (type_of h.newlines) (decimal n) (at_end h n)
    ∙ end_closing h.last

-- ---- how long a head is

body_count : (b : Bool) (x y : Line) → length (cond b [] (x ∷ y ∷ [])) ≤ 2
body_count true x y = lit≤ tt
body_count false x y = lit≤ tt

count_heard : (h : ResponseHead) (n : ℕ) → length (fields h n) ≤ 8
count_heard h n =
    let a = if_count (codes "X-Last-Modified") (option_map stamp_text h.modified) in
    let b = if_count (codes "X-Weave-Records") (option_map decimal h.count) in
    let c = if_count (codes "X-Weave-Next-Offset") (option_map decimal h.next) in
    let d = if_count (codes "Allow") h.allow in
    let e = body_count (h.status == 304) (codes "Content-Type", type_of h.newlines) (codes "Content-Length", decimal n) in
    let f = if_count (codes "Connection") (cond h.last (Some (codes "close")) None) in
    omega (
      arith,
      length-append (field_if (codes "X-Last-Modified") (option_map stamp_text h.modified)) (from_count h n),
      length-append (field_if (codes "X-Weave-Records") (option_map decimal h.count)) (from_next h n),
      length-append (field_if (codes "X-Weave-Next-Offset") (option_map decimal h.next)) (from_allow h n),
      length-append (field_if (codes "Allow") h.allow) (from_body h n),
      length-append (body_fields h n) (at_end h n),
    )

len_if : (b : Bool) (x y : List ℕ) → length x ≤ 22 → length y ≤ 22 → length (cond b x y) ≤ 22
len_if true x y h k = h
len_if false x y h k = k

reason_short : (s : ℕ) → length (reason_of s) ≤ 22
reason_short s = len_if (s == 200) (codes "OK") _ (lit≤ tt) (len_if (s == 202) (codes "Accepted") _ (lit≤ tt) (len_if (s == 304) (codes "Not Modified") _ (lit≤ tt) (len_if (s == 400) (codes "Bad Request") _ (lit≤ tt) (len_if (s == 401) (codes "Unauthorized") _ (lit≤ tt) (len_if (s == 403) (codes "Forbidden") _ (lit≤ tt) (len_if (s == 404) (codes "Not Found") _ (lit≤ tt) (len_if (s == 405) (codes "Method Not Allowed") _ (lit≤ tt) (len_if (s == 411) (codes "Length Required") _ (lit≤ tt) (len_if (s == 412) (codes "Precondition Failed") _ (lit≤ tt) (len_if (s == 413) (codes "Content Too Large") _ (lit≤ tt) (len_if (s == 415) (codes "Unsupported Media Type") _ (lit≤ tt) (len_if (s == 503) (codes "Service Unavailable") _ (lit≤ tt) (len_if (s == 507) (codes "Insufficient Storage") _ (lit≤ tt) (lit≤ tt))))))))))))))

allow_long : (o : Option (List ℕ)) → IfSome o IsAllow → IfSome o (λ v. length v ≤ 1000)
allow_long None h = tt
allow_long (Some v) h = h.1

body_long : (h : ResponseHead) (n : ℕ) (b : Bool) → n < 2 ^ 64 → length (lines (cond b [] ((codes "Content-Type", type_of h.newlines) ∷ (codes "Content-Length", decimal n) ∷ []))) ≤ 100
unfolding lines
body_long h n true few = lit≤ tt
body_long h n false few =
    let a = if_long (codes "Content-Type") (Some (type_of h.newlines)) 22 (len_if h.newlines (codes "application/newlines") (codes "application/json") (lit≤ tt) (lit≤ tt)) in
    let b = if_long (codes "Content-Length") (Some (decimal n)) 20 (decimal_long n few) in
    omega (
      arith,
      ap length (lines-append ((codes "Content-Type", type_of h.newlines) ∷ []) ((codes "Content-Length", decimal n) ∷ [])),
      length-append (lines ((codes "Content-Type", type_of h.newlines) ∷ [])) (lines ((codes "Content-Length", decimal n) ∷ [])),
    )

close_long : (b : Bool) → IfSome (cond b (Some (codes "close")) None) (λ v. length v ≤ 5)
close_long true = lit≤ tt
close_long false = tt

lines_short : (h : ResponseHead) (body : List ℕ) → IsSound h body → length (lines (fields h (length body))) ≤ 2000
lines_short h body s =
    let n = length body in
    let few : n < 2 ^ 64 = omega (arith, s.size) in
    omega (
      arith,
      lines_length (field_if (codes "X-Weave-Timestamp") (Some (stamp_text h.moment))) (from_modified h n),
      if_long (codes "X-Weave-Timestamp") (Some (stamp_text h.moment)) 23 (stamp_long h.moment s.moment),
      lines_length (field_if (codes "X-Last-Modified") (option_map stamp_text h.modified)) (from_count h n),
      if_long (codes "X-Last-Modified") (option_map stamp_text h.modified) 23 (map_long stamp_text (λ n. n ≤ last_stamp) 23 h.modified stamp_long s.modified),
      lines_length (field_if (codes "X-Weave-Records") (option_map decimal h.count)) (from_next h n),
      if_long (codes "X-Weave-Records") (option_map decimal h.count) 20 (map_long decimal (λ n. n < 2 ^ 64) 20 h.count decimal_long s.count),
      lines_length (field_if (codes "X-Weave-Next-Offset") (option_map decimal h.next)) (from_allow h n),
      if_long (codes "X-Weave-Next-Offset") (option_map decimal h.next) 20 (map_long decimal (λ n. n < 2 ^ 64) 20 h.next decimal_long s.next),
      lines_length (field_if (codes "Allow") h.allow) (from_body h n),
      if_long (codes "Allow") h.allow 1000 (allow_long h.allow s.allow),
      lines_length (body_fields h n) (at_end h n),
      body_long h n (h.status == 304) few,
      if_long (codes "Connection") (cond h.last (Some (codes "close")) None) 5 (close_long h.last),
    )

head_short : (h : ResponseHead) (body : List ℕ) → IsSound h body → length (print_response (tree_of h (length body))) ≤ HEAD_ROOM
head_short h body s =
    let H = tree_of h (length body) in
    let section = lines (fields h (length body)) ++ codes "\r\n" in
    let text = print_response-append H [] ∙ ap (λ l. codes "HTTP/1.1" ++ 32 ∷ (decimal h.status ++ ((32 ∷ reason_of h.status) ++ (codes "\r\n" ++ ((l ++ codes "\r\n") ++ []))))) (lines_print (fields h (length body))) in
    let few : h.status < 2 ^ 64 = omega (arith, s.status) in
    omega (
      arith,
      ap length text,
      length-append (print_response H) [],
      length-append (decimal h.status) ((32 ∷ reason_of h.status) ++ (codes "\r\n" ++ (section ++ []))),
      length-append (reason_of h.status) (codes "\r\n" ++ (section ++ [])),
      length-append section [],
      length-append (lines (fields h (length body))) (codes "\r\n"),
      decimal_long h.status few,
      reason_short h.status,
      lines_short h body s,
    )

-- ---- the law

same_heard : (s s' : ℕ) (m m' : Option ℕ) (x x' : Option (List ℕ)) (l l' : Bool) (body : List ℕ) → s ≡ s' → m ≡ m' → x ≡ x' → l ≡ l'
    → ◌≡◌ {A = Heard} (record { status = s; modified = m; next = x; body = body; last = l }) (record { status = s'; modified = m'; next = x'; body = body; last = l' })
same_heard s s' m m' x x' l l' body p q r t = λ i. record { status = p i; modified = q i; next = r i; body = body; last = t i }

stamp_heard : (o : Option ℕ) → IfSome o (λ s. s ≤ last_stamp) → o ≡ option_and_then stamp_of (option_map stamp_text o)
stamp_heard None h = refl
stamp_heard (Some s) h = sym (stamp_again s h)

size_heard : (h : ResponseHead) (body : List ℕ) (b : Bool) → (h.status == 304) ≡ b → length body < 10 ^ LENGTH_DIGITS → (h.status ≡ 304 → body ≡ []) → size_of h.status (fields h (length body)) ≡ Some (length body)
size_heard h body true e few empty =
    ap (λ b. cond b (Some 0) (option_and_then (number_of LENGTH_DIGITS) (first_named (codes "Content-Length") (fields h (length body))))) e ∙ ap (λ l. Some (length l)) (sym (empty (eqb-true h.status 304 e)))
size_heard h body false e few empty =
    ap (λ b. cond b (Some 0) (option_and_then (number_of LENGTH_DIGITS) (first_named (codes "Content-Length") (fields h (length body))))) e
    ∙ ap (option_and_then (number_of LENGTH_DIGITS)) (length_heard h (length body) e) ∙ number_again (length body) few

-- a written response is heard as it was meant
pub hears_response : (h : ResponseHead) (body rest : List ℕ) → IsSound h body → Hears (response h body ++ rest) (heard_of_response h body) rest
hears_response h body rest s =
    let n = length body in
    let few : h.status < 2 ^ 64 = omega (arith, s.status) in
    let status = (decimal_is_IsNumeral h.status few).1 in
    let values = values_are (fields h n) (fields_fit h body s) in
    record {
      head = tree_of h n;
      body = body;
      is_head = record { grammar = is_head h body s; size = head_short h body s; count = omega (arith, count_heard h n, length-map (fields h n) field_of) };
      sized = record {
        plain = ap (first_named (codes "Transfer-Encoding")) values ∙ plain_heard h n;
        size = ap₂ size_of status values ∙ size_heard h body (h.status == 304) refl (omega (arith, s.size)) s.empty;
      };
      limit = s.size;
      bytes = response_is_head h body rest;
      says = same_heard h.status (status_code (tree_of h n)) h.modified _ (option_map decimal h.next) _ h.last _ body (sym status)
          (stamp_heard h.modified s.modified ∙ ap (option_and_then stamp_of) (sym (modified_heard h n) ∙ ap (first_named (codes "X-Last-Modified")) (sym values)))
          (sym (next_heard h n) ∙ ap (first_named (codes "X-Weave-Next-Offset")) (sym values))
          (sym (last_heard h n) ∙ ap (list_any closes) (sym values));
    }
