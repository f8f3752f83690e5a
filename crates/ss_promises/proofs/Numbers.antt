-- The numbers that a client hears are within what a server reads.
use Rattle.std.proofs.Common.{◌≡◌, ℕ, zero, suc, ◌^◌, ◌<◌, ◌≤◌, List, [], ◌∷◌, length, get_or, min, Bool, true, false}
use Rattle.std.proofs.Common.{cond, ◌==◌, ◌&&◌, leb, eq-eqb, Option, Some, None, option_map, option_and_then, unwrap_or}
use Rattle.std.proofs.Common.{codes, decimal, refl, sym, ap, ◌∙◌, subst, arith, rules}
use Rattle.std.specs.Prelude.{IfSome}
use Rattle.std.specs.Char.{is_ascii_digit}
use Rattle.std.specs.List.{list_all}
use Rattle.std.specs.Str.Parse.{digits_value}
use Rattle.std.proofs.lemmas.Bool.{and_parts, leb-true}
use Rattle.std.proofs.lemmas.Fmt.{decimal-digits_value}
use Rattle.std.proofs.lemmas.Str.Parse.{IsNumeralModel, numerals_by_value, digits_value_short}
use Rattle.base64.specs.GeneralPurpose.{decoded_of}
use Rattle.base64.specs.Engines.{url_safe_no_pad}
use Rattle.json.specs.Json.{Json}
use Rattle.ss_text.specs.Numbers.{number_of}
use Rattle.ss_http.specs.Limits.{most_body_bytes}
use Rattle.ss_http.specs.declared.heard.Heard.{Heard}
use Rattle.ss_bso.specs.Limits.{most_record_payload_bytes, most_post_records, most_post_bytes, most_batch_records}
use Rattle.ss_bso.specs.Limits.{most_batch_bytes}
use Rattle.ss_plan.specs.declared.limits.Limits.{Limits}
use Rattle.ss_route.specs.Posts.{batch_of}
use Rattle.ss_route.specs.Targets.{positive_of}
use Rattle.ss_hearing.specs.declared.answer.Awaited.{Awaited}
use Rattle.ss_hearing.specs.declared.answer.Awaited.TheVariants.{Configuration, FirstPage, LaterPage, AllIds, Staging}
use Rattle.ss_hearing.specs.declared.answer.Awaited.TheVariants.{Writing}
use Rattle.ss_hearing.specs.declared.answer.Answer.{Answer}
use Rattle.ss_hearing.specs.declared.answer.Answer.TheVariants.{Configured, Listed, Held, Written, Changed, Refused}
use Rattle.ss_hearing.specs.declared.answer.Answer.TheVariants.{Unread}
use Rattle.ss_hearing.specs.Bodies.{json_of, number_in, stamp_in, string_in, ◌>>=◌}
use Rattle.ss_hearing.specs.Limits.{limit_in, limits_of}
use Rattle.ss_hearing.specs.Lists.{rows_of, ids_of, next_of}
use Rattle.ss_hearing.specs.Posts.{failure_in, batch_in}
use Rattle.ss_hearing.specs.Hearing.{is_conditional, status_of, time_of, page_of, answer_or_failure, understood}
use Rattle.ss_hearing.specs.Hearing.{answer_of}
use Rattle.ss_promises.specs.Readable.{TellsReadable}

-- ---- digits

own : IsNumeralModel (λ ds. list_all is_ascii_digit ds ≡ true) (digits_value 10)
own = numerals_by_value (λ ds. list_all is_ascii_digit ds ≡ true) (search rules)

chosen : (b : Bool) (v n : ℕ) → cond b (Some v) None ≡ Some n → (b ≡ true) × (v ≡ n)
chosen true v n e = (refl, (let f : Some v ≡ Some n = e in cc))
chosen false v n e = absurd (let f : None ≡ Some n = e in cc)

guarded : (b : Bool) (x : Option ℕ) (n : ℕ) → cond b None x ≡ Some n → (b ≡ false) × (x ≡ Some n)
guarded true x n e = absurd (let f : None ≡ Some n = e in cc)
guarded false x n e = (refl, e)

-- what is known of a text that is read as a number of at most so many digits
record Read (most : ℕ) (text : List ℕ) (n : ℕ) : Type 0 where
  digits : list_all is_ascii_digit text ≡ true
  some : 1 ≤ length text
  few : length text ≤ most
  value : digits_value 10 text ≡ n
  below : n < 10 ^ most

read_number : (most : ℕ) (text : List ℕ) (n : ℕ) → number_of most text ≡ Some n → Read most text n
unfolding number_of
read_number most text n e =
    let inner = chosen _ (digits_value 10 text) n e in
    let parts = and_parts (leb 1 (length text) && leb (length text) most) (list_all is_ascii_digit text) inner.0 in
    let sizes = and_parts (leb 1 (length text)) (leb (length text) most) parts.0 in
    let few : length text ≤ most = leb-true (length text) most sizes.1 in
    record {
      digits = parts.1;
      some = leb-true 1 (length text) sizes.0;
      few = few;
      value = inner.1;
      below = subst (λ v. v < 10 ^ most) inner.1 (digits_value_short own text most parts.1 few);
    }

zero_text : decimal 0 ≡ 48 ∷ []
zero_text =
    let zero_is : digits_value 10 (48 ∷ []) ≡ 0 = refl in
    ap decimal (sym zero_is) ∙ decimal-digits_value own (48 ∷ []) refl (omega arith) (λ _. refl) (omega (arith, zero_is))

-- a number without a leading zero is at least 1
positive : (text : List ℕ) (n : ℕ) → positive_of 12 text ≡ Some n → (1 ≤ n) × (n ≤ 999999999999)
unfolding positive_of
positive text n e =
    let outer = guarded (get_or text 0 0 == 48) _ n e in
    let r = read_number 12 text n outer.1 in
    let below : n < 10 ^ 12 = r.below in
    let value : digits_value 10 text ≡ n = r.value in
    let unled : get_or text 0 0 ≡ 48 → length text ≡ 1 = λ led. absurd (let t : (get_or text 0 0 == 48) ≡ true = eq-eqb (get_or text 0 0) 48 led in let f = outer.0 in cc) in
    let again : decimal n ≡ text = ap decimal (sym value) ∙ decimal-digits_value own text r.digits (omega (arith, r.some)) unled (omega (arith, value, below)) in
    (least n text outer.0 again, omega (arith, below))
  where
    least : (m : ℕ) (xs : List ℕ) → (get_or xs 0 0 == 48) ≡ false → decimal m ≡ xs → 1 ≤ m
    least zero xs f again = absurd (let led : (get_or (48 ∷ []) 0 0 == 48) ≡ false = subst (λ ys. (get_or ys 0 0 == 48) ≡ false) (sym again ∙ zero_text) f in let clash : true ≡ false = led in cc)
    least (suc m) xs f again = omega arith

-- ---- what is told

bound : {A B : Type 0} (o : Option A) (f : A → Option B) (b : B) → (o >>= f) ≡ Some b → (x : A) × (o ≡ Some x) × (f x ≡ Some b)
bound None f b e = cc
bound (Some x) f b e = (x, refl, e)

followed : {A B : Type 0} (o : Option A) (f : A → Option B) (b : B) → option_and_then f o ≡ Some b → (x : A) × (f x ≡ Some b)
followed None f b e = cc
followed (Some x) f b e = (x, e)

mapped : {A B : Type 0} (o : Option A) (f : A → B) (b : B) → option_map f o ≡ Some b → (x : A) × (o ≡ Some x) × (f x ≡ b)
mapped None f b e = cc
mapped (Some x) f b e = (x, refl, (let h : Some (f x) ≡ Some b = e in cc))

limit_ours : (name : List ℕ) (ours : ℕ) (d : Json) (x : ℕ) → limit_in name ours d ≡ Some x → x ≤ ours
unfolding limit_in
limit_ours name ours d x e = let m = mapped (option_and_then (number_of 18) (number_in name d)) (λ limit. min limit ours) x e in let is = m.2 in omega (arith, is)

limits_room : (d : Json) (limits : Limits) → limits_of d ≡ Some limits → limits.max_request_bytes ≤ most_body_bytes
unfolding limits_of
limits_room d limits e =
    let a = bound (limit_in (codes "max_request_bytes") most_body_bytes d) _ limits e in
    let b = bound (limit_in (codes "max_post_records") most_post_records d) _ limits a.2 in
    let c = bound (limit_in (codes "max_post_bytes") most_post_bytes d) _ limits b.2 in
    let f = bound (limit_in (codes "max_total_records") most_batch_records d) _ limits c.2 in
    let g = bound (limit_in (codes "max_total_bytes") most_batch_bytes d) _ limits f.2 in
    let h = bound (limit_in (codes "max_record_payload_bytes") most_record_payload_bytes d) _ limits g.2 in
    let is : a.0 ≡ limits.max_request_bytes = cc h.2 in
    subst (λ n. n ≤ most_body_bytes) is (limit_ours _ most_body_bytes d a.0 a.1)

offset_short : (text : Option (List ℕ)) (next : Option ℕ) → next_of text ≡ Some next → IfSome next (λ k. k ≤ 999999999)
unfolding next_of
offset_short None next e = let is : next ≡ None = cc in subst (λ (o : Option ℕ). IfSome o (λ k. k ≤ 999999999)) (sym is) tt
offset_short (Some text) next e =
    let m = mapped (number_of 9 text) Some next e in
    let below : m.0 < 10 ^ 9 = (read_number 9 text m.0 m.1).below in
    subst (λ (o : Option ℕ). IfSome o (λ k. k ≤ 999999999)) m.2 (omega (arith, below))

batch_given : (d : Json) (batch : ℕ) → batch_in d ≡ Some batch → (1 ≤ batch) × (batch ≤ 999999999999)
unfolding batch_in batch_of
batch_given d batch e =
    let text = followed (string_in (codes "batch") d) batch_of batch e in
    let digits = followed (decoded_of url_safe_no_pad text.0) (positive_of 12) batch text.1 in
    positive digits.0 batch digits.1

-- ---- answers

abbrev Good : Option Answer → Type 0
Good o = TellsReadable (unwrap_or o Unread)

bind_good : {A : Type 0} (o : Option A) (f : A → Option Answer) → ((x : A) → o ≡ Some x → Good (f x)) → Good (o >>= f)
bind_good None f h = tt
bind_good (Some x) f h = h x refl

told_good : (status : ℕ) (failure : Option (List ℕ)) (answer : Answer) → TellsReadable answer → TellsReadable (answer_or_failure status failure answer)
told_good status None answer t = t
told_good status (Some id) answer t = tt

page_good : (heard : Heard) (time : ℕ) (d : Json) → Good (page_of heard time d)
page_good heard time d = bind_good (rows_of d) _ (λ rows _. bind_good (next_of heard.next) _ (λ next is. offset_short heard.next next is))

understood_good : (awaited : Awaited) (heard : Heard) (d : Json) → Good (understood awaited heard d)
unfolding understood
understood_good Configuration heard d = go (limits_of d) refl
  where
    go : (o : Option Limits) → limits_of d ≡ o → Good (option_map Configured o)
    go None e = tt
    go (Some l) e = limits_room d l e
understood_good FirstPage heard d = go heard.modified
  where
    go : (o : Option ℕ) → Good (option_and_then (λ time. page_of heard time d) o)
    go None = tt
    go (Some time) = page_good heard time d
understood_good LaterPage heard d = page_good heard (time_of heard) d
understood_good AllIds heard d = go (ids_of d)
  where
    go : (o : Option (List (List ℕ))) → Good (option_map Listed o)
    go None = tt
    go (Some ids) = tt
understood_good Staging heard d = bind_good (failure_in d) _ (λ f _. bind_good (batch_in d) _ (λ b is. told_good 202 f (Held b) (batch_given d b is)))
understood_good Writing heard d = bind_good (failure_in d) _ (λ f _. bind_good (stamp_in (codes "modified") d) _ (λ t _. told_good 200 f (Written t) tt))

pub tells_readable : (awaited : Awaited) (heard : Heard) → TellsReadable (answer_of awaited heard)
unfolding answer_of
tells_readable awaited heard = go (heard.status == status_of awaited)
  where
    read : (o : Option Json) → Good (option_and_then (understood awaited heard) o)
    read None = tt
    read (Some d) = understood_good awaited heard d

    other : (b : Bool) → TellsReadable (cond b (Changed (time_of heard)) (Refused heard.status))
    other true = tt
    other false = tt

    go : (b : Bool) → TellsReadable (cond b (unwrap_or (option_and_then (understood awaited heard) (json_of heard.body)) Unread) (cond (is_conditional awaited && (heard.status == 412)) (Changed (time_of heard)) (Refused heard.status)))
    go true = read (json_of heard.body)
    go false = other (is_conditional awaited && (heard.status == 412))
