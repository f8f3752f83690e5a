-- What follows of responses from the grammar of heads.
use Rattle.std.proofs.Common.{◌≡◌, ◌≤◌, ◌<◌, ◌⊎◌, inl, inr, ℕ, ◌+◌, List, [], ◌∷◌, ◌++◌, length, take, drop, Bool, true}
use Rattle.std.proofs.Common.{false, Option, Some, None, option_map, is_some, sym, ◌∙◌, ap, ap₂, subst, append_assoc}
use Rattle.std.proofs.Common.{length-append, length-take, arith}
use Rattle.std.proofs.lemmas.Bool.{true≢false}
use Rattle.std.proofs.lemmas.List.{take-append-le, take-append-drop, append-nil, length-map}
use Rattle.std.proofs.lemmas.Option.{same_Some, none-some}
use Rattle.std.specs.Option.{IsSome}
use Rattle.httparse.specs.Grammar as grammar
use Rattle.httparse.specs.Grammar.{print_response, IsResponseHead, ReadsResponse, HasNoResponse, status_code}
use Rattle.httparse.specs.Spans.{IsResponseAt, ResponseOverflows, header_bytes, name_and_value}
use Rattle.httparse.specs.declared.spans.HeaderSpan.{HeaderSpan}
use Rattle.httparse.specs.declared.spans.ResponseSpans.{ResponseSpans}
use Rattle.httparse.proofs.GrammarLemmas.{response_unique, response_prefix_free}
use Rattle.ss_http.specs.declared.answer.Answer.{Answer}
use Rattle.ss_http.specs.declared.heard.Heard.{Heard}
use Rattle.ss_http.specs.declared.heard.HeardFault.{HeardFault}
use Rattle.ss_http.specs.declared.heard.HeardFault.TheVariants as faults
use Rattle.ss_http.specs.Hearing.{AnswersWith, HasBody, Hears, heard_from, size_of, values_of, NoAnswerHead}
use Rattle.ss_http.specs.Hearing.{NeverAnswers, LacksHead, LacksBody, HasLarge, IsBad, headless, endless, coded}
use Rattle.ss_http.specs.Hearing.{unsized, IsHeardFault, AfterAll}
use Rattle.ss_http.specs.Listening.{IsAnswerAt, IsNoLonger, IsShortBody}
use Rattle.ss_http.proofs.HeadLemmas.{whole_front, some_none}
use Rattle.ss_http.proofs.MessageLemmas.{same_fronts}
use Rattle.ss_http.specs.declared.limits.TheConstants.{HEAD_ROOM, HEARD_ROOM, MOST_FIELDS}

-- ---- heads

-- a response begins with its head
pub answers : (buf : List ℕ) (heard : Heard) (rest : List ℕ) (r : Hears buf heard rest) → AnswersWith buf r.head
answers buf heard rest r = record { is_head = r.is_head; after = r.body ++ rest; bytes = r.bytes }

-- bytes that come behind a head change nothing of it
pub answers_append : (buf more : List ℕ) (h : grammar.ResponseHead) → AnswersWith buf h → AnswersWith (buf ++ more) h
answers_append buf more h b = record {
  is_head = b.is_head;
  after = b.after ++ more;
  bytes = ap (λ z. z ++ more) b.bytes ∙ append_assoc (print_response h) b.after more;
}

-- two heads at one front are one
pub one_answer : (buf more : List ℕ) (h k : grammar.ResponseHead) → AnswersWith buf h → AnswersWith (buf ++ more) k → h ≡ k
one_answer buf more h k b c = (response_prefix_free buf more h k b.after c.after (b.is_head.grammar, b.bytes) (c.is_head.grammar, c.bytes)).0

-- a head that more bytes show was there before, where as many bytes are there as it may have
pub long_answers : (buf more : List ℕ) (h : grammar.ResponseHead) → HEAD_ROOM ≤ length buf → AnswersWith (buf ++ more) h → AnswersWith buf h
long_answers buf more h many b =
    let head = print_response h in
    let size : length head ≤ HEAD_ROOM = b.is_head.size in
    let inside : length head ≤ length buf = omega arith in
    let front : take (length head) buf ≡ head =
    sym (take-append-le (length head) buf more inside) ∙ ap (take (length head)) b.bytes ∙ take-append-le (length head) head b.after (omega arith)
    ∙ whole_front head in
    record { is_head = b.is_head; after = drop (length head) buf; bytes = sym (take-append-drop (length head) buf) ∙ ap (λ z. z ++ drop (length head) buf) front }

-- where no front is a head of the grammar, none is a response's
pub no_answer : (buf : List ℕ) → HasNoResponse buf → NoAnswerHead buf
no_answer buf none h b = none h b.after (b.is_head.grammar, b.bytes)

-- ---- an input is heard in one way

pub heard_once : (input : List ℕ) (a b : Heard) (r q : List ℕ) → Hears input a r → Hears input b q → (a ≡ b) × (r ≡ q)
heard_once input a b r q x y =
    let same = response_unique input x.head y.head (x.body ++ r) (y.body ++ q) (x.is_head.grammar, x.bytes) (y.is_head.grammar, y.bytes) in
    let sizes = sym x.sized.size ∙ ap (λ (h : grammar.ResponseHead). size_of (status_code h) (values_of h)) same.0 ∙ y.sized.size in
    let parts = same_fronts x.body y.body r q (same_Some _ _ sizes) same.1 in
    (x.says ∙ ap₂ heard_from same.0 parts.0 ∙ sym y.says, parts.1)

-- ---- a whole response is refused by no fault of the bytes

-- what is heard of a response says of any head that stood before it
pub as_heard : (got left : List ℕ) (heard : Heard) (rest : List ℕ) (h : grammar.ResponseHead) (r : Hears (got ++ left) heard rest) → AnswersWith got h
    → HasBody h (length r.body) × (length r.body ≤ HEARD_ROOM) × (length (got ++ left) ≡ length (print_response h) + (length r.body + length rest))
as_heard got left heard rest h r b =
    let same : h ≡ r.head = one_answer got left h r.head b (answers (got ++ left) heard rest r) in
    let P : grammar.ResponseHead → Type 0 = λ k. HasBody k (length r.body) in
    let whole : length (got ++ left) ≡ length (print_response r.head) + (length r.body + length rest) =
    ap length r.bytes ∙ length-append (print_response r.head) (r.body ++ rest) ∙ ap (λ n. length (print_response r.head) + n) (length-append r.body rest) in
    (subst P (sym same) r.sized, r.limit, whole ∙ ap (λ (k : grammar.ResponseHead). length (print_response k) + (length r.body + length rest)) (sym same))

lacks_nothing : (got : List ℕ) (heard : Heard) (rest : List ℕ) → Hears (got ++ []) heard rest → LacksHead got ⊎ LacksBody got → ⊥
lacks_nothing got heard rest r (inl lacks) =
    let P : List ℕ → Type 0 = λ z. AnswersWith z r.head in
    lacks.1 r.head (subst P (append-nil got) (answers (got ++ []) heard rest r))
lacks_nothing got heard rest r (inr lacks) =
    let s = as_heard got [] heard rest lacks.head r lacks.begins in
    let same : lacks.n ≡ length r.body = same_Some _ _ (sym lacks.sized.size ∙ s.0.size) in
    let short : length got < length (print_response lacks.head) + lacks.n = lacks.short in
    let whole : length got ≡ length (print_response lacks.head) + (length r.body + length rest) = ap length (sym (append-nil got)) ∙ s.2 in
    let never : ⊥ = omega arith in
    never

not_bad : (got left : List ℕ) (heard : Heard) (rest : List ℕ) → Hears (got ++ left) heard rest → IsBad got → ⊥
not_bad got left heard rest r (headless never) =
    let many : MOST_FIELDS < length r.head.fields = never left r.head (r.body ++ rest) (r.is_head.grammar, r.bytes) in
    let few : length r.head.fields ≤ MOST_FIELDS = r.is_head.count in
    let no : ⊥ = omega arith in
    no
not_bad got left heard rest r (endless many none) = none r.head (long_answers got left r.head many (answers (got ++ left) heard rest r))
not_bad got left heard rest r (coded c) = some_none _ c.coded (as_heard got left heard rest c.head r c.begins).0.plain
not_bad got left heard rest r (unsized c) = none-some (length r.body) (sym c.sizeless ∙ (as_heard got left heard rest c.head r c.begins).0.size)

not_large : (n : ℕ) (got left : List ℕ) (heard : Heard) (rest : List ℕ) → Hears (got ++ left) heard rest → HasLarge n got → ⊥
not_large n got left heard rest r large =
    let s = as_heard got left heard rest large.head r large.begins in
    let same : n ≡ length r.body = same_Some _ _ (sym large.sized.size ∙ s.0.size) in
    let above : HEARD_ROOM < n = large.above in
    let limit : length r.body ≤ HEARD_ROOM = r.limit in
    let never : ⊥ = omega arith in
    never

pub always_heard : (got left : List ℕ) (heard : Heard) (rest : List ℕ) (e : HeardFault) → Hears (got ++ left) heard rest → IsHeardFault e got → AfterAll e left
always_heard got [] heard rest faults.Cut r fault = absurd (lacks_nothing got heard rest r fault)
always_heard got (b ∷ left) heard rest faults.Cut r fault = omega arith
always_heard got left heard rest faults.Bad r fault = not_bad got left heard rest r fault
always_heard got left heard rest (faults.TooLarge n) r fault = not_large n got left heard rest r fault
always_heard got left heard rest faults.ReadFault r fault = tt
always_heard got left heard rest faults.Memory r fault = tt

-- ---- what a parse found

-- a head that was parsed from at most so many bytes
pub parsed_answers : (buf : List ℕ) (headers : List HeaderSpan) (spans : ResponseSpans) (h : grammar.ResponseHead) → IsResponseAt buf headers spans h → length buf ≤ HEAD_ROOM → length headers ≤ MOST_FIELDS
    → AnswersWith buf h
parsed_answers buf headers spans h at room count =
    let size : length buf ≡ length (print_response h) + length (drop spans.len buf) = ap length at.reads.1 ∙ length-append (print_response h) (drop spans.len buf) in
    record {
      is_head = record {
        grammar = at.reads.0;
        size = omega arith;
        count = omega (arith, ap length at.fields, length-map h.fields name_and_value, length-map (take spans.headers headers) (header_bytes buf), length-take spans.headers headers);
      };
      after = drop spans.len buf;
      bytes = at.reads.1;
    }

pub none_there : {A : Type 0} (f : A → List ℕ) (o : Option A) (p : Option (List ℕ)) (b : Bool) → option_map f o ≡ p → b ≡ is_some o → b ≡ false → p ≡ None
none_there f None p b e is no_one = sym e
none_there f (Some x) p b e is no_one = absurd (true≢false (sym is ∙ no_one))

pub some_there : {A : Type 0} (f : A → List ℕ) (o : Option A) (p : Option (List ℕ)) (b : Bool) → option_map f o ≡ p → b ≡ is_some o → b ≡ true → IsSome p
some_there f None p b e is one = absurd (true≢false (sym one ∙ is))
some_there f (Some x) p b e is one = ap is_some (sym e)

pub overflowing : (buf : List ℕ) → ResponseOverflows MOST_FIELDS buf → NeverAnswers buf
overflowing buf over more h rest reads = over more h rest reads

-- ---- a head and the body behind it

-- a head that is no longer than what was read, and a body of its size
pub heard_whole : (head body : List ℕ) (answer : Answer) (heard : Heard) → IsAnswerAt head answer → IsNoLonger head → length body ≡ answer.size
    → heard ≡ record { status = answer.status; modified = answer.modified; next = answer.next; body = body; last = answer.last } → Hears (head ++ body) heard []
heard_whole head body answer heard at whole size is =
    let none : at.begins.after ≡ [] = whole at.tree at.begins.after (at.begins.is_head.grammar, at.begins.bytes) in
    let all : head ≡ print_response at.tree = at.begins.bytes ∙ ap (λ z. print_response at.tree ++ z) none ∙ append-nil (print_response at.tree) in
    let P : ℕ → Type 0 = λ n. HasBody at.tree n in
    let limit : answer.size ≤ HEARD_ROOM = at.limit in
    record {
      head = at.tree;
      body = body;
      is_head = at.begins.is_head;
      sized = subst P (sym size) at.sized;
      limit = omega arith;
      bytes = ap (λ z. z ++ body) all ∙ ap (λ z. print_response at.tree ++ z) (sym (append-nil body));
      says = is ∙ (let a = at.status in let b = at.modified in let c = at.next in let d = at.last in cc);
    }

-- a body that is cut
pub short_heard : (e : HeardFault) (head body : List ℕ) (answer : Answer) → IsAnswerAt head answer → IsNoLonger head → IsShortBody e answer.size body → IsHeardFault e (head ++ body)
short_heard faults.Cut head body answer at whole short =
    let none : at.begins.after ≡ [] = whole at.tree at.begins.after (at.begins.is_head.grammar, at.begins.bytes) in
    let all : head ≡ print_response at.tree = at.begins.bytes ∙ ap (λ z. print_response at.tree ++ z) none ∙ append-nil (print_response at.tree) in
    let size : length (head ++ body) ≡ length (print_response at.tree) + length body = length-append head body ∙ ap (λ z. length z + length body) all in
    inr (record { head = at.tree; n = answer.size; begins = answers_append head body at.tree at.begins; sized = at.sized; limit = at.limit; short = omega arith })
short_heard faults.Bad head body answer at whole short = absurd short
short_heard (faults.TooLarge n) head body answer at whole short = absurd short
short_heard faults.ReadFault head body answer at whole short = tt
short_heard faults.Memory head body answer at whole short = tt

-- a piece that was awaited for a longer body
pub shorter_body : (e : HeardFault) (less size : ℕ) (bytes : List ℕ) → less ≤ size → IsShortBody e less bytes → IsShortBody e size bytes
shorter_body faults.Cut less size bytes within short = omega arith
shorter_body faults.Bad less size bytes within short = short
shorter_body (faults.TooLarge n) less size bytes within short = short
shorter_body faults.ReadFault less size bytes within short = tt
shorter_body faults.Memory less size bytes within short = tt
