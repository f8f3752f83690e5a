-- What follows of messages from the grammar of heads.
use Rattle.std.proofs.Common.{◌≡◌, ℕ, List, [], ◌∷◌, ◌++◌, length, refl, sym, ◌∙◌, ap, subst, append_assoc, arith}
use Rattle.std.proofs.lemmas.Option.{same_Some}
use Rattle.httparse.specs.Grammar.{RequestHead, ReadsRequest}
use Rattle.httparse.proofs.GrammarLemmas.{request_unique}
use Rattle.ss_http.specs.declared.message.Message.{Message}
use Rattle.ss_http.specs.Fields.{announced}
use Rattle.ss_http.specs.Messages.{fields_of, message_of, ReadsMessage, Reads, Splits}

-- equal fronts of equal lists
pub same_fronts : (a b x y : List ℕ) → length a ≡ length b → a ++ x ≡ b ++ y → (a ≡ b) × (x ≡ y)
same_fronts [] [] x y n e = (refl, e)
same_fronts (c ∷ a) (d ∷ b) x y n e =
    let tails : a ++ x ≡ b ++ y = cc in
    let counts : length a ≡ length b = omega arith in
    let heads : c ≡ d = cc in
    let r = same_fronts a b x y counts tails in
    (let same = r.0 in cc, r.1)
same_fronts [] (d ∷ b) x y n e = absurd (omega arith)
same_fronts (c ∷ a) [] x y n e = absurd (omega arith)

-- the head and the bytes after it
pub reads_head : (buf : List ℕ) (m : Message) (rest : List ℕ) (r : ReadsMessage buf m rest) → ReadsRequest buf r.head (r.body ++ rest)
reads_head buf m rest r = (r.is_head.grammar, r.bytes)

-- a buffer begins with at most one message
pub message_unique : (buf : List ℕ) (m n : Message) (r q : List ℕ) → ReadsMessage buf m r → ReadsMessage buf n q → (m ≡ n) × (r ≡ q)
message_unique buf m n r q x y =
    let heads = request_unique buf x.head y.head (x.body ++ r) (y.body ++ q) (reads_head buf m r x) (reads_head buf n q y) in
    let same : x.head ≡ y.head = heads.0 in
    let fields : announced (fields_of x.head) ≡ announced (fields_of y.head) = ap (λ (h : RequestHead). announced (fields_of h)) same in
    let counts : length x.body ≡ length y.body = same_Some _ _ (sym x.announces.size ∙ fields ∙ y.announces.size) in
    let bodies = same_fronts x.body y.body r q counts heads.1 in
    let body : x.body ≡ y.body = bodies.0 in
    (x.says ∙ ap (λ (h : RequestHead). message_of h x.body) same ∙ ap (λ b. message_of y.head b) body ∙ sym y.says, bodies.1)

-- bytes that come after a message change nothing of it
pub message_append : (buf more : List ℕ) (m : Message) (rest : List ℕ) → ReadsMessage buf m rest → ReadsMessage (buf ++ more) m (rest ++ more)
message_append buf more m rest r = record {
  head = r.head;
  body = r.body;
  is_head = r.is_head;
  announces = r.announces;
  limit = r.limit;
  bytes = ap (λ b. b ++ more) r.bytes ∙ simp append_assoc;
  says = r.says;
}

pub reads_append : (input more : List ℕ) (ms : List Message) (rest : List ℕ) → Reads input ms rest → Reads (input ++ more) ms (rest ++ more)
reads_append input more [] rest r = ap (λ b. b ++ more) r
reads_append input more (m ∷ ms) rest r =
    (r.0 ++ more, message_append input more m r.0 r.1, reads_append r.0 more ms rest r.2)

-- one message more
pub reads_further : (input : List ℕ) (ms : List Message) (m : Message) (mid rest : List ℕ) → Reads input ms mid → ReadsMessage mid m rest → Reads input (ms ++ m ∷ []) rest
reads_further input [] m mid rest r x = (rest, (let P : List ℕ → Type 0 = λ b. ReadsMessage b m rest in subst P (sym r) x), refl)
reads_further input (n ∷ ms) m mid rest r x = (r.0, r.1, reads_further r.0 ms m mid rest r.2 x)

-- one list of messages, and one rest
pub splits_unique : (input : List ℕ) (ms ns : List Message) (r q : List ℕ) → Splits input ms r → Splits input ns q → (ms ≡ ns) × (r ≡ q)
splits_unique input [] [] r q x y = (refl, sym x.0 ∙ y.0)
splits_unique input (m ∷ ms) (n ∷ ns) r q x y =
    let first = message_unique input m n x.0.0 y.0.0 x.0.1 y.0.1 in
    let P : List ℕ → Type 0 = λ b. Reads b ns q in
    let rest = splits_unique x.0.0 ms ns r q (x.0.2, x.1) (subst P (sym first.1) y.0.2, y.1) in
    (let a = first.0 in let b = rest.0 in cc, rest.1)
splits_unique input [] (n ∷ ns) r q x y =
    let P : List ℕ → Type 0 = λ b. ReadsMessage b n y.0.0 in
    absurd (x.1 n y.0.0 (subst P x.0 y.0.1))
splits_unique input (m ∷ ms) [] r q x y =
    let P : List ℕ → Type 0 = λ b. ReadsMessage b m x.0.0 in
    absurd (y.1 m x.0.0 (subst P y.0 x.0.1))
