-- What a parse of the front says of the messages.
use Rattle.std.proofs.Common.{◌≡◌, ◌≤◌, ◌<◌, inl, inr, Result, Ok, Err, IfOk, ℕ, ◌+◌, ◌-◌, List, [], ◌∷◌, ◌++◌, length}
use Rattle.std.proofs.Common.{take, drop, Option, Some, None, sym, refl, ◌∙◌, ap, subst, append_assoc, length-append}
use Rattle.std.proofs.Common.{length-drop, length-take, length-take-le, arith}
use Rattle.std.proofs.lemmas.List.{take-append-le, take-append-drop, drop-drop, append-nil, length-map}
use Rattle.std.proofs.lemmas.Bool.{true≢false}
use Rattle.std.proofs.lemmas.Option.{same_Some, none-some}
use Rattle.std.proofs.Math.Seq.{take-append-add}
use Rattle.std.specs.Option.{IsSome}
use Rattle.httparse.specs.Grammar.{RequestHead, IsRequestHead, print_request, HasNoRequest}
use Rattle.httparse.specs.Spans.{RequestOverflows, IsRequestAt, header_bytes, name_and_value}
use Rattle.httparse.specs.declared.spans.HeaderSpan.{HeaderSpan}
use Rattle.httparse.specs.declared.spans.RequestSpans.{RequestSpans}
use Rattle.httparse.proofs.GrammarLemmas.{request_prefix_free}
use Rattle.ss_http.specs.declared.message.Message.{Message}
use Rattle.ss_http.specs.declared.head.Head.{Head}
use Rattle.ss_http.specs.declared.head.Found.{Found}
use Rattle.ss_http.specs.declared.head.Found.TheVariants.{Whole, Unfinished, Refused}
use Rattle.ss_http.specs.declared.fault.MsgFault.{MsgFault}
use Rattle.ss_http.specs.declared.fault.MsgFault.TheVariants as faults
use Rattle.ss_http.specs.Messages.{BeginsWith, Announces, fields_of, ReadsMessage, NoMessage, NeverMessage}
use Rattle.ss_http.specs.Faults.{NoHead, NeverHead, WantsBody, IsMessageFault, IsRefusal}
use Rattle.ss_http.specs.Heads.{IsHeadAt, Finds}
use Rattle.ss_outside.specs.Told.{Meanings, IsUsedUp}
use Rattle.ss_http.specs.Reading.{IsShort, EndsWith, RisesWith, ended_by}
use Rattle.ss_http.proofs.Ranges.{drop_front}
use Rattle.ss_http.proofs.MessageLemmas.{reads_head}
use Rattle.ss_http.specs.declared.limits.TheConstants.{BODY_ROOM, HEAD_ROOM, MOST_FIELDS}

-- a message begins with its head
pub begins : (buf : List ℕ) (m : Message) (rest : List ℕ) (r : ReadsMessage buf m rest) → BeginsWith buf r.head
begins buf m rest r = record { is_head = r.is_head; after = r.body ++ rest; bytes = r.bytes }

-- where no front is a head of the grammar, none is a message's
pub no_head : (buf : List ℕ) → HasNoRequest buf → NoHead buf
no_head buf none h b = none h b.after (b.is_head.grammar, b.bytes)

-- and where none is a message's, there is no message
pub no_head_no_message : (buf : List ℕ) → NoHead buf → NoMessage buf
no_head_no_message buf none m rest r = none r.head (begins buf m rest r)

-- bytes that come behind a head change nothing of it
pub begins_append : (buf more : List ℕ) (h : RequestHead) → BeginsWith buf h → BeginsWith (buf ++ more) h
begins_append buf more h b = record {
  is_head = b.is_head;
  after = b.after ++ more;
  bytes = ap (λ z. z ++ more) b.bytes ∙ append_assoc (print_request h) b.after more;
}

-- two heads at one front are one
pub one_head : (buf more : List ℕ) (h k : RequestHead) → BeginsWith buf h → BeginsWith (buf ++ more) k → h ≡ k
one_head buf more h k b c = (request_prefix_free buf more h k b.after c.after (b.is_head.grammar, b.bytes) (c.is_head.grammar, c.bytes)).0

-- as many bytes as a head may have, and no head
pub too_long : (buf more : List ℕ) (h : RequestHead) → HEAD_ROOM ≤ length buf → HasNoRequest (take HEAD_ROOM buf) → BeginsWith (buf ++ more) h → ⊥
too_long buf more h many none b =
    let head = print_request h in
    let size : length head ≤ HEAD_ROOM = b.is_head.size in
    let spare = HEAD_ROOM - length head in
    let count : HEAD_ROOM ≡ length head + spare = omega arith in
    let front : take HEAD_ROOM buf ≡ head ++ take spare b.after =
    sym (take-append-le HEAD_ROOM buf more many) ∙ ap (take HEAD_ROOM) b.bytes ∙ ap (λ n. take n (head ++ b.after)) count
    ∙ take-append-add head b.after spare in
    none h (take spare b.after) (b.is_head.grammar, front)

pub no_head_in_all : (buf : List ℕ) → HEAD_ROOM ≤ length buf → HasNoRequest (take HEAD_ROOM buf) → NoHead buf
no_head_in_all buf many none h b = too_long buf [] h many none (begins_append buf [] h b)

pub whole_front : (l : List ℕ) → take (length l) l ≡ l
whole_front [] = refl
whole_front (x ∷ l) = ap (λ z. x ∷ z) (whole_front l)

-- a head that more bytes show was there before, where as many bytes are there as it may have
pub long_begins : (buf more : List ℕ) (h : RequestHead) → HEAD_ROOM ≤ length buf → BeginsWith (buf ++ more) h → BeginsWith buf h
long_begins buf more h many b =
    let head = print_request h in
    let size : length head ≤ HEAD_ROOM = b.is_head.size in
    let inside : length head ≤ length buf = omega arith in
    let front : take (length head) buf ≡ head =
    sym (take-append-le (length head) buf more inside) ∙ ap (take (length head)) b.bytes ∙ take-append-le (length head) head b.after (omega arith)
    ∙ whole_front head in
    record { is_head = b.is_head; after = drop (length head) buf; bytes = sym (take-append-drop (length head) buf) ∙ ap (λ z. z ++ drop (length head) buf) front }

-- with as many bytes as a head may have and none among them, none comes
pub never_long : (buf : List ℕ) → HEAD_ROOM ≤ length buf → NoHead buf → NeverMessage buf
never_long buf many none more m rest r = none r.head (long_begins buf more r.head many (begins (buf ++ more) m rest r))

-- a front that no head with 64 fields or less can come of
pub overflowing : (buf front tail : List ℕ) → buf ≡ front ++ tail → RequestOverflows MOST_FIELDS front → NeverHead buf
overflowing buf front tail is over more h rest reads =
    over (tail ++ more) h rest (reads.0, sym (append_assoc front tail more) ∙ ap (λ b. b ++ more) (sym is) ∙ reads.1)

-- the head's body isn't the one that a message at the front would have
pub other_body : (buf more : List ℕ) (h : RequestHead) (m : Message) (rest : List ℕ) → BeginsWith buf h → ReadsMessage (buf ++ more) m rest
    → (n : ℕ) × Announces (fields_of h) n × (n ≤ BODY_ROOM) × (length (buf ++ more) ≡ length (print_request h) + (n + length rest))
other_body buf more h m rest b r =
    let same : h ≡ r.head = one_head buf more h r.head b (begins (buf ++ more) m rest r) in
    let P : RequestHead → Type 0 = λ k. Announces (fields_of k) (length r.body) in
    let whole : length (buf ++ more) ≡ length (print_request r.head) + (length r.body + length rest) =
    ap length r.bytes ∙ length-append (print_request r.head) (r.body ++ rest) ∙ ap (λ n. length (print_request r.head) + n) (length-append r.body rest) in
    (length r.body, subst P (sym same) r.announces, r.limit, whole ∙ ap (λ (k : RequestHead). length (print_request k) + (length r.body + length rest)) (sym same))

-- what is there is not nothing
pub some_none : {A : Type 0} (o : Option A) → IsSome o → o ≡ None → ⊥
some_none None s e = true≢false (sym s)
some_none (Some x) s e = none-some x (sym e)

-- a head has bytes
pub head_some : (h : RequestHead) → IsRequestHead h → 0 < length (print_request h)
unfolding print_request
head_some h is = let some : 0 < length h.method = is.method.0 in simp length-append (omega arith)

pub refusal_never : (e : MsgFault) (bytes : List ℕ) → IsRefusal e → IsMessageFault e bytes → NeverMessage bytes
refusal_never faults.End bytes is fault = absurd is
refusal_never faults.Cut bytes is fault = absurd is
refusal_never faults.BadHead bytes is fault = λ more m rest r.
    let many : MOST_FIELDS < length r.head.fields = fault more r.head (r.body ++ rest) (reads_head (bytes ++ more) m rest r) in
    let few : length r.head.fields ≤ MOST_FIELDS = r.is_head.count in
    omega arith
refusal_never faults.HeadTooLong bytes is fault = never_long bytes fault.0 fault.1
refusal_never faults.Coded bytes is fault = λ more m rest r.
    let o = other_body bytes more fault.head m rest fault.begins r in
    some_none _ fault.coded o.1.plain
refusal_never faults.BadLength bytes is fault = λ more m rest r.
    let o = other_body bytes more fault.head m rest fault.begins r in
    none-some o.0 (sym fault.unmeasured ∙ o.1.size)
refusal_never (faults.TooLarge n) bytes is fault = λ more m rest r.
    let o = other_body bytes more fault.head m rest fault.begins r in
    let same : n ≡ o.0 = same_Some _ _ (sym fault.announces.size ∙ o.1.size) in
    let above : BODY_ROOM < n = fault.above in
    let limit : o.0 ≤ BODY_ROOM = o.2 in
    let never : ⊥ = omega arith in
    never
refusal_never faults.ReadFault bytes is fault = absurd is
refusal_never faults.Memory bytes is fault = absurd is

-- a message needs bytes
pub nothing_there : NoMessage []
nothing_there m rest r =
    let some = head_some r.head r.is_head.grammar in
    let whole : 0 ≡ length (print_request r.head) + length (r.body ++ rest) = ap length r.bytes ∙ length-append (print_request r.head) (r.body ++ rest) in
    let never : ⊥ = omega arith in
    never

-- the head is there, and its body isn't whole
pub body_missing : (buf : List ℕ) → WantsBody buf → NoMessage buf
body_missing buf want m rest r =
    let P : List ℕ → Type 0 = λ b. ReadsMessage b m rest in
    let o = other_body buf [] want.head m rest want.begins (subst P (sym (append-nil buf)) r) in
    let same : want.n ≡ o.0 = same_Some _ _ (sym want.announces.size ∙ o.1.size) in
    let short : length buf < length (print_request want.head) + want.n = want.short in
    let whole : length buf ≡ length (print_request want.head) + (o.0 + length rest) = ap length (sym (append-nil buf)) ∙ o.3 in
    let never : ⊥ = omega arith in
    never

pub never_none : (buf : List ℕ) → NeverMessage buf → NoMessage buf
never_none buf never m rest r = let P : List ℕ → Type 0 = λ b. ReadsMessage b m rest in never [] m rest (subst P (sym (append-nil buf)) r)

pub fault_no_message : (e : MsgFault) (bytes : List ℕ) → (e ≡ faults.Memory → ⊥) → IsMessageFault e bytes → NoMessage bytes
fault_no_message faults.End bytes is fault = let P : List ℕ → Type 0 = NoMessage in subst P (sym fault) nothing_there
fault_no_message faults.Cut bytes is (inl want) = no_head_no_message bytes want.2
fault_no_message faults.Cut bytes is (inr want) = body_missing bytes want
fault_no_message faults.BadHead bytes is fault = never_none bytes (refusal_never faults.BadHead bytes tt fault)
fault_no_message faults.HeadTooLong bytes is fault = never_none bytes (refusal_never faults.HeadTooLong bytes tt fault)
fault_no_message faults.Coded bytes is fault = never_none bytes (refusal_never faults.Coded bytes tt fault)
fault_no_message faults.BadLength bytes is fault = never_none bytes (refusal_never faults.BadLength bytes tt fault)
fault_no_message (faults.TooLarge n) bytes is fault = never_none bytes (refusal_never (faults.TooLarge n) bytes tt fault)
fault_no_message faults.ReadFault bytes is fault = fault
fault_no_message faults.Memory bytes is fault = absurd (is refl)

-- bytes that come behind a head change nothing of what it says
pub head_append : (buf more : List ℕ) (head : Head) → IsHeadAt buf head → IsHeadAt (buf ++ more) head
head_append buf more head r = record {
  tree = r.tree;
  begins = begins_append buf more r.tree r.begins;
  announces = r.announces;
  limit = r.limit;
  size = r.size;
  method = r.method;
  target = r.target;
  fields = r.fields;
  last = r.last;
}

-- a refusal for its head stays one
pub refusal_append : (e : MsgFault) (buf more : List ℕ) → IsRefusal e → IsMessageFault e buf → IsMessageFault e (buf ++ more)
refusal_append faults.End buf more is fault = absurd is
refusal_append faults.Cut buf more is fault = absurd is
refusal_append faults.BadHead buf more is fault = λ further h rest reads. fault (more ++ further) h rest (reads.0, sym (append_assoc buf more further) ∙ reads.1)
refusal_append faults.HeadTooLong buf more is fault =
    (omega (arith, length-append buf more, fault.0), λ h b. fault.1 h (long_begins buf more h fault.0 b))
refusal_append faults.Coded buf more is fault = record { head = fault.head; begins = begins_append buf more fault.head fault.begins; coded = fault.coded }
refusal_append faults.BadLength buf more is fault = record { head = fault.head; begins = begins_append buf more fault.head fault.begins; plain = fault.plain; unmeasured = fault.unmeasured }
refusal_append (faults.TooLarge n) buf more is fault = record { head = fault.head; begins = begins_append buf more fault.head fault.begins; announces = fault.announces; above = fault.above }
refusal_append faults.ReadFault buf more is fault = absurd is
refusal_append faults.Memory buf more is fault = absurd is

-- the head is there, and its body is whole
pub body_whole : (buf : List ℕ) (head : Head) (m : Message) (at : IsHeadAt buf head) → head.size + head.body ≤ length buf
    → m ≡ record { method = head.method; target = head.target; fields = head.fields; body = take head.body (drop head.size buf); last = head.last }
    → ReadsMessage buf m (drop (head.size + head.body) buf)
body_whole buf head m at whole says =
    let after : drop head.size buf ≡ at.begins.after = ap (drop head.size) at.begins.bytes ∙ drop_front head.size (print_request at.tree) at.begins.after (sym at.size) in
    let body = take head.body at.begins.after in
    let count : length body ≡ head.body = length-take-le head.body at.begins.after (omega (arith, ap length after, length-drop head.size buf)) in
    let rest : drop (head.size + head.body) buf ≡ drop head.body at.begins.after = sym (drop-drop head.body head.size buf) ∙ ap (drop head.body) after in
    let P : ℕ → Type 0 = λ n. Announces (fields_of at.tree) n in
    let limit : head.body ≤ BODY_ROOM = at.limit in
    record {
      head = at.tree;
      body = body;
      is_head = at.begins.is_head;
      announces = subst P (sym count) at.announces;
      limit = omega arith;
      bytes = at.begins.bytes ∙ ap (λ a. print_request at.tree ++ a) (sym (take-append-drop head.body at.begins.after) ∙ ap (λ z. body ++ z) (sym rest));
      says = says ∙ (let a = at.method in let b = at.target in let c = at.fields in let e = at.last in let d : take head.body (drop head.size buf) ≡ body = ap (take head.body) after in cc);
    }

-- a body that is cut
pub short_fault : (e : MsgFault) (buf : List ℕ) (head : Head) → IsHeadAt buf head → IsShort e (head.size + head.body) buf → IsMessageFault e buf
short_fault faults.End buf head at short = absurd short
short_fault faults.Cut buf head at short =
    let size : head.size ≡ length (print_request at.tree) = at.size in
    inr (record { head = at.tree; n = head.body; begins = at.begins; announces = at.announces; limit = at.limit; short = omega arith })
short_fault faults.BadHead buf head at short = absurd short
short_fault faults.HeadTooLong buf head at short = absurd short
short_fault faults.Coded buf head at short = absurd short
short_fault faults.BadLength buf head at short = absurd short
short_fault (faults.TooLarge n) buf head at short = absurd short
short_fault faults.ReadFault buf head at short =
    let size : head.size ≡ length (print_request at.tree) = at.size in
    body_missing buf (record { head = at.tree; n = head.body; begins = at.begins; announces = at.announces; limit = at.limit; short = omega arith })
short_fault faults.Memory buf head at short = absurd short

-- what was found in a front that is all, or has as many bytes as a head may have, was found in all
pub finds_front : (n : ℕ) (buf : List ℕ) (found : Found) → n ≤ length buf → (n < HEAD_ROOM → n ≡ length buf) → Finds found (take n buf) → Finds found buf
finds_front n buf (Whole head) within all found =
    let P : List ℕ → Type 0 = λ b. IsHeadAt b head in
    subst P (take-append-drop n buf) (head_append (take n buf) (drop n buf) head found)
finds_front n buf Unfinished within all found =
    let size : length (take n buf) ≡ n = length-take-le n buf within in
    let same : n ≡ length buf = all (omega (arith, found.0)) in
    let whole : take n buf ≡ buf = ap (λ k. take k buf) same ∙ whole_front buf in
    let P : List ℕ → Type 0 = HasNoRequest in
    (omega (arith, found.0), subst P whole found.1)
finds_front n buf (Refused fault) within all found =
    let P : List ℕ → Type 0 = IsMessageFault fault in
    (found.0, subst P (take-append-drop n buf) (refusal_append fault (take n buf) (drop n buf) found.0 found.1))

-- the fault of an input that ended before a head was whole
pub ended_fault : (bytes : List ℕ) → HasNoRequest bytes → length bytes < HEAD_ROOM → IsMessageFault (ended_by bytes) bytes
ended_fault [] none short = refl
ended_fault (b ∷ bytes) none short = inl (omega arith, short, no_head (b ∷ bytes) none)

-- the source failed before a head was whole
pub failed_fault : (old new : List ℕ) → HasNoRequest old → new ≡ old → IsMessageFault faults.ReadFault new
failed_fault old new none same = let P : List ℕ → Type 0 = NoMessage in subst P (sym same) (no_head_no_message old (no_head old none))

pub ended_ends : (bytes : List ℕ) (now : Meanings) → IsUsedUp now → EndsWith (ended_by bytes) now
ended_ends [] now used = used
ended_ends (b ∷ bytes) now used = used

pub ended_rises : (bytes : List ℕ) (before now : ℕ) → now ≡ before → RisesWith (ended_by bytes) before now
ended_rises [] before now same = same
ended_rises (b ∷ bytes) before now same = same

pub finds_ok : {E : Type 0} (r : Result Found E) (n : ℕ) (buf : List ℕ) → n ≤ length buf → (n < HEAD_ROOM → n ≡ length buf)
    → IfOk r (λ found. Finds found (take n buf)) → IfOk r (λ found. Finds found buf)
finds_ok (Ok found) n buf within all h = finds_front n buf found within all h
finds_ok (Err e) n buf within all h = tt

-- a message that is whole has all bytes of its head and of the body that the head announces
pub kept_whole : (buf kept : List ℕ) (head : Head) (m : Message) (rest : List ℕ) → kept ≡ buf → IsHeadAt kept head → ReadsMessage buf m rest → head.size + head.body ≤ length kept
kept_whole buf kept head m rest same at r =
    let P : List ℕ → Type 0 = λ b. ReadsMessage b m rest in
    let o = other_body kept [] at.tree m rest at.begins (subst P (sym same ∙ sym (append-nil kept)) r) in
    let count : head.body ≡ o.0 = same_Some _ _ (sym at.announces.size ∙ o.1.size) in
    let whole : length kept ≡ length (print_request at.tree) + (o.0 + length rest) = ap length (sym (append-nil kept)) ∙ o.3 in
    let size : head.size ≡ length (print_request at.tree) = at.size in
    omega arith

-- a head that was parsed from at most so many bytes
pub parsed_begins : (buf : List ℕ) (headers : List HeaderSpan) (spans : RequestSpans) (h : RequestHead) → IsRequestAt buf headers spans h → length buf ≤ HEAD_ROOM → length headers ≤ MOST_FIELDS → BeginsWith buf h
parsed_begins buf headers spans h at room count =
    let size : length buf ≡ length (print_request h) + length (drop spans.len buf) = ap length at.reads.1 ∙ length-append (print_request h) (drop spans.len buf) in
    record {
      is_head = record {
        grammar = at.reads.0;
        size = omega arith;
        count = omega (arith, ap length at.fields, length-map h.fields name_and_value, length-map (take spans.headers headers) (header_bytes buf), length-take spans.headers headers);
      };
      after = drop spans.len buf;
      bytes = at.reads.1;
    }
