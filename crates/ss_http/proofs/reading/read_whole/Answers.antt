use Rattle.std.proofs.Common.{◌≡◌, ◌+◌, ◌-◌, ℕ, List, take, drop, subst, sym, ◌∙◌, ap, arith, inl}
use Rattle.std.proofs.lemmas.Result.{err_from_is_err_and}
use Rattle.ss_http.specs.declared.message.Message.{Message}
use Rattle.ss_http.specs.Heads.{IsHeadAt}
use Rattle.ss_http.specs.Buffers.{KeptBytes}
use Rattle.ss_http.proofs.Filling.{Brings-append}
use Rattle.ss_http.proofs.HeadLemmas.{begins, kept_whole, head_append, short_fault, body_whole}
use Rattle.ss_http.proofs.reading.read_whole.Goals as goal

pub returns-in_err-fill_to-clause-fault : goal.returns-in_err-fill_to-clause-fault
returns-in_err-fill_to-clause-fault g c =
    let p = err_from_is_err_and c.from_residual-in_err-fill_to.result c.from_residual-in_err-fill_to.ensures.1 in
    let b = c.fill_to.ensures.bytes in
    let P : List ℕ → Type 0 = λ z. IsHeadAt z c.in_ok-head.head in
    let at : IsHeadAt c.fill_to.new.buffer.bytes c.in_ok-head.head = subst P (sym b.kept) (head_append c.read_head.new.buffer.bytes b.got c.in_ok-head.head c.in_ok-head.ensures.head) in
    rw (p.1, p.2) (short_fault c.in_err-fill_to.field-0.0 c.fill_to.new.buffer.bytes c.in_ok-head.head at c.in_err-fill_to.ensures.fault)

pub returns-clause-whole : goal.returns-clause-whole
returns-clause-whole g c =
    let b = c.fill_to.ensures.bytes in
    let head = c.in_ok-head.head in
    let buf = c.fill_to.new.buffer.bytes in
    let P : List ℕ → Type 0 = λ z. IsHeadAt z head in
    let at : IsHeadAt buf head = subst P (sym b.kept) (head_append c.read_head.new.buffer.bytes b.got head c.in_ok-head.ensures.head) in
    let count : head.size + head.body - head.size ≡ head.body = omega arith in
    let body : c.in-Ok.body ≡ take head.body (drop head.size buf) =
    c.in-Ok.ensures ∙ ap (λ n. take n (drop head.size c.kept.result.now)) count ∙ ap (λ z. take head.body (drop head.size z)) c.kept.ensures.bytes in (
      c.in_ok-fill_to.ensures.enough,
      body_whole buf head _ at c.in_ok-fill_to.ensures.enough
          (ap (λ z. let m : Message = record { method = head.method; target = head.target; fields = head.fields; body = z; last = head.last } in m) body),
    )

pub returns-in_err-head-clause-ready : goal.returns-in_err-head-clause-ready
returns-in_err-head-clause-ready g c = λ m rest r. (c.read_head.ensures.ready (inl (r.head, begins c.args.buffer.now.bytes m rest r))).1

pub returns-in_err-fill_to-clause-bytes : goal.returns-in_err-fill_to-clause-bytes
returns-in_err-fill_to-clause-bytes g c =
    Brings-append c.args.buffer.now.bytes c.read_head.new.buffer.bytes c.fill_to.new.buffer.bytes (g.S.Told.told c.args.source.now) (g.S.Told.told c.read_head.new.source) (g.S.Told.told c.fill_to.new.source)
    c.read_head.ensures.bytes c.fill_to.ensures.bytes

pub returns-in_err-fill_to-clause-ready : goal.returns-in_err-fill_to-clause-ready
returns-in_err-fill_to-clause-ready g c = λ m rest r.
    let same = c.read_head.ensures.ready (inl (r.head, begins c.args.buffer.now.bytes m rest r)) in
    let size = kept_whole c.args.buffer.now.bytes c.read_head.new.buffer.bytes c.in_ok-head.head m rest (ap (λ (k : KeptBytes). k.bytes) same.0) c.in_ok-head.ensures.head r in
    (c.fill_to.ensures.ready size).1 ∙ same.1

pub returns-in_default-clause-ready : goal.returns-in_default-clause-ready
returns-in_default-clause-ready g c = λ m rest r.
    let same = c.read_head.ensures.ready (inl (r.head, begins c.args.buffer.now.bytes m rest r)) in
    let size = kept_whole c.args.buffer.now.bytes c.read_head.new.buffer.bytes c.in_ok-head.head m rest (ap (λ (k : KeptBytes). k.bytes) same.0) c.in_ok-head.ensures.head r in
    (c.fill_to.ensures.ready size).1 ∙ same.1

pub returns-clause-ready : goal.returns-clause-ready
returns-clause-ready g c = λ m rest r.
    let same = c.read_head.ensures.ready (inl (r.head, begins c.args.buffer.now.bytes m rest r)) in
    let size = kept_whole c.args.buffer.now.bytes c.read_head.new.buffer.bytes c.in_ok-head.head m rest (ap (λ (k : KeptBytes). k.bytes) same.0) c.in_ok-head.ensures.head r in
    (c.fill_to.ensures.ready size).1 ∙ same.1

pub returns-clause-bytes : goal.returns-clause-bytes
returns-clause-bytes g c =
    Brings-append c.args.buffer.now.bytes c.read_head.new.buffer.bytes c.fill_to.new.buffer.bytes (g.S.Told.told c.args.source.now) (g.S.Told.told c.read_head.new.source) (g.S.Told.told c.fill_to.new.source)
    c.read_head.ensures.bytes c.fill_to.ensures.bytes
