use Rattle.std.proofs.Common.{◌≡◌, ◌+◌, ℕ, List, length, take, drop, ◌++◌, ◌-◌, subst, sym, ap, ◌∙◌, ◌==◌, false, arith}
use Rattle.std.proofs.Common.{length-append}
use Rattle.std.specs.List.{list_any}
use Rattle.std.proofs.lemmas.List.{take_rest}
use Rattle.httparse.specs.Grammar.{HasNoRequest}
use Rattle.ss_http.specs.Faults.{IsMessageFault}
use Rattle.ss_http.specs.Reading.{ended_by}
use Rattle.ss_http.proofs.Filling.{Brings-append, brought_none}
use Rattle.ss_http.proofs.HeadLemmas.{ended_fault, ended_rises, failed_fault}
use Rattle.ss_http.proofs.LineEnds.{still_no_request}
use Rattle.ss_http.proofs.Ranges.{drop_front}
use Rattle.ss_http.proofs.reading.read_line.Goals as goal

take_all_of : (a b : List ℕ) → take (length b - length a) (drop (length a) b) ≡ drop (length a) b
take_all_of a b = take_rest b (length a)

pub returns-in-Err-clause-bytes : goal.returns-in-Err-clause-bytes
returns-in-Err-clause-bytes g c =
    Brings-append c.args.buffer.now.bytes c.lines.buffer.bytes c.fill.new.self.bytes (g.S.Told.told c.args.source.now) (g.S.Told.told c.lines.source) (g.S.Told.told c.fill.new.source)
    c.lines.invariant.bytes c.fill.ensures.bytes

pub returns-in-Err-clause-fault : goal.returns-in-Err-clause-fault
returns-in-Err-clause-fault g c = failed_fault c.lines.buffer.bytes c.fill.new.self.bytes c.lines.invariant.headless c.in-Err.ensures.err

pub returns-in-Ok-eq0-clause-fault : goal.returns-in-Ok-eq0-clause-fault
returns-in-Ok-eq0-clause-fault g c =
    let count = rw c.in-Ok-eq0.field-0-test at c.in-Ok-eq0.ensures.count in
    let same : c.fill.new.self.bytes ≡ c.lines.buffer.bytes = brought_none c.lines.buffer.bytes c.fill.new.self.bytes (g.S.Told.told c.lines.source) (g.S.Told.told c.fill.new.source) c.in-Ok-eq0.ensures.bytes (omega (arith, count)) in
    let P : List ℕ → Type 0 = λ b. IsMessageFault (ended_by b) b in
    rw c.ended.ensures (subst P (sym same) (ended_fault c.lines.buffer.bytes c.lines.invariant.headless c.lines.invariant.short))

pub returns-in-Ok-eq0-clause-cause : goal.returns-in-Ok-eq0-clause-cause
returns-in-Ok-eq0-clause-cause g c =
    rw c.ended.ensures (ended_rises c.fill.new.self.bytes _ _ (c.in-Ok-eq0.ensures.cause ∙ c.lines.invariant.faults))

pub lines-preserved : goal.lines-preserved
lines-preserved g c =
    let old = c.lines.buffer.bytes in
    let new = c.fill.new.self.bytes in
    let brings = c.fill.ensures.bytes in
    let here : c.kept-kept.result.now ≡ old ++ brings.got = c.kept-kept.ensures.bytes ∙ brings.kept in
    let before : length old ≡ length c.kept-before.result.now = ap length (sym c.kept-before.ensures.bytes) in
    let behind : drop (length c.kept-before.result.now) c.kept-kept.result.now ≡ brings.got =
    ap (drop (length c.kept-before.result.now)) here ∙ drop_front (length c.kept-before.result.now) old brings.got before in
    let lineless : list_any (λ b. b == 10) brings.got ≡ false =
    ap (list_any (λ b. b == 10)) (sym behind ∙ sym (take_all_of c.kept-before.result.now c.kept-kept.result.now)) ∙ sym c.contains.ensures.value ∙ c.if-contains.false in
    let P : List ℕ → Type 0 = HasNoRequest in
    let size : length new ≡ length old + length brings.got = ap length brings.kept ∙ length-append old brings.got in
    let shown : length c.kept-kept.result.now ≡ length new = ap length c.kept-kept.ensures.bytes in
    record {
      stop = c.fill.ensures.stop ∙ c.lines.invariant.stop;
      bytes = Brings-append c.args.buffer.now.bytes old new (g.S.Told.told c.args.source.now) (g.S.Told.told c.lines.source) (g.S.Told.told c.fill.new.source) c.lines.invariant.bytes brings;
      faults = c.in-Ok.ensures.cause ∙ c.lines.invariant.faults;
      headless = subst P (sym brings.kept) (still_no_request old brings.got c.lines.invariant.headless lineless);
      short = omega arith;
      more = omega (arith, c.lines.invariant.more);
    }
