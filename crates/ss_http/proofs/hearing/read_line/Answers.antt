use Rattle.std.proofs.Common.{◌≡◌, ◌<◌, ◌+◌, ℕ, List, [], ◌∷◌, ◌++◌, length, subst, sym, ap, ◌∙◌, arith, length-append}
use Rattle.httparse.specs.Grammar.{HasNoResponse}
use Rattle.ss_http.specs.Buffers.{Brings}
use Rattle.ss_http.specs.Listening.{IsNoLonger}
use Rattle.ss_http.proofs.Filling.{Brings-append}
use Rattle.ss_http.proofs.LineEnds.{no_longer, still_none}
use Rattle.ss_http.proofs.hearing.read_line.Goals as goal
use Rattle.ss_http.specs.declared.limits.TheConstants.{HEAD_ROOM}

pub returns-then-byte-eq10-clause-whole : goal.returns-then-byte-eq10-clause-whole
returns-then-byte-eq10-clause-whole g c =
    let is : c.push_reserved.new.self.items ≡ c.bytes.head.items ++ c.in-Ok-Some.byte ∷ [] = c.push_reserved.ensures.items ∙ ap (λ z. z ++ c.in-Ok-Some.byte ∷ []) c.reserve.ensures.items in
    subst IsNoLonger (sym is) (no_longer c.bytes.head.items c.in-Ok-Some.byte c.bytes.invariant.headless)

pub bytes-preserved : goal.bytes-preserved
bytes-preserved g c =
    let old = c.bytes.head.items in
    let new = c.push_reserved.new.self.items in
    let byte = c.in-Ok-Some.byte in
    let is : new ≡ old ++ byte ∷ [] = c.push_reserved.ensures.items ∙ ap (λ z. z ++ byte ∷ []) c.reserve.ensures.items in
    let brings : Brings old new (g.S.Told.told c.bytes.source) (g.S.Told.told c.read_byte.new.source) = record { got = byte ∷ []; kept = is; read = rw c.in-Ok-Some.field-0-is at c.in-Ok-Some.ensures.bytes } in
    let P : List ℕ → Type 0 = HasNoResponse in
    let size : length new ≡ length old + 1 = ap length is ∙ length-append old (byte ∷ []) in
    let short : length new < HEAD_ROOM = omega (arith, size, c.bytes.invariant.short, c.if-len-eq-HEAD_ROOM.false, c.len.ensures) in
    record {
      bytes = Brings-append c.args.head.now.items old new (g.S.Told.told c.args.source.now) (g.S.Told.told c.bytes.source) (g.S.Told.told c.read_byte.new.source) c.bytes.invariant.bytes brings;
      faults = c.in-Ok-Some.ensures.cause ∙ c.bytes.invariant.faults;
      headless = subst P (sym is) (still_none old byte c.bytes.invariant.headless c.if-byte-eq10.false);
      short = short;
      more = omega (arith, c.bytes.invariant.more);
    }
