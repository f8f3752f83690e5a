use Rattle.std.proofs.Common.{◌≡◌, ◌<◌, ◌≤◌, ◌+◌, ◌-◌, ◌++◌, length, take, drop, get_or, rules, arith, ◌∙◌, ap}
use Rattle.std.proofs.Common.{length-drop}
use Rattle.std.proofs.lemmas.List.{length-take-le}
use Rattle.ss_outside.proofs.Pieces.{pieces_after, HasRead-piece}
use Rattle.ss_outside.proofs.Telling.{front_is}
use Rattle.ss_outside.proofs.memory_source.SourceUnderSource.read.Goals as goal

-- the bytes at the front of the buffer are the next ones that were left
pub returns-then-self-piece-clause-bytes : goal.returns-then-self-piece-clause-bytes
returns-then-self-piece-clause-bytes g c =
    let s = c.pieces.self-inside in
    let n = c.min-count.result in
    let piece = c.index.result.now in
    let into = c.pieces.into in
    let copy = c.copy_from_slice.new.self in
    let inside : s.piece < length s.pieces.items = search (c.pieces-test.true, c.len.ensures, rules) in
    let is : piece ≡ get_or s.pieces.items s.piece piece = c.index.ensures in
    let same : length c.as_slice-piece.result.now ≡ length piece.items = ap length c.as_slice-piece.ensures.value in
    let fits : s.at + n ≤ length piece.items = omega (arith, c.min-count.ensures, c.if-self-piece.true, same) in
    let within : (s.at + n) - s.at ≡ n = omega arith in
    let here : copy ≡ take n (drop s.at piece.items) =
    c.copy_from_slice.ensures.after
    ∙ ap (λ k. take k (drop s.at c.as_slice-piece.result.now)) within
    ∙ ap (λ bytes. take n (drop s.at bytes)) c.as_slice-piece.ensures.value in
    let size : length copy ≡ n = ap length here ∙ length-take-le n (drop s.at piece.items) (omega (arith, length-drop s.at piece.items)) in
    HasRead-piece c.args.self.now s.pieces.items s.piece s.at n piece (take n (copy ++ drop n into)) (g.F.Faults.plan s.plan) inside is fits
    c.pieces.invariant.taken c.pieces.invariant.left (front_is n copy (drop n into) (take n (drop s.at piece.items)) size here)

pub returns-then-self-piece-clause-pieces : goal.returns-then-self-piece-clause-pieces
returns-then-self-piece-clause-pieces g c =
    let s = c.pieces.self-inside in
    let n = c.min-count.result in
    let piece = c.index.result.now in
    let inside : s.piece < length s.pieces.items = search (c.pieces-test.true, c.len.ensures, rules) in
    let same : length c.as_slice-piece.result.now ≡ length piece.items = ap length c.as_slice-piece.ensures.value in
    let within : s.at < length piece.items = omega (arith, c.if-self-piece.true, same) in
    let after = pieces_after c.args.self.now.pieces s.pieces.items s.piece s.at n (length c.args.into.now) piece inside c.index.ensures within (omega arith) c.pieces.invariant.left in
    rw c.pieces.invariant.sure (after.1)
