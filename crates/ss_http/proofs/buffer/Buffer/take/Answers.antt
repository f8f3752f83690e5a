use Rattle.std.proofs.Common.{◌≡◌, ◌-◌, ◌∙◌, ap, drop, length-take, length, slice_range, arith}
use Rattle.ss_http.specs.Buffers.{KeptBytes}
use Rattle.ss_http.proofs.Ranges.{range_later}
use Rattle.ss_http.proofs.buffer.Buffer.take.Goals as goal

pub returns : goal.returns
returns c =
    let i = c.self.inside in
    let n = c.args.count in
    let size : length (slice_range i.bytes.items i.start i.end) ≡ length c.args.self.now.bytes = ap (λ (k : KeptBytes). length k.bytes) c.self.view_is in
    ap (λ b. let k : KeptBytes = record { bytes = b; stop = i.stop } in k) (range_later i.bytes.items i.start n i.end (omega (arith, size, length-take (i.end - i.start) (drop i.start i.bytes.items))))
    ∙ ap (λ (k : KeptBytes). let l : KeptBytes = record { bytes = drop n k.bytes; stop = k.stop } in l) c.self.view_is
