-- Sums of payload bytes.
use Rattle.std.specs.Prelude.{◌≡◌, ℕ, ◌+◌, ◌<◌, min, List, length, take, get_or}
use Rattle.std.proofs.Common.{sym, ap, ◌∙◌, arith}
use Rattle.std.proofs.lemmas.List.Sums.{sum_by_more}
use Rattle.ss_bso.specs.declared.parts.Part.{Part}
use Rattle.ss_bso.specs.Limits.{part_bytes, payload_size}
use Rattle.ss_batch.specs.Stage.{most_counted}

pub bytes-more : (bytes total left : ℕ) (parts : List Part) (k : ℕ) (part : Part) → k < length parts → part ≡ get_or parts k part → total ≡ min (bytes + part_bytes (take k parts)) most_counted
    → left ≡ min (total + payload_size part.fields.payload) most_counted → left ≡ min (bytes + part_bytes (take (k + 1) parts)) most_counted
bytes-more bytes total left parts k part lt at e l =
    let size : ℕ = payload_size part.fields.payload in
    let so_far : ℕ = part_bytes (take k parts) in
    let more : part_bytes (take (k + 1) parts) ≡ so_far + size = sum_by_more (λ (p : Part). payload_size p.fields.payload) parts k part lt ∙ ap (λ (p : Part). so_far + payload_size p.fields.payload) at_back in
    omega (arith, e, l, more)
  where
    at_back : get_or parts k part ≡ part
    at_back = λ i. sym at i
