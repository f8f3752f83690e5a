use Rattle.std.proofs.Common.{arith}
use Rattle.std.proofs.lemmas.Simd.{zip2_splat}
use Rattle.ss_text.specs.Scan.{is_escaped}
use Rattle.ss_text.proofs.Vectors.{hit, below, either, masked}
use Rattle.ss_text.proofs.json_texts.escaped.Goals as goal

pub returns : goal.returns
returns c =
    let v = c.args.bytes in
    let long = c.fits-bytes.0 in
    masked _ is_escaped v _ (omega arith) c.fits-bytes.1 (either _ _ v (either _ _ v (zip2_splat hit v 32 34 long) (zip2_splat hit v 32 92 long)) (zip2_splat below v 32 32 long)) tt
