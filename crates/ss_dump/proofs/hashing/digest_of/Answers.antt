use Rattle.std.proofs.Common.{Some, None, cond, sym, ap, ◌∙◌}
use Rattle.hex.specs.Hex.{encode_lower}
use Rattle.ss_text.proofs.Basics.{none_some}
use Rattle.ss_lines.specs.Digests.{is_digest}
use Rattle.ss_dump.specs.Dumps.{digest_of}
use Rattle.ss_dump.proofs.Digests.{digest_form}
use Rattle.ss_dump.proofs.hashing.digest_of.Goals as goal

pub unreachable-requires : goal.unreachable-requires
unfolding digest_of
unreachable-requires c =
    let hash = c.as_slice.ensures ∙ c.digest-hash.ensures in
    let text = c.as_str.ensures.value ∙ (c.in_ok-digits.ensures ∙ ap encode_lower hash) in
    none_some (sym c.in-None.is ∙ (c.in_ok-digest.ensures
    ∙ (ap (λ t. cond (is_digest t) (Some t) None) text
    ∙ ap (λ b. cond b (Some (digest_of c.args.text.now)) None) (digest_form c.args.text.now))))
