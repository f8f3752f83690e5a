use Rattle.std.proofs.Common.{◌++◌, ◌∷◌, [], ◌∙◌, ap, ap₂, sym, arith}
use Rattle.ss_text.proofs.Strings.{letter_escape, control_escape}
use Rattle.ss_text.proofs.json_texts.push_escape.Goals as goal

pub returns-in_ok-extend_from_slice-clause-ok : goal.returns-in_ok-extend_from_slice-clause-ok
returns-in_ok-extend_from_slice-clause-ok c =
    c.in_ok-extend_from_slice.ensures.items
    ∙ ap (λ s. c.args.out.now.items ++ s) (ap (λ l. 92 ∷ l ∷ []) c.escape_letter-letter.ensures ∙ sym (letter_escape c.args.byte (omega (arith, c.escape_letter-letter.ensures, c.if-letter-gt0.true))))

pub returns-in_ok-extend_from_slice-2-clause-ok : goal.returns-in_ok-extend_from_slice-2-clause-ok
returns-in_ok-extend_from_slice-2-clause-ok c =
    c.in_ok-extend_from_slice-2.ensures.items
    ∙ ap (λ s. c.args.out.now.items ++ s) (ap₂ (λ a b. 92 ∷ 117 ∷ 48 ∷ 48 ∷ a ∷ b ∷ []) c.digit-high.ensures c.digit-low.ensures
    ∙ sym (control_escape c.args.byte c.requires (omega (arith, c.escape_letter-letter.ensures, c.if-letter-gt0.false))))
