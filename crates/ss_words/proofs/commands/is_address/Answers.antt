use Rattle.std.proofs.Common.{◌≡◌, ◌∙◌, true, false, sym, subst}
use Rattle.std.proofs.lemmas.Slice.Eq.{bytes_eq-Decides}
use Rattle.std.specs.Net.Grammar.{IsSocketV4Text}
use Rattle.ss_words.proofs.Addresses.{otherwise_written, unread}
use Rattle.ss_words.proofs.commands.is_address.Goals as goal

pub returns-in_ok-to_string-in-Ok-clause-no : goal.returns-in_ok-to_string-in-Ok-clause-no
returns-in_ok-to_string-in-Ok-clause-no c = λ no.
    otherwise_written c.args.text.now c.as_str.result.now c.in-Ok.address
    (subst (λ t. IsSocketV4Text t c.in-Ok.address) c.as_bytes.ensures.value c.in-Ok.ensures)
    (c.as_str.ensures.value ∙ c.in_ok-to_string-in-Ok.ensures.ok)
    (λ same. let bad : true ≡ false = sym ((bytes_eq-Decides c.as_str.result.now c.args.text.now).1 same) ∙ sym c.eq.ensures ∙ no in cc)

pub returns-in-Err-clause-no : goal.returns-in-Err-clause-no
returns-in-Err-clause-no c = λ no.
    unread c.args.text.now (λ read is. c.in-Err.ensures read (subst (λ t. IsSocketV4Text t read) (sym c.as_bytes.ensures.value) is))
