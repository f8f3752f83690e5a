use Rattle.std.specs.Prelude.{◌≡◌, ◌-◌, Some, length, map, take, drop, string_bytes}
use Rattle.std.proofs.Common.{sym, ap, subst, ◌∙◌}
use Rattle.ss_words.specs.Names.{name_of}
use Rattle.ss_words.specs.Commands.{Asks}
use Rattle.ss_words.proofs.Asked.{no_such_words, words_there, weaker}
use Rattle.ss_words.proofs.commands.read_command.Goals as goal

pub returns-in-Some-clause-refused : goal.returns-in-Some-clause-refused
returns-in-Some-clause-refused c =
    let words = c.args.words.now in
    let there = words_there (λ word. string_bytes word) words c.first-item.result c.in-len1-up.len_at_least c.first-item.is in
    let named : name_of (string_bytes c.first-item.result) ≡ Some c.in-Some.name = ap name_of (sym c.as_str.ensures.value) ∙ sym c.read.ensures ∙ c.in-Some.is in
    weaker c.read_named.result _ _
    (λ fault none refused command asks. no_such_words (string_bytes c.first-item.result) (map (λ word. string_bytes word) (take (length words - 1) (drop 1 words))) c.in-Some.name named (none refused) command
    (subst (λ texts. Asks texts command) there asks))
    c.read_named.ensures.refused
