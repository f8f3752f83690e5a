use Rattle.std.proofs.Common.{ap, sym, ◌∙◌, arith, length, drop, ◌-◌, ◌+◌, ◌∷◌}
use Rattle.std.proofs.lemmas.List.{length-drop, take_all}
use Rattle.ss_text.specs.Decimals.{unended, outside, pieces}
use Rattle.ss_text.proofs.Scans.{string_at}
use Rattle.ss_text.proofs.decimals.string_at.Goals as goal

pub returns-then-end-text-clause-cut : goal.returns-then-end-text-clause-cut
returns-then-end-text-clause-cut c =
    (string_at c.args.text.now c.args.at c.inside_end-end.result c.requires.within c.requires.quote c.inside_end-end.ensures).closed c.if-end-text.true

pub returns-else-end-text-clause-within : goal.returns-else-end-text-clause-within
returns-else-end-text-clause-within c =
    (string_at c.args.text.now c.args.at c.inside_end-end.result c.requires.within c.requires.quote c.inside_end-end.ensures).within

pub returns-else-end-text-clause-cut : goal.returns-else-end-text-clause-cut
returns-else-end-text-clause-cut c =
    let rest = drop (c.args.at + 1) c.args.text.now in
    (string_at c.args.text.now c.args.at c.inside_end-end.result c.requires.within c.requires.quote c.inside_end-end.ensures).unclosed c.if-end-text.false
    ∙ ap (λ s. unended s ∷ pieces outside (drop c.inside_end-end.result c.args.text.now)) (sym (take_all (length c.args.text.now - (c.args.at + 1)) rest (omega (arith, length-drop (c.args.at + 1) c.args.text.now))))
