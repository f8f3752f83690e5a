use Rattle.std.proofs.Common.{◌≡◌, ◌+◌, ◌-◌, ◌∙◌, ap, drop, length, arith}
use Rattle.std.proofs.lemmas.List.{length-drop, take_rest}
use Rattle.ss_text.specs.Decimals.{inside}
use Rattle.ss_text.specs.Scan.{inside_len}
use Rattle.ss_text.proofs.Scans.{passed_from}
use Rattle.ss_text.proofs.decimals.quote_or_backslash.Goals as goal

pub returns-in-Some-clause-passed : goal.returns-in-Some-clause-passed
returns-in-Some-clause-passed c =
    let t = c.args.text.now in
    let start = c.args.start in
    let found = c.in-Some.ensures.0 in
    passed_from t start c.in-Some.passed (omega (arith, found.high, ap length (take_rest t start), length-drop start t)) found.before

pub returns-in-None-clause-passed : goal.returns-in-None-clause-passed
returns-in-None-clause-passed c =
    let t = c.args.text.now in
    let start = c.args.start in
    let end : start + (length t - start) ≡ length t = omega arith in
    passed_from t start (length t - start) (omega arith) (λ k low high. c.in-None.ensures k low (omega (arith, ap length (take_rest t start), length-drop start t)))
    ∙ ap (λ m. m + inside_len inside (drop m t)) end
