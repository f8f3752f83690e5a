use Rattle.std.proofs.Common.{◌≡◌, ℕ, ◌/◌, ◌%◌, ◌≤◌, ◌++◌, codes, decimal, string_bytes, IfOk, rules, arith, ap₂, ◌∙◌}
use Rattle.std.proofs.lemmas.Fmt.{decimal_digit}
use Rattle.std.proofs.lemmas.Result.{IfOk-weaker}
use Rattle.ss_text.specs.Time.{stamp_text, last_stamp}
use Rattle.ss_route.proofs.requests.since_text.Goals as goal

-- seconds, a point and two digits are the text of a time
same_text : (a b since : ℕ) → a ≡ since → b ≡ since → since ≤ last_stamp
    → codes "&newer=" ++ (decimal (a / 100) ++ (codes "." ++ (decimal (b % 100 / 10) ++ decimal (b % 100 % 10)))) ≡ codes "&newer=" ++ stamp_text since
unfolding stamp_text
same_text a b since p q h =
    (λ i. codes "&newer=" ++ (decimal (p i / 100) ++ (codes "." ++ (decimal (q i % 100 / 10) ++ decimal (q i % 100 % 10)))))
    ∙ ap₂ (λ s t. codes "&newer=" ++ (decimal (since / 100) ++ (codes "." ++ (s ++ t)))) (decimal_digit (since % 100 / 10) (omega arith)) (decimal_digit (since % 100 % 10) (omega arith))

pub returns : goal.returns
returns c =
    let printed : IfOk c.format.result (λ text. string_bytes text ≡ codes "&newer=" ++ (decimal (c.get.result / 100) ++ (codes "." ++ (decimal (c.get-2.result % 100 / 10) ++ decimal (c.get-2.result % 100 % 10))))) = search rules in
    IfOk-weaker c.format.result _ (λ text. string_bytes text ≡ codes "&newer=" ++ stamp_text c.args.since)
    (λ text e. e ∙ same_text c.get.result c.get-2.result c.args.since c.get.ensures.value c.get-2.ensures.value c.get.ensures.range) printed
