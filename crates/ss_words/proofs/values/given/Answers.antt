use Rattle.std.specs.Prelude.{◌++◌, ◌+◌, map, drop}
use Rattle.std.specs.Option.{option_copied, option_to_list}
use Rattle.std.proofs.Common.{sym, ap, ◌∙◌}
use Rattle.ss_words.specs.Values.{values_in, once}
use Rattle.ss_words.proofs.Counted.{first_found, value_at, other_at, twice, in_line}
use Rattle.ss_words.proofs.values.given.Goals as goal
use Rattle.ss_words.proofs.values.given.Goals.{then-eq+else-is_some, else-eq}

pub returns-then-is_some-clause-refused : goal.returns-then-is_some-clause-refused
returns-then-is_some-clause-refused c =
    let here = value_at c.args.option c.options-options.result.now c.loop-pair.pair-index _ c.loop-pair-test.true c.text.result.now c.text-in-loop-pair.result.now c.text.ensures c.text-in-loop-pair.ensures (sym c.eq.ensures ∙ c.if-eq.true) in
    ap (λ options. once (values_in c.args.option options)) (sym c.options-options.ensures)
    ∙ twice c.loop-pair.found _ _ _ (sym c.is_some.ensures ∙ c.if-is_some.true)
    (c.loop-pair.invariant ∙ ap (λ values. option_to_list (option_copied c.loop-pair.found) ++ values) here)

pub loop-pair-preserved : goal.loop-pair-preserved
loop-pair-preserved c =
    elim c.if-eq.branch [
      | then-eq+else-is_some w ↦ (
          let here = value_at c.args.option c.options-options.result.now c.loop-pair.pair-index _ c.loop-pair-test.true c.text.result.now c.text-in-loop-pair.result.now c.text.ensures c.text-in-loop-pair.ensures (sym c.eq.ensures ∙ w.if-eq.true) in
          first_found c.loop-pair.found c.if-eq.found _ _ _ _ (sym w.is_some.ensures ∙ w.if-is_some.false) c.loop-pair.invariant here w.found-is)
      | else-eq w ↦ (
          let here = other_at c.args.option c.options-options.result.now c.loop-pair.pair-index _ c.loop-pair-test.true c.text.result.now c.text-in-loop-pair.result.now c.text.ensures c.text-in-loop-pair.ensures (sym c.eq.ensures ∙ w.if-eq.false) in
          c.loop-pair.invariant ∙ ap (λ values. option_to_list (option_copied c.loop-pair.found) ++ values) here
          ∙ ap (λ found. option_to_list (option_copied found) ++ values_in c.args.option (drop (c.loop-pair.pair-index + 1) (map in_line c.options-options.result.now))) (sym w.found-is))
    ]
