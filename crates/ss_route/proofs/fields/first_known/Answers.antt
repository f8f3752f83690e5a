use Rattle.std.proofs.Common.{rules, tests, ◌==◌}
use Rattle.std.proofs.lemmas.Iterator.{YieldsList-from_map_by}
use Rattle.std.proofs.lemmas.Iterator.Consumers.{YieldsList-at}
use Rattle.std.proofs.lemmas.Iterator.Search.{find_from_yields_List}
use Rattle.std.proofs.lemmas.Iterator.Splits.{YieldsList-from_slice_split}
use Rattle.ss_route.specs.Fields.{is_known, without_parameters}
use Rattle.ss_route.proofs.fields.first_known.Goals as goal

pub returns : goal.returns
returns c =
    find_from_yields_List is_known _ _ _ c.find.ensures.ran
    (YieldsList-from_map_by _ (λ range. range.now) without_parameters
    (YieldsList-at c.map.ensures.source
    (YieldsList-from_slice_split _ (λ b. b == 0x2c) c.args.value.now c.split.ensures.rest c.split.ensures.done c.split.ensures.closure (λ x r q k. search (rules, tests))))
    c.map.ensures.closure (λ x r q k. search rules))
    (λ x b q k. search rules)
