use Rattle.std.proofs.Common.{◌≡◌}
use Rattle.form_urlencoded.specs.Parse.{pairs_left}
use Rattle.ss_query.specs.Parameters.{first_in, parameter}
use Rattle.ss_query.proofs.queries.read_parameter.Given as goal

abbrev pub invariant-loop-pair : goal.invariant-loop-pair
invariant-loop-pair l =
    (goal.iterator-loop-pair).can_next l.pair-iterator
    × (goal.iterator-loop-pair).is_finite l.pair-iterator
    × (first_in l.name (pairs_left l.pair-iterator) ≡ parameter l.name l.text)
