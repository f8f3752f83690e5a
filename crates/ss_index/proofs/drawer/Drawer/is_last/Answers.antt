use Rattle.std.proofs.Common.{◌≤◌, ◌<◌, arith}
use Rattle.std.specs.Map.{values_of}
use Rattle.ss_bso.specs.declared.rows.Row.{Row}
use Rattle.ss_bso.proofs.Lists.{Each-imp}
use Rattle.ss_index.proofs.Rising.{all_sooner, each_value}
use Rattle.ss_index.proofs.drawer.Drawer.is_last.Goals as goal
use Rattle.std.proofs.lemmas.Bool.{leb-true, leb-false}

pub returns-in-Some-clause-last : goal.returns-in-Some-clause-last
returns-in-Some-clause-last c = λ t.
    let row = c.get.result.now in
    let le : c.get-in-Some.result ≤ c.get-in-Some-2.result = leb-true c.get-in-Some.result c.get-in-Some-2.result t in
    let within : row.modified ≤ c.args.time = omega (arith, le, c.get-in-Some.ensures.value, c.get-in-Some-2.ensures.value) in
    rw (← c.self.view_is)
    (Each-imp (λ (other : Row). other.modified ≤ row.modified) (λ (other : Row). other.modified ≤ c.args.time) (λ other h. omega (arith, h, within)) (values_of c.self.inside.rows.nodes)
    (all_sooner c.self.inside.places c.self.inside.rows c.self.inside.bytes c.self.invariant c.in-Some.at row c.in-Some.ensures.last c.get.ensures))

pub returns-in-Some-clause-sooner : goal.returns-in-Some-clause-sooner
returns-in-Some-clause-sooner c = λ f all.
    let row = c.get.result.now in
    let above : c.get-in-Some-2.result < c.get-in-Some.result = leb-false c.get-in-Some.result c.get-in-Some-2.result f in
    let within : row.modified ≤ c.args.time = each_value (λ (other : Row). other.modified ≤ c.args.time) c.self.inside.rows c.in-Some.at row c.get.ensures (rw (← c.self.view_is) at all) in
    absurd (omega (arith, above, within, c.get-in-Some.ensures.value, c.get-in-Some-2.ensures.value))
