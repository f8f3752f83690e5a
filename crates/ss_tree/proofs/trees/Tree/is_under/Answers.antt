use Rattle.std.proofs.lemmas.Bool.{eqb-true}
use Rattle.std.proofs.Common.{◌≡◌, ◌-◌, ◌≤◌, ◌<◌, Some, None, true, false, length, sym, ap, ap₂, ◌∙◌, subst, arith}
use Rattle.ss_tree.specs.Entries.{is_met_above, IsTree}
use Rattle.ss_tree.specs.Cells.{listing}
use Rattle.ss_tree.proofs.Seen.{long_is, met_none, met_here, met_far, tells_below}
use Rattle.ss_tree.proofs.trees.Tree.is_under.Goals as goal

pub loop-round-init : goal.loop-round-init
loop-round-init c =
    let n = c.len-round-end.result in
    let all : n - 0 ≡ n = omega arith in
    let long : length (listing c.self.inside.cells.items) ≤ n = let l = long_is c.self.inside.cells.items c.self.invariant.0 in omega (arith, c.len-round-end.ensures) in
    record {
      rest = ap₂ (λ m o. is_met_above c.args.self.now c.args.top m o) all c.parent-at.ensures.node;
      long = subst (λ l. length l ≤ n) c.self.view_is long;
      valid = subst IsTree c.self.view_is c.self.invariant.0.kept.is_tree;
    }

pub returns-in_default-clause-test : goal.returns-in_default-clause-test
returns-in_default-clause-test c =
    let es = c.args.self.now in
    let n = c.len-round-end.result in
    let v = c.loop-round.invariant in
    let none : c.loop-round.at ≡ None = c.in_default.is in
    sym (met_none es c.args.top (n - c.loop-round._round)) ∙ (ap (is_met_above es c.args.top (n - c.loop-round._round)) (sym none) ∙ (v.rest ∙ met_far es v.valid c.args.top c.args.node n v.long))

pub returns-in_default-clause-below : goal.returns-in_default-clause-below
returns-in_default-clause-below c = tells_below c.args.self.now c.loop-round.invariant.valid c.args.top c.args.node false (returns-in_default-clause-test c)

pub returns-then-eq-clause-test : goal.returns-then-eq-clause-test
returns-then-eq-clause-test c =
    let es = c.args.self.now in
    let n = c.len-round-end.result in
    let v = c.loop-round.invariant in
    let at : c.loop-round.at ≡ Some c.in-Some.reached = c.in-Some.is in
    let is : c.args.top ≡ c.in-Some.reached = eqb-true c.args.top c.in-Some.reached (sym c.eq.ensures ∙ c.if-eq.true) in
    let left : 0 < n - c.loop-round._round = omega (arith, c.loop-round-test.true) in
    sym (met_here es c.args.top (n - c.loop-round._round) c.in-Some.reached left is) ∙ (ap (is_met_above es c.args.top (n - c.loop-round._round)) (sym at) ∙ (v.rest ∙ met_far es v.valid c.args.top c.args.node n v.long))

pub returns-then-eq-clause-below : goal.returns-then-eq-clause-below
returns-then-eq-clause-below c = tells_below c.args.self.now c.loop-round.invariant.valid c.args.top c.args.node true (returns-then-eq-clause-test c)

pub returns-clause-test : goal.returns-clause-test
returns-clause-test c =
    let es = c.args.self.now in
    let n = c.len-round-end.result in
    let v = c.loop-round.invariant in
    let over : n - c.loop-round._round ≡ 0 = omega arith in
    ap (λ m. is_met_above es c.args.top m c.loop-round.at) (sym over) ∙ (v.rest ∙ met_far es v.valid c.args.top c.args.node n v.long)

pub returns-clause-below : goal.returns-clause-below
returns-clause-below c = tells_below c.args.self.now c.loop-round.invariant.valid c.args.top c.args.node false (returns-clause-test c)
