use Rattle.std.proofs.Common.{refl, sym, subst, IsSome}
use Rattle.ss_index.proofs.Drawers.{find_some, find_no, live_at}
use Rattle.ss_index.proofs.drawer.Drawer.get.Goals as goal

pub get-requires-in-Some : goal.get-requires-in-Some
get-requires-in-Some c =
    let there = live_at c.self.invariant c.args.id.now c.in-Some.at.now (sym c.in-Some.ensures.value) in
    subst (λ o. IsSome o) (sym there.1) refl

pub returns-in-Some : goal.returns-in-Some
returns-in-Some c = rw (← c.self.view_is) (sym (find_some c.self.invariant c.args.id.now c.in-Some.at.now c.get-in-Some.result.now (sym c.in-Some.ensures.value) c.get-in-Some.ensures))

pub returns-in-None : goal.returns-in-None
returns-in-None c = rw (← c.self.view_is) (sym (find_no c.self.invariant c.args.id.now (sym c.in-None.ensures.value)))
