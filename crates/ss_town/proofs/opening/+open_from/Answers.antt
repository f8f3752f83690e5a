use Rattle.std.proofs.Common.{rules, refl, subst, sym, ap, ◌∙◌, ◌≡◌, ◌<◌, ◌≤◌, ◌+◌, ◌++◌, ◌∷◌, [], ℕ, length, arith}
use Rattle.std.specs.Prelude.{vec_capacity}
use Rattle.ss_town.specs.Opening.{IsOpenedTown, AreBare, AreReturnedAccounts}
use Rattle.ss_town.specs.Places.{HandsBack}
use Rattle.ss_desk.proofs.Beside.{last_long}
use Rattle.ss_town.proofs.Openings.{bare_but, opened_more, opened_covers, returned_more, returned_closed}
use Rattle.ss_town.proofs.opening.+open_from.Goals as goal

pub open_from-requires : goal.open_from-requires
open_from-requires g t c κs within = let k = g.T.Journaled in let rest = c.pop.new.self.items in let e = c.in-Some.ensures.items in
    let more : length c.args.accounts.items ≡ length rest + 1 = ap length e ∙ last_long rest _ in (
      omega (arith, more),
      (
        search rules,
        (
          search rules,
          (
            search rules,
            (
              search rules,
              (
                search rules,
                (
                  (bare_but k.fixed k.entries rest c.in-Some.uid c.in-Some.value (subst (λ l. AreBare k.entries l) e c.requires.bare)).0,
                  (
                    c.requires.empty,
                    (omega (arith, more, c.requires.room.0), omega (arith, more, c.requires.room.1), omega (arith, more, c.requires.room.2)),
                  ),
                ),
              ),
            ),
          ),
        ),
      ),
    )

pub returns-in-Err-clause-returned : goal.returns-in-Err-clause-returned
returns-in-Err-clause-returned g t c = let k = g.T.Journaled in let rest = c.pop.new.self.items in let e = c.in-Some.ensures.items in
    let x = c.in-Some.value in (
      subst (λ l. AreReturnedAccounts k.fixed k.entries l c.push_reserved.new.self.items) (sym e)
          (subst (λ l. AreReturnedAccounts k.fixed k.entries (rest ++ (c.in-Some.uid, x) ∷ []) l) (sym c.push_reserved.ensures.items)
          (returned_more k.fixed k.entries rest c.in-Err.accounts.items c.in-Some.uid x x c.in-Err.ensures.returned.0 refl
          (bare_but k.fixed k.entries rest c.in-Some.uid x (subst (λ l. AreBare k.entries l) e c.requires.bare)).1)),
      search rules,
    )

pub open-requires : goal.open-requires
open-requires g t c = let k = g.T.Journaled in record { empty = (bare_but k.fixed k.entries c.pop.new.self.items c.in-Some.uid c.in-Some.value (subst (λ l. AreBare k.entries l) c.in-Some.ensures.items c.requires.bare)).1 }

pub close_from-accounts-requires-clause-all : goal.close_from-accounts-requires-clause-all
close_from-accounts-requires-clause-all g t c = let k = g.T.Journaled in let o = c.in-Ok.both.1 in
    λ i lt. opened_covers k.fixed c.pop.new.self.items o.uids.items o.desks.items o.passes.items c.in-Ok.ensures.opened i (omega (arith, o.desks.ok.0))

pub returns-in-Ok-open-clause-opened : goal.returns-in-Ok-open-clause-opened
returns-in-Ok-open-clause-opened g t c = let k = g.T.Journaled in let rest = c.pop.new.self.items in let o = c.in-Ok.both.1 in let u = c.in-Some.uid in let x = c.in-Some.value in
    let d = c.in-Ok-open.desk in let p = c.in-Ok-open.pass in
    subst (λ l. IsOpenedTown k.fixed l c.push_reserved-in-Ok-open.new.self.items c.push_reserved-in-Ok-open-2.new.self.items c.push_reserved-in-Ok-open-3.new.self.items) (sym c.in-Some.ensures.items)
    (subst (λ l. IsOpenedTown k.fixed (rest ++ (u, x) ∷ []) l c.push_reserved-in-Ok-open-2.new.self.items c.push_reserved-in-Ok-open-3.new.self.items) (sym c.push_reserved-in-Ok-open.ensures.items)
    (subst (λ l. IsOpenedTown k.fixed (rest ++ (u, x) ∷ []) (o.uids.items ++ u ∷ []) l c.push_reserved-in-Ok-open-3.new.self.items) (sym c.push_reserved-in-Ok-open-2.ensures.items)
    (subst (λ l. IsOpenedTown k.fixed (rest ++ (u, x) ∷ []) (o.uids.items ++ u ∷ []) (o.desks.items ++ d ∷ []) l) (sym c.push_reserved-in-Ok-open-3.ensures.items)
    (opened_more k.fixed rest o.uids.items o.desks.items o.passes.items u x d p c.in-Ok.ensures.opened c.in-Ok-open.ensures.pass c.in-Ok-open.ensures.view))))

pub returns-in-Err-open-clause-returned : goal.returns-in-Err-open-clause-returned
returns-in-Err-open-clause-returned g t c = let k = g.T.Journaled in let rest = c.pop.new.self.items in let o = c.in-Ok.both.1 in let u = c.in-Some.uid in let x = c.in-Some.value in let y = c.in-Err-open.value in
    let e = c.in-Some.ensures.items in
    let none = (bare_but k.fixed k.entries rest u x (subst (λ l. AreBare k.entries l) e c.requires.bare)).1 in
    let same : y ≡ x = c.in-Err-open.ensures.returned in
    let handed = subst (λ us. HandsBack k.ticket_of k.pass_of k.fixed k.entries k.legal us o.passes.items c.close_from-accounts.result.items) c.as_slice.ensures.value c.close_from-accounts.ensures.handed in (
      subst (λ l. AreReturnedAccounts k.fixed k.entries l c.push_reserved-in-Err-open.new.self.items) (sym e)
          (subst (λ l. AreReturnedAccounts k.fixed k.entries (rest ++ (u, x) ∷ []) l) (sym c.push_reserved-in-Err-open.ensures.items)
          (returned_more k.fixed k.entries rest c.close_from-accounts.result.items u x y (returned_closed k.fixed k.entries k.ticket_of k.pass_of k.legal rest o.uids.items o.desks.items o.passes.items c.close_from-accounts.result.items c.in-Ok.ensures.opened handed)
          (ap (λ z. k.fixed z) same) (ap (λ z. k.entries z) same ∙ none))),
      search rules,
    )
