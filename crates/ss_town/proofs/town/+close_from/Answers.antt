use Rattle.std.proofs.Common.{rules, subst, sym, ap, ◌∙◌, ◌++◌, ◌∷◌, [], arith, vec_len, length, length-append, get_or}
use Rattle.std.proofs.Common.{◌<◌, ◌≡◌, ◌+◌}
use Rattle.ss_desk.specs.Passes.{AreOf, view_at}
use Rattle.ss_town.specs.Places.{HandsBack}
use Rattle.ss_desk.specs.Views.{CoversAll}
use Rattle.ss_desk.proofs.Lists.{at_get}
use Rattle.ss_desk.proofs.Beside.{are_but, view_left, view_last, last_long}
use Rattle.ss_town.proofs.Desks.{handed_more}
use lib.ListN.{get_elem?}
use Rattle.ss_town.proofs.town.+close_from.Goals as goal

pub close_from-closed-requires : goal.close_from-closed-requires
close_from-closed-requires g t c κs within =
    let ds = c.pop.new.self.items in let ps = c.pop-2.new.self.items in let d = c.in-Some-Some.desk in let p = c.in-Some-Some.pass in
    let a = c.in-Some-Some.ensures.items in let b = c.in-Some-Some.ensures'.items in
    let both = are_but ds d ps p (subst (λ l. AreOf l (ps ++ p ∷ [])) a (subst (λ l. AreOf c.args.desks.items l) b c.requires.of)) in
    let more : length c.args.desks.items ≡ length ds + 1 = ap length a ∙ last_long ds d in (
      omega arith,
      (
        search rules,
        (
          search rules,
          (
            search rules,
            (
              search rules,
              (
                search rules,
                (
                  both.0,
                  (
                    omega (arith, more, c.requires.uids),
                    (
                      omega (arith, more, c.requires.room),
                      (
                        c.requires.empty,
                        λ i lt. subst CoversAll (view_left ps (p ∷ []) i (omega (arith, both.0.0))) (subst (λ l. CoversAll (view_at l i)) b (c.requires.all i (omega (arith, more)))),
                      ),
                    ),
                  ),
                ),
              ),
            ),
          ),
        ),
      ),
    )

pub close-requires-clause-pass : goal.close-requires-clause-pass
close-requires-clause-pass g t c =
    let ds = c.pop.new.self.items in let ps = c.pop-2.new.self.items in let d = c.in-Some-Some.desk in let p = c.in-Some-Some.pass in
    (are_but ds d ps p (subst (λ l. AreOf l (ps ++ p ∷ [])) c.in-Some-Some.ensures.items (subst (λ l. AreOf c.args.desks.items l) c.in-Some-Some.ensures'.items c.requires.of))).1

pub close-requires-clause-all : goal.close-requires-clause-all
close-requires-clause-all g t c =
    let ds = c.pop.new.self.items in let ps = c.pop-2.new.self.items in let d = c.in-Some-Some.desk in let p = c.in-Some-Some.pass in
    let b = c.in-Some-Some.ensures'.items in let a = c.in-Some-Some.ensures.items in
    let more : length c.args.passes.items ≡ length ps + 1 = ap length b ∙ last_long ps p in
    subst CoversAll (view_last ps [] p) (subst (λ l. CoversAll (view_at l (length ps))) b (c.requires.all (length ps) (omega (arith, more, c.requires.of.0))))

pub returns-clause-handed : goal.returns-clause-handed
returns-clause-handed g t c = let k = g.T.Journaled in
    let ds = c.pop.new.self.items in let ps = c.pop-2.new.self.items in let d = c.in-Some-Some.desk in let p = c.in-Some-Some.pass in
    let a = c.in-Some-Some.ensures.items in let b = c.in-Some-Some.ensures'.items in let uids = c.args.uids.now in
    let both = are_but ds d ps p (subst (λ l. AreOf l (ps ++ p ∷ [])) a (subst (λ l. AreOf c.args.desks.items l) b c.requires.of)) in
    let more : length c.args.desks.items ≡ length ds + 1 = ap length a ∙ last_long ds d in
    let at : c.len.result ≡ length ps = search (c.len.ensures, both.0.0, rules) in
    let uid = get_or uids c.len.result 0 in
    let h = handed_more k.ticket_of k.pass_of k.fixed k.entries k.legal uids ps p c.close_from-closed.result.items uid c.close.result c.close_from-closed.ensures.handed
    (ap (λ i. get_elem? uids i) (sym at) ∙ at_get uids c.len.result 0 (omega (arith, more, c.requires.uids, c.len.ensures))) c.close.ensures.finished in
    subst (λ l. HandsBack k.ticket_of k.pass_of k.fixed k.entries k.legal uids l c.push_reserved.new.self.items) (sym b)
    (subst (λ l. HandsBack k.ticket_of k.pass_of k.fixed k.entries k.legal uids (ps ++ p ∷ []) l) (sym c.push_reserved.ensures.items) h)
