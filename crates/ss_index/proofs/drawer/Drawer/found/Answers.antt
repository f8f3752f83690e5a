use Rattle.std.proofs.Common.{Some, sym, ap, filter, map, subst, ◌∙◌}
use Rattle.std.proofs.lemmas.Result.{IfOk-weaker}
use Rattle.ss_text.specs.Texts.{IsReordering}
use Rattle.ss_bso.specs.Lists.{OtherId, Pairs}
use Rattle.ss_bso.proofs.Lists.{Pairs-filter}
use Rattle.ss_query.specs.Answer.{is_asked}
use Rattle.ss_query.proofs.Orders.{answer_of-reordered}
use Rattle.ss_index.specs.Held.{HeldRows}
use Rattle.ss_index.proofs.Picks.{asked_of_ids}
use Rattle.ss_index.proofs.drawer.Drawer.found.Goals as goal

pub returns-in-Some-clause-answer : goal.returns-in-Some-clause-answer
returns-in-Some-clause-answer g c =
    let query = c.args.query.now in
    let rows = c.args.self.now.rows in
    let asked = asked_of_ids query c.as_slice.result.now rows (c.in-Some.is ∙ ap Some (sym c.as_slice.ensures)) in
    IfOk-weaker c.named.result _ _
    (λ found same.
    sym (answer_of-reordered (filter (is_asked query) rows) (map (λ row. row.now) found.items) query (subst (λ l. IsReordering l (map (λ row. row.now) found.items)) asked same)
    (Pairs-filter OtherId (is_asked query) rows (subst (λ (held : HeldRows). Pairs OtherId held.rows) c.self.view_is c.self.invariant.apart)))) c.named.ensures
