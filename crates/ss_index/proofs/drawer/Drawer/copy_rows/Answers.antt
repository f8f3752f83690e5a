use Rattle.std.proofs.Common.{map, subst, ◌++◌, None, true, sym, refl}
use Rattle.std.proofs.lemmas.Result.{on_ok_weaker}
use Rattle.std.specs.Map.{values_of}
use Rattle.std.specs.Prelude.{List, filter}
use Rattle.ss_bso.specs.declared.rows.Row.{Row}
use Rattle.ss_text.specs.Texts.{IsReordering}
use Rattle.ss_bso.proofs.Reordering.{reordered-append_left, reordered-filter}
use Rattle.ss_query.specs.declared.requests.Query.{Query}
use Rattle.ss_query.specs.declared.requests.Sort.TheVariants.{Newest}
use Rattle.ss_query.specs.Answer.{is_asked}
use Rattle.ss_index.specs.Walk.{Later}
use Rattle.ss_index.proofs.Pages.{enough-all}
use Rattle.ss_index.proofs.Picks.{asks_all}
use Rattle.ss_index.proofs.Shelves.{reordered-reverse}
use Rattle.ss_index.proofs.drawer.Drawer.copy_rows.Goals as goal

pub returns : goal.returns
returns g c =
    let rows = values_of c.self.inside.rows.nodes in
    let all : Query = record { ids = None; newer = None; older = None; limit = None; offset = 0; sort = Newest; full = true } in
    let found = map (λ row. row.now) c.in_ok-found.found.items in
    let is = enough-all Later _ found c.in_ok-found.ensures.rows in
    let same : IsReordering rows found = subst (λ l. IsReordering l found) (asks_all all rows refl refl refl) (subst (λ (l : List Row). IsReordering (filter (is_asked all) rows) l) (sym is) (reordered-filter (is_asked all) (reordered-reverse rows))) in
    rw (← c.self.view_is)
    (on_ok_weaker c.copy_each.result
    (λ e. subst (λ l. IsReordering (c.args.rows.now.items ++ rows) l) (sym (rw c.as_slice.ensures.value at e)) (reordered-append_left c.args.rows.now.items same)) c.copy_each.ensures)
