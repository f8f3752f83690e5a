use Rattle.std.proofs.Common.{◌≡◌, ◌++◌, [], List, ℕ, map, fold, filter_map, ap, subst, ◌∙◌}
use Rattle.std.specs.Result.{IfOk}
use Rattle.ss_bso.specs.declared.rows.Row.{Row}
use Rattle.ss_bso.specs.Account.{row_at}
use Rattle.ss_bso.specs.Write.{ids_of, parts_of, put_all}
use Rattle.ss_index.specs.Shelved.{rows_in}
use Rattle.ss_writes.specs.Parts.{with_row}
use Rattle.ss_writes.proofs.Made.{rows-made}
use Rattle.ss_writes.proofs.writing.made_rows.Goals as goal

pub returns : goal.returns
returns c =
    let collection = c.args.collection.now in
    let first = c.args.first.now in
    let more = c.args.more.now in
    let old : List ℕ → _ = λ id. row_at collection id (rows_in c.args.shelf.now) in
    let put_over = with_row collection old c.args.stamp in
    let entries : c.put_parts-2.new.made.entries ≡ fold put_over (fold put_over [] first) more =
    c.in_ok-put_parts-2.ensures ∙ ap (λ made. fold put_over made more) (c.in_ok-put_parts.ensures ∙ ap (λ made. fold put_over made first) c.new-made.ensures.empty) in
    let rows : map (λ (entry : List ℕ × Row). entry.1) c.put_parts-2.new.made.entries ≡ filter_map (λ id. put_all collection (parts_of id (first ++ more)) c.args.stamp (old id)) (ids_of (first ++ more)) =
    ap (map (λ (entry : List ℕ × Row). entry.1)) entries
    ∙ rows-made collection old c.args.stamp first more in
    subst (λ (made : List Row). IfOk c.into_rows.result (λ left. left.items ≡ made)) rows c.into_rows.ensures
