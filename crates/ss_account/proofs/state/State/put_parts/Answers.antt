use Rattle.std.proofs.Common.{◌≡◌, List, ℕ, ◌++◌, false, filter_map, sym, ap, subst, ◌∙◌}
use Rattle.ss_bso.specs.declared.rows.Row.{Row}
use Rattle.ss_bso.specs.declared.account.Plain.{Plain}
use Rattle.ss_bso.specs.Account.{row_at}
use Rattle.ss_bso.specs.Write.{ids_of, parts_of, put_all, rows_without, rows_written, account_after_write}
use Rattle.ss_query.specs.Effect.{is_over}
use Rattle.ss_writes.specs.declared.pending.Pending.TheVariants.{Put}
use Rattle.ss_writes.specs.Pending.{IsPutReady, account_after_pending, without_batch}
use Rattle.ss_account.proofs.Ready.{few-written, put_ready}
use Rattle.ss_account.proofs.state.State.put_parts.Goals as goal

pub returns : goal.returns
returns c =
    let account = c.args.self.now in
    let name = c.args.collection.now in
    let parts = c.args.first.now ++ c.args.more.now in
    let stamp = c.args.stamp in
    let targets = c.in_ok-targets.targets in
    let rows = ap (λ (a : Plain). a.rows) c.self.view_is in
    let ids = c.in_ok-targets.ensures.ids in
    let made : c.in_ok-rows.rows.items ≡ filter_map (λ id. put_all name (parts_of id parts) stamp (row_at name id account.rows)) (ids_of parts) =
    c.in_ok-rows.ensures ∙ (λ i. filter_map (λ id. put_all name (parts_of id parts) stamp (row_at name id (rows i))) (ids_of parts)) in
    let written : rows_without name targets account.rows ++ c.in_ok-rows.rows.items ≡ rows_written name parts stamp account.rows = λ i. rows_without name (ids i) account.rows ++ made i in
    let slice = c.as_slice.ensures.value in
    let fits : is_over (account_after_write account name stamp (rows_written name parts stamp account.rows)) ≡ false =
    ap (λ (left : List Row). is_over (account_after_write account name stamp left)) (sym written ∙ ap (λ (more : List Row). rows_without name targets account.rows ++ more) (sym slice))
    ∙ sym (c.would_be_over.ensures stamp) ∙ c.if-would_be_over.false in (
      fits,
      ap (λ (n : List ℕ). account_after_pending account stamp (Put n targets c.in_ok-rows.rows c.args.batch)) c.in_ok-collection.ensures
          ∙ ap (λ (left : List Row). without_batch c.args.batch (account_after_write account name stamp left)) written,
      subst (λ (n : List ℕ). IsPutReady account stamp n targets c.in_ok-rows.rows.items c.args.batch) (sym c.in_ok-collection.ensures)
          (subst (λ (t : List (List ℕ)). IsPutReady account stamp name t c.in_ok-rows.rows.items c.args.batch) (sym ids)
          (subst (λ (m : List Row). IsPutReady account stamp name (ids_of parts) m c.args.batch) (sym made) (put_ready account name parts stamp c.args.batch c.requires.live (few-written account name parts stamp fits)))),
    )
