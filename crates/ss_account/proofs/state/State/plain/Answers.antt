use Rattle.std.proofs.Common.{refl, subst, sym}
use Rattle.std.proofs.lemmas.Result.{IfOk-weaker}
use Rattle.ss_text.specs.Texts.{IsReordering}
use Rattle.ss_bso.specs.declared.account.Plain.{Plain}
use Rattle.ss_bso.specs.Validity.{SameAccount}
use Rattle.ss_bso.proofs.Reordering.{reordered-refl}
use Rattle.ss_account.proofs.state.State.plain.Goals as goal

pub returns : goal.returns
returns c =
    let account = c.args.self.now in
    IfOk-weaker c.with_rows.result _ _
    (λ plain e. subst (SameAccount account) (sym e) (record {
      rows = subst (λ (a : Plain). IsReordering a.rows c.in_ok-rows.rows) c.self.view_is c.in_ok-rows.ensures;
      collections = reordered-refl account.collections;
      batches = reordered-refl account.batches;
      store = refl;
      last_delete = refl;
      moment = refl;
      counter = refl;
    })) c.with_rows.ensures
