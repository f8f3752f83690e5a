use Rattle.std.proofs.Common.{◌+◌, ◌≤◌, ◌<◌, arith, length, subst, sym}
use Rattle.ss_bso.specs.declared.account.Plain.{Plain}
use Rattle.ss_bso.specs.Limits.{most_account_payload_bytes, most_rows_and_collections, row_bytes}
use Rattle.ss_bso.specs.Lists.{Apart, Pairs}
use Rattle.ss_bso.proofs.Full.{within-bytes, within-number}
use Rattle.ss_bso.proofs.Lists.{Pairs-from_AllPairs}
use Rattle.ss_batch.specs.Stage.{most_counted}
use Rattle.ss_account.proofs.state.State.would_be_over.Goals as goal

pub would_be_full-requires : goal.would_be_full-requires
would_be_full-requires c =
    let account = c.args.self.now in
    let bytes : row_bytes account.rows ≤ most_account_payload_bytes = within-bytes account.rows (length account.collections) c.requires.valid.limits.within in
    let all : length account.rows + length account.collections ≤ most_rows_and_collections = within-number account.rows (length account.collections) c.requires.valid.limits.within in
    record {
      places = subst (λ (a : Plain). Pairs Apart a.rows) (sym c.self.view_is) (Pairs-from_AllPairs Apart account.rows c.requires.valid.places);
      number = subst (λ (a : Plain). length a.rows ≤ most_counted) (sym c.self.view_is) (omega (arith, all));
      bytes = subst (λ (a : Plain). row_bytes a.rows < most_counted) (sym c.self.view_is) (omega (arith, bytes));
      targets = c.requires.apart;
    }
