use Rattle.std.proofs.Common.{sym, ap, ◌∙◌}
use Rattle.ss_text.specs.declared.stamps.Cond.TheVariants.{Free}
use Rattle.ss_account.specs.Kinds.{request_staged}
use Rattle.ss_account.specs.Steps.{batch_cause}
use Rattle.ss_account.proofs.Batching.{append-free, commit-live, live-numbered}
use Rattle.ss_account.proofs.state.State.stage_parts.Goals as goal

pub append-requires : goal.append-requires
append-requires g c =
    let account = c.args.self.now in
    record {
      room = append-free account c.in-Append.collection.now c.in-Append.records.now c.in-Append.batch Free c.requires.valid
          (ap (λ stage. batch_cause account (request_staged stage)) (sym c.in-Append.is) ∙ c.requires.batch);
      valid = c.requires.valid;
      swept = c.requires.swept;
      told = c.requires.told;
    }

pub end-requires : goal.end-requires
end-requires g c =
    let account = c.args.self.now in
    record {
      live = live-numbered account c.in-End.collection.now c.in-End.batch c.requires.valid
          (commit-live account c.in-End.collection.now c.in-End.records.now c.in-End.batch Free
          (ap (λ stage. batch_cause account (request_staged stage)) (sym c.in-End.is) ∙ c.requires.batch));
      valid = c.requires.valid;
      swept = c.requires.swept;
      told = c.requires.told;
    }
