use Rattle.std.specs.Prelude.{◌≡◌, Some, Option}
use Rattle.std.proofs.Common.{◌∙◌, ap, subst}
use Rattle.ss_site.specs.Counted.{keeper_in}
use Rattle.ss_site.specs.Sites.{Entries, IsEntry}
use Rattle.ss_site.specs.Tables.{entries_of}
use Rattle.ss_site.proofs.Tables.{entry_told}
use Rattle.ss_site.proofs.memory_site.MemSiteSite.keeper.Goals as goal

pub returns-in-Ok-copy_of-clause-entry : goal.returns-in-Ok-copy_of-clause-entry
returns-in-Ok-copy_of-clause-entry g c =
    let same : (keeper_in c.new-in-Ok-copy_of-2.result).kept ≡ entries_of c.begin_call.new.self.table c.args.folder.now c.args.uid = ap (λ k. k.kept) c.new-in-Ok-copy_of-2.ensures.keeper ∙ c.new-in-Ok-copy_of.ensures.kept ∙ c.in-Ok-copy_of.ensures.copied in
    subst (λ (kept : Option Entries). IsEntry c.args.folder.now c.args.uid (Some (keeper_in c.new-in-Ok-copy_of-2.result).kept) kept) c.begin_call.ensures.kept
    (entry_told c.args.folder.now c.args.uid (keeper_in c.new-in-Ok-copy_of-2.result).kept c.begin_call.new.self.is_told c.begin_call.new.self.table same)
