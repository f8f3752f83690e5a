use Rattle.std.proofs.Common.{sym, ap, ◌∙◌}
use Rattle.ss_site.specs.Tables.{TableEntry, KeepsPlaces}
use Rattle.ss_site.proofs.Tables.{found_known, found_told, keeps_put, same_told, no_place, with_ok}
use Rattle.ss_site.proofs.table.Table.copy_of.Goals as goal

pub returns-in-Some : goal.returns-in-Some
returns-in-Some c =
    let found = found_told c.args.folder.now c.args.uid c.args.self.now c.self.inside.entries.items c.in-Some.at c.index_mut.result.now (sym c.self.view_is) c.in-Some.ensures c.index_mut.ensures.value in
    let keeps = keeps_put c.args.folder.now c.args.uid c.args.self.now c.self.inside.entries.items c.in-Some.at c.index_mut.result.now c.copy.new.self (sym c.self.view_is) c.in-Some.ensures c.index_mut.ensures.value
    (ap (λ (h : TableEntry). h.folder) c.copy.ensures.same) (ap (λ (h : TableEntry). h.uid) c.copy.ensures.same) in
    record {
      copied = with_ok c.copy.result _ _ (λ kept is. is ∙ found) c.copy.ensures.copied;
      same = same_told c.args.folder.now c.args.uid c.args.self.now c.self.inside.entries.items c.in-Some.at c.index_mut.result.now c.copy.new.self (sym c.self.view_is) c.in-Some.ensures c.index_mut.ensures.value c.copy.ensures.same;
      place = found_known c.copy.result c.args.folder.now c.args.uid c.args.self.now _ c.in-Some.at c.index_mut.result.now c.in-Some.ensures keeps;
      places = keeps;
    }

pub returns-in-Ok-clause-copied : goal.returns-in-Ok-clause-copied
returns-in-Ok-clause-copied c = c.fresh.ensures ∙ no_place c.args.folder.now c.args.uid c.args.self.now c.in-None.ensures
