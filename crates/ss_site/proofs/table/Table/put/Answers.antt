use Rattle.std.proofs.Common.{sym, ap}
use Rattle.ss_site.specs.Tables.{TableEntry}
use Rattle.ss_site.proofs.Tables.{set_told, keeps_put, not_there}
use Rattle.ss_site.proofs.table.Table.put.Goals as goal

pub returns-in-Some-clause-put : goal.returns-in-Some-clause-put
returns-in-Some-clause-put c = λ yes.
    set_told c.args.folder.now c.args.uid c.args.self.now c.self.inside.entries.items c.in-Some.at c.index_mut.result.now c.put.new.self _ (sym c.self.view_is) c.in-Some.ensures c.index_mut.ensures.value c.put.ensures

pub returns-in-Some-clause-places : goal.returns-in-Some-clause-places
returns-in-Some-clause-places c =
    keeps_put c.args.folder.now c.args.uid c.args.self.now c.self.inside.entries.items c.in-Some.at c.index_mut.result.now c.put.new.self (sym c.self.view_is) c.in-Some.ensures c.index_mut.ensures.value
    (ap (λ (h : TableEntry). h.folder) c.put.ensures) (ap (λ (h : TableEntry). h.uid) c.put.ensures)

pub returns-in-None-clause-there : goal.returns-in-None-clause-there
returns-in-None-clause-there c = λ there. absurd (not_there c.args.folder.now c.args.uid c.args.self.now c.in-None.ensures there)
