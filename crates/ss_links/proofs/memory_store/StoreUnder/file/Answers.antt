use Rattle.std.proofs.Common.{Some, get_or, ap, ◌∙◌}
use Rattle.ss_links.specs.Stores.{Shelf}
use Rattle.ss_links.proofs.Keeping.{found}
use Rattle.ss_links.proofs.memory_store.StoreUnder.file.Goals as goal

pub returns : goal.returns
returns g c =
    let same = ap (λ (s : Shelf). get_or s.entries c.in_ok-at.at c.index.result.now) c.self.view_is in
    ap Some c.as_slice.ensures.value ∙ found c.args.name.now c.args.self.now.entries c.in_ok-at.at c.index.result.now c.in_ok-at.ensures (c.index.ensures ∙ same)
