use Rattle.std.proofs.Common.{ap, sym, ◌∙◌, ◌++◌, ◌∷◌, [], List, ℕ, String}
use Rattle.std.specs.Global.{Vec, Global}
use Rattle.ss_links.specs.Stores.{Shelf}
use Rattle.ss_links.proofs.Keeping.{set_told, push_told}
use Rattle.ss_links.proofs.memory_store.StoreUnderStore.save.Goals as goal

pub returns-in-Some-clause-saved : goal.returns-in-Some-clause-saved
returns-in-Some-clause-saved g c =
    set_told c.args.name.now c.args.bytes.now c.args.self.now.entries c.self.inside.entries.items c.in-Some.at c.index_mut.result.now c.in_ok-copy.copy
    (sym (ap (λ (s : Shelf). s.entries) c.self.view_is)) c.in-Some.ensures c.index_mut.ensures.value c.in_ok-copy.ensures.items

pub returns-in_ok-reserve-in-None-clause-saved : goal.returns-in_ok-reserve-in-None-clause-saved
returns-in_ok-reserve-in-None-clause-saved g c =
    push_told c.args.name.now c.args.bytes.now c.args.self.now.entries c.self.inside.entries.items c.push_reserved.new.self.items c.in_ok-name-in-None.name c.in_ok-copy.copy
    (sym (ap (λ (s : Shelf). s.entries) c.self.view_is)) c.in-None.ensures c.in_ok-name-in-None.ensures.ok c.in_ok-copy.ensures.items
    (c.push_reserved.ensures.items ∙ ap (λ (xs : List (String Global × Vec ℕ)). xs ++ (c.in_ok-name-in-None.name, c.in_ok-copy.copy) ∷ []) c.reserve.ensures.items)
