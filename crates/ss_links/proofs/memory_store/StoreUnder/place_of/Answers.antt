use Rattle.std.proofs.Common.{rules, arith, ◌<◌, ◌≤◌, length, sym, subst, ap, ℕ, ◌≡◌}
use Rattle.ss_links.specs.Stores.{Shelf}
use Rattle.ss_links.proofs.Keeping.{nowhere}
use Rattle.ss_links.proofs.memory_store.StoreUnder.place_of.Goals as goal

pub returns : goal.returns
returns g c =
    let same : length c.self.inside.entries.items ≡ length c.args.self.now.entries = ap (λ (s : Shelf). length s.entries) c.self.view_is in
    nowhere c.args.name.now c.args.self.now.entries (λ k below. c.loop-at.invariant k (omega (arith, same)))
