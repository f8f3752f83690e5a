use Rattle.std.proofs.Common.{sym}
use Rattle.ss_sync.proofs.Fetching.{fresh_is, inside_more}
use Rattle.ss_sync.proofs.fetched.Fetched.insert.Goals as goal

pub invariant_of-self-then-fresh : goal.invariant_of-self-then-fresh
invariant_of-self-then-fresh c =
    inside_more c.self.inside.ids.keys _ c.self.inside.rows.items c.reserve.new.self.items _ c.args.sheet c.in_ok-copy.field-0 c.in_ok-fresh.fresh c.self.invariant.0 c.self.invariant.1 c.in_ok-reserve.ensures.items c.push_reserved.ensures.items
    c.in_ok-copy.ensures c.in_ok-fresh.ensures.added c.if-fresh.true c.in_ok-fresh.ensures.keys

pub returns-then-fresh-clause-fresh : goal.returns-then-fresh-clause-fresh
returns-then-fresh-clause-fresh c = fresh_is _ _ _ _ c.self.inside.rows.items _ c.in_ok-fresh.ensures.added c.in_ok-copy.ensures c.self.invariant.0 (sym c.self.view_is)

pub returns-else-fresh-clause-fresh : goal.returns-else-fresh-clause-fresh
returns-else-fresh-clause-fresh c = fresh_is _ _ _ _ c.self.inside.rows.items _ c.in_ok-fresh.ensures.added c.in_ok-copy.ensures c.self.invariant.0 (sym c.self.view_is)

pub returns-then-fresh-clause-apart : goal.returns-then-fresh-clause-apart
returns-then-fresh-clause-apart c =
    let more =
    inside_more c.self.inside.ids.keys c.insert.new.self.keys c.self.inside.rows.items c.reserve.new.self.items c.push_reserved.new.self.items c.args.sheet c.in_ok-copy.field-0 c.in_ok-fresh.fresh c.self.invariant.0 c.self.invariant.1
    c.in_ok-reserve.ensures.items c.push_reserved.ensures.items c.in_ok-copy.ensures c.in_ok-fresh.ensures.added c.if-fresh.true c.in_ok-fresh.ensures.keys in
    more.1
