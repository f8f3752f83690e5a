use Rattle.ss_list.proofs.Calls.{lies_from_sound, len_seen, whole_seen}
use Rattle.ss_list.proofs.chain.Chain.len.Goals as goal

pub returns-clause-value : goal.returns-clause-value
returns-clause-value g c =
    rw (← c.self.view_is) (len_seen (lies_from_sound c.self.inside.nodes.items c.self.inside.ends c.self.inside.free c.self.inside.len c.self.inside.spare c.self.invariant))

pub returns-clause-others_are_free : goal.returns-clause-others_are_free
returns-clause-others_are_free g c =
    rw (← c.self.view_is) (whole_seen (lies_from_sound c.self.inside.nodes.items c.self.inside.ends c.self.inside.free c.self.inside.len c.self.inside.spare c.self.invariant))
