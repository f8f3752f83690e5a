use Rattle.std.proofs.Common.{sym, ap, ◌∙◌}
use Rattle.ss_record.specs.Items.{is_fit}
use Rattle.ss_tree.specs.Entries.{tree}
use Rattle.ss_device.proofs.Composed.{restamped}
use Rattle.ss_device.proofs.grafts.touch.Goals as goal

pub revise-requires-clause-fit : goal.revise-requires-clause-fit
revise-requires-clause-fit c = λ n q. ap (λ x. is_fit (record { id = n.id; kind = n.kind; content = x })) (sym (c.requires.content n q)) ∙ c.requires.fit n q

pub returns-clause-nodes : goal.returns-clause-nodes
returns-clause-nodes c = λ y. c.revise.ensures.nodes y ∙ restamped (tree c.args.tree.now) c.args.id.now c.args.content c.args.time c.requires.content y
