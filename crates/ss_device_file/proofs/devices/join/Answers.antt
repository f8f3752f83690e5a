use Rattle.std.proofs.Common.{List, ap, sym, ◌∙◌}
use Rattle.ss_record.specs.declared.readings.Sheet.{Sheet}
use Rattle.ss_tree.specs.Entries.{tree}
use Rattle.ss_device_file.specs.Joining.{lost_of}
use Rattle.ss_device_file.proofs.Found.{known_is}
use Rattle.ss_device_file.proofs.devices.join.Goals as goal

pub restored-requires-clause-known : goal.restored-requires-clause-known
unfolding lost_of
restored-requires-clause-known c =
    known_is c.args.mirror.items c.args.tree c.args.dead.entries c.requires.tree
    (ap (λ (rs : List Sheet). lost_of rs (tree c.args.tree) c.args.dead.entries) (sym c.deref.ensures.value) ∙ (sym c.in_ok-id.ensures ∙ c.in-None.is))

pub returns-in-Some-clause-lost : goal.returns-in-Some-clause-lost
unfolding lost_of
returns-in-Some-clause-lost c = ap (λ (rs : List Sheet). lost_of rs (tree c.args.tree) c.args.dead.entries) (sym c.deref.ensures.value) ∙ (sym c.in_ok-id.ensures ∙ c.in-Some.is)

pub returns-in-None-clause-found : goal.returns-in-None-clause-found
unfolding lost_of
returns-in-None-clause-found c = ap (λ (rs : List Sheet). lost_of rs (tree c.args.tree) c.args.dead.entries) (sym c.deref.ensures.value) ∙ (sym c.in_ok-id.ensures ∙ c.in-None.is)
