use Rattle.std.proofs.Common.{bytes_eq, is_some, sym, ap, ◌∙◌}
use Rattle.ss_record.specs.Ids.{places}
use Rattle.ss_tree.specs.Trees.{node}
use Rattle.ss_tree.specs.Entries.{tree}
use Rattle.ss_device.specs.Edits.{is_within}
use Rattle.ss_device.proofs.Known.{has_is_node}
use Rattle.ss_device.proofs.Refused.{change_loose, change_not_memory}
use Rattle.ss_device.proofs.deletions.sentence.Goals as goal

pub within-requires-clause-there : goal.within-requires-clause-there
within-requires-clause-there c = sym (has_is_node c.args.id.now (tree c.args.tree.now)) ∙ (change_loose c.args.tree.now c.args.id.now (sym c.change_fault.ensures ∙ c.in_default.is)).0

pub within-requires-clause-loose : goal.within-requires-clause-loose
within-requires-clause-loose c = (change_loose c.args.tree.now c.args.id.now (sym c.change_fault.ensures ∙ c.in_default.is)).1

pub parent_of-requires-clause-there : goal.parent_of-requires-clause-there
parent_of-requires-clause-there c = sym (has_is_node c.args.id.now (tree c.args.tree.now)) ∙ (change_loose c.args.tree.now c.args.id.now (sym c.change_fault.ensures ∙ c.in_default.is)).0

pub parent_of-requires-clause-loose : goal.parent_of-requires-clause-loose
parent_of-requires-clause-loose c = (change_loose c.args.tree.now c.args.id.now (sym c.change_fault.ensures ∙ c.in_default.is)).1

pub content_of-requires : goal.content_of-requires
content_of-requires c = ap (λ z. is_some (node z (tree c.args.tree.now))) c.in_ok-from.ensures.id ∙ c.in_ok-from.ensures.there

pub returns-clause-doomed : goal.returns-clause-doomed
returns-clause-doomed c =
    let g = change_loose c.args.tree.now c.args.id.now (sym c.change_fault.ensures ∙ c.in_default.is) in
    record {
      can = c.in_ok-nodes.ensures;
      there = sym (has_is_node c.args.id.now (tree c.args.tree.now)) ∙ g.0;
      loose = g.1;
      valid = c.in_ok-from.ensures.valid;
      folder = c.in_ok-from.ensures.id;
      folder_there = ap (λ z. is_some (node z (tree c.args.tree.now))) c.in_ok-from.ensures.id ∙ c.in_ok-from.ensures.there;
      folder_inner = ap (λ z. bytes_eq z places) c.in_ok-from.ensures.id ∙ c.in_ok-from.ensures.inner;
      folder_outside = ap (is_within (tree c.args.tree.now) c.args.id.now) c.in_ok-from.ensures.id ∙ c.in_ok-from.ensures.outside;
      content_is = c.in_ok-content.ensures.content;
      content_fit = c.in_ok-content.ensures.fit;
    }

pub returns-in-Some-clause-wanting : goal.returns-in-Some-clause-wanting
returns-in-Some-clause-wanting c = λ m. absurd (change_not_memory (tree c.args.tree.now) c.args.id.now c.in-Some.fault (sym c.change_fault.ensures ∙ c.in-Some.is) m)
