use Rattle.ss_merge.specs.Merged.{all_ids}
use Rattle.ss_sync.proofs.joining.merged.Goals as goal

pub returns : goal.returns
unfolding all_ids
returns c = record {
  pairs = c.in_ok-merged.merged.renamed.items;
  are_pairs = c.in_ok-merged.ensures.renamed;
  joined_is = c.in_ok-merged.ensures.tree;
  valid = c.in_ok-merged.ensures.valid;
  is_tree = c.in_ok-find_places.ensures;
}
