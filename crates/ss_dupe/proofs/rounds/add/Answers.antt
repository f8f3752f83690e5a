use Rattle.std.proofs.Common.{subst, Some, List, ℕ}
use Rattle.std.specs.BTreeMap as tree
use Rattle.ss_text.specs.Texts.{text_cmp}
use Rattle.ss_dupe.proofs.Adding.{next_more, one_added}
use Rattle.ss_dupe.proofs.rounds.add.Goals as goal

pub loop-local-preserved : goal.loop-local-preserved
loop-local-preserved c = record {
  nexts = next_more c.args.next.now.items c.loop-local.next.items c.push.new.self.items c.loop-local.yielded c.in-Some.local c.in-Some.remote c.loop-local.invariant.nexts c.in_ok-push.ensures.items;
  founds = one_added c.args.found.now c.loop-local.found c.insert.new.self c.loop-local.yielded c.in-Some.local c.in-Some.remote c.loop-local.invariant.founds
      (subst (λ (k : List ℕ). tree.Updates text_cmp c.loop-local.found c.insert.new.self k (Some c.in-Some.remote)) c.in_ok-copy.ensures
      (subst (λ (v : List ℕ). tree.Updates text_cmp c.loop-local.found c.insert.new.self c.in_ok-copy.field-0 (Some v)) c.in_ok-copy-2.ensures c.in_ok-insert.ensures.updates));
}
