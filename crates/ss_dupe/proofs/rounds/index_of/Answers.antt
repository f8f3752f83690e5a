use Rattle.std.proofs.Common.{◌≡◌, ◌∙◌, sym, subst}
use Rattle.std.proofs.lemmas.Iterator.Adapters.{YieldsList-from_vec}
use Rattle.std.proofs.lemmas.Iterator.Consumers.{YieldsList-end}
use Rattle.std.specs.HashMap.{get}
use Rattle.ss_dupe.specs.News.{same_mark, HasNew}
use Rattle.ss_dupe.proofs.Alike.{one_indexed}
use Rattle.ss_dupe.proofs.rounds.index_of.Goals as goal
use Rattle.ss_text.proofs.Basics.{map_same}

pub loop-new-preserved-in_ok-insert : goal.loop-new-preserved-in_ok-insert
loop-new-preserved-in_ok-insert c = one_indexed c.loop-new.yielded c.in-Some.new (get same_mark c.loop-new.index) (get same_mark c.insert.new.self) c.loop-new.invariant c.in_ok-insert.ensures.updates.0

pub loop-new-preserved : goal.loop-new-preserved
loop-new-preserved c = one_indexed c.loop-new.yielded c.in-Some.new (get same_mark c.loop-new.index) (get same_mark c.insert.new.self) c.loop-new.invariant c.in_ok-insert.ensures.updates.0

pub returns-clause-all : goal.returns-clause-all
returns-clause-all c = λ m x h.
    let gives = c.into_iter-new-iterator.ensures.into_iter_gives in
    let all = YieldsList-end (YieldsList-from_vec c.args.news.items gives.0 (gives.1 ∙ c.args.news.ok.0)) c.loop-new.yielded c.loop-new.new-iterator c.loop-new.yielded_by c.next.result c.next.new.self c.in-None.is c.next.ensures.steps in
    let whole : c.loop-new.yielded ≡ c.args.news.items = sym (map_same c.loop-new.yielded) ∙ all.0 in
    c.loop-new.invariant.all m x (subst (HasNew m x) (sym whole) h)
