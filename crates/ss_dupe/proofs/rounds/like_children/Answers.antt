use Rattle.std.proofs.Common.{◌≡◌, sym, subst, ap, ◌∙◌, List, Some, ◌++◌, ◌∷◌, []}
use Rattle.std.proofs.lemmas.Iterator.Adapters.{YieldsList-from_vec}
use Rattle.std.proofs.lemmas.Iterator.Consumers.{YieldsList-end}
use Rattle.std.specs.HashMap.{get}
use Rattle.ss_dupe.specs.declared.news.New.{New}
use Rattle.ss_dupe.specs.declared.sides.Side.TheVariants.{Remote}
use Rattle.ss_dupe.specs.Plains.{view}
use Rattle.ss_dupe.specs.News.{same_mark, news_of}
use Rattle.ss_dupe.proofs.Alike.{apart_of, Indexed, Matched, one_matched, none_matched, like_pairs}
use Rattle.ss_dupe.proofs.rounds.like_children.Goals as goal
use Rattle.ss_text.proofs.Basics.{map_same}

pub news_of-requires : goal.news_of-requires
news_of-requires c = apart_of (view c.args.plains.now) c.requires

pub news_of-requires-2 : goal.news_of-requires-2
news_of-requires-2 c = apart_of (view c.args.plains.now) c.requires

pub loop-new-preserved-in-Some-get : goal.loop-new-preserved-in-Some-get
loop-new-preserved-in-Some-get c =
    subst (Matched (c.loop-new.yielded ++ c.in-Some.new ∷ []) (get same_mark c.in_ok-index.index)) (sym c.in_ok-push.ensures.items)
    (one_matched c.loop-new.yielded c.in-Some.new (get same_mark c.in_ok-index.index) c.loop-new.pairs.items c.in_ok-copy.field-0 (sym c.in-Some-get.ensures.value ∙ ap Some (sym c.in_ok-copy.ensures)) c.loop-new.invariant)

pub loop-new-preserved : goal.loop-new-preserved
loop-new-preserved c = none_matched c.loop-new.yielded c.in-Some.new (get same_mark c.in_ok-index.index) c.loop-new.pairs.items (sym c.in_default.ensures.value) c.loop-new.invariant

pub returns : goal.returns
returns c =
    let s = view c.args.plains.now in
    let gives = c.into_iter-new-iterator.ensures.into_iter_gives in
    let all = YieldsList-end (YieldsList-from_vec c.in_ok-new-items.new-items.items gives.0 (gives.1 ∙ c.in_ok-new-items.new-items.ok.0)) c.loop-new.yielded c.loop-new.new-iterator c.loop-new.yielded_by c.next.result c.next.new.self c.in-None.is c.next.ensures.steps in
    let whole : c.loop-new.yielded ≡ c.in_ok-new-items.new-items.items = sym (map_same c.loop-new.yielded) ∙ all.0 in
    let far : c.in_ok-news_of.field-0.items ≡ news_of s Remote c.args.remote.now = c.in_ok-news_of.ensures in
    like_pairs s c.requires c.args.local.now c.args.remote.now (get same_mark c.in_ok-index.index) c.loop-new.pairs.items
    (subst (λ (ns : List New). Indexed ns (get same_mark c.in_ok-index.index)) far (record { found = c.in_ok-index.ensures.found; all = c.in_ok-index.ensures.all }))
    (subst (λ (ns : List New). Matched ns (get same_mark c.in_ok-index.index) c.loop-new.pairs.items) (whole ∙ c.in_ok-new-items.ensures) c.loop-new.invariant)
