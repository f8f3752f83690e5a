use Rattle.std.specs.Prelude.{◌≡◌, ◌++◌, ◌+◌, [], ◌∷◌, map, drop, option_map}
use Rattle.std.proofs.Common.{sym, ap, ◌∙◌, rules}
use Rattle.ss_words.specs.Values.{uids_of}
use Rattle.ss_words.proofs.Counted.{next_uid_at, no_uid_at, text}
use Rattle.ss_words.proofs.values.all_uids.Goals as goal

pub returns-in-Err-clause-refused : goal.returns-in-Err-clause-refused
returns-in-Err-clause-refused c = λ refused.
    c.loop-word.invariant ∙ no_uid_at c.loop-word.uids.items c.args.words.now c.loop-word.word-index _ c.loop-word-test.true c.in-Err.ensures.refused

pub loop-word-preserved : goal.loop-word-preserved
loop-word-preserved c =
    let next = next_uid_at c.loop-word.uids.items c.args.words.now c.loop-word.word-index _ c.in-Ok.uid c.loop-word-test.true c.in-Ok.ensures.ok in
    let pushed : c.push.new.self.items ≡ c.loop-word.uids.items ++ c.in-Ok.uid ∷ [] = search rules in
    c.loop-word.invariant ∙ next ∙ ap (λ items. option_map (λ uids. items ++ uids) (uids_of (drop (c.loop-word.word-index + 1) (map text c.args.words.now)))) (sym pushed)
