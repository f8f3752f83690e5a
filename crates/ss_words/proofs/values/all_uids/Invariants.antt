use Rattle.std.specs.Prelude.{◌≡◌, ◌++◌, map, drop, option_map}
use Rattle.ss_words.specs.Values.{uids_of}
use Rattle.ss_words.proofs.values.all_uids.Given as goal

-- the accounts so far stand before those that are left
abbrev pub invariant-loop-word : goal.invariant-loop-word
invariant-loop-word l = uids_of (map (λ word. word.now) l.words) ≡ option_map (λ uids. l.uids.items ++ uids) (uids_of (drop l.word-index (map (λ word. word.now) l.words)))
