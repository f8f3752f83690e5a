-- A list of entries with one more, one less, or one revised.
use Rattle.std.specs.Prelude.{◌==◌, ℕ, List, [], ◌∷◌, ◌++◌, not, map, filter, Option, Some, None, if◌then◌else◌}
use Rattle.ss_tree.specs.Entries.{revised_entry}
use Rattle.ss_tree.specs.declared.entries.Entry.{Entry}

-- the list with e before the entry of a node, or last
abbrev pub put_entry : Option ℕ → Entry → List Entry → List Entry
put_entry None e es = es ++ e ∷ []
put_entry (Some b) e [] = e ∷ []
put_entry (Some b) e (f ∷ fs) = if b == f.node then e ∷ f ∷ fs else f ∷ put_entry (Some b) e fs

-- the list without the entry of a node
abbrev pub without_entry : ℕ → List Entry → List Entry
without_entry k es = filter (λ e. not (k == e.node)) es

-- the list with another content and time for a node's item
abbrev pub revise_entry : ℕ → List ℕ → ℕ → List Entry → List Entry
revise_entry k content time es = map (λ e. if k == e.node then revised_entry content time e else e) es
