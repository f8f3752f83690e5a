-- Items of a tree by their nodes.
use Rattle.std.specs.Prelude.{ℕ, ◌==◌, List, [], ◌∷◌, ◌++◌, Option, if◌then◌else◌, map, option_map, unwrap_or}
use Rattle.ss_tree.specs.declared.entries.Entry.{Entry}
use Rattle.ss_tree.specs.Entries.{entry}
use Rattle.ss_tree.specs.Entries.{id_at}

-- and at each of some nodes
abbrev pub ids_at : List Entry → List ℕ → List (List ℕ)
ids_at es ks = map (id_at es) ks

-- where there is one
abbrev pub name_at : List Entry → ℕ → Option (List ℕ)
name_at es k = option_map (λ e. e.item.id) (entry k es)
