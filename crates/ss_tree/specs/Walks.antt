-- The way through a tree in preorder, one link at a time.
use Rattle.std.specs.Prelude.{ℕ, zero, suc, List, Option, None, is_some, option_and_then, if◌then◌else◌}
use Rattle.ss_tree.specs.declared.entries.Entry.{Entry}
use Rattle.ss_tree.specs.Entries.{above, kids, first_of, next_after}

-- the sibling after k
abbrev pub sibling : List Entry → ℕ → Option ℕ
sibling es k = option_and_then (λ p. next_after k (kids p es)) (above es k)

-- the node that comes once all below k are done, at most n levels up
abbrev pub after : List Entry → ℕ → ℕ → Option ℕ
after es zero k = None
after es (suc n) k = if is_some (sibling es k) then sibling es k else option_and_then (after es n) (above es k)

-- the node that comes after k
abbrev pub follower : List Entry → ℕ → ℕ → Option ℕ
follower es n k = if is_some (first_of (kids k es)) then first_of (kids k es) else after es n k
