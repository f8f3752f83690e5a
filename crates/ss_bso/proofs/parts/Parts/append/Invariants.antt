use Rattle.std.proofs.Common.{◌≡◌, ◌++◌, ◌+◌, ◌≤◌}
use Rattle.std.specs.Vec.{vec_len, vec_capacity}
use Rattle.ss_bso.proofs.parts.Parts.append.Given as goal

-- what was moved and what is still to be moved are the list and the new parts, and there is room
abbrev pub invariant-loop-part : goal.invariant-loop-part
invariant-loop-part l =
    (l.self-inside.parts.items ++ l.part-iterator.rest.items ≡ l.initial.self-inside.parts.items ++ l.initial.part-iterator.rest.items) ×
    (vec_len l.self-inside.parts + l.part-iterator.rest.len ≤ vec_capacity l.self-inside.parts)
