-- What each call makes of nodes that lie soundly.
use Rattle.std.proofs.Common.{◌≡◌, ◌≢◌, ℕ, zero, suc, ◌+◌, ◌-◌, ◌<◌, ◌≤◌, List, [], ◌∷◌, ◌++◌, length, reverse, take}
use Rattle.std.proofs.Common.{drop, get_or, set, cond, eqb, ltb, Option, Some, None, IsSome, IfSome, refl, sym, ap}
use Rattle.std.proofs.Common.{subst, ◌∙◌, inl, inr, arith, length-append, append-nil}
use Rattle.std.proofs.lemmas.Bool.{cases_lt, lt-ltb, le-ltb, eq-eqb, ne_eqb}
use Rattle.std.proofs.lemmas.Bool.Decides.{eqb_tells}
use Rattle.std.proofs.lemmas.List.{get_or_read, get_or_push, get_or_append_left, get_or-set_same, get_or-set_other}
use Rattle.std.proofs.lemmas.List.{length-set}
use Rattle.std.proofs.Math.Seq.{take-length, drop-length}
use Rattle.std.specs.Map.{lookup_entry, remove_entry}
use Rattle.ss_list.specs.declared.node.Node.{Node}
use Rattle.ss_list.specs.declared.node.TheConstants.{END}
use Rattle.ss_list.specs.declared.ends.Ends.{Ends}
use Rattle.ss_list.specs.Chain.{times, places, value_of, IsLive, IsWhole, without, moved_back, first_of, last_of}
use Rattle.ss_list.specs.Chain.{IsAfter, IsBefore, with_value}
use Rattle.ss_list.specs.Nodes.{node_at, value_at, SameElsewhere}
use Rattle.ss_list.specs.Nodes.{with_value as node_with}
use Rattle.ss_list.specs.Links.{Runs, walk, nodes_of, next_of, prev_of, IsPlace, Joins, Appends, IsSound, chain_of}
use Rattle.ss_list.proofs.Times.{times-here, times-append, times-reverse, times-apart, at_head, below-head, apart, cut}
use Rattle.ss_list.proofs.Paths.{Path, forward_path, backward_path, path_split, last_there, walk_runs, path_kept}
use Rattle.ss_list.proofs.Paths.{runs_kept}
use Rattle.ss_list.proofs.Holds.{Holds, open_sound, close_sound, once, is_node, not_end, end_nowhere, detached}
use Rattle.ss_list.proofs.Holds.{attached, rewritten, hung, unhung, grown}
use Rattle.ss_list.proofs.Seen.{value_in, keys-nodes_of, length-nodes_of, nodes_of-append, nodes_of-same, nodes_of-cons}
use Rattle.ss_list.proofs.Seen.{lookup-there, lookup-absent, there_from_lookup, remove_entry-nodes_of}
use Rattle.ss_list.proofs.Seen.{lookup_entry-nodes_of, set_value-nodes_of, first-runs, first_of-reverse}

-- a slice that was written as a whole is what was written
pub whole_slice : {A : Type 0} (n : ℕ) (old new : List A) → n ≡ length old → length new ≡ length old → take n (new ++ drop (length new) old) ≡ new
whole_slice n old new n_is same =
    let nothing : drop (length new) old ≡ [] = ap (λ k. drop k old) same ∙ drop-length old in
    ap (λ rest. take n (new ++ rest)) nothing ∙ rw append-nil (ap (λ k. take k new) (n_is ∙ sym same) ∙ take-length new)

-- a list in which each of the first n places stands once has the length n
length_from_times : (n : ℕ) (ps : List ℕ) → ((p : ℕ) → times p ps ≡ cond (ltb p n) 1 0) → length ps ≡ n
length_from_times zero [] all = refl
length_from_times zero (p ∷ ps) all =
    let here = all p in
    let test = le-ltb p 0 (omega arith) in
    let none = rw (test) at here in
    absurd (omega (arith, none, times-here p p ps refl))
length_from_times (suc n) ps all =
    let test = lt-ltb n (suc n) (omega arith) in
    let one = rw (test) at (all n) in
    let halves = cut n ps (omega (arith, one)) in
    let rest = length_from_times n (halves.0 ++ halves.1) (λ p.
    let here : times p (halves.0 ++ n ∷ halves.1) ≡ cond (ltb p (suc n)) 1 0 = subst (λ qs. times p qs ≡ cond (ltb p (suc n)) 1 0) halves.2 (all p) in
    elim (at_head p n halves.1) [
      | inl same ↦
          let above = le-ltb p n (omega arith) in
          let below = lt-ltb p (suc n) (omega arith) in
          let single = rw (below) at here in
          rw (above) (omega (arith, single, times-append p halves.0 (n ∷ halves.1), times-append p halves.0 halves.1))
      | inr other ↦
          elim (cases_lt p n) [
            | inl less ↦
                let single = rw (lt-ltb p (suc n) (omega arith)) at here in
                rw (lt-ltb p n less) (omega (arith, single, times-append p halves.0 (n ∷ halves.1), times-append p halves.0 halves.1))
            | inr more ↦
                let single = rw (le-ltb p (suc n) (omega arith)) at here in
                rw (le-ltb p n more) (omega (arith, single, times-append p halves.0 (n ∷ halves.1), times-append p halves.0 halves.1))
          ]
    ]) in
    rw halves.2 (omega (arith, rest, length-append halves.0 (n ∷ halves.1), length-append halves.0 halves.1))

-- the first of what one runs through, or the end
first_there : (f : ℕ → ℕ) (p : ℕ) (ps : List ℕ) → Runs f p ps END → 0 < times p (END ∷ ps)
first_there f p [] runs = omega (arith, times-here p END [] runs)
first_there f p (q ∷ qs) runs = omega (arith, times-here p q qs runs.0, below-head p END (q ∷ qs))

-- what a link leads to
abbrev pub link_of : ℕ → Option ℕ
link_of p = cond (eqb p END) None (Some p)

-- the chain has these places and these nodes are free, and both are counted
pub record Lies {T : Type 0} (nodes : List (Node T)) (ends : Ends) (free len spare : ℕ) (ps unused : List ℕ) : Type 0 where
  pub holds : Holds nodes ends free ps unused []
  pub len_counts : len ≡ length ps
  pub spare_counts : spare ≡ length unused

module _ {T : Type 0} where
  -- no node, and no free one
  pub sound_from_nothing : IsSound {T = T} [] (record { front = END; back = END }) END 0 0
  sound_from_nothing =
      record {
        places = [];
        unused = [];
        forward = refl;
        backward = refl;
        hanging = refl;
        others = λ p. sym (ap (λ b. cond b 1 0) (le-ltb p 0 (omega arith)));
        filled = λ p there. absurd (omega arith);
        blank = λ p there. absurd (omega arith);
        len_counts = refl;
        spare_counts = refl;
        room = omega arith;
      }

  pub lies_from_sound : (nodes : List (Node T)) (ends : Ends) (free len spare : ℕ) → (sound : IsSound nodes ends free len spare) → Lies nodes ends free len spare sound.places sound.unused
  lies_from_sound nodes ends free len spare sound =
      record { holds = open_sound nodes ends free len spare sound; len_counts = sound.len_counts; spare_counts = sound.spare_counts }

  pub sound_from_lies : {nodes : List (Node T)} {ends : Ends} {free len spare : ℕ} {ps unused : List ℕ} → Lies nodes ends free len spare ps unused → IsSound nodes ends free len spare
  sound_from_lies {nodes} {ends} {free} {len} {spare} {ps} {unused} lies =
      close_sound nodes ends free len spare ps unused lies.len_counts lies.spare_counts lies.holds

  pub walked : {nodes : List (Node T)} {ends : Ends} {free len spare : ℕ} {ps unused : List ℕ} → Lies nodes ends free len spare ps unused → walk (next_of nodes ends) len ends.front ≡ ps
  walked {nodes} {ends} {free} {len} {spare} {ps} {unused} lies =
      let f = next_of nodes ends in
      ap (λ n. walk f n ends.front) lies.len_counts ∙ walk_runs f ends.front ps END (forward_path f (prev_of nodes ends) END ps END lies.holds.path)

  pub unused_walked : {nodes : List (Node T)} {ends : Ends} {free len spare : ℕ} {ps unused : List ℕ} → Lies nodes ends free len spare ps unused → walk (next_of nodes ends) spare free ≡ unused
  unused_walked {nodes} {ends} {free} {len} {spare} {ps} {unused} lies =
      let f = next_of nodes ends in
      ap (λ n. walk f n free) lies.spare_counts ∙ walk_runs f free unused END lies.holds.hanging

  pub total : {nodes : List (Node T)} {ends : Ends} {free len spare : ℕ} {ps unused : List ℕ} → Lies nodes ends free len spare ps unused → len + spare ≡ length nodes
  total {nodes} {ends} {free} {len} {spare} {ps} {unused} lies =
      let all = length_from_times (length nodes) (ps ++ unused) (λ p. let here = lies.holds.others p in omega (arith, times-append p ps unused)) in
      let counts = lies.len_counts in
      let spares = lies.spare_counts in
      omega (arith, all, length-append ps unused)

  module _ {nodes : List (Node T)} {ends : Ends} {free len spare : ℕ} {ps unused : List ℕ} (lies : Lies nodes ends free len spare ps unused) where
    pub len_seen : len ≡ length (chain_of nodes ends free len spare).nodes
    len_seen = rw (walked lies) (lies.len_counts ∙ sym (length-nodes_of (value_at nodes) ps lies.holds.filled))

    pub spare_seen : spare ≡ length (chain_of nodes ends free len spare).free
    spare_seen = rw (unused_walked lies) lies.spare_counts

    pub places_seen : places (chain_of nodes ends free len spare) ≡ ps
    places_seen = rw (walked lies) (keys-nodes_of (value_at nodes) ps lies.holds.filled)

    pub whole_seen : IsWhole (chain_of nodes ends free len spare)
    whole_seen p =
        let count : length (nodes_of (value_at nodes) (walk (next_of nodes ends) len ends.front)) + length (walk (next_of nodes ends) spare free) ≡ length nodes =
        rw (← len_seen, ← spare_seen) (total lies) in
        rw (count, places_seen, unused_walked lies) (let here = lies.holds.others p in omega arith)

    pub value_there : (p : ℕ) → 0 < times p ps → value_of (chain_of nodes ends free len spare) p ≡ value_at nodes p
    value_there p there = rw (walked lies) (lookup-there (value_at nodes) p ps lies.holds.filled there)

    pub value_absent : (p : ℕ) → times p ps ≡ 0 → value_of (chain_of nodes ends free len spare) p ≡ None
    value_absent p absent = rw (walked lies) (lookup-absent (value_at nodes) p ps lies.holds.filled absent)

    pub live_there : (x : ℕ) → IsLive (chain_of nodes ends free len spare) x → 0 < times x ps
    live_there x live = there_from_lookup (value_at nodes) x ps lies.holds.filled (rw (walked lies) at live)

    -- what stands there, or the end
    pub is_place : (p : ℕ) → 0 < times p (END ∷ ps) → IsPlace nodes p
    is_place p there inner =
        is_node nodes ends free ps unused [] lies.holds p (elim (at_head p END ps) [
          | inl same ↦ absurd (inner same.0)
          | inr other ↦ omega arith
        ])

    pub node_there : (p : ℕ) → 0 < times p ps → p < length nodes
    node_there p there = is_node nodes ends free ps unused [] lies.holds p (omega arith)

    pub inner_there : (p : ℕ) → 0 < times p ps → p ≢ END
    inner_there p there = not_end nodes ends free ps unused [] lies.holds p (omega arith)

    pub lies_cut : (x : ℕ) → IsLive (chain_of nodes ends free len spare) x → (xs : List ℕ) × (ys : List ℕ) × Lies nodes ends free len spare (xs ++ x ∷ ys) unused
    lies_cut x live =
        let halves = cut x ps (live_there x live) in
        (halves.0, halves.1, subst (λ qs. Lies nodes ends free len spare qs unused) halves.2 lies)

    back_in : 0 < times ends.back (END ∷ ps)
    back_in = last_there (next_of nodes ends) (prev_of nodes ends) END ps END lies.holds.path

    front_in : 0 < times ends.front (END ∷ ps)
    front_in =
        first_there (next_of nodes ends) ends.front ps (forward_path (next_of nodes ends) (prev_of nodes ends) END ps END lies.holds.path)

    pub back_is_place : IsPlace nodes ends.back
    back_is_place = is_place ends.back back_in

    -- what a link leads to, if it leads to a node, is live
    link_live : (p : ℕ) → 0 < times p (END ∷ ps) → IfSome (link_of p) (IsLive (chain_of nodes ends free len spare))
    link_live p there =
        elim (at_head p END ps) [
          | inl same ↦ rw (eq-eqb p END same.0) tt
          | inr other ↦
              let inside : 0 < times p ps = omega arith in
              rw (ne_eqb p END other.0) (rw (value_there p inside) (lies.holds.filled p inside))
        ]

    pub back_live : IfSome (link_of ends.back) (IsLive (chain_of nodes ends free len spare))
    back_live = link_live ends.back back_in

    pub front_live : IfSome (link_of ends.front) (IsLive (chain_of nodes ends free len spare))
    front_live = link_live ends.front front_in

  -- a place that stands alike in another chain, with the same value there, has the same value
  same_value : {nodes : List (Node T)} {ends : Ends} {free len spare : ℕ} {ps unused : List ℕ} {new : List (Node T)} {new_ends : Ends} {new_free new_len new_spare : ℕ} {qs others : List ℕ} → Lies nodes ends free len spare ps unused → Lies new new_ends new_free new_len new_spare qs others → (p : ℕ) → times p qs ≡ times p ps → value_at new p ≡ value_at nodes p → value_of (chain_of new new_ends new_free new_len new_spare) p ≡ value_of (chain_of nodes ends free len spare) p
  same_value {ps = ps} lies new_lies p alike same =
      elim (cases_lt 0 (times p ps)) [
        | inl there ↦ value_there new_lies p (omega arith) ∙ same ∙ sym (value_there lies p there)
        | inr none ↦ value_absent new_lies p (omega arith) ∙ sym (value_absent lies p (omega arith))
      ]

  module _ {nodes : List (Node T)} {ends : Ends} {free len spare : ℕ} {unused : List ℕ} (xs : List ℕ) (x : ℕ) (ys : List ℕ) (lies : Lies nodes ends free len spare (xs ++ x ∷ ys) unused) where
    halves : Path (next_of nodes ends) (prev_of nodes ends) END xs x × Path (next_of nodes ends) (prev_of nodes ends) x ys END
    halves = path_split (next_of nodes ends) (prev_of nodes ends) END xs x ys END lies.holds.path

    -- the neighbours of x stand in the chain, or are the end
    left_in : 0 < times (prev_of nodes ends x) (END ∷ (xs ++ x ∷ ys))
    left_in =
        let p = prev_of nodes ends x in
        let last = last_there (next_of nodes ends) (prev_of nodes ends) END xs x halves.0 in
        elim (at_head p END xs) [
          | inl same ↦ omega (arith, times-here p END (xs ++ x ∷ ys) same.0)
          | inr other ↦ omega (arith, times-append p xs (x ∷ ys), below-head p END (xs ++ x ∷ ys))
        ]

    right_in : 0 < times (next_of nodes ends x) (END ∷ (xs ++ x ∷ ys))
    right_in =
        let p = next_of nodes ends x in
        let first = first_there (next_of nodes ends) p ys (forward_path (next_of nodes ends) (prev_of nodes ends) x ys END halves.1) in
        elim (at_head p END ys) [
          | inl same ↦ omega (arith, times-here p END (xs ++ x ∷ ys) same.0)
          | inr other ↦ omega (arith, times-append p xs (x ∷ ys), below-head p x ys, below-head p END (xs ++ x ∷ ys))
        ]

    left_is_place : IsPlace nodes (prev_of nodes ends x)
    left_is_place = is_place lies (prev_of nodes ends x) left_in

    right_is_place : IsPlace nodes (next_of nodes ends x)
    right_is_place = is_place lies (next_of nodes ends x) right_in

    left_live : IfSome (link_of (prev_of nodes ends x)) (IsLive (chain_of nodes ends free len spare))
    left_live = link_live lies (prev_of nodes ends x) left_in

    right_live : IfSome (link_of (next_of nodes ends x)) (IsLive (chain_of nodes ends free len spare))
    right_live = link_live lies (next_of nodes ends x) right_in

    pub x_there : 0 < times x (xs ++ x ∷ ys)
    x_there = omega (arith, times-append x xs (x ∷ ys), times-here x x ys refl)

    pub x_once : (times x xs ≡ 0) × (times x ys ≡ 0)
    x_once =
        let most = once nodes ends free (xs ++ x ∷ ys) unused [] lies.holds x in
        (omega (arith, times-append x xs (x ∷ ys), times-here x x ys refl), omega (arith, times-append x xs (x ∷ ys), times-here x x ys refl))

  -- a removal: the neighbours of x are joined, and x hangs before the free nodes, with no value
  pub record Removes (nodes : List (Node T)) (ends : Ends) (free len spare x : ℕ) (middle : List (Node T)) (new_ends : Ends) (new : List (Node T)) : Type 0 where
    pub sound : IsSound nodes ends free len spare
    pub live : IsLive (chain_of nodes ends free len spare) x
    pub joins : Joins nodes ends middle new_ends (prev_of nodes ends x) (next_of nodes ends x)
    pub length_middle : length middle ≡ length nodes
    pub elsewhere : SameElsewhere middle new x
    pub length_new : length new ≡ length middle
    pub next : (node_at new x).next ≡ free
    pub blank : value_at new x ≡ None

  module _ {nodes : List (Node T)} {ends : Ends} {free len spare x : ℕ} {middle : List (Node T)} {new_ends : Ends} {new : List (Node T)} (r : Removes nodes ends free len spare x middle new_ends new) where
    old_removed : (xs : List ℕ) × (ys : List ℕ) × Lies nodes ends free len spare (xs ++ x ∷ ys) r.sound.unused
    old_removed = lies_cut (lies_from_sound nodes ends free len spare r.sound) x r.live

    new_removed : Lies new new_ends x (len - 1) (spare + 1) (old_removed.0 ++ old_removed.1) (x ∷ r.sound.unused)
    new_removed =
        let xs = old_removed.0 in
        let ys = old_removed.1 in
        let lies = old_removed.2 in
        let out = detached nodes ends middle new_ends free xs x ys r.sound.unused r.joins r.length_middle lies.holds in
        let changed = rewritten middle new_ends new free (xs ++ ys) r.sound.unused x r.elsewhere r.length_new out in
        let counts = lies.len_counts in
        let spares = lies.spare_counts in
        record {
          holds = hung new new_ends free (xs ++ ys) r.sound.unused x r.next r.blank changed;
          len_counts = omega (arith, length-append xs (x ∷ ys), length-append xs ys);
          spare_counts = omega arith;
        }

    pub removed_sound : IsSound new new_ends x (len - 1) (spare + 1)
    removed_sound = sound_from_lies new_removed

    value_removed : (p : ℕ) → p ≢ x → value_at new p ≡ value_at nodes p
    value_removed p other = ap (λ node. node.value) (r.elsewhere p other) ∙ r.joins.value p

    pub removed_nodes : (chain_of new new_ends x (len - 1) (spare + 1)).nodes ≡ without x (chain_of nodes ends free len spare).nodes
    removed_nodes =
        let xs = old_removed.0 in
        let ys = old_removed.1 in
        let lies = old_removed.2 in
        let single = x_once xs x ys lies in
        let rest_filled : (p : ℕ) → 0 < times p (xs ++ ys) → IsSome (value_at nodes p) = λ p there. lies.holds.filled p (omega (arith, times-append p xs ys, times-append p xs (x ∷ ys), below-head p x ys)) in
        let same : (p : ℕ) → 0 < times p (xs ++ ys) → value_at new p ≡ value_at nodes p = λ p there. value_removed p (apart p x (xs ++ ys) there (omega (arith, times-append x xs ys))) in
        rw (walked new_removed, walked lies)
        (nodes_of-same (value_at nodes) (value_at new) (xs ++ ys) rest_filled same ∙ sym (remove_entry-nodes_of (value_at nodes) xs x ys lies.holds.filled single.0))

    pub removed_free : (chain_of new new_ends x (len - 1) (spare + 1)).free ≡ x ∷ (chain_of nodes ends free len spare).free
    removed_free = rw (unused_walked new_removed, unused_walked old_removed.2) refl

    pub removed_gone : value_of (chain_of new new_ends x (len - 1) (spare + 1)) x ≡ None
    removed_gone =
        let single = x_once old_removed.0 x old_removed.1 old_removed.2 in
        value_absent new_removed x (omega (arith, times-append x old_removed.0 old_removed.1))

    pub removed_others : (p : ℕ) → p ≢ x → value_of (chain_of new new_ends x (len - 1) (spare + 1)) p ≡ value_of (chain_of nodes ends free len spare) p
    removed_others p other =
        let xs = old_removed.0 in
        let ys = old_removed.1 in
        same_value old_removed.2 new_removed p (omega (arith, times-append p xs ys, times-append p xs (x ∷ ys), times-apart p x ys other)) (value_removed p other)

  -- a move: the neighbours of x are joined, and x is joined to the last and the end
  pub record Moves (nodes : List (Node T)) (ends : Ends) (free len spare x : ℕ) (middle : List (Node T)) (middle_ends : Ends) (new : List (Node T)) (new_ends : Ends) : Type 0 where
    pub sound : IsSound nodes ends free len spare
    pub live : IsLive (chain_of nodes ends free len spare) x
    pub joins : Joins nodes ends middle middle_ends (prev_of nodes ends x) (next_of nodes ends x)
    pub length_middle : length middle ≡ length nodes
    pub appends : Appends middle middle_ends new new_ends x
    pub length_new : length new ≡ length middle

  module _ {nodes : List (Node T)} {ends : Ends} {free len spare x : ℕ} {middle : List (Node T)} {middle_ends : Ends} {new : List (Node T)} {new_ends : Ends} (m : Moves nodes ends free len spare x middle middle_ends new new_ends) where
    old_moved : (xs : List ℕ) × (ys : List ℕ) × Lies nodes ends free len spare (xs ++ x ∷ ys) m.sound.unused
    old_moved = lies_cut (lies_from_sound nodes ends free len spare m.sound) x m.live

    new_moved : Lies new new_ends free len spare ((old_moved.0 ++ old_moved.1) ++ x ∷ []) m.sound.unused
    new_moved =
        let xs = old_moved.0 in
        let ys = old_moved.1 in
        let lies = old_moved.2 in
        let out = detached nodes ends middle middle_ends free xs x ys m.sound.unused m.joins m.length_middle lies.holds in
        let has_value : IsSome (value_at middle x) = rw (m.joins.value x) (lies.holds.filled x (x_there xs x ys lies)) in
        let counts = lies.len_counts in
        record {
          holds = attached middle middle_ends new new_ends free (xs ++ ys) x m.sound.unused m.appends m.length_new has_value out;
          len_counts = omega (arith, length-append xs (x ∷ ys), length-append (xs ++ ys) (x ∷ []), length-append xs ys);
          spare_counts = lies.spare_counts;
        }

    pub moved_sound : IsSound new new_ends free len spare
    moved_sound = sound_from_lies new_moved

    value_moved : (p : ℕ) → value_at new p ≡ value_at nodes p
    value_moved p = m.appends.at_end.value p ∙ m.appends.after_last.value p ∙ m.joins.value p

    pub moved_nodes : (chain_of new new_ends free len spare).nodes ≡ moved_back x (chain_of nodes ends free len spare).nodes
    moved_nodes =
        let xs = old_moved.0 in
        let ys = old_moved.1 in
        let lies = old_moved.2 in
        let single = x_once xs x ys lies in
        let v = value_in (value_at nodes x) (lies.holds.filled x (x_there xs x ys lies)) in
        let value = value_at nodes in
        let last : lookup_entry (eqb x) (nodes_of value (xs ++ x ∷ ys)) ≡ Some (x, v.0) = lookup_entry-nodes_of value v.0 xs x ys lies.holds.filled single.0 v.1 in
        let rest : remove_entry (eqb x) (nodes_of value (xs ++ x ∷ ys)) ≡ nodes_of value (xs ++ ys) = remove_entry-nodes_of value xs x ys lies.holds.filled single.0 in
        let all_filled : (p : ℕ) → 0 < times p ((xs ++ ys) ++ x ∷ []) → IsSome (value_at nodes p) = λ p there. lies.holds.filled p (omega (arith, times-append p (xs ++ ys) (x ∷ []), times-append p xs ys, times-append p xs (x ∷ ys), times-append p (x ∷ []) ys)) in
        rw (walked new_moved, walked lies, last, rest)
        (nodes_of-same value (value_at new) ((xs ++ ys) ++ x ∷ []) all_filled (λ p there. value_moved p)
        ∙ nodes_of-append value (xs ++ ys) (x ∷ []) (λ p there. all_filled p (omega (arith, times-append p (xs ++ ys) (x ∷ []))))
        ∙ ap (λ end. nodes_of value (xs ++ ys) ++ end) (nodes_of-cons value x v.0 [] v.1))

    pub moved_free : (chain_of new new_ends free len spare).free ≡ (chain_of nodes ends free len spare).free
    moved_free = rw (unused_walked new_moved, unused_walked old_moved.2) refl

    pub moved_values : (p : ℕ) → value_of (chain_of new new_ends free len spare) p ≡ value_of (chain_of nodes ends free len spare) p
    moved_values p =
        let xs = old_moved.0 in
        let ys = old_moved.1 in
        same_value old_moved.2 new_moved p (omega (arith, times-append p (xs ++ ys) (x ∷ []), times-append p xs ys, times-append p xs (x ∷ ys), times-append p (x ∷ []) ys)) (value_moved p)

  -- a node that is read is the node at its place
  pub node_read : (nodes : List (Node T)) (p : ℕ) (node : Node T) → p < length nodes → node ≡ get_or nodes p node → node ≡ node_at nodes p
  node_read nodes p node within read = get_or_read nodes p node within read _

  -- ---- an append

  first_unused : {nodes : List (Node T)} {ends : Ends} {free len spare : ℕ} {ps : List ℕ} (unused : List ℕ) → Lies nodes ends free len spare ps unused → 0 < spare → (rest : List ℕ) × Lies nodes ends free len spare ps (free ∷ rest)
  first_unused [] lies some = let spares = lies.spare_counts in absurd (omega arith)
  first_unused {nodes} {ends} {free} {len} {spare} {ps} (x ∷ rest) lies some =
      (rest, subst (λ y. Lies nodes ends free len spare ps (y ∷ rest)) (sym lies.holds.hanging.0) lies)

  -- an append: the first free node gets a value, and is joined to the last and the end
  pub record Pushes (nodes : List (Node T)) (ends : Ends) (free len spare : ℕ) (value : T) (middle : List (Node T)) (next : ℕ) (new : List (Node T)) (new_ends : Ends) : Type 0 where
    pub sound : IsSound nodes ends free len spare
    pub some_free : 0 < spare
    pub elsewhere : SameElsewhere nodes middle free
    pub has_value : value_at middle free ≡ Some value
    pub next_is : next ≡ (node_at nodes free).next
    pub length_middle : length middle ≡ length nodes
    pub appends : Appends middle ends new new_ends free
    pub length_new : length new ≡ length middle

  module _ {nodes : List (Node T)} {ends : Ends} {free len spare : ℕ} (sound : IsSound nodes ends free len spare) (some_free : 0 < spare) where
    pub old_pushed : (rest : List ℕ) × Lies nodes ends free len spare sound.places (free ∷ rest)
    old_pushed =
        first_unused sound.unused (lies_from_sound nodes ends free len spare sound) some_free

    -- the first free node is out of the chain, and it has no value
    pub free_there : 0 < times free (free ∷ old_pushed.0)
    free_there = omega (arith, times-here free free old_pushed.0 refl)

    pub free_node : free < length nodes
    free_node =
        let there = free_there in
        is_node nodes ends free sound.places (free ∷ old_pushed.0) [] old_pushed.1.holds free (omega arith)

    pub free_blank : value_at nodes free ≡ None
    free_blank = old_pushed.1.holds.blank free free_there

    pub free_absent : times free sound.places ≡ 0
    free_absent =
        let there = free_there in
        let most = once nodes ends free sound.places (free ∷ old_pushed.0) [] old_pushed.1.holds free in
        omega arith

  module _ {nodes : List (Node T)} {ends : Ends} {free len spare : ℕ} {value : T} {middle : List (Node T)} {next : ℕ} {new : List (Node T)} {new_ends : Ends} (p : Pushes nodes ends free len spare value middle next new new_ends) where
    lies_pushed : Lies nodes ends free len spare p.sound.places (free ∷ (old_pushed p.sound p.some_free).0)
    lies_pushed = (old_pushed p.sound p.some_free).1

    some_pushed : IsSome (value_at middle free)
    some_pushed = rw p.has_value refl

    new_pushed : Lies new new_ends next (len + 1) (spare - 1) (p.sound.places ++ free ∷ []) (old_pushed p.sound p.some_free).0
    new_pushed =
        let rest = (old_pushed p.sound p.some_free).0 in
        let lies = lies_pushed in
        let out = unhung nodes ends free p.sound.places rest free lies.holds in
        let taken : Holds nodes ends next p.sound.places rest (free ∷ []) = rw p.next_is out.2 in
        let filled = rewritten nodes ends middle next p.sound.places rest free p.elsewhere p.length_middle taken in
        let counts = lies.len_counts in
        let spares = lies.spare_counts in
        record {
          holds = attached middle ends new new_ends next p.sound.places free rest p.appends p.length_new some_pushed filled;
          len_counts = omega (arith, length-append p.sound.places (free ∷ []));
          spare_counts = omega arith;
        }

    pub pushed_sound : IsSound new new_ends next (len + 1) (spare - 1)
    pushed_sound = sound_from_lies new_pushed

    value_kept : (q : ℕ) → q ≢ free → value_at new q ≡ value_at nodes q
    value_kept q other = p.appends.at_end.value q ∙ p.appends.after_last.value q ∙ ap (λ node. node.value) (p.elsewhere q other)

    value_put : value_at new free ≡ Some value
    value_put = p.appends.at_end.value free ∙ p.appends.after_last.value free ∙ p.has_value

    pub pushed_nodes : (chain_of new new_ends next (len + 1) (spare - 1)).nodes ≡ (chain_of nodes ends free len spare).nodes ++ (free, value) ∷ []
    pushed_nodes =
        let ps = p.sound.places in
        let lies = lies_pushed in
        let absent = free_absent p.sound p.some_free in
        let new_filled = new_pushed.holds.filled in
        let same = nodes_of-same (value_at nodes) (value_at new) ps lies.holds.filled (λ q there. value_kept q (apart q free ps there absent)) in
        rw (walked new_pushed, walked lies)
        (nodes_of-append (value_at new) ps (free ∷ []) (λ q there. new_filled q (omega (arith, times-append q ps (free ∷ []))))
        ∙ ap (λ front. front ++ nodes_of (value_at new) (free ∷ [])) same
        ∙ ap (λ end. nodes_of (value_at nodes) ps ++ end) (nodes_of-cons (value_at new) free value [] value_put))

    pub pushed_free : (chain_of nodes ends free len spare).free ≡ free ∷ (chain_of new new_ends next (len + 1) (spare - 1)).free
    pushed_free = rw (unused_walked new_pushed, unused_walked lies_pushed) refl

    pub pushed_fresh : value_of (chain_of nodes ends free len spare) free ≡ None
    pushed_fresh = value_absent lies_pushed free (free_absent p.sound p.some_free)

    pub pushed_value : value_of (chain_of new new_ends next (len + 1) (spare - 1)) free ≡ Some value
    pushed_value =
        value_there new_pushed free (omega (arith, times-append free p.sound.places (free ∷ []), times-here free free [] refl)) ∙ value_put

    pub pushed_others : (q : ℕ) → q ≢ free → value_of (chain_of new new_ends next (len + 1) (spare - 1)) q ≡ value_of (chain_of nodes ends free len spare) q
    pushed_others q other =
        same_value lies_pushed new_pushed q (omega (arith, times-append q p.sound.places (free ∷ []), times-apart q free [] other)) (value_kept q other)

  -- ---- one more free node

  module _ {nodes : List (Node T)} {ends : Ends} {free len spare : ℕ} (sound : IsSound nodes ends free len spare) (prev : ℕ) (room : length nodes + 1 < END) where
    new_grown : Lies (nodes ++ record { prev = prev; next = free; value = None } ∷ []) ends (length nodes) len (spare + 1) sound.places (length nodes ∷ sound.unused)
    new_grown =
        let node : Node T = record { prev = prev; next = free; value = None } in
        let lies = lies_from_sound nodes ends free len spare sound in
        let out = grown nodes ends node free sound.places sound.unused room lies.holds in
        let spares = lies.spare_counts in
        let here : node_at (nodes ++ node ∷ []) (length nodes) ≡ node = get_or_push nodes node _ (length nodes) refl in
        record {
          holds = hung (nodes ++ node ∷ []) ends free sound.places sound.unused (length nodes) (ap (λ n. n.next) here) (ap (λ n. n.value) here) out;
          len_counts = lies.len_counts;
          spare_counts = omega arith;
        }

    pub grown_sound : IsSound (nodes ++ record { prev = prev; next = free; value = None } ∷ []) ends (length nodes) len (spare + 1)
    grown_sound = sound_from_lies new_grown

    pub grown_nodes : (chain_of (nodes ++ record { prev = prev; next = free; value = None } ∷ []) ends (length nodes) len (spare + 1)).nodes ≡ (chain_of nodes ends free len spare).nodes
    grown_nodes =
        let node : Node T = record { prev = prev; next = free; value = None } in
        let lies = lies_from_sound nodes ends free len spare sound in
        rw (walked new_grown, walked lies)
        (nodes_of-same (value_at nodes) (value_at (nodes ++ node ∷ [])) sound.places sound.filled (λ p there. ap (λ n. n.value) (get_or_append_left nodes (node ∷ []) _ p (node_there lies p there))))

    pub grown_free : (chain_of (nodes ++ record { prev = prev; next = free; value = None } ∷ []) ends (length nodes) len (spare + 1)).free ≡ length nodes ∷ (chain_of nodes ends free len spare).free
    grown_free =
        rw (unused_walked new_grown, unused_walked (lies_from_sound nodes ends free len spare sound)) refl

  -- ---- another value at a place

  module _ {nodes : List (Node T)} {ends : Ends} {free len spare : ℕ} (sound : IsSound nodes ends free len spare) (x : ℕ) (live : IsLive (chain_of nodes ends free len spare) x) (node : Node T) (is_there : node ≡ node_at nodes x) (w : T) where
    set_here : node_at (set nodes x (node_with node w)) x ≡ node_with node w
    set_here =
        let lies = lies_from_sound nodes ends free len spare sound in
        get_or-set_same nodes x (node_with node w) _ (node_there lies x (live_there lies x live))

    set_other : (p : ℕ) → p ≢ x → node_at (set nodes x (node_with node w)) p ≡ node_at nodes p
    set_other p other = get_or-set_other nodes x p (node_with node w) _ other

    set_next : (p : ℕ) → (node_at (set nodes x (node_with node w)) p).next ≡ (node_at nodes p).next
    set_next p =
        elim (eqb_tells p x) [
          | inl same ↦ rw same.1 (ap (λ n. n.next) (set_here) ∙ ap (λ n. n.next) is_there)
          | inr other ↦ ap (λ n. n.next) (set_other p other.1)
        ]

    set_prev : (p : ℕ) → (node_at (set nodes x (node_with node w)) p).prev ≡ (node_at nodes p).prev
    set_prev p =
        elim (eqb_tells p x) [
          | inl same ↦ rw same.1 (ap (λ n. n.prev) (set_here) ∙ ap (λ n. n.prev) is_there)
          | inr other ↦ ap (λ n. n.prev) (set_other p other.1)
        ]

    new_set : Lies (set nodes x (node_with node w)) ends free len spare sound.places sound.unused
    new_set =
        let new = set nodes x (node_with node w) in
        let f = next_of nodes ends in
        let g = prev_of nodes ends in
        let lies = lies_from_sound nodes ends free len spare sound in
        let there = live_there lies x live in
        let next : (p : ℕ) → next_of new ends p ≡ f p = λ p. ap (λ k. cond (eqb p END) ends.front k) (set_next p) in
        let prev : (p : ℕ) → prev_of new ends p ≡ g p = λ p. ap (λ k. cond (eqb p END) ends.back k) (set_prev p) in
        record {
          holds = record {
            path = path_kept f g (next_of new ends) (prev_of new ends) END sound.places END (next END) (λ p _. next p) (λ p _. prev p) (prev END) lies.holds.path;
            hanging = runs_kept f (next_of new ends) free sound.unused END (λ p _. next p) lies.holds.hanging;
            others = λ p. rw length-set (lies.holds.others p);
            filled = λ p here.
                elim (eqb_tells p x) [
                  | inl same ↦ let equal : value_at new x ≡ Some w = ap (λ n. n.value) set_here in rw (same.1, equal) refl
                  | inr other ↦ let equal = ap (λ n. n.value) (set_other p other.1) in rw (equal) (lies.holds.filled p here)
                ];
            blank = λ p here.
                let most = once nodes ends free sound.places sound.unused [] lies.holds p in
                let other : p ≢ x = λ same. let at_x : 0 < times p sound.places = subst (λ q. 0 < times q sound.places) (sym same) there in omega arith in
                ap (λ n. n.value) (set_other p other) ∙ lies.holds.blank p here;
            room = rw length-set lies.holds.room;
          };
          len_counts = lies.len_counts;
          spare_counts = lies.spare_counts;
        }

    pub set_sound : IsSound (set nodes x (node_with node w)) ends free len spare
    set_sound = sound_from_lies new_set

    pub set_seen : chain_of (set nodes x (node_with node w)) ends free len spare ≡ with_value (chain_of nodes ends free len spare) x w
    set_seen =
        let lies = lies_from_sound nodes ends free len spare sound in
        let single : (p : ℕ) → times p sound.places ≤ 1 = λ p. let most = once nodes ends free sound.places sound.unused [] lies.holds p in omega arith in
        let changed = set_value-nodes_of (value_at nodes) (value_at (set nodes x (node_with node w))) x w sound.places sound.filled single (ap (λ n. n.value) (set_here)) (λ p other. ap (λ n. n.value) (set_other p other)) in
        rw (walked new_set, unused_walked new_set, walked lies, unused_walked lies, changed)

  -- ---- neighbours and ends

  module _ {nodes : List (Node T)} {ends : Ends} {free len spare : ℕ} (sound : IsSound nodes ends free len spare) where
    no_end : times END sound.places ≡ 0
    no_end =
        let lies = lies_from_sound nodes ends free len spare sound in
        let nowhere = end_nowhere nodes ends free sound.places sound.unused [] lies.holds in
        omega arith

    pub front_seen : link_of ends.front ≡ first_of (places (chain_of nodes ends free len spare))
    front_seen =
        let lies = lies_from_sound nodes ends free len spare sound in
        rw (places_seen lies) (first-runs (next_of nodes ends) ends.front sound.places sound.forward no_end)

    pub back_seen : link_of ends.back ≡ last_of (places (chain_of nodes ends free len spare))
    back_seen =
        let lies = lies_from_sound nodes ends free len spare sound in
        rw (places_seen lies) (first-runs (prev_of nodes ends) ends.back (reverse sound.places) sound.backward (omega (arith, no_end, times-reverse END sound.places)) ∙ first_of-reverse sound.places)

    lies_at : (before : List ℕ) (x : ℕ) (after : List ℕ) → places (chain_of nodes ends free len spare) ≡ before ++ x ∷ after → Lies nodes ends free len spare (before ++ x ∷ after) sound.unused
    lies_at before x after split =
        let lies = lies_from_sound nodes ends free len spare sound in
        subst (λ qs. Lies nodes ends free len spare qs sound.unused) (sym (places_seen lies) ∙ split) lies

    pub after_seen : (x : ℕ) → IsAfter (places (chain_of nodes ends free len spare)) x (link_of (next_of nodes ends x))
    after_seen x before after split =
        let lies = lies_at before x after split in
        let nowhere = end_nowhere nodes ends free (before ++ x ∷ after) sound.unused [] lies.holds in
        let parts = halves before x after lies in
        first-runs (next_of nodes ends) (next_of nodes ends x) after (forward_path (next_of nodes ends) (prev_of nodes ends) x after END parts.1) (omega (arith, times-append END before (x ∷ after), below-head END x after))

    pub before_seen : (x : ℕ) → IsBefore (places (chain_of nodes ends free len spare)) x (link_of (prev_of nodes ends x))
    before_seen x before after split =
        let lies = lies_at before x after split in
        let nowhere = end_nowhere nodes ends free (before ++ x ∷ after) sound.unused [] lies.holds in
        let parts = halves before x after lies in
        first-runs (prev_of nodes ends) (prev_of nodes ends x) (reverse before) (backward_path (next_of nodes ends) (prev_of nodes ends) END before x parts.0) (omega (arith, times-append END before (x ∷ after), times-reverse END before))
        ∙ first_of-reverse before

  -- ---- a live node

  module _ {nodes : List (Node T)} {ends : Ends} {free len spare : ℕ} (sound : IsSound nodes ends free len spare) (x : ℕ) (live : IsLive (chain_of nodes ends free len spare) x) where
    live_in : 0 < times x sound.places
    live_in = live_there (lies_from_sound nodes ends free len spare sound) x live

    pub live_node : x < length nodes
    live_node = node_there (lies_from_sound nodes ends free len spare sound) x live_in

    pub live_inner : x ≢ END
    live_inner = inner_there (lies_from_sound nodes ends free len spare sound) x live_in

    pub live_filled : IsSome (value_at nodes x)
    live_filled = sound.filled x live_in

    pub live_value : value_of (chain_of nodes ends free len spare) x ≡ value_at nodes x
    live_value = value_there (lies_from_sound nodes ends free len spare sound) x live_in

    pub live_left : IsPlace nodes (prev_of nodes ends x)
    live_left =
        let parts = lies_cut (lies_from_sound nodes ends free len spare sound) x live in
        left_is_place parts.0 x parts.1 parts.2

    -- once x is unlinked, the last is still a place
    pub unlinked_back : (middle : List (Node T)) (middle_ends : Ends) → Joins nodes ends middle middle_ends (prev_of nodes ends x) (next_of nodes ends x) → length middle ≡ length nodes → IsPlace middle middle_ends.back
    unlinked_back middle middle_ends joins same_length inner =
        let parts = lies_cut (lies_from_sound nodes ends free len spare sound) x live in
        let out = detached nodes ends middle middle_ends free parts.0 x parts.1 sound.unused joins same_length parts.2.holds in
        let last = last_there (next_of middle middle_ends) (prev_of middle middle_ends) END (parts.0 ++ parts.1) END out.path in
        is_node middle middle_ends free (parts.0 ++ parts.1) sound.unused (x ∷ []) out middle_ends.back (elim (at_head middle_ends.back END (parts.0 ++ parts.1)) [
          | inl same ↦ absurd (inner same.0)
          | inr other ↦ omega arith
        ])

    pub live_right : IsPlace nodes (next_of nodes ends x)
    live_right =
        let parts = lies_cut (lies_from_sound nodes ends free len spare sound) x live in
        right_is_place parts.0 x parts.1 parts.2

    -- what stands after x, by the node that is read there
    pub next_read : (node : Node T) → node ≡ get_or nodes x node → IsAfter (places (chain_of nodes ends free len spare)) x (link_of node.next)
    next_read node read =
        let here = node_read nodes x node live_node read in
        let link : next_of nodes ends x ≡ node.next = rw (ne_eqb x END live_inner) (ap (λ n. n.next) (sym here)) in
        subst (λ p. IsAfter (places (chain_of nodes ends free len spare)) x (link_of p)) link (after_seen sound x)

    pub prev_read : (node : Node T) → node ≡ get_or nodes x node → IsBefore (places (chain_of nodes ends free len spare)) x (link_of node.prev)
    prev_read node read =
        let here = node_read nodes x node live_node read in
        let link : prev_of nodes ends x ≡ node.prev = rw (ne_eqb x END live_inner) (ap (λ n. n.prev) (sym here)) in
        subst (λ p. IsBefore (places (chain_of nodes ends free len spare)) x (link_of p)) link (before_seen sound x)

    pub next_live : (node : Node T) → node ≡ get_or nodes x node → IfSome (link_of node.next) (IsLive (chain_of nodes ends free len spare))
    next_live node read =
        let here = node_read nodes x node live_node read in
        let parts = lies_cut (lies_from_sound nodes ends free len spare sound) x live in
        let link : next_of nodes ends x ≡ node.next = rw (ne_eqb x END live_inner) (ap (λ n. n.next) (sym here)) in
        subst (λ p. IfSome (link_of p) (IsLive (chain_of nodes ends free len spare))) link (right_live parts.0 x parts.1 parts.2)

    pub prev_live : (node : Node T) → node ≡ get_or nodes x node → IfSome (link_of node.prev) (IsLive (chain_of nodes ends free len spare))
    prev_live node read =
        let here = node_read nodes x node live_node read in
        let parts = lies_cut (lies_from_sound nodes ends free len spare sound) x live in
        let link : prev_of nodes ends x ≡ node.prev = rw (ne_eqb x END live_inner) (ap (λ n. n.prev) (sym here)) in
        subst (λ p. IfSome (link_of p) (IsLive (chain_of nodes ends free len spare))) link (left_live parts.0 x parts.1 parts.2)

    -- the value of the node that is read there
    pub value_read : (node : Node T) → node ≡ get_or nodes x node → node.value ≡ value_at nodes x
    value_read node read = ap (λ n. n.value) (node_read nodes x node live_node read)
