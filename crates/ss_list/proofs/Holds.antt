-- How each change of the links keeps the chain and the free nodes, while at most one node is out of both.
use Rattle.std.proofs.Common.{◌≡◌, ◌≢◌, ℕ, ◌+◌, ◌<◌, ◌≤◌, List, [], ◌∷◌, ◌++◌, length, Bool, true, false, cond, eqb}
use Rattle.std.proofs.Common.{ltb, None, IsSome, refl, sym, ap, subst, ◌∙◌, inl, inr, arith, length-append}
use Rattle.std.proofs.lemmas.Bool.{cases_lt, lt-ltb, le-ltb, ne_eqb}
use Rattle.std.proofs.lemmas.List.{get_or_append_left}
use Rattle.ss_list.specs.declared.node.Node.{Node}
use Rattle.ss_list.specs.declared.node.TheConstants.{END}
use Rattle.ss_list.specs.declared.ends.Ends.{Ends}
use Rattle.ss_list.specs.Chain.{times}
use Rattle.ss_list.specs.Nodes.{node_at, value_at}
use Rattle.ss_list.specs.Links.{Runs, next_of, prev_of, Joins, Appends, IsSound}
use Rattle.ss_list.proofs.Times.{times-here, times-apart, times-append, at_head, below-head}
use Rattle.ss_list.proofs.Paths.{Path, becomes_other, runs_kept, forward_path, backward_path, path_runs, path_split}
use Rattle.ss_list.proofs.Paths.{last_there, path_kept, path_without, path_push}

-- the places are the chain, `unused` hang on `free`, and `out` are the nodes in neither
pub record Holds {T : Type 0} (nodes : List (Node T)) (ends : Ends) (free : ℕ) (places unused out : List ℕ) : Type 0 where
  pub path : Path (next_of nodes ends) (prev_of nodes ends) END places END
  pub hanging : Runs (next_of nodes ends) free unused END
  pub others : (p : ℕ) → times p places + times p unused + times p out ≡ cond (ltb p (length nodes)) 1 0
  pub filled : (p : ℕ) → 0 < times p places → IsSome (value_at nodes p)
  pub blank : (p : ℕ) → 0 < times p unused → value_at nodes p ≡ None
  pub room : length nodes < END

at_most_one : (b : Bool) → cond b 1 0 ≤ 1
at_most_one true = omega arith
at_most_one false = omega arith

-- of one node more, the last stands alone
one_longer : (p n : ℕ) → cond (ltb p n) 1 0 + times p (n ∷ []) ≡ cond (ltb p (n + 1)) 1 0
one_longer p n =
    elim (at_head p n []) [
      | inl same ↦ rw (le-ltb p n (omega arith), lt-ltb p (n + 1) (omega arith)) (omega arith)
      | inr other ↦
          elim (cases_lt p n) [
            | inl below ↦ rw (lt-ltb p n below, lt-ltb p (n + 1) (omega arith)) (omega arith)
            | inr above ↦ rw (le-ltb p n above, le-ltb p (n + 1) (omega arith)) (omega arith)
          ]
    ]

module _ {T : Type 0} where
  pub open_sound : (nodes : List (Node T)) (ends : Ends) (free len spare : ℕ) → (sound : IsSound nodes ends free len spare) → Holds nodes ends free sound.places sound.unused []
  open_sound nodes ends free len spare sound =
      record {
        path = path_runs (next_of nodes ends) (prev_of nodes ends) END sound.places END sound.forward sound.backward;
        hanging = sound.hanging;
        others = λ p. let here = sound.others p in omega arith;
        filled = sound.filled;
        blank = sound.blank;
        room = sound.room;
      }

  pub close_sound : (nodes : List (Node T)) (ends : Ends) (free len spare : ℕ) (places unused : List ℕ) → len ≡ length places → spare ≡ length unused → Holds nodes ends free places unused [] → IsSound nodes ends free len spare
  close_sound nodes ends free len spare places unused len_counts spare_counts holds =
      record {
        places = places;
        unused = unused;
        forward = forward_path (next_of nodes ends) (prev_of nodes ends) END places END holds.path;
        backward = backward_path (next_of nodes ends) (prev_of nodes ends) END places END holds.path;
        hanging = holds.hanging;
        others = λ p. let here = holds.others p in omega arith;
        filled = holds.filled;
        blank = holds.blank;
        len_counts = len_counts;
        spare_counts = spare_counts;
        room = holds.room;
      }

  module _ (nodes : List (Node T)) (ends : Ends) (free : ℕ) (places unused out : List ℕ) (holds : Holds nodes ends free places unused out) where
    -- each place stands once at most
    pub once : (p : ℕ) → times p places + times p unused + times p out ≤ 1
    once p = let here = holds.others p in let most = at_most_one (ltb p (length nodes)) in omega arith

    -- what stands anywhere is a node
    pub is_node : (p : ℕ) → 0 < times p places + times p unused + times p out → p < length nodes
    is_node p there =
        let here = holds.others p in
        elim (cases_lt p (length nodes)) [
          | inl below ↦ below
          | inr above ↦ let test = le-ltb p (length nodes) above in let none = rw (test) at here in absurd (omega (arith, none))
        ]

    pub not_end : (p : ℕ) → 0 < times p places + times p unused + times p out → p ≢ END
    not_end p there same = let below = is_node p there in let top = holds.room in omega arith

    pub end_nowhere : times END places + times END unused + times END out ≡ 0
    end_nowhere =
        elim (cases_lt 0 (times END places + times END unused + times END out)) [
          | inl there ↦ absurd (not_end END there refl)
          | inr none ↦ omega arith
        ]

  -- the node at x leaves the chain
  pub detached : (nodes : List (Node T)) (ends : Ends) (new : List (Node T)) (new_ends : Ends) (free : ℕ) (xs : List ℕ) (x : ℕ) (ys unused : List ℕ) → Joins nodes ends new new_ends (prev_of nodes ends x) (next_of nodes ends x) → length new ≡ length nodes → Holds nodes ends free (xs ++ x ∷ ys) unused [] → Holds new new_ends free (xs ++ ys) unused (x ∷ [])
  detached nodes ends new new_ends free xs x ys unused joins same_length holds =
      let f = next_of nodes ends in
      let g = prev_of nodes ends in
      let single : (p : ℕ) → times p (xs ++ x ∷ ys) ≤ 1 = λ p. let most = once nodes ends free (xs ++ x ∷ ys) unused [] holds p in omega arith in
      let nowhere = end_nowhere nodes ends free (xs ++ x ∷ ys) unused [] holds in
      let halves = path_split f g END xs x ys END holds.path in
      let last = last_there f g END xs x halves.0 in
      let off_last : (p : ℕ) → 0 < times p unused → p ≢ g x = λ p there same.
      let most = once nodes ends free (xs ++ x ∷ ys) unused [] holds p in
      let here : 0 < times p (END ∷ xs) = subst (λ q. 0 < times q (END ∷ xs)) (sym same) last in
      elim (at_head p END xs) [
        | inl at_end ↦ not_end nodes ends free (xs ++ x ∷ ys) unused [] holds p (omega arith) at_end.0
        | inr inside ↦ omega (arith, times-append p xs (x ∷ ys))
      ] in
      record {
        path = path_without f g (next_of new new_ends) (prev_of new new_ends) END xs x ys single (omega arith) joins.next joins.prev holds.path;
        hanging = runs_kept f (next_of new new_ends) free unused END (λ p there. becomes_other f (next_of new new_ends) (g x) (f x) p joins.next (off_last p there)) holds.hanging;
        others = λ p. rw same_length (let here = holds.others p in omega (arith, times-append p xs (x ∷ ys), times-append p xs ys, times-append p (x ∷ []) ys));
        filled = λ p there. rw (joins.value p) (holds.filled p (omega (arith, times-append p xs (x ∷ ys), times-append p xs ys, below-head p x ys)));
        blank = λ p there. joins.value p ∙ holds.blank p there;
        room = rw same_length holds.room;
      }

  -- the node at x, which was out, is the last of the chain
  pub attached : (nodes : List (Node T)) (ends : Ends) (new : List (Node T)) (new_ends : Ends) (free : ℕ) (places : List ℕ) (x : ℕ) (unused : List ℕ) → Appends nodes ends new new_ends x → length new ≡ length nodes → IsSome (value_at nodes x) → Holds nodes ends free places unused (x ∷ []) → Holds new new_ends free (places ++ x ∷ []) unused []
  attached nodes ends new new_ends free places x unused appends same_length has_value holds =
      let f = next_of nodes ends in
      let g = prev_of nodes ends in
      let f1 = next_of appends.middle appends.middle_ends in
      let g1 = prev_of appends.middle appends.middle_ends in
      let f2 = next_of new new_ends in
      let g2 = prev_of new new_ends in
      let nowhere = end_nowhere nodes ends free places unused (x ∷ []) holds in
      let x_once = once nodes ends free places unused (x ∷ []) holds x in
      let x_here = times-here x x [] refl in
      let single : (p : ℕ) → times p (END ∷ places) ≤ 1 = λ p.
      let most = once nodes ends free places unused (x ∷ []) holds p in
      elim (at_head p END places) [
        | inl same ↦ let none : times p places ≡ 0 = rw same.0 (omega arith) in omega arith
        | inr other ↦ omega arith
      ] in
      let x_not_end = not_end nodes ends free places unused (x ∷ []) holds x (omega arith) in
      let no_x : times x (END ∷ places) ≡ 0 = omega (arith, times-apart x END places x_not_end) in
      let last = last_there f g END places END holds.path in
      let off : (p : ℕ) → 0 < times p unused → f2 p ≡ f p = λ p there.
      let most = once nodes ends free places unused (x ∷ []) holds p in
      let not_x : p ≢ x = λ same. omega (arith, times-here p x [] same) in
      let not_last : p ≢ g END = λ same.
      let here : 0 < times p (END ∷ places) = subst (λ q. 0 < times q (END ∷ places)) (sym same) last in
      elim (at_head p END places) [
        | inl at_end ↦ not_end nodes ends free places unused (x ∷ []) holds p (omega arith) at_end.0
        | inr inside ↦ omega arith
      ] in
      becomes_other f1 f2 x END p appends.at_end.next not_x ∙ becomes_other f f1 (g END) x p appends.after_last.next not_last in
      let value : (p : ℕ) → value_at new p ≡ value_at nodes p = λ p. appends.at_end.value p ∙ appends.after_last.value p in
      record {
        path = path_push f g f1 g1 f2 g2 END places x single no_x appends.after_last.next appends.after_last.prev appends.at_end.next appends.at_end.prev holds.path;
        hanging = runs_kept f f2 free unused END off holds.hanging;
        others = λ p. rw same_length (let here = holds.others p in omega (arith, times-append p places (x ∷ [])));
        filled = λ p there.
            rw (value p) (elim (at_head p x []) [
              | inl same ↦ rw same.0 has_value
              | inr other ↦ holds.filled p (omega (arith, times-append p places (x ∷ [])))
            ]);
        blank = λ p there. value p ∙ holds.blank p there;
        room = rw same_length holds.room;
      }

  -- a node that is out of both may change
  pub rewritten : (nodes : List (Node T)) (ends : Ends) (new : List (Node T)) (free : ℕ) (places unused : List ℕ) (x : ℕ) → ((p : ℕ) → p ≢ x → node_at new p ≡ node_at nodes p) → length new ≡ length nodes → Holds nodes ends free places unused (x ∷ []) → Holds new ends free places unused (x ∷ [])
  rewritten nodes ends new free places unused x same same_length holds =
      let f = next_of nodes ends in
      let g = prev_of nodes ends in
      let off : (p : ℕ) → 0 < times p places + times p unused → p ≢ x = λ p there equal. let most = once nodes ends free places unused (x ∷ []) holds p in omega (arith, times-here p x [] equal) in
      let next : (p : ℕ) → p ≢ x → next_of new ends p ≡ f p = λ p other. ap (λ node. cond (eqb p END) ends.front node.next) (same p other) in
      let prev : (p : ℕ) → p ≢ x → prev_of new ends p ≡ g p = λ p other. ap (λ node. cond (eqb p END) ends.back node.prev) (same p other) in
      record {
        path = path_kept f g (next_of new ends) (prev_of new ends) END places END refl (λ p there. next p (off p (omega arith))) (λ p there. prev p (off p (omega arith))) refl holds.path;
        hanging = runs_kept f (next_of new ends) free unused END (λ p there. next p (off p (omega arith))) holds.hanging;
        others = λ p. rw same_length (holds.others p);
        filled = λ p there. let equal = ap (λ node. node.value) (same p (off p (omega arith))) in rw (equal) (holds.filled p there);
        blank = λ p there. ap (λ node. node.value) (same p (off p (omega arith))) ∙ holds.blank p there;
        room = rw same_length holds.room;
      }

  -- the node at x, which was out, hangs before the free ones
  pub hung : (nodes : List (Node T)) (ends : Ends) (free : ℕ) (places unused : List ℕ) (x : ℕ) → (node_at nodes x).next ≡ free → value_at nodes x ≡ None → Holds nodes ends free places unused (x ∷ []) → Holds nodes ends x places (x ∷ unused) []
  hung nodes ends free places unused x next no_value holds =
      let x_here = times-here x x [] refl in
      let x_not_end = not_end nodes ends free places unused (x ∷ []) holds x (omega arith) in
      let step : next_of nodes ends x ≡ free = rw (ne_eqb x END x_not_end) next in
      record {
        path = holds.path;
        hanging = (refl, rw step holds.hanging);
        others = λ p. let here = holds.others p in omega (arith, times-append p (x ∷ []) unused);
        filled = holds.filled;
        blank = λ p there.
            elim (at_head p x unused) [
              | inl same ↦ rw same.0 no_value
              | inr other ↦ holds.blank p (omega arith)
            ];
        room = holds.room;
      }

  -- the first free node is out
  pub unhung : (nodes : List (Node T)) (ends : Ends) (free : ℕ) (places unused : List ℕ) (x : ℕ) → Holds nodes ends free places (x ∷ unused) [] → (free ≡ x) × (value_at nodes x ≡ None) × Holds nodes ends (node_at nodes x).next places unused (x ∷ [])
  unhung nodes ends free places unused x holds =
      let x_here = times-here x x unused refl in
      let x_not_end = not_end nodes ends free places (x ∷ unused) [] holds x (omega arith) in
      let step : next_of nodes ends x ≡ (node_at nodes x).next = rw (ne_eqb x END x_not_end) in (
        holds.hanging.0,
        holds.blank x (omega arith),
        record {
          path = holds.path;
          hanging = rw (← step) holds.hanging.1;
          others = λ p. let here = holds.others p in omega (arith, times-append p (x ∷ []) unused);
          filled = holds.filled;
          blank = λ p there. holds.blank p (omega (arith, below-head p x unused));
          room = holds.room;
        },
      )

  -- one more node, which is out
  pub grown : (nodes : List (Node T)) (ends : Ends) (node : Node T) (free : ℕ) (places unused : List ℕ) → length nodes + 1 < END → Holds nodes ends free places unused [] → Holds (nodes ++ node ∷ []) ends free places unused (length nodes ∷ [])
  grown nodes ends node free places unused room holds =
      let f = next_of nodes ends in
      let g = prev_of nodes ends in
      let new = nodes ++ node ∷ [] in
      let longer : length new ≡ length nodes + 1 = omega (arith, length-append nodes (node ∷ [])) in
      let same : (p : ℕ) → p < length nodes → node_at new p ≡ node_at nodes p = λ p below. get_or_append_left nodes (node ∷ []) _ p below in
      let inside : (p : ℕ) → 0 < times p places + times p unused → p < length nodes = λ p there. is_node nodes ends free places unused [] holds p (omega arith) in
      let next : (p : ℕ) → p < length nodes → next_of new ends p ≡ f p = λ p below. ap (λ node. cond (eqb p END) ends.front node.next) (same p below) in
      let prev : (p : ℕ) → p < length nodes → prev_of new ends p ≡ g p = λ p below. ap (λ node. cond (eqb p END) ends.back node.prev) (same p below) in
      record {
        path = path_kept f g (next_of new ends) (prev_of new ends) END places END refl (λ p there. next p (inside p (omega arith))) (λ p there. prev p (inside p (omega arith))) refl holds.path;
        hanging = runs_kept f (next_of new ends) free unused END (λ p there. next p (inside p (omega arith))) holds.hanging;
        others = λ p. rw longer (let here = holds.others p in let one_more = one_longer p (length nodes) in omega arith);
        filled = λ p there. let equal = ap (λ node. node.value) (same p (inside p (omega arith))) in rw (equal) (holds.filled p there);
        blank = λ p there. ap (λ node. node.value) (same p (inside p (omega arith))) ∙ holds.blank p there;
        room = rw longer room;
      }
