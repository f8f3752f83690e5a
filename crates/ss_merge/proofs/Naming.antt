-- Names by a map of pairs, and trees by other names.
use Rattle.std.proofs.Common.{◌≡◌, ◌⊎◌, ◌+◌, ◌<◌, ◌≤◌, ℕ, zero, suc, Bool, true, false, cond, ◌||◌, List, [], ◌∷◌, ◌++◌}
use Rattle.std.proofs.Common.{length, map, find, take, take_all, get_or, bytes_eq, Option, Some, None, is_some}
use Rattle.std.proofs.Common.{option_map, refl, sym, ap, ap₂, subst, ◌∙◌, inl, inr, arith, is_eq, Less}
use Rattle.std.proofs.lemmas.List.{take_more}
use Rattle.std.specs.List.{AllByRecursion}
use Rattle.std.specs.List.Sorted.{IsStrictlySortedBy}
use Rattle.std.specs.Cmp.Lexicographic.{texts_ties}
use Rattle.std.specs.Map.{lookup}
use Rattle.ss_text.specs.Texts.{text_cmp}
use Rattle.ss_record.specs.Ids.{Apart, has}
use Rattle.ss_record.proofs.IdLists.{has-nil, has-cons, has-head, has-tail, Apart-head, Apart-tail}
use Rattle.ss_tree.specs.Trees.{IsValidTree, PlacedItem, node}
use Rattle.ss_dupe.specs.Looks.{Id, Look, look, is_in}
use Rattle.ss_dupe.specs.Sides.{sides}
use Rattle.ss_dupe.specs.Pairs.{ArePairs}
use Rattle.ss_dupe.specs.Renaming.{renamed_id, tree_renamed, renamed_item}
use Rattle.ss_dupe.specs.Plains.{placed_at}
use Rattle.ss_dupe.specs.declared.plain.Seat.{Seat}
use Rattle.ss_dupe.proofs.Basics.{false_from, has-cases}
use Rattle.ss_dupe.proofs.Shapes.{in-of_none, of-in, shape}
use Rattle.ss_dupe.proofs.Renamed.{names_apart, look-renamed, from-renamed}
use Rattle.ss_merge.specs.Links.{AreNames, NamesAnew, TakesIn, by_map, look_by, or_else}
use Rattle.ss_merge.proofs.Holding.{has-more}
use Rattle.std.proofs.lemmas.Bool.{cases_Bool}
use Rattle.ss_dupe.proofs.Newness.{has-at}
use Rattle.ss_text.proofs.Basics.{bytes_eq-sym, same_text, bytes_eq-same, no_way}

-- ---- a map of pairs

not_below : (x : Id) (xs : List Id) → AllByRecursion (λ y. text_cmp x y ≡ Less) xs → has x xs ≡ false
not_below x [] h = has-nil x
not_below x (y ∷ ys) h = has-cons x y ys ∙ ap₂ (λ a b. a || b) (texts_ties x y ∙ ap is_eq h.0) (not_below x ys h.1)

pub apart_sorted : (xs : List Id) → IsStrictlySortedBy text_cmp xs → Apart xs
unfolding IsStrictlySortedBy Apart
apart_sorted [] h = tt
apart_sorted (x ∷ xs) h = (not_below x xs h.0, apart_sorted xs h.1)

key_in : (ps : List (Id × Id)) (i : ℕ) (p : Id × Id) → i < length ps → p ≡ get_or ps i p → has p.0 (map (λ q. q.0) ps) ≡ true
key_in [] i p lt e = absurd (omega arith)
key_in (q ∷ ps) zero p lt e = has-cons p.0 q.0 (map (λ q. q.0) ps) ∙ ap (λ b. b || has p.0 (map (λ q. q.0) ps)) (bytes_eq-same p.0 q.0 (ap (λ (z : Id × Id). z.0) e))
key_in (q ∷ ps) (suc i) p lt e = has-cons p.0 q.0 (map (λ q. q.0) ps) ∙ ap (λ b. bytes_eq p.0 q.0 || b) (key_in ps i p (omega arith) e) ∙ or_true (bytes_eq p.0 q.0)
  where
    or_true : (b : Bool) → (b || true) ≡ true
    or_true true = refl
    or_true false = refl

fresh_key : (ps : List (Id × Id)) (i : ℕ) (p : Id × Id) → Apart (map (λ q. q.0) ps) → i < length ps → p ≡ get_or ps i p → has p.0 (map (λ q. q.0) (take i ps)) ≡ false
fresh_key [] i p a lt e = absurd (omega arith)
fresh_key (q ∷ ps) zero p a lt e = has-nil p.0
fresh_key (q ∷ ps) (suc i) p a lt e =
    has-cons p.0 q.0 (map (λ q. q.0) (take i ps))
    ∙ ap₂ (λ b c. b || c) (false_from (bytes_eq p.0 q.0) (λ h.
    no_way (has q.0 (map (λ q. q.0) ps)) (ap (λ z. has z (map (λ q. q.0) ps)) (sym (same_text p.0 q.0 h)) ∙ key_in ps i p (omega arith) e) (Apart-head q.0 (map (λ q. q.0) ps) a)))
    (fresh_key ps i p (Apart-tail q.0 (map (λ q. q.0) ps) a) (omega arith) e)

lookup_end : (x : Id) (ps : List (Id × Id)) (k v : Id) → has k (map (λ q. q.0) ps) ≡ false → lookup (bytes_eq x) (ps ++ (k, v) ∷ []) ≡ cond (bytes_eq x k) (Some v) (lookup (bytes_eq x) ps)
lookup_end x [] k v h = refl
lookup_end x (q ∷ ps) k v h = cases (bytes_eq x q.0) refl (lookup_end x ps k v (rest (bytes_eq k q.0) (has k (map (λ q. q.0) ps)) (sym (has-cons k q.0 (map (λ q. q.0) ps)) ∙ h)))
  where
    rest : (a b : Bool) → (a || b) ≡ false → b ≡ false
    rest true b e = cc
    rest false b e = e

    first : (a b : Bool) → (a || b) ≡ false → a ≡ false
    first true b e = e
    first false b e = refl

    other : bytes_eq x q.0 ≡ true → bytes_eq x k ≡ false
    other e = ap (λ z. bytes_eq z k) (same_text x q.0 e) ∙ bytes_eq-sym q.0 k ∙ first (bytes_eq k q.0) (has k (map (λ q. q.0) ps)) (sym (has-cons k q.0 (map (λ q. q.0) ps)) ∙ h)

    cases : (b : Bool) → bytes_eq x q.0 ≡ b → lookup (bytes_eq x) (ps ++ (k, v) ∷ []) ≡ cond (bytes_eq x k) (Some v) (lookup (bytes_eq x) ps)
        → cond b (Some q.1) (lookup (bytes_eq x) (ps ++ (k, v) ∷ [])) ≡ cond (bytes_eq x k) (Some v) (cond b (Some q.1) (lookup (bytes_eq x) ps))
    cases true e more = sym (ap (λ c. cond c (Some v) (Some q.1)) (other e))
    cases false e more = more

pub names_more : (g h : Id → Option Id) (ps : List (Id × Id)) (i : ℕ) (p : Id × Id) (k v : Id) → Apart (map (λ q. q.0) ps) → i < length ps → p ≡ get_or ps i p → k ≡ p.0 → v ≡ p.1
    → ((x : Id) → g x ≡ lookup (bytes_eq x) (take i ps)) → ((x : Id) → h x ≡ cond (bytes_eq k x) (Some v) (g x)) → (x : Id) → h x ≡ lookup (bytes_eq x) (take (i + 1) ps)
names_more g h ps i p k v a lt e ek ev before put x =
    put x ∙ ap (λ o. cond (bytes_eq k x) (Some v) o) (before x)
    ∙ ap₂ (λ z w. cond (bytes_eq z x) (Some w) (lookup (bytes_eq x) (take i ps))) ek ev
    ∙ ap (λ b. cond b (Some p.1) (lookup (bytes_eq x) (take i ps))) (bytes_eq-sym p.0 x)
    ∙ sym (ap (lookup (bytes_eq x)) (take_more ps i p lt ∙ ap (λ z. take i ps ++ z ∷ []) (sym e)) ∙ lookup_end x (take i ps) p.0 p.1 (fresh_key ps i p a lt e))

pub names_all : (g : Id → Option Id) (ps : List (Id × Id)) (i : ℕ) → length ps ≤ i → ((x : Id) → g x ≡ lookup (bytes_eq x) (take i ps)) → (x : Id) → g x ≡ lookup (bytes_eq x) ps
names_all g ps i le h x = h x ∙ ap (lookup (bytes_eq x)) (take_all i ps le)

-- ---- a tree by other names, item by item

in_same : (a b : Look) (q : Id) → a q ≡ b q → is_in a q ≡ true → is_in b q ≡ true
unfolding is_in
in_same a b q e h = ap is_some (sym e) ∙ h

is_none : (f : Look) (z : Id) → is_in f z ≡ false → f z ≡ None
unfolding is_in
is_none f z h = none (f z) h
  where
    none : (o : Option PlacedItem) → is_some o ≡ false → o ≡ None
    none None h = refl
    none (Some n) h = cc

in_some : (f : Look) (q z : Id) (n : PlacedItem) → f z ≡ Some n → q ≡ z → is_in f q ≡ true
unfolding is_in
in_some f q z n e k = ap is_some (ap f k ∙ e)

pub record SoFar (t : Look) (name : Id → Id) (u : Look) (seen : List Id) : Type 0 where
  pub named : (x : Id) → has x seen ≡ true → u (name x) ≡ option_map (renamed_item name) (t x)
  pub from : (q : Id) → is_in u q ≡ true → (x : Id) × (has x seen ≡ true) × (q ≡ name x)

none_so_far : (t : Look) (name : Id → Id) (u : Look) → ((x : Id) → u x ≡ None) → SoFar t name u []
none_so_far t name u none = record {
  named = λ x h. no_way (has x []) h (has-nil x);
  from = λ q h. no_way (is_in u q) h (in-of_none u q (none q));
}

-- an id that was met before
met_again : (t : Look) (name : Id → Id) (u : Look) (ids : List Id) (i : ℕ) (y : Id) → i < length ids → y ≡ get_or ids i y → has y (take i ids) ≡ true → SoFar t name u (take i ids) → SoFar t name u (take (i + 1) ids)
met_again t name u ids i y lt e there s = record {
  named = λ x h. s.named x (cases x (has x (take i ids)) refl (bytes_eq x y) refl (sym (has-more x y ids i lt e) ∙ h));
  from = λ q h. let f = s.from q h in (f.0, has-more f.0 y ids i lt e ∙ ap (λ b. b || bytes_eq f.0 y) f.1, f.2);
}
  where
    cases : (x : Id) (a : Bool) → has x (take i ids) ≡ a → (b : Bool) → bytes_eq x y ≡ b → (has x (take i ids) || bytes_eq x y) ≡ true → has x (take i ids) ≡ true
    cases x true p b q h = p
    cases x false p true q h = ap (λ z. has z (take i ids)) (same_text x y q) ∙ there
    cases x false p false q h = let no : (has x (take i ids) || bytes_eq x y) ≡ false = ap₂ (λ c d. c || d) p q in cc

one_more : (t : Look) (name : Id → Id) (u v : Look) (ids : List Id) (i : ℕ) (y : Id) (n : PlacedItem) → AreNames t name → ((x : Id) → has x ids ≡ is_in t x) → i < length ids → y ≡ get_or ids i y
    → Some n ≡ option_map (renamed_item name) (t y) → ((x : Id) → v x ≡ cond (bytes_eq (name y) x) (Some n) (u x)) → SoFar t name u (take i ids) → SoFar t name v (take (i + 1) ids)
one_more t name u v ids i y n names are lt e given at s = record {
  named = λ x h. named x (cases_Bool (bytes_eq (name y) (name x))) h;
  from = λ q h. from q (cases_Bool (bytes_eq (name y) q)) h;
}
  where
    inside : is_in t y ≡ true
    inside = sym (are y) ∙ has-at ids i y lt e

    or_rest : (a b : Bool) → (a || b) ≡ true → b ≡ false → a ≡ true
    or_rest true b e f = refl
    or_rest false b e f = cc (e, f)

    inside_of : (x : Id) → has x (take (i + 1) ids) ≡ true → is_in t x ≡ true
    inside_of x h = sym (are x) ∙ has_taken x ids (i + 1) h
      where
        has_taken : (x : Id) (xs : List Id) (j : ℕ) → has x (take j xs) ≡ true → has x xs ≡ true
        has_taken x [] zero h = h
        has_taken x [] (suc j) h = h
        has_taken x (z ∷ zs) zero h = no_way (has x []) h (has-nil x)
        has_taken x (z ∷ zs) (suc j) h = has-cons x z zs ∙ over (bytes_eq x z) (has x (take j zs)) (has x zs) (has_taken x zs j) (sym (has-cons x z (take j zs)) ∙ h)
          where
            over : (a b c : Bool) → (b ≡ true → c ≡ true) → (a || b) ≡ true → (a || c) ≡ true
            over true b c f h = refl
            over false b c f h = f h

    named : (x : Id) → (bytes_eq (name y) (name x) ≡ true) ⊎ (bytes_eq (name y) (name x) ≡ false) → has x (take (i + 1) ids) ≡ true → v (name x) ≡ option_map (renamed_item name) (t x)
    named x (inl hit) h =
        let same = names.apart y x inside (inside_of x h) (same_text (name y) (name x) hit) in
        at (name x) ∙ ap (λ b. cond b (Some n) (u (name x))) hit ∙ given ∙ ap (λ z. option_map (renamed_item name) (t z)) same
    named x (inr miss) h =
        at (name x) ∙ ap (λ b. cond b (Some n) (u (name x))) miss
        ∙ s.named x (or_rest (has x (take i ids)) (bytes_eq x y) (sym (has-more x y ids i lt e) ∙ h)
        (false_from (bytes_eq x y) (λ f. no_way (bytes_eq (name y) (name x)) (bytes_eq-same (name y) (name x) (ap name (sym (same_text x y f)))) miss)))

    or_true : (b : Bool) → (b || true) ≡ true
    or_true true = refl
    or_true false = refl

    from : (q : Id) → (bytes_eq (name y) q ≡ true) ⊎ (bytes_eq (name y) q ≡ false) → is_in v q ≡ true → (x : Id) × (has x (take (i + 1) ids) ≡ true) × (q ≡ name x)
    from q (inl hit) h = (y, has-more y y ids i lt e ∙ ap (λ b. has y (take i ids) || b) (bytes_eq-same y y refl) ∙ or_true (has y (take i ids)), sym (same_text (name y) q hit))
    from q (inr miss) h =
        let f = s.from q (in_same v u q (at q ∙ ap (λ b. cond b (Some n) (u q)) miss) h) in
        (f.0, has-more f.0 y ids i lt e ∙ ap (λ b. b || bytes_eq f.0 y) f.1, f.2)

renamed_all : (t : Look) (name : Id → Id) (u : Look) (ids : List Id) (i : ℕ) → ((x : Id) → has x ids ≡ is_in t x) → length ids ≤ i → SoFar t name u (take i ids) → NamesAnew t name u
renamed_all t name u ids i are le s =
    let w = subst (SoFar t name u) (take_all i ids le) s in
    record { named = λ x h. w.named x (are x ∙ h); from = λ q h. let f = w.from q h in (f.0, sym (are f.0) ∙ f.1, f.2) }

-- ---- items that are moved from a map to one by other names

pub record Moved (name : Id → Id) (first rest : Id → Option Seat) (u : Look) (seen : List Id) : Type 0 where
  pub done : SoFar (look_by first) name u seen
  pub left : (x : Id) → rest x ≡ cond (has x seen) None (first x)

pub none_moved : (name : Id → Id) (first : Id → Option Seat) (u : Look) → ((x : Id) → u x ≡ None) → Moved name first first u []
none_moved name first u none = record { done = none_so_far (look_by first) name u none; left = λ x. sym (ap (λ b. cond b None (first x)) (has-nil x)) }

pub one_moved : (name : Id → Id) (first rest later : Id → Option Seat) (u v : Look) (ids : List Id) (i : ℕ) (y : Id) → AreNames (look_by first) name → ((x : Id) → has x ids ≡ is_in (look_by first) x) → i < length ids → y ≡ get_or ids i y
    → ((x : Id) → later x ≡ cond (bytes_eq y x) None (rest x)) → TakesIn name y (look_by rest) u v → Moved name first rest u (take i ids) → Moved name first later v (take (i + 1) ids)
one_moved name first rest later u v ids i y names are lt e gone takes m = record { done = done (rest y) refl (has y (take i ids)) refl; left = left }
  where
    merge : (a b : Bool) (o : Option Seat) → cond b None (cond a None o) ≡ cond (a || b) None o
    merge true true o = refl
    merge true false o = refl
    merge false true o = refl
    merge false false o = refl

    left : (x : Id) → later x ≡ cond (has x (take (i + 1) ids)) None (first x)
    left x =
        gone x ∙ ap (cond (bytes_eq y x) None) (m.left x) ∙ merge (has x (take i ids)) (bytes_eq y x) (first x)
        ∙ ap (λ b. cond (has x (take i ids) || b) None (first x)) (bytes_eq-sym y x) ∙ sym (ap (λ b. cond b None (first x)) (has-more x y ids i lt e))

    first_at : has y (take i ids) ≡ false → first y ≡ rest y
    first_at h = sym (m.left y ∙ ap (λ b. cond b None (first y)) h)

    stays : rest y ≡ None → (x : Id) → v x ≡ u x
    stays q x = takes x ∙ ap (λ o. cond (bytes_eq (name y) x) (or_else (option_map (renamed_item name) (option_map placed_at o)) (u x)) (u x)) q ∙ same (bytes_eq (name y) x)
      where
        same : (b : Bool) → cond b (u x) (u x) ≡ u x
        same true = refl
        same false = refl

    done : (o : Option Seat) → rest y ≡ o → (b : Bool) → has y (take i ids) ≡ b → SoFar (look_by first) name v (take (i + 1) ids)
    done None q true h = met_again (look_by first) name v ids i y lt e h (subst (λ w. SoFar (look_by first) name w (take i ids)) (λ j x. sym (stays q x) j) m.done)
    done None q false h =
        no_way (is_in (look_by first) y) (sym (are y) ∙ has-at ids i y lt e) (in-of_none (look_by first) y (ap (option_map placed_at) (first_at h ∙ q)))
    done (Some s) q true h = let none : rest y ≡ None = m.left y ∙ ap (λ b. cond b None (first y)) h in cc
    done (Some s) q false h =
        one_more (look_by first) name u v ids i y (renamed_item name (placed_at s)) names are lt e
        (sym (ap (λ o. option_map (renamed_item name) (option_map placed_at o)) (first_at h ∙ q)))
        (λ x. takes x ∙ ap (λ o. cond (bytes_eq (name y) x) (or_else (option_map (renamed_item name) (option_map placed_at o)) (u x)) (u x)) q) m.done

pub all_moved : (name : Id → Id) (first rest : Id → Option Seat) (u : Look) (ids : List Id) (i : ℕ) → ((x : Id) → has x ids ≡ is_in (look_by first) x) → length ids ≤ i → Moved name first rest u (take i ids) → NamesAnew (look_by first) name u
all_moved name first rest u ids i are le m = renamed_all (look_by first) name u ids i are le m.done

-- one item that is put in
pub takes_some : (name : Id → Id) (y : Id) (t old new : Look) (k : Id) (p n : PlacedItem) → k ≡ name y → t y ≡ Some p → n ≡ renamed_item name p → ((x : Id) → new x ≡ cond (bytes_eq k x) (Some n) (old x)) → TakesIn name y t old new
takes_some name y t old new k p n key there is put x =
    put x ∙ ap₂ (λ z m. cond (bytes_eq z x) (Some m) (old x)) key is ∙ sym (ap (λ o. cond (bytes_eq (name y) x) (or_else (option_map (renamed_item name) o) (old x)) (old x)) there)

pub takes_none : (name : Id → Id) (y : Id) (t old : Look) → t y ≡ None → TakesIn name y t old old
takes_none name y t old none x = sym (ap (λ o. cond (bytes_eq (name y) x) (or_else (option_map (renamed_item name) o) (old x)) (old x)) none ∙ same (bytes_eq (name y) x))
  where
    same : (b : Bool) → cond b (old x) (old x) ≡ old x
    same true = refl
    same false = refl

-- the ids by other names are those of the tree by them
pub ids_renamed : (t : Look) (name : Id → Id) (u : Look) (ids : List Id) → ((x : Id) → has x ids ≡ is_in t x) → NamesAnew t name u → (q : Id) → has q (map name ids) ≡ is_in u q
ids_renamed t name u ids are is q = both (has q (map name ids)) (is_in u q) to from
  where
    both : (a b : Bool) → (a ≡ true → b ≡ true) → (b ≡ true → a ≡ true) → a ≡ b
    both true b f g = sym (f refl)
    both false true f g = g refl
    both false false f g = refl

    found : (xs : List Id) → has q (map name xs) ≡ true → (x : Id) × (has x xs ≡ true) × (q ≡ name x)
    found [] h = no_way (has q []) h (has-nil q)
    found (x ∷ xs) h = elim (has-cases q (name x) (map name xs) h) [
      | inl k ↦ (x, has-head x xs, k)
      | inr k ↦ let f = found xs k in (f.0, has-tail f.0 x xs f.1, f.2)
    ]

    put : (x : Id) (xs : List Id) → has x xs ≡ true → has (name x) (map name xs) ≡ true
    put x [] h = no_way (has x []) h (has-nil x)
    put x (z ∷ zs) h = elim (has-cases x z zs h) [
      | inl k ↦ ap (λ w. has (name w) (map name (z ∷ zs))) k ∙ has-head (name z) (map name zs)
      | inr k ↦ has-tail (name x) (name z) (map name zs) (put x zs k)
    ]

    to : has q (map name ids) ≡ true → is_in u q ≡ true
    to h =
        let f = found ids h in
        let there : is_in t f.0 ≡ true = sym (are f.0) ∙ f.1 in
        let m = of-in t f.0 there in
        in_some u q (name f.0) (renamed_item name m.0) (is.named f.0 there ∙ ap (option_map (renamed_item name)) m.1) f.2

    from : is_in u q ≡ true → has q (map name ids) ≡ true
    from h = let f = is.from q h in ap (λ w. has w (map name ids)) f.2 ∙ put f.0 ids (are f.0 ∙ f.1)

-- ---- the renamed local tree

node_own : (t : List PlacedItem) (x : Id) (n : PlacedItem) → node x t ≡ Some n → n.id ≡ x
unfolding node
node_own [] x n e = cc
node_own (m ∷ ms) x n e = cases (bytes_eq x m.id) refl e (λ k. node_own ms x n k)
  where
    cases : (b : Bool) → bytes_eq x m.id ≡ b → cond b (Some m) (find (λ k. bytes_eq x k.id) ms) ≡ Some n → (find (λ k. bytes_eq x k.id) ms ≡ Some n → n.id ≡ x) → n.id ≡ x
    cases true h k more = let same : m ≡ n = cc in ap (λ (z : PlacedItem). z.id) (sym same) ∙ sym (same_text x m.id h)
    cases false h k more = more k

pub are_names : (m l r : List PlacedItem) (x y : List Id) (pairs : List (Id × Id)) (t : Look) (g : Id → Option Id) → IsValidTree l → IsValidTree r → ArePairs (sides m l r x y) pairs
    → ((z : Id) → t z ≡ look l z) → ((z : Id) → g z ≡ lookup (bytes_eq z) pairs) → AreNames t (by_map g)
are_names m l r x y pairs t g vl vr a looks names =
    subst (λ f. AreNames f (by_map g)) (λ i z. sym (looks z) i)
    (subst (λ h. AreNames (look l) (by_map h)) (λ i z. sym (names z) i)
    (record { apart = names_apart (sides m l r x y) (shape l vl) (shape r vr) pairs a; own = λ z n e. node_own l z n e }))

pub renamed_look : (l : List PlacedItem) (pairs : List (Id × Id)) (t u : Look) (g : Id → Option Id) → ((z : Id) → t z ≡ look l z) → ((z : Id) → g z ≡ lookup (bytes_eq z) pairs) → AreNames t (by_map g)
    → NamesAnew t (by_map g) u → (q : Id) → u q ≡ look (tree_renamed (renamed_id pairs) l) q
renamed_look l pairs t u g looks names are is q = by_parts (subst (λ f. AreNames f (by_map g)) (λ i z. looks z i) are) (subst (λ f. NamesAnew f (by_map g) u) (λ i z. looks z i) is)
  where
    by_parts : AreNames (look l) (by_map g) → NamesAnew (look l) (by_map g) u → u q ≡ look (tree_renamed (renamed_id pairs) l) q
    by_parts a s = by_names (subst (λ h. AreNames (look l) (by_map h)) (λ i z. names z i) a) (subst (λ h. NamesAnew (look l) (by_map h) u) (λ i z. names z i) s)
      where
        by_names : AreNames (look l) (renamed_id pairs) → NamesAnew (look l) (renamed_id pairs) u → u q ≡ look (tree_renamed (renamed_id pairs) l) q
        by_names b w = cases (cases_Bool (is_in u q)) (cases_Bool (is_in (look (tree_renamed (renamed_id pairs) l)) q))
          where
            both : (x : Id) → is_in (look l) x ≡ true → q ≡ renamed_id pairs x → u q ≡ look (tree_renamed (renamed_id pairs) l) q
            both x h e = ap u e ∙ w.named x h ∙ sym (look-renamed l (renamed_id pairs) b.apart x h) ∙ sym (ap (look (tree_renamed (renamed_id pairs) l)) e)

            cases : (is_in u q ≡ true) ⊎ (is_in u q ≡ false) → (is_in (look (tree_renamed (renamed_id pairs) l)) q ≡ true) ⊎ (is_in (look (tree_renamed (renamed_id pairs) l)) q ≡ false) → u q ≡ look (tree_renamed (renamed_id pairs) l) q
            cases (inl h) _ = let f = w.from q h in both f.0 f.1 f.2
            cases (inr h) (inl k) = let f = from-renamed l (renamed_id pairs) b.apart q k in both f.0 f.1 f.2
            cases (inr h) (inr k) = is_none u q h ∙ sym (is_none (look (tree_renamed (renamed_id pairs) l)) q k)
