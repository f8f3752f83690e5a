-- Words ask for one thing at most.
use Rattle.std.proofs.Common.{◌≡◌, ◌≤◌, ◌-◌, ℕ, zero, suc, List, [], ◌∷◌, Option, Some, None, IfNone, map, drop, take}
use Rattle.std.proofs.Common.{length, arith, true, false, refl, sym, ap, ◌∙◌, inl, inr, subst}
use Rattle.std.specs.Prelude.{codes}
use Rattle.ss_route.specs.Targets.{uid_of}
use Rattle.ss_words.specs.Lines.{is_dashed}
use Rattle.ss_run_move.specs.declared.words.Verb.{Verb}
use Rattle.ss_run_move.specs.declared.words.Verb.TheVariants.{Dump, Restore}
use Rattle.ss_run_move.specs.Asked.{AreTwo, Asks, AsksBehind, name_of}

one_name : (verb other : Verb) → name_of verb ≡ name_of other → verb ≡ other
unfolding name_of
one_name Dump Dump e = refl
one_name Restore Restore e = refl
one_name Dump Restore e = cc
one_name Restore Dump e = cc

-- a folder in front of `--` isn't `--`
not_dashes : (folder : List ℕ) → is_dashed folder ≡ false → codes "--" ≡ folder → ⊥
not_dashes folder plain e = let clash : true ≡ false = ap is_dashed e ∙ plain in cc

one_two : (words : List (List ℕ)) (f n g m : List ℕ) → AreTwo words f n → AreTwo words g m → (f ≡ g) × (n ≡ m)
one_two words f n g m (inl a) (inl b) = (cc, cc)
one_two words f n g m (inl a) (inr (p, inl b)) = absurd (let e : codes "--" ∷ f ∷ n ∷ [] ≡ g ∷ m ∷ [] = sym a ∙ b in cc)
one_two words f n g m (inl a) (inr (p, inr (inl b))) = absurd (not_dashes g p (let e : codes "--" ∷ f ∷ n ∷ [] ≡ g ∷ codes "--" ∷ m ∷ [] = sym a ∙ b in cc))
one_two words f n g m (inl a) (inr (p, inr (inr b))) = absurd (not_dashes g p (let e : codes "--" ∷ f ∷ n ∷ [] ≡ g ∷ m ∷ codes "--" ∷ [] = sym a ∙ b in cc))
one_two words f n g m (inr (q, inl a)) (inl b) = absurd (let e : f ∷ n ∷ [] ≡ codes "--" ∷ g ∷ m ∷ [] = sym a ∙ b in cc)
one_two words f n g m (inr (q, inl a)) (inr (p, inl b)) = (cc, cc)
one_two words f n g m (inr (q, inl a)) (inr (p, inr (inl b))) = absurd (let e : f ∷ n ∷ [] ≡ g ∷ codes "--" ∷ m ∷ [] = sym a ∙ b in cc)
one_two words f n g m (inr (q, inl a)) (inr (p, inr (inr b))) = absurd (let e : f ∷ n ∷ [] ≡ g ∷ m ∷ codes "--" ∷ [] = sym a ∙ b in cc)
one_two words f n g m (inr (q, inr (inl a))) (inl b) = absurd (not_dashes f q (let e : f ∷ codes "--" ∷ n ∷ [] ≡ codes "--" ∷ g ∷ m ∷ [] = sym a ∙ b in cc))
one_two words f n g m (inr (q, inr (inl a))) (inr (p, inl b)) = absurd (let e : f ∷ codes "--" ∷ n ∷ [] ≡ g ∷ m ∷ [] = sym a ∙ b in cc)
one_two words f n g m (inr (q, inr (inl a))) (inr (p, inr (inl b))) = (cc, cc)
one_two words f n g m (inr (q, inr (inl a))) (inr (p, inr (inr b))) =
    let e : f ∷ codes "--" ∷ n ∷ [] ≡ g ∷ m ∷ codes "--" ∷ [] = sym a ∙ b in (cc, cc)
one_two words f n g m (inr (q, inr (inr a))) (inl b) = absurd (not_dashes f q (let e : f ∷ n ∷ codes "--" ∷ [] ≡ codes "--" ∷ g ∷ m ∷ [] = sym a ∙ b in cc))
one_two words f n g m (inr (q, inr (inr a))) (inr (p, inl b)) = absurd (let e : f ∷ n ∷ codes "--" ∷ [] ≡ g ∷ m ∷ [] = sym a ∙ b in cc)
one_two words f n g m (inr (q, inr (inr a))) (inr (p, inr (inl b))) =
    let e : f ∷ n ∷ codes "--" ∷ [] ≡ g ∷ codes "--" ∷ m ∷ [] = sym a ∙ b in (cc, cc)
one_two words f n g m (inr (q, inr (inr a))) (inr (p, inr (inr b))) = (cc, cc)

pub one_request : (words : List (List ℕ)) (verb other : Verb) (folder another : List ℕ) (uid number : ℕ) → Asks words verb folder uid → Asks words other another number
    → (verb ≡ other) × (folder ≡ another) × (uid ≡ number)
one_request words verb other folder another uid number a b =
    let whole : name_of verb ∷ a.others ≡ name_of other ∷ b.others = sym a.words_are ∙ b.words_are in
    let name : name_of verb ≡ name_of other = cc in
    let others : a.others ≡ b.others = cc in
    let two = one_two a.others folder a.behind.number another b.behind.number a.behind.two (subst (λ (ws : List (List ℕ)). AreTwo ws another b.behind.number) (sym others) b.behind.two) in
    let same : Some uid ≡ Some number = sym a.behind.account ∙ (ap uid_of two.1 ∙ b.behind.account) in
    (one_name verb other name, two.0, cc)

all_taken : {X : Type 0} (xs : List X) (n : ℕ) → n ≡ length xs → take n xs ≡ xs
all_taken [] zero e = refl
all_taken [] (suc n) e = refl
all_taken (x ∷ xs) zero e = absurd (omega (arith, e))
all_taken (x ∷ xs) (suc n) e = ap (λ (ys : List _). x ∷ ys) (all_taken xs n (omega (arith, e)))

-- words ask for nothing where those behind the first one don't
pub none_asked : {X T : Type 0} (f : X → List ℕ) (xs : List X) (r : Option T) → 1 ≤ length xs
    → IfNone r ((folder : List ℕ) (uid : ℕ) → AsksBehind (map f (take (length xs - 1) (drop 1 xs))) folder uid → ⊥)
    → IfNone r ((verb : Verb) (folder : List ℕ) (uid : ℕ) → Asks (map f xs) verb folder uid → ⊥)
none_asked f xs (Some value) long none = none
none_asked f [] None long none = absurd (omega (arith, long))
none_asked f (x ∷ xs) None long none = λ verb folder uid a.
    let whole : f x ∷ map f xs ≡ name_of verb ∷ a.others = a.words_are in
    let tails : map f xs ≡ a.others = cc in
    let behind : length (x ∷ xs) - 1 ≡ length xs = omega arith in
    let taken : map f (take (length (x ∷ xs) - 1) xs) ≡ map f xs = ap (λ (ys : List _). map f ys) (all_taken xs (length (x ∷ xs) - 1) behind) in
    none folder uid (subst (λ (ws : List (List ℕ)). AsksBehind ws folder uid) (sym tails ∙ sym taken) a.behind)
