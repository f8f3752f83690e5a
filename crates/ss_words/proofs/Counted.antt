-- Values of options and accounts, taken one by one.
use Rattle.std.specs.Prelude.{◌≡◌, ℕ, ◌+◌, ◌<◌, zero, suc, true, false, cond, List, [], ◌∷◌, ◌++◌, length, get_or, map}
use Rattle.std.specs.Prelude.{filter, drop, Option, Some, None, is_some, bytes_eq, option_map, option_and_then, refl}
use Rattle.std.specs.Borrow.{Bor}
use Rattle.std.specs.Option.{option_to_list, option_copied}
use Rattle.std.proofs.Common.{sym, ap, ap₂, ◌∙◌, append_assoc, arith}
use Rattle.ss_route.specs.Targets.{uid_of}
use Rattle.ss_words.specs.declared.names.OptionName.{OptionName}
use Rattle.ss_words.specs.Names.{option_text}
use Rattle.ss_words.specs.Values.{values_in, once, uids_of}

-- the next option has the name that is looked for, or another
pub next_value : (option : OptionName) (pair : OptionName × List ℕ) (pairs : List (OptionName × List ℕ)) → bytes_eq (option_text pair.0) (option_text option) ≡ true
    → values_in option (pair ∷ pairs) ≡ pair.1 ∷ values_in option pairs
next_value option pair pairs e = ap (λ b. map (λ given. given.1) (cond b (pair ∷ filter (λ given. bytes_eq (option_text given.0) (option_text option)) pairs) (filter (λ given. bytes_eq (option_text given.0) (option_text option)) pairs))) e

pub other_value : (option : OptionName) (pair : OptionName × List ℕ) (pairs : List (OptionName × List ℕ)) → bytes_eq (option_text pair.0) (option_text option) ≡ false
    → values_in option (pair ∷ pairs) ≡ values_in option pairs
other_value option pair pairs e = ap (λ b. map (λ given. given.1) (cond b (pair ∷ filter (λ given. bytes_eq (option_text given.0) (option_text option)) pairs) (filter (λ given. bytes_eq (option_text given.0) (option_text option)) pairs))) e

-- a further account, and a word that names none
pub next_uid : (before : List ℕ) (word : List ℕ) (words : List (List ℕ)) (uid : ℕ) → uid_of word ≡ Some uid
    → option_map (λ uids. before ++ uids) (uids_of (word ∷ words)) ≡ option_map (λ uids. (before ++ uid ∷ []) ++ uids) (uids_of words)
next_uid before word words uid e =
    ap (λ o. option_map (λ uids. before ++ uids) (option_and_then (λ uid. option_map (λ uids. uid ∷ uids) (uids_of words)) o)) e
    ∙ elim (uids_of words) as (λ o. option_map (λ uids. before ++ uids) (option_map (λ uids. uid ∷ uids) o) ≡ option_map (λ uids. (before ++ uid ∷ []) ++ uids) o) [
      | None ↦ refl
      | Some uids ↦ ap (λ l. Some l) (sym (append_assoc before (uid ∷ []) uids))
    ]

pub no_uid : (before : List ℕ) (word : List ℕ) (words : List (List ℕ)) → uid_of word ≡ None → option_map (λ uids. before ++ uids) (uids_of (word ∷ words)) ≡ None
no_uid before word words e = ap (λ o. option_map (λ uids. before ++ uids) (option_and_then (λ uid. option_map (λ uids. uid ∷ uids) (uids_of words)) o)) e

-- at a place of a list, whatever stands for what is past its end
pub here_at : {X Y : Type 0} (f : X → Y) (xs : List X) (i : ℕ) (d : X) → i < length xs → drop i (map f xs) ≡ f (get_or xs i d) ∷ drop (i + 1) (map f xs)
here_at f [] i d below = absurd (omega (arith, below))
here_at f (y ∷ ys) zero d below = refl
here_at f (y ∷ ys) (suc i) d below =
    here_at f ys i d (omega (arith, below)) ∙ ap (λ n. f (get_or ys i d) ∷ drop n (f y ∷ map f ys)) (let same : suc (i + 1) ≡ suc i + 1 = omega arith in same)

abbrev pub text : Bor (List ℕ) → List ℕ
text word = word.now

-- the word at this place names no account
pub no_uid_at : (before : List ℕ) (words : List (Bor (List ℕ))) (i : ℕ) (d : Bor (List ℕ)) → i < length words → uid_of (get_or words i d).now ≡ None
    → option_map (λ uids. before ++ uids) (uids_of (drop i (map text words))) ≡ None
no_uid_at before words i d below e =
    ap (λ ws. option_map (λ uids. before ++ uids) (uids_of ws)) (here_at text words i d below) ∙ no_uid before (get_or words i d).now (drop (i + 1) (map text words)) e

pub next_uid_at : (before : List ℕ) (words : List (Bor (List ℕ))) (i : ℕ) (d : Bor (List ℕ)) (uid : ℕ) → i < length words → uid_of (get_or words i d).now ≡ Some uid
    → option_map (λ uids. before ++ uids) (uids_of (drop i (map text words))) ≡ option_map (λ uids. (before ++ uid ∷ []) ++ uids) (uids_of (drop (i + 1) (map text words)))
next_uid_at before words i d uid below e =
    ap (λ ws. option_map (λ uids. before ++ uids) (uids_of ws)) (here_at text words i d below) ∙ next_uid before (get_or words i d).now (drop (i + 1) (map text words)) uid e

-- options as they stand in a line
abbrev Pairs : Type 0
Pairs = List (OptionName × Bor (List ℕ))

abbrev pub in_line : OptionName × Bor (List ℕ) → OptionName × List ℕ
in_line pair = (pair.0, pair.1.now)

-- the option at this place has this name
pub value_at : (option : OptionName) (pairs : Pairs) (i : ℕ) (d : OptionName × Bor (List ℕ)) → i < length pairs → (text wanted : List ℕ) → text ≡ option_text (get_or pairs i d).0 → wanted ≡ option_text option
    → bytes_eq text wanted ≡ true → values_in option (drop i (map in_line pairs)) ≡ (get_or pairs i d).1.now ∷ values_in option (drop (i + 1) (map in_line pairs))
value_at option pairs i d below text wanted is wants same =
    ap (values_in option) (here_at in_line pairs i d below)
    ∙ next_value option (in_line (get_or pairs i d)) (drop (i + 1) (map in_line pairs)) (ap₂ bytes_eq (sym is) (sym wants) ∙ same)

pub other_at : (option : OptionName) (pairs : Pairs) (i : ℕ) (d : OptionName × Bor (List ℕ)) → i < length pairs → (text wanted : List ℕ) → text ≡ option_text (get_or pairs i d).0 → wanted ≡ option_text option
    → bytes_eq text wanted ≡ false → values_in option (drop i (map in_line pairs)) ≡ values_in option (drop (i + 1) (map in_line pairs))
other_at option pairs i d below text wanted is wants other =
    ap (values_in option) (here_at in_line pairs i d below)
    ∙ other_value option (in_line (get_or pairs i d)) (drop (i + 1) (map in_line pairs)) (ap₂ bytes_eq (sym is) (sym wants) ∙ other)

pub twice : (found : Option (Bor (List ℕ))) (values more : List (List ℕ)) (value : List ℕ) → is_some found ≡ true → values ≡ option_to_list (option_copied found) ++ (value ∷ more) → once values ≡ None
twice None values more value is e = cc
twice (Some found) values more value is e = ap once e

pub first_found : (found next : Option (Bor (List ℕ))) (value : Bor (List ℕ)) (values here rest : List (List ℕ)) → is_some found ≡ false → values ≡ option_to_list (option_copied found) ++ here → here ≡ value.now ∷ rest → next ≡ Some value
    → values ≡ option_to_list (option_copied next) ++ rest
first_found None next value values here rest none is at found = is ∙ at ∙ ap (λ o. option_to_list (option_copied o) ++ rest) (sym found)
first_found (Some x) next value values here rest none is at found = cc
