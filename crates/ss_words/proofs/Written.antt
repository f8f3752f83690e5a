-- Lines that words write are read, and as they are written.
use Rattle.std.specs.Prelude.{◌≡◌, ℕ, ◌+◌, ◌<◌, ◌&&◌, not, cond, Bool, true, false, List, [], ◌∷◌, ◌++◌, length, get_or}
use Rattle.std.specs.Prelude.{map, drop, Option, Some, None, option_and_then, codes, refl, zero, suc, ◌≤◌}
use Rattle.std.specs.List.{flat_map, list_all}
use Rattle.std.proofs.Common.{sym, ap, ap₂, ◌∙◌, append-nil, append_assoc, arith}
use Rattle.ss_words.specs.declared.names.Name.{Name}
use Rattle.ss_words.specs.declared.names.OptionName.{OptionName}
use Rattle.ss_words.specs.declared.lines.Place.{Place}
use Rattle.ss_words.specs.declared.lines.Place.TheVariants.{Between, Value, Behind}
use Rattle.ss_words.specs.Names.{option_text, takes, has_value}
use Rattle.ss_words.specs.Lines.{Line, IsLine, is_dashed, Piece, Positional, Joined, Apart, Bare, piece_words, fits}
use Rattle.ss_words.specs.Lines.{ending, line_made}
use Rattle.ss_words.specs.Reading.{Reading, at, with_positional, with_option, step, between, read_from, empty_line}
use Rattle.ss_words.proofs.Choices.{followed}
use Rattle.ss_words.proofs.Steps.{positional_step, apart_step, bare_step, joined_step}
use Rattle.ss_words.proofs.Heard.{same_some, Heard, dashes, positional, joined, apart, bare, heard}
use Rattle.ss_text.proofs.Basics.{both_left, both_right}
use Rattle.std.proofs.lemmas.Bool.{and_from, not-true}

-- a line, and then what a further one has
abbrev pub followed_by : Line → Line → Line
followed_by line more = record { positionals = line.positionals ++ more.positionals; options = line.options ++ more.options }

behind_reads : (name : Name) (line : Line) (words : List (List ℕ)) → read_from name Behind line words ≡ Some (record line { positionals = line.positionals ++ words })
behind_reads name line [] = ap (λ p. Some (record line { positionals = p })) (sym (append-nil line.positionals))
behind_reads name line (word ∷ words) = behind_reads name (with_positional line word) words ∙ ap (λ p. Some (record line { positionals = p })) (append_assoc line.positionals (word ∷ []) words)

-- what follows a step
abbrev onward : Name → List (List ℕ) → Reading → Option Line
onward name words next = read_from name next.place next.line words

-- a positional, or an option, in front of what pieces make
more_positionals : (line : Line) (word : List ℕ) (more : Line) → followed_by (with_positional line word) more ≡ followed_by line (record more { positionals = word ∷ more.positionals })
more_positionals line word more = ap (λ p. record { positionals = p; options = line.options ++ more.options }) (append_assoc line.positionals (word ∷ []) more.positionals)

more_options : (line : Line) (option : OptionName) (value : List ℕ) (more : Line) → followed_by (with_option line option value) more ≡ followed_by line (record more { options = (option, value) ∷ more.options })
more_options line option value more = ap (λ o. record { positionals = line.positionals ++ more.positionals; options = o }) (append_assoc line.options ((option, value) ∷ []) more.options)

value_step : (name : Name) (line : Line) (option : OptionName) (value : List ℕ) → is_dashed value ≡ false → step name (Value option) line value ≡ Some (at Between (with_option line option value))
value_step name line option value plain = ap (λ b. cond b None (Some (at Between (with_option line option value)))) plain

pub written : (name : Name) (pieces : List Piece) (behind : Option (List (List ℕ))) (line : Line) → list_all (fits name) pieces ≡ true
    → read_from name Between line (flat_map piece_words pieces ++ ending behind) ≡ Some (followed_by line (line_made pieces behind))
written name [] None line fit = ap₂ (λ p o. Some (record { positionals = p; options = o })) (sym (append-nil line.positionals)) (sym (append-nil line.options))
written name [] (Some words) line fit = behind_reads name line words ∙ ap (λ o. Some (record { positionals = line.positionals ++ words; options = o })) (sym (append-nil line.options))
written name (Positional word ∷ pieces) behind line fit =
    ap (option_and_then (onward name (flat_map piece_words pieces ++ ending behind))) (positional_step name line word (not-true _ (both_left _ _ fit)))
    ∙ written name pieces behind (with_positional line word) (both_right _ _ fit)
    ∙ ap Some (more_positionals line word (line_made pieces behind))
written name (Joined option value ∷ pieces) behind line fit =
    let own = both_left (takes name option && has_value option) (list_all (fits name) pieces) fit in
    ap (option_and_then (onward name (flat_map piece_words pieces ++ ending behind))) (joined_step name line option value (both_left _ _ own) (both_right _ _ own))
    ∙ written name pieces behind (with_option line option value) (both_right (takes name option && has_value option) _ fit)
    ∙ ap Some (more_options line option value (line_made pieces behind))
written name (Apart option value ∷ pieces) behind line fit =
    let own = both_left (takes name option && (has_value option && not (is_dashed value))) (list_all (fits name) pieces) fit in
    let valued = both_right (takes name option) (has_value option && not (is_dashed value)) own in
    ap (option_and_then (onward name (value ∷ (flat_map piece_words pieces ++ ending behind)))) (apart_step name line option (both_left _ _ own) (both_left _ _ valued))
    ∙ ap (option_and_then (onward name (flat_map piece_words pieces ++ ending behind))) (value_step name line option value (not-true _ (both_right _ _ valued)))
    ∙ written name pieces behind (with_option line option value) (both_right (takes name option && (has_value option && not (is_dashed value))) _ fit)
    ∙ ap Some (more_options line option value (line_made pieces behind))
written name (Bare option ∷ pieces) behind line fit =
    let own = both_left (takes name option && not (has_value option)) (list_all (fits name) pieces) fit in
    ap (option_and_then (onward name (flat_map piece_words pieces ++ ending behind))) (bare_step name line option (both_left _ _ own) (not-true _ (both_right _ _ own)))
    ∙ written name pieces behind (with_option line option []) (both_right (takes name option && not (has_value option)) _ fit)
    ∙ ap Some (more_options line option [] (line_made pieces behind))

-- ---- and back

-- the words write what a line has more than another
pub record Writes (name : Name) (words : List (List ℕ)) (line found : Line) : Type 0 where
  pub pieces : List Piece
  pub behind : Option (List (List ℕ))
  pub fit : list_all (fits name) pieces ≡ true
  pub words_are : words ≡ flat_map piece_words pieces ++ ending behind
  pub found_is : found ≡ followed_by line (line_made pieces behind)

-- the same where the first word is an option's value
pub record WritesValue (name : Name) (option : OptionName) (words : List (List ℕ)) (line found : Line) : Type 0 where
  pub value : List ℕ
  pub rest : List (List ℕ)
  pub plain : is_dashed value ≡ false
  pub words_are : words ≡ value ∷ rest
  pub others : Writes name rest (with_option line option value) found

pub record Reads (name : Name) (words : List (List ℕ)) : Type 0 where
  pub between : (line found : Line) → read_from name Between line words ≡ Some found → Writes name words line found
  pub value : (option : OptionName) (line found : Line) → read_from name (Value option) line words ≡ Some found → WritesValue name option words line found

none_more : (name : Name) (line found : Line) → Some line ≡ Some found → Writes name [] line found
none_more name line found e = record {
  pieces = [];
  behind = None;
  fit = refl;
  words_are = refl;
  found_is = same_some line found e ∙ ap₂ (λ p o. record { positionals = p; options = o }) (sym (append-nil line.positionals)) (sym (append-nil line.options));
}

with_word : (name : Name) (line found : Line) (word : List ℕ) (words : List (List ℕ)) → is_dashed word ≡ false → Writes name words (with_positional line word) found → Writes name (word ∷ words) line found
with_word name line found word words plain more = record {
  pieces = Positional word ∷ more.pieces;
  behind = more.behind;
  fit = and_from _ _ (ap not plain) more.fit;
  words_are = ap (λ ws. word ∷ ws) more.words_are;
  found_is = more.found_is ∙ more_positionals line word (line_made more.pieces more.behind);
}

with_joined : (name : Name) (line found : Line) (option : OptionName) (value word : List ℕ) (words : List (List ℕ)) → takes name option ≡ true → has_value option ≡ true → word ≡ option_text option ++ codes "=" ++ value
    → Writes name words (with_option line option value) found → Writes name (word ∷ words) line found
with_joined name line found option value word words t v is more = record {
  pieces = Joined option value ∷ more.pieces;
  behind = more.behind;
  fit = and_from _ _ (and_from _ _ t v) more.fit;
  words_are = ap₂ (λ w ws. w ∷ ws) is more.words_are;
  found_is = more.found_is ∙ more_options line option value (line_made more.pieces more.behind);
}

with_bare : (name : Name) (line found : Line) (option : OptionName) (word : List ℕ) (words : List (List ℕ)) → takes name option ≡ true → has_value option ≡ false → word ≡ option_text option
    → Writes name words (with_option line option []) found → Writes name (word ∷ words) line found
with_bare name line found option word words t v is more = record {
  pieces = Bare option ∷ more.pieces;
  behind = more.behind;
  fit = and_from _ _ (and_from _ _ t (ap not v)) more.fit;
  words_are = ap₂ (λ w ws. w ∷ ws) is more.words_are;
  found_is = more.found_is ∙ more_options line option [] (line_made more.pieces more.behind);
}

with_apart : (name : Name) (line found : Line) (option : OptionName) (word : List ℕ) (words : List (List ℕ)) → takes name option ≡ true → has_value option ≡ true → word ≡ option_text option
    → WritesValue name option words line found → Writes name (word ∷ words) line found
with_apart name line found option word words t v is more = record {
  pieces = Apart option more.value ∷ more.others.pieces;
  behind = more.others.behind;
  fit = and_from _ _ (and_from _ _ t (and_from _ _ v (ap not more.plain))) more.others.fit;
  words_are = ap₂ (λ w ws. w ∷ ws) is (more.words_are ∙ ap (λ ws. more.value ∷ ws) more.others.words_are);
  found_is = more.others.found_is ∙ more_options line option more.value (line_made more.others.pieces more.others.behind);
}

with_dashes : (name : Name) (line found : Line) (word : List ℕ) (words : List (List ℕ)) → word ≡ codes "--" → read_from name Behind line words ≡ Some found → Writes name (word ∷ words) line found
with_dashes name line found word words is e = record {
  pieces = [];
  behind = Some words;
  fit = refl;
  words_are = ap (λ w. w ∷ words) is;
  found_is = same_some _ found (sym (behind_reads name line words) ∙ e) ∙ ap (λ o. record { positionals = line.positionals ++ words; options = o }) (sym (append-nil line.options));
}

-- what followed, at a place that is known
at_place : (name : Name) (words : List (List ℕ)) (found : Line) (next is : Reading) → next ≡ is → onward name words next ≡ Some found → onward name words is ≡ Some found
at_place name words found next is same e = sym (ap (onward name words) same) ∙ e

by_word : (name : Name) (line found : Line) (word : List ℕ) (words : List (List ℕ)) (next : Reading) → Reads name words → Heard name line word next → onward name words next ≡ Some found → Writes name (word ∷ words) line found
by_word name line found word words next rest (dashes is same) e = with_dashes name line found word words is (at_place name words found next _ same e)
by_word name line found word words next rest (positional plain same) e = with_word name line found word words plain (rest.between _ found (at_place name words found next _ same e))
by_word name line found word words next rest (joined option value t v is same) e = with_joined name line found option value word words t v is (rest.between _ found (at_place name words found next _ same e))
by_word name line found word words next rest (apart option t v is same) e = with_apart name line found option word words t v is (rest.value option line found (at_place name words found next _ same e))
by_word name line found word words next rest (bare option t v is same) e = with_bare name line found option word words t v is (rest.between _ found (at_place name words found next _ same e))

by_value : (name : Name) (option : OptionName) (line found : Line) (word : List ℕ) (words : List (List ℕ)) → Reads name words → (b : Bool) → is_dashed word ≡ b
    → option_and_then (onward name words) (cond b None (Some (at Between (with_option line option word)))) ≡ Some found → WritesValue name option (word ∷ words) line found
by_value name option line found word words rest true is e = cc
by_value name option line found word words rest false is e = record { value = word; rest = words; plain = is; words_are = refl; others = rest.between (with_option line option word) found e }

pub reads : (name : Name) (words : List (List ℕ)) → Reads name words
reads name [] = record { between = λ line found e. none_more name line found e; value = λ option line found e. cc }
reads name (word ∷ words) = record {
  between = λ line found e. (let got = followed (between name line word) (onward name words) found e in
      by_word name line found word words got.0 (reads name words) (heard name line word got.0 got.1) got.2);
  value = λ option line found e. by_value name option line found word words (reads name words) (is_dashed word) refl e;
}

pub line_is_written : (name : Name) (words : List (List ℕ)) (line : Line) → read_from name Between empty_line words ≡ Some line → IsLine name words line
line_is_written name words line e =
    let more = (reads name words).between empty_line line e in
    record { pieces = more.pieces; behind = more.behind; fit = more.fit; words_are = more.words_are; line_is = more.found_is }

pub line_is_read : (name : Name) (words : List (List ℕ)) (line : Line) → IsLine name words line → read_from name Between empty_line words ≡ Some line
line_is_read name words line is =
    ap (read_from name Between empty_line) is.words_are ∙ written name is.pieces is.behind empty_line is.fit ∙ ap Some (sym is.line_is)

pub no_line : (name : Name) (words : List (List ℕ)) (line : Line) → read_from name Between empty_line words ≡ None → IsLine name words line → ⊥
no_line name words line e is = let bad : None ≡ Some line = sym e ∙ line_is_read name words line is in cc

-- ---- words taken one by one

pub next_word : {X Y : Type 0} (f : X → Y) (xs : List X) (i : ℕ) (x : X) → i < length xs → x ≡ get_or xs i x → drop i (map f xs) ≡ f x ∷ drop (i + 1) (map f xs)
next_word f [] i x below at = absurd (omega (arith, below))
next_word f (y ∷ ys) zero x below at = ap (λ z. f z ∷ map f ys) (sym at)
next_word f (y ∷ ys) (suc i) x below at =
    next_word f ys i x (omega (arith, below)) at ∙ ap (λ n. f x ∷ drop n (f y ∷ map f ys)) (let same : suc (i + 1) ≡ suc i + 1 = omega arith in same)

pub no_more_words : {X Y : Type 0} (f : X → Y) (xs : List X) (i : ℕ) → length xs ≤ i → drop i (map f xs) ≡ []
no_more_words f [] zero high = refl
no_more_words f [] (suc i) high = refl
no_more_words f (x ∷ xs) zero high = absurd (omega (arith, high))
no_more_words f (x ∷ xs) (suc i) high = no_more_words f xs i (omega (arith, high))

pub after_step : (name : Name) (place : Place) (line : Line) (word : List ℕ) (words : List (List ℕ)) (next : Reading) → step name place line word ≡ Some next
    → read_from name place line (word ∷ words) ≡ read_from name next.place next.line words
after_step name place line word words next e = ap (option_and_then (onward name words)) e

pub no_step : (name : Name) (place : Place) (line : Line) (word : List ℕ) (words : List (List ℕ)) → step name place line word ≡ None → read_from name place line (word ∷ words) ≡ None
no_step name place line word words e = ap (option_and_then (onward name words)) e
