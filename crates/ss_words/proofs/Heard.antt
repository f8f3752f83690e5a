-- What a word was that did something to a line.
use Rattle.std.specs.Prelude.{◌≡◌, ℕ, ◌<◌, ◌==◌, ◌⊎◌, Bool, true, false, cond, List, [], ◌∷◌, ◌++◌, length, Option}
use Rattle.std.specs.Prelude.{Some, None, unwrap_or, codes, bytes_eq, refl}
use Rattle.std.specs.List.{position_or_len, after_first}
use Rattle.std.proofs.Common.{sym, ap, ◌∙◌, arith, inl, inr, append_assoc}
use Rattle.std.proofs.lemmas.Bool.{eqb-true, leb-true, leb-false}
use Rattle.std.proofs.lemmas.List.{take_all}
use Rattle.std.proofs.lemmas.List.Sums.{split_at_first, passes_at_first}
use Rattle.ss_words.specs.declared.names.Name.{Name}
use Rattle.ss_words.specs.declared.names.OptionName.{OptionName}
use Rattle.ss_words.specs.declared.names.OptionName.TheVariants.{At, Newer, Workers, Connections, Terms, Firefox}
use Rattle.ss_words.specs.declared.names.OptionName.TheVariants.{Journal, From}
use Rattle.ss_words.specs.declared.lines.Place.TheVariants.{Between, Value, Behind}
use Rattle.ss_words.specs.Names.{option_text, option_of, takes, has_value}
use Rattle.ss_words.specs.Lines.{Line, is_dashed}
use Rattle.ss_words.specs.Reading.{Reading, at, with_positional, with_option, key_of, value_in, option_reading}
use Rattle.ss_words.specs.Reading.{dash_reading, between}
use Rattle.ss_words.proofs.Choices.{chosen}
use Rattle.ss_text.proofs.Basics.{same_text}

pub same_some : {X : Type 0} (x y : X) → Some x ≡ Some y → y ≡ x
same_some x y e = sym (ap (λ o. unwrap_or o x) e)

-- what a word between two pieces was, by what came of it
pub data Heard (name : Name) (line : Line) (word : List ℕ) (next : Reading) : Type 0 where
  dashes : word ≡ codes "--" → next ≡ at Behind line → Heard name line word next
  positional : is_dashed word ≡ false → next ≡ at Between (with_positional line word) → Heard name line word next
  joined : (option : OptionName) (value : List ℕ) → takes name option ≡ true → has_value option ≡ true → word ≡ option_text option ++ codes "=" ++ value → next ≡ at Between (with_option line option value) → Heard name line word next
  apart : (option : OptionName) → takes name option ≡ true → has_value option ≡ true → word ≡ option_text option → next ≡ at (Value option) line → Heard name line word next
  bare : (option : OptionName) → takes name option ≡ true → has_value option ≡ false → word ≡ option_text option → next ≡ at Between (with_option line option []) → Heard name line word next

choice : (b : Bool) (x : OptionName) (rest : Option OptionName) (y : OptionName) → cond b (Some x) rest ≡ Some y → ((b ≡ true) × (y ≡ x)) ⊎ (rest ≡ Some y)
choice true x rest y e = inl (refl, same_some x y e)
choice false x rest y e = inr e

named : (text : List ℕ) (x y : OptionName) → (bytes_eq text (option_text x) ≡ true) × (y ≡ x) → text ≡ option_text y
named text x y h = same_text text (option_text x) h.0 ∙ ap option_text (sym h.1)

option_is : (text : List ℕ) (option : OptionName) → option_of text ≡ Some option → text ≡ option_text option
unfolding option_of
option_is text option e =
    let last : Option OptionName = cond (bytes_eq text (codes "--from")) (Some From) None in
    let seventh : Option OptionName = cond (bytes_eq text (codes "--journal")) (Some Journal) last in
    let sixth : Option OptionName = cond (bytes_eq text (codes "--firefox")) (Some Firefox) seventh in
    let fifth : Option OptionName = cond (bytes_eq text (codes "--terms")) (Some Terms) sixth in
    let fourth : Option OptionName = cond (bytes_eq text (codes "--connections")) (Some Connections) fifth in
    let third : Option OptionName = cond (bytes_eq text (codes "--workers")) (Some Workers) fourth in
    let second : Option OptionName = cond (bytes_eq text (codes "--newer")) (Some Newer) third in
    elim (choice (bytes_eq text (codes "--at")) At second option e) [
      | inl h ↦ named text At option h
      | inr e ↦ elim (choice (bytes_eq text (codes "--newer")) Newer third option e) [
        | inl h ↦ named text Newer option h
        | inr e ↦ elim (choice (bytes_eq text (codes "--workers")) Workers fourth option e) [
          | inl h ↦ named text Workers option h
          | inr e ↦ elim (choice (bytes_eq text (codes "--connections")) Connections fifth option e) [
            | inl h ↦ named text Connections option h
            | inr e ↦ elim (choice (bytes_eq text (codes "--terms")) Terms sixth option e) [
              | inl h ↦ named text Terms option h
              | inr e ↦ elim (choice (bytes_eq text (codes "--firefox")) Firefox seventh option e) [
                | inl h ↦ named text Firefox option h
                | inr e ↦ elim (choice (bytes_eq text (codes "--journal")) Journal last option e) [
                  | inl h ↦ named text Journal option h
                  | inr e ↦ elim (choice (bytes_eq text (codes "--from")) From None option e) [
                    | inl h ↦ named text From option h
                    | inr e ↦ cc
                  ]
                ]
              ]
            ]
          ]
        ]
      ]
    ]

abbrev is_sign : ℕ → Bool
is_sign b = b == 0x3d

cut_there : (word : List ℕ) → position_or_len is_sign word < length word → word ≡ key_of word ++ codes "=" ++ after_first is_sign word
cut_there word below =
    let sign = eqb-true _ 0x3d (passes_at_first is_sign word 0 below) in
    split_at_first is_sign word 0 below ∙ ap (λ b. key_of word ++ (b ∷ after_first is_sign word)) sign
    ∙ sym (append_assoc (key_of word) (codes "=") (after_first is_sign word))

value_there : (word value : List ℕ) → value_in word ≡ Some value → word ≡ key_of word ++ codes "=" ++ value
value_there word value e =
    let parts = chosen _ (Some (after_first is_sign word)) value e in
    cut_there word (leb-true _ _ parts.0) ∙ ap (λ v. key_of word ++ codes "=" ++ v) (sym (same_some _ _ parts.1))

not_chosen : {X : Type 0} (b : Bool) (x : X) → cond b (Some x) None ≡ None → b ≡ false
not_chosen true x e = cc
not_chosen false x e = refl

no_value_there : (word : List ℕ) → value_in word ≡ None → key_of word ≡ word
no_value_there word e =
    let high = leb-false _ _ (not_chosen _ (after_first is_sign word) e) in
    take_all (position_or_len is_sign word) word (omega (arith, high))

heard_valued : (name : Name) (line : Line) (word : List ℕ) (next : Reading) (option : OptionName) → takes name option ≡ true → key_of word ≡ option_text option
    → (value : List ℕ) → value_in word ≡ Some value → (b : Bool) → has_value option ≡ b → option_reading line option b (Some value) ≡ Some next → Heard name line word next
heard_valued name line word next option t key value found true valued e =
    joined option value t valued (value_there word value found ∙ ap (λ k. k ++ codes "=" ++ value) key) (same_some _ _ e)
heard_valued name line word next option t key value found false valued e = cc

heard_alone : (name : Name) (line : Line) (word : List ℕ) (next : Reading) (option : OptionName) → takes name option ≡ true → key_of word ≡ option_text option
    → value_in word ≡ None → (b : Bool) → has_value option ≡ b → option_reading line option b None ≡ Some next → Heard name line word next
heard_alone name line word next option t key found true valued e = apart option t valued (sym (no_value_there word found) ∙ key) (same_some _ _ e)
heard_alone name line word next option t key found false valued e = bare option t valued (sym (no_value_there word found) ∙ key) (same_some _ _ e)

heard_option : (name : Name) (line : Line) (word : List ℕ) (next : Reading) (option : OptionName) → key_of word ≡ option_text option → takes name option ≡ true
    → (found : Option (List ℕ)) → value_in word ≡ found → option_reading line option (has_value option) found ≡ Some next → Heard name line word next
heard_option name line word next option key t None is e = heard_alone name line word next option t key is (has_value option) refl e
heard_option name line word next option key t (Some value) is e = heard_valued name line word next option t key value is (has_value option) refl e

heard_dashed : (name : Name) (line : Line) (word : List ℕ) (next : Reading) (o : Option OptionName) → option_of (key_of word) ≡ o → dash_reading name line word o ≡ Some next → Heard name line word next
heard_dashed name line word next None is e = cc
heard_dashed name line word next (Some option) is e =
    let parts = chosen (takes name option) (option_reading line option (has_value option) (value_in word)) next e in
    heard_option name line word next option (option_is (key_of word) option is) parts.0 (value_in word) refl parts.1

heard_word : (name : Name) (line : Line) (word : List ℕ) (next : Reading) (b : Bool) → is_dashed word ≡ b
    → cond b (dash_reading name line word (option_of (key_of word))) (Some (at Between (with_positional line word))) ≡ Some next → Heard name line word next
heard_word name line word next true is e = heard_dashed name line word next (option_of (key_of word)) refl e
heard_word name line word next false is e = positional is (same_some _ _ e)

heard_at : (name : Name) (line : Line) (word : List ℕ) (next : Reading) (b : Bool) → bytes_eq word (codes "--") ≡ b
    → cond b (Some (at Behind line)) (cond (is_dashed word) (dash_reading name line word (option_of (key_of word))) (Some (at Between (with_positional line word)))) ≡ Some next → Heard name line word next
heard_at name line word next true is e = dashes (same_text word (codes "--") is) (same_some _ _ e)
heard_at name line word next false is e = heard_word name line word next (is_dashed word) refl e

pub heard : (name : Name) (line : Line) (word : List ℕ) (next : Reading) → between name line word ≡ Some next → Heard name line word next
heard name line word next e = heard_at name line word next (bytes_eq word (codes "--")) refl e
