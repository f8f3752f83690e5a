-- Words ask one thing.
use Rattle.std.specs.Prelude.{◌≡◌, ℕ, ◌-◌, ◌≤◌, List, [], ◌∷◌, length, map, get_or, take, drop, Some, None, unwrap_or}
use Rattle.std.specs.Prelude.{Result, Ok, Err, IfErr}
use Rattle.std.proofs.Common.{sym, ap, ap₂, subst, ◌∙◌, arith}
use Rattle.std.proofs.lemmas.List.{take_all}
use Rattle.ss_words.specs.declared.commands.Command.{Command}
use Rattle.ss_words.specs.declared.names.Name.{Name}
use Rattle.ss_words.specs.Names.{name_of}
use Rattle.ss_words.specs.Lines.{Line, IsLine}
use Rattle.ss_words.specs.Commands.{command_in, HasAddress, AsksOf, Asks}
use Rattle.ss_words.proofs.Written.{line_is_read}

-- words write one line
pub same_line : (name : Name) (words : List (List ℕ)) (one other : Line) → IsLine name words one → IsLine name words other → one ≡ other
same_line name words one other is also = ap (λ o. unwrap_or o one) (sym (line_is_read name words one is) ∙ line_is_read name words other also)

-- what the line asks is what the words ask
pub asked_there : (name : Name) (words : List (List ℕ)) (line : Line) (command : Command) → IsLine name words line → AsksOf name words command → command_in name line ≡ Some command
asked_there name words line command is asks = ap (command_in name) (same_line name words line asks.line is asks.is_line) ∙ asks.says

pub refused_there : (name : Name) (words : List (List ℕ)) (line : Line) → IsLine name words line → command_in name line ≡ None → (command : Command) → AsksOf name words command → ⊥
refused_there name words line is none command asks = let bad : None ≡ Some command = sym none ∙ asked_there name words line command is asks in cc

pub no_address_there : (name : Name) (words : List (List ℕ)) (line : Line) (found : Command) → IsLine name words line → command_in name line ≡ Some found → (HasAddress found → ⊥)
    → (command : Command) → AsksOf name words command → ⊥
no_address_there name words line found is says none command asks =
    let same : command ≡ found = ap (λ o. unwrap_or o found) (sym (asked_there name words line command is asks) ∙ says) in
    none (subst HasAddress same asks.address)

abbrev AsksFirst : List ℕ → List (List ℕ) → Command → Type 0
AsksFirst first others command = (name : Name) × (name_of first ≡ Some name) × AsksOf name others command

pub asks_first : (first : List ℕ) (others : List (List ℕ)) (command : Command) → Asks (first ∷ others) command → AsksFirst first others command
asks_first first others command asks =
    let head : asks.first ≡ first = sym (ap (λ words. get_or words 0 first) asks.words_are) in
    let tail : asks.others ≡ others = sym (ap (drop 1) asks.words_are) in
    (asks.name, ap name_of (sym head) ∙ asks.is_name, subst (λ words. AsksOf asks.name words command) tail asks.asks)

pub other_name : (first : List ℕ) (others : List (List ℕ)) → name_of first ≡ None → (command : Command) → Asks (first ∷ others) command → ⊥
other_name first others none command asks =
    let found = asks_first first others command asks in
    let bad : None ≡ Some found.0 = sym none ∙ found.1 in cc

pub no_such_words : (first : List ℕ) (others : List (List ℕ)) (name : Name) → name_of first ≡ Some name → ((command : Command) → AsksOf name others command → ⊥)
    → (command : Command) → Asks (first ∷ others) command → ⊥
no_such_words first others name is none command asks =
    let found = asks_first first others command asks in
    let same : found.0 ≡ name = ap (λ o. unwrap_or o name) (sym found.1 ∙ is) in
    none command (subst (λ (n : Name). AsksOf n others command) same found.2)

pub no_words : (command : Command) → Asks [] command → ⊥
no_words command asks = let bad : [] ≡ asks.first ∷ asks.others = asks.words_are in cc

-- the first word, and the others
pub words_there : {X : Type 0} (f : X → List ℕ) (words : List X) (first : X) → 1 ≤ length words → first ≡ get_or words 0 first → map f words ≡ f first ∷ map f (take (length words - 1) (drop 1 words))
words_there f [] first some at = absurd (omega (arith, some))
words_there f (word ∷ words) first some at =
    let all : take (length (word ∷ words) - 1) words ≡ words = take_all (length (word ∷ words) - 1) words (omega arith) in
    ap₂ (λ w ws. f w ∷ map f ws) (sym at) (sym all)

pub weaker : {T E : Type 0} (r : Result T E) (P Q : E → Type 0) → ((fault : E) → P fault → Q fault) → IfErr r P → IfErr r Q
weaker (Ok value) P Q so is = is
weaker (Err fault) P Q so is = so fault is

-- two commands that the same words ask are one
pub one_command : (words : List (List ℕ)) (one other : Command) → Asks words one → Asks words other → one ≡ other
one_command words one other asks also =
    let found = asks_first asks.first asks.others other (subst (λ ws. Asks ws other) asks.words_are also) in
    let same : found.0 ≡ asks.name = ap (λ o. unwrap_or o asks.name) (sym found.1 ∙ asks.is_name) in
    let there : AsksOf asks.name asks.others other = subst (λ (n : Name). AsksOf n asks.others other) same found.2 in
    let says = asked_there asks.name asks.others asks.asks.line other asks.asks.is_line there in
    ap (λ o. unwrap_or o one) (sym asks.asks.says ∙ says)
