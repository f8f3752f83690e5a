-- What one word does to a line.
use Rattle.std.specs.Prelude.{◌≡◌, ℕ, ◌<◌, Bool, true, false, cond, nat_lt, List, [], ◌++◌, length, Option, Some, None}
use Rattle.std.specs.Prelude.{codes, bytes_eq, refl}
use Rattle.std.proofs.Common.{sym, ap, ◌∙◌, arith, lt-ltb}
use Rattle.ss_words.specs.declared.names.Name.{Name}
use Rattle.ss_words.specs.declared.names.OptionName.{OptionName}
use Rattle.ss_words.specs.declared.names.OptionName.TheVariants.{At, Newer, Workers, Connections, Terms, Firefox}
use Rattle.ss_words.specs.declared.names.OptionName.TheVariants.{Journal, From}
use Rattle.ss_words.specs.declared.lines.Place.TheVariants.{Between, Value, Behind}
use Rattle.ss_words.specs.Names.{option_text, option_of, takes, has_value}
use Rattle.ss_words.specs.Lines.{Line, is_dashed}
use Rattle.ss_words.specs.Reading.{at, with_positional, with_option, key_of, option_reading, dash_reading, between}
use Rattle.ss_text.proofs.Basics.{same_text}

-- two dashes are a word that begins with a dash
no_dashes : (word : List ℕ) → is_dashed word ≡ false → bytes_eq word (codes "--") ≡ false
no_dashes word plain = elim (bytes_eq word (codes "--")) as (λ b. bytes_eq word (codes "--") ≡ b → b ≡ false) [
  | true ↦ (λ e. sym (ap is_dashed (same_text word (codes "--") e)) ∙ plain)
  | false ↦ (λ e. refl)
] refl

pub positional_step : (name : Name) (line : Line) (word : List ℕ) → is_dashed word ≡ false → between name line word ≡ Some (at Between (with_positional line word))
positional_step name line word plain =
    ap (λ b. cond b (Some (at Behind line)) (cond (is_dashed word) (dash_reading name line word (option_of (key_of word))) (Some (at Between (with_positional line word))))) (no_dashes word plain)
    ∙ ap (λ b. cond b (dash_reading name line word (option_of (key_of word))) (Some (at Between (with_positional line word)))) plain

allowed : {X : Type 0} (b : Bool) (x : X) → b ≡ true → cond b x x ≡ x
allowed b x e = ap (λ v. cond v x x) e

pub apart_step : (name : Name) (line : Line) (option : OptionName) → takes name option ≡ true → has_value option ≡ true → between name line (option_text option) ≡ Some (at (Value option) line)
unfolding option_of
apart_step name line At t v = ap (λ b. cond b (Some (at (Value At) line)) None) t
apart_step name line Newer t v = cc
apart_step name line Workers t v = ap (λ b. cond b (Some (at (Value Workers) line)) None) t
apart_step name line Connections t v = ap (λ b. cond b (Some (at (Value Connections) line)) None) t
apart_step name line Terms t v = ap (λ b. cond b (Some (at (Value Terms) line)) None) t
apart_step name line Firefox t v = cc
apart_step name line Journal t v = ap (λ b. cond b (Some (at (Value Journal) line)) None) t
apart_step name line From t v = ap (λ b. cond b (Some (at (Value From) line)) None) t

pub bare_step : (name : Name) (line : Line) (option : OptionName) → takes name option ≡ true → has_value option ≡ false → between name line (option_text option) ≡ Some (at Between (with_option line option []))
unfolding option_of
bare_step name line At t v = cc
bare_step name line Newer t v = ap (λ b. cond b (Some (at Between (with_option line Newer []))) None) t
bare_step name line Workers t v = cc
bare_step name line Connections t v = cc
bare_step name line Terms t v = cc
bare_step name line Firefox t v = ap (λ b. cond b (Some (at Between (with_option line Firefox []))) None) t
bare_step name line Journal t v = cc
bare_step name line From t v = cc

-- the value in a word of an option with a value
joined_value : (k : ℕ) (word value : List ℕ) → k < length word → cond (nat_lt k (length word)) (Some value) None ≡ Some value
joined_value k word value below = ap (λ b. cond b (Some value) None) (lt-ltb k (length word) below)

joined_by : (name : Name) (line : Line) (option : OptionName) (found : Option (List ℕ)) (value : List ℕ) → takes name option ≡ true → found ≡ Some value → cond (takes name option) (option_reading line option true found) None ≡ Some (at Between (with_option line option value))
joined_by name line option found value t f = ap (λ b. cond b (option_reading line option true found) None) t ∙ ap (option_reading line option true) f

pub joined_step : (name : Name) (line : Line) (option : OptionName) (value : List ℕ) → takes name option ≡ true → has_value option ≡ true
    → between name line (option_text option ++ codes "=" ++ value) ≡ Some (at Between (with_option line option value))
unfolding option_of
joined_step name line At value t v = joined_by name line At _ value t (joined_value 4 (codes "--at=" ++ value) value (omega arith))
joined_step name line Newer value t v = cc
joined_step name line Workers value t v = joined_by name line Workers _ value t (joined_value 9 (codes "--workers=" ++ value) value (omega arith))
joined_step name line Connections value t v = joined_by name line Connections _ value t (joined_value 13 (codes "--connections=" ++ value) value (omega arith))
joined_step name line Terms value t v = joined_by name line Terms _ value t (joined_value 7 (codes "--terms=" ++ value) value (omega arith))
joined_step name line Firefox value t v = cc
joined_step name line Journal value t v = joined_by name line Journal _ value t (joined_value 9 (codes "--journal=" ++ value) value (omega arith))
joined_step name line From value t v = joined_by name line From _ value t (joined_value 6 (codes "--from=" ++ value) value (omega arith))
