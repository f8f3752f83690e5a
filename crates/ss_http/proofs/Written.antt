-- Written fields: they are fields of the grammar, they are looked up again, and they are short.
use Rattle.std.proofs.Common.{◌≡◌, ℕ, ◌+◌, ◌/◌, ◌%◌, ◌^◌, ◌<◌, ◌≤◌, List, [], ◌∷◌, ◌++◌, length, map, true, false, ◌&&◌}
use Rattle.std.proofs.Common.{◌||◌, cond, ltb, Option, Some, None, option_map, IfSome, decimal, codes, refl, sym, ap}
use Rattle.std.proofs.Common.{ap₂, ◌∙◌, arith, lit<, lit≤, append_assoc, length-append}
use Rattle.std.proofs.lemmas.Bool.{and_parts, ltb-true}
use Rattle.std.proofs.lemmas.Fmt.{length-decimal-le}
use Rattle.std.proofs.lemmas.List.Sums.{AllPass-from_list_all}
use Rattle.std.specs.List.{list_all, list_any, flat_map, AllByRecursion}
use Rattle.httparse.specs.Grammar.{Field, IsField, crlf, print_field, is_token, is_token_byte, is_value_byte}
use Rattle.httparse.specs.Spans.{name_and_value}
use Rattle.ss_text.specs.Time.{stamp_text, two_digits, last_stamp}
use Rattle.ss_http.specs.Fields.{Line, lines, field_if, same_name, first_named, closes, holds_close}
use Rattle.ss_http.specs.Hearing.{IsBare}
use Rattle.ss_http.proofs.LineLemmas.{lines-append, lines_one}

-- a line as a field of the grammar
abbrev pub field_of : Line → Field
field_of f = record { name = f.0; raw = 32 ∷ f.1; end = crlf }

pub lines_print : (fs : List Line) → flat_map print_field (map field_of fs) ≡ lines fs
unfolding lines
lines_print [] = refl
lines_print (f ∷ fs) = ap₂ (λ a b. a ++ b) (ap (λ l. l ++ codes "\r\n") (sym (append_assoc f.0 (codes ": ") f.1))) (lines_print fs)

pub record Fits (f : Line) : Type 0 where
  pub name : is_token f.0 ≡ true
  pub value : IsBare f.1

abbrev pub Fit : List Line → Type 0
Fit fs = AllByRecursion Fits fs

pub fit-append : (a b : List Line) → Fit a → Fit b → Fit (a ++ b)
fit-append [] b x y = y
fit-append (f ∷ a) b x y = (x.0, fit-append a b x.1 y)

pub fit_if : (name : List ℕ) (o : Option (List ℕ)) → is_token name ≡ true → IfSome o IsBare → Fit (field_if name o)
fit_if name None t h = tt
fit_if name (Some v) t h = (record { name = t; value = h }, tt)

pub bare_map : (f : ℕ → List ℕ) (P : ℕ → Type 0) (o : Option ℕ) → ((n : ℕ) → P n → IsBare (f n)) → IfSome o P → IfSome (option_map f o) IsBare
bare_map f P None k h = tt
bare_map f P (Some n) k h = k n h

is_field : (f : Line) → Fits f → IsField (field_of f)
is_field f h =
    let parts = and_parts (ltb 0 (length f.0)) (list_all is_token_byte f.0) h.name in
    record { name = (ltb-true 0 (length f.0) parts.0, AllPass-from_list_all is_token_byte f.0 parts.1); raw = AllPass-from_list_all is_value_byte (32 ∷ f.1) h.value.bytes }

pub are_fields : (fs : List Line) → Fit fs → AllByRecursion IsField (map field_of fs)
are_fields [] h = tt
are_fields (f ∷ fs) h = (is_field f h.0, are_fields fs h.1)

pub values_are : (fs : List Line) → Fit fs → map name_and_value (map field_of fs) ≡ fs
values_are [] h = refl
values_are (f ∷ fs) h = ap₂ (λ v l. (f.0, v) ∷ l) h.0.value.back (values_are fs h.1)

pub none_named : (name a : List ℕ) (o : Option (List ℕ)) (fs : List Line) → same_name a name ≡ false → first_named name (field_if a o ++ fs) ≡ first_named name fs
none_named name a None fs e = refl
none_named name a (Some v) fs e = ap (λ b. cond b (Some v) (first_named name fs)) e

abbrev pub either_of : Option (List ℕ) → Option (List ℕ) → Option (List ℕ)
either_of (Some v) o = Some v
either_of None o = o

pub named_here : (name a : List ℕ) (o : Option (List ℕ)) (fs : List Line) → same_name a name ≡ true → first_named name (field_if a o ++ fs) ≡ either_of o (first_named name fs)
named_here name a None fs e = refl
named_here name a (Some v) fs e = ap (λ b. cond b (Some v) (first_named name fs)) e

pub or_none : (o p : Option (List ℕ)) → p ≡ None → either_of o p ≡ o
or_none None p e = e
or_none (Some v) p e = refl

pub if_count : (name : List ℕ) (o : Option (List ℕ)) → length (field_if name o) ≤ 1
if_count name None = lit≤ tt
if_count name (Some v) = lit≤ tt

pub if_long : (name : List ℕ) (o : Option (List ℕ)) (k : ℕ) → IfSome o (λ v. length v ≤ k) → length (lines (field_if name o)) ≤ length name + k + 4
unfolding lines
if_long name None k h = omega arith
if_long name (Some v) k h =
    omega (arith, ap length (lines_one (name, v)), length-append (name ++ codes ": " ++ v) (codes "\r\n"), length-append (name ++ codes ": ") v, length-append name (codes ": "))

pub map_long : (f : ℕ → List ℕ) (P : ℕ → Type 0) (k : ℕ) (o : Option ℕ) → ((n : ℕ) → P n → length (f n) ≤ k) → IfSome o P → IfSome (option_map f o) (λ v. length v ≤ k)
map_long f P k None g h = tt
map_long f P k (Some n) g h = g n h

pub decimal_long : (n : ℕ) → n < 2 ^ 64 → length (decimal n) ≤ 20
decimal_long n h = length-decimal-le 20 n (lit< tt) (omega arith) h

pub stamp_long : (s : ℕ) → s ≤ last_stamp → length (stamp_text s) ≤ 23
unfolding stamp_text
stamp_long s h = let e = decimal_long (s / 100) (omega arith) in omega (arith, length-append (decimal (s / 100)) (46 ∷ two_digits (s % 100)))

-- a field that names no connection
pub none_closing : (a : List ℕ) (o : Option (List ℕ)) (fs : List Line) → same_name a (codes "Connection") ≡ false → list_any closes (field_if a o ++ fs) ≡ list_any closes fs
none_closing a None fs e = refl
none_closing a (Some v) fs e = ap (λ b. (b && holds_close v) || list_any closes fs) e

pub lines_length : (a b : List Line) → length (lines (a ++ b)) ≡ length (lines a) + length (lines b)
lines_length a b = ap length (lines-append a b) ∙ length-append (lines a) (lines b)
