-- What two calls in a row do to what an object tells.
use Rattle.std.proofs.Common.{◌≡◌, ℕ, ◌+◌, List, [], ◌∷◌, ◌++◌, length, take, drop, Option, None, Some, refl, sym, ◌∙◌}
use Rattle.std.proofs.Common.{ap, append_assoc, subst}
use Rattle.std.proofs.lemmas.List.{append-nil, take-append-drop, drop-drop}
use Rattle.std.specs.Option.{option_map}
use Rattle.std.proofs.Math.Seq.{take-add, take-append_seam}
use Rattle.ss_outside.specs.Told.{Meanings, IsUsedUp, Takes, Loses, Writes, HasRead, HasWritten}

empty_rest : (got y : List ℕ) → got ++ y ≡ [] → y ≡ []
empty_rest [] y e = e
empty_rest (b ∷ got) y e = absurd (let f : b ∷ (got ++ y) ≡ [] = e in cc)

pub Takes-none : (a : Option (List ℕ)) → Takes [] a a
Takes-none None = refl
Takes-none (Some x) = ap Some (sym (append-nil x))

pub Takes-append : (s t : List ℕ) (a b c : Option (List ℕ)) → Takes s a b → Takes t b c → Takes (s ++ t) a c
Takes-append s t None b c first then = then ∙ ap (option_map (λ x. x ++ t)) first
Takes-append s t (Some x) b c first then = then ∙ ap (option_map (λ x. x ++ t)) first ∙ ap Some (append_assoc x s t)

pub Loses-none : (a : Option (List ℕ)) → Loses [] a a
Loses-none None = refl
Loses-none (Some x) = refl

pub Loses-append : (s t : List ℕ) (a b c : Option (List ℕ)) → Loses s a b → Loses t b c → Loses (s ++ t) a c
Loses-append s t a b None first then = first ∙ ap (option_map (λ y. s ++ y)) then
Loses-append s t a b (Some z) first then = first ∙ ap (option_map (λ y. s ++ y)) then ∙ ap Some (sym (append_assoc s t z))

-- where nothing is left, nothing is left after a read
pub IsUsedUp-later : (got : List ℕ) (a b : Meanings) → HasRead got a b → IsUsedUp a → IsUsedUp b
IsUsedUp-later got a b read ended y told =
    let whole : a.left ≡ Some (got ++ y) = read.left ∙ ap (option_map (λ z. got ++ z)) told in
    let none : got ++ y ≡ [] = ended (got ++ y) whole in
    empty_rest got y none

pub Writes-none : (a b : Option (List ℕ)) → b ≡ a → Writes [] a b
Writes-none a b same = λ y told. (y, sym same ∙ told, sym (append-nil y))

pub Writes-append : (s t : List ℕ) (a b c : Option (List ℕ)) → Writes s a b → Writes t b c → Writes (s ++ t) a c
Writes-append s t a b c first then = λ y told.
    let two = then y told in
    let one = first two.0 two.1 in
    (one.0, one.1, two.2 ∙ ap (λ x. x ++ t) one.2 ∙ append_assoc one.0 s t)

pub Takes-cursor : (all got : List ℕ) (at n : ℕ) (p : List ℕ) → take at all ≡ p → got ≡ take n (drop at all)
    → Takes got (Some p) (Some (take (at + n) all))
Takes-cursor all got at n p was is = ap Some (take-add at n all ∙ cc)

pub Loses-cursor : (all got : List ℕ) (at n : ℕ) (p : List ℕ) → drop at all ≡ p → got ≡ take n (drop at all)
    → Loses got (Some p) (Some (drop (at + n) all))
Loses-cursor all got at n p was is = ap Some (sym was ∙ sym (take-append-drop n (drop at all)) ∙ ap (λ y. y ++ drop n (drop at all)) (sym is) ∙ ap (λ y. got ++ y) (drop-drop n at all))

-- what a buffer holds after the copy of a piece to its front
pub front_is : (n : ℕ) (copy into piece : List ℕ) → length copy ≡ n → copy ≡ piece → take n (copy ++ into) ≡ piece
front_is n copy into piece size same = ap (λ k. take k (copy ++ into)) (sym size) ∙ take-append_seam copy into ∙ same

pub idle_append : (s t : List ℕ) (a b c : Option (List ℕ)) → (s ≡ [] → b ≡ a) → (t ≡ [] → c ≡ b) → s ++ t ≡ [] → c ≡ a
idle_append [] t a b c first then none = then none ∙ first refl
idle_append (x ∷ s) t a b c first then none = absurd (let f : x ∷ (s ++ t) ≡ [] = none in cc)

pub HasRead-none : (a : Meanings) → HasRead [] a a
HasRead-none a = record {
  taken = Takes-none a.taken;
  left = Loses-none a.left;
  written = refl;
  write_faults = refl;
}

pub HasRead-append : (s t : List ℕ) (a b c : Meanings) → HasRead s a b → HasRead t b c → HasRead (s ++ t) a c
HasRead-append s t a b c first then = record {
  taken = Takes-append s t a.taken b.taken c.taken first.taken then.taken;
  left = Loses-append s t a.left b.left c.left first.left then.left;
  written = then.written ∙ first.written;
  write_faults = then.write_faults ∙ first.write_faults;
}

pub HasWritten-none : (a : Meanings) → HasWritten [] a a
HasWritten-none a = record {
  written = Writes-none a.written a.written refl;
  idle = λ _. refl;
  taken = refl;
  left = refl;
  read_faults = refl;
}

pub HasWritten-append : (s t : List ℕ) (a b c : Meanings) → HasWritten s a b → HasWritten t b c → HasWritten (s ++ t) a c
HasWritten-append s t a b c first then = record {
  written = Writes-append s t a.written b.written c.written first.written then.written;
  idle = idle_append s t a.written b.written c.written first.idle then.idle;
  taken = then.taken ∙ first.taken;
  left = then.left ∙ first.left;
  read_faults = then.read_faults ∙ first.read_faults;
}

-- a further piece of a list is written
pub HasWritten-further : (from : List ℕ) (at n : ℕ) (a b c : Meanings) → HasWritten (take at from) a b
    → HasWritten (take n (drop at from)) b c → HasWritten (take (at + n) from) a c
HasWritten-further from at n a b c first then =
    let P : List ℕ → Type 0 = λ sent. HasWritten sent a c in
    subst P (sym (take-add at n from)) (HasWritten-append (take at from) (take n (drop at from)) a b c first then)

-- a write that took nothing
pub HasWritten-nothing : (sent : List ℕ) (a b c : Meanings) → HasWritten sent a b → HasWritten [] b c → HasWritten sent a c
HasWritten-nothing sent a b c first then =
    let P : List ℕ → Type 0 = λ s. HasWritten s a c in
    subst P (append-nil sent) (HasWritten-append sent [] a b c first then)
