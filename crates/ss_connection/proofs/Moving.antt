-- What reads and writes of one link make of what it tells.
use Rattle.std.proofs.Common.{◌≡◌, ℕ, List, [], ◌++◌, Option, Some, refl, sym, ap, ◌∙◌, subst}
use Rattle.std.specs.Option.{option_map}
use Rattle.ss_desk.proofs.Lists.{append_fixed}
use Rattle.ss_outside.specs.Told.{Meanings, HasRead, HasWritten, Takes, Loses, Writes}
use Rattle.ss_outside.proofs.Telling.{Takes-none, Takes-append, Loses-none, Loses-append, Writes-none, Writes-append}
use Rattle.ss_outside.proofs.Telling.{idle_append}
use Rattle.ss_outside.specs.Told.{Moves}

pub moves_none : (a : Meanings) → Moves [] [] a a
moves_none a = record {
  taken = Takes-none a.taken;
  left = Loses-none a.left;
  written = Writes-none a.written a.written refl;
  idle = λ _. refl;
}

pub moves_read : (got sent more : List ℕ) (a b c : Meanings) → Moves got sent a b → HasRead more b c → Moves (got ++ more) sent a c
moves_read got sent more a b c m r = record {
  taken = Takes-append got more a.taken b.taken c.taken m.taken r.taken;
  left = Loses-append got more a.left b.left c.left m.left r.left;
  written = (let P : Option (List ℕ) → Type 0 = λ w. Writes sent a.written w in subst P (sym r.written) m.written);
  idle = λ none. r.written ∙ m.idle none;
}

pub moves_write : (got sent more : List ℕ) (a b c : Meanings) → Moves got sent a b → HasWritten more b c → Moves got (sent ++ more) a c
moves_write got sent more a b c m w = record {
  taken = (let P : Option (List ℕ) → Type 0 = λ t. Takes got a.taken t in subst P (sym w.taken) m.taken);
  left = (let P : Option (List ℕ) → Type 0 = λ l. Loses got a.left l in subst P (sym w.left) m.left);
  written = Writes-append sent more a.written b.written c.written m.written w.written;
  idle = idle_append sent more a.written b.written c.written m.idle w.idle;
}

-- a call that left what is told brought no bytes, where they are told
pub took_nothing : (got z : List ℕ) (a b : Meanings) → a.taken ≡ Some z → b ≡ a → Takes got a.taken b.taken → got ≡ []
took_nothing got z a b told same takes =
    let e : Some (z ++ got) ≡ Some z = sym (takes ∙ ap (option_map (λ x. x ++ got)) told) ∙ (ap (λ (m : Meanings). m.taken) same ∙ told) in
    append_fixed z got (cc)

-- what was taken is told as long as it was at first
pub still_told : (got sent bytes : List ℕ) (a b : Meanings) → Moves got sent a b → a.taken ≡ Some bytes → b.taken ≡ Some (bytes ++ got)
still_told got sent bytes a b m told = m.taken ∙ ap (option_map (λ x. x ++ got)) told
