-- Of the answers to the front of a text at most one is possible.
use Rattle.std.proofs.Common.{◌≡◌, ◌≢◌, ℕ, ◌+◌, true, false, List, ◌++◌, length, take, drop, refl, sym, ap, ◌∙◌, arith}
use Rattle.std.proofs.Common.{inl, inr, length-take}
use Rattle.std.proofs.lemmas.Bool.{false≢true}
use Rattle.std.proofs.lemmas.List.{take-append-drop}
use Rattle.ss_device_file.specs.declared.front.Front.{Front}
use Rattle.ss_device_file.specs.declared.faults.LinesFault.{LinesFault}
use Rattle.ss_device_file.specs.declared.faults.LinesFault.TheVariants.{Refused, Cut, Memory as NoRoom}
use Rattle.ss_device_file.specs.Lines.{is_ended, text_of}
use Rattle.ss_device_file.specs.Files.{IsFront, IsWhyNoFront, IsStoppedAt, has_line}
use Rattle.ss_device_file.proofs.Behind.{none_behind}
use Rattle.ss_device_file.proofs.Unique.{each_line, meet, no_further}

front_text : (text : List ℕ) (f : Front) → IsFront text f → text ≡ text_of f.lines.items ++ drop f.used text
front_text text f h = sym (take-append-drop f.used text) ∙ ap (λ t. t ++ drop f.used text) h.text_is

front_long : (text : List ℕ) (f : Front) → IsFront text f → f.used ≡ length (text_of f.lines.items)
front_long text f h = let i = h.inside in let l : length (take f.used text) ≡ length (text_of f.lines.items) = ap length h.text_is in omega (arith, length-take f.used text)

-- behind the end no line may come
pub front_lines : (text : List ℕ) (f g : Front) → IsFront text f → IsFront text g → f.lines.items ≡ g.lines.items
front_lines text f g a b =
    elim (meet f.lines.items g.lines.items (drop f.used text) (drop g.used text) (each_line f.lines.items a.lines) (each_line g.lines.items b.lines) (sym (front_text text f a) ∙ front_text text g b)) [
      | inl on ↦ (no_further f.lines.items g.lines.items (drop f.used text) (drop g.used text) (none_behind f.lines.items (drop f.used text) a.ended) b.lines on).0
      | inr on ↦ sym (no_further g.lines.items f.lines.items (drop g.used text) (drop f.used text) (none_behind g.lines.items (drop g.used text) b.ended) a.lines on).0
    ]

pub front_used : (text : List ℕ) (f g : Front) → IsFront text f → IsFront text g → f.used ≡ g.used
front_used text f g a b = front_long text f a ∙ (ap (λ ls. length (text_of ls)) (front_lines text f g a b) ∙ sym (front_long text g b))

-- a front that ends stops nowhere
front_stopped : (text : List ℕ) (f : Front) (n : ℕ) (rest : List ℕ) → IsFront text f → IsStoppedAt text n rest → ⊥
front_stopped text f n rest a s = false≢true (sym s.unended ∙ (ap is_ended same ∙ a.ended))
  where
    same : s.lines ≡ f.lines.items
    same =
        elim (meet s.lines f.lines.items rest (drop f.used text) (each_line s.lines s.are) (each_line f.lines.items a.lines) (sym s.text_is ∙ front_text text f a)) [
          | inl on ↦ (no_further s.lines f.lines.items rest (drop f.used text) s.none a.lines on).0
          | inr on ↦ sym (no_further f.lines.items s.lines (drop f.used text) rest (none_behind f.lines.items (drop f.used text) a.ended) s.are on).0
        ]

pub not_stopped : (text : List ℕ) (f : Front) (fault : LinesFault) → IsFront text f → IsWhyNoFront text fault → fault ≡ NoRoom
not_stopped text f (Refused n) a s = absurd (front_stopped text f n s.0 a s.1)
not_stopped text f (Cut n) a s = absurd (front_stopped text f n s.0 a s.1)
not_stopped text f NoRoom a s = refl

-- two stops are one
one_stop : (text : List ℕ) (n m : ℕ) (rest tail : List ℕ) → IsStoppedAt text n rest → IsStoppedAt text m tail → (n ≡ m) × (rest ≡ tail)
one_stop text n m rest tail a b = (a.number ∙ (ap (λ ls. length ls + 1) both.0 ∙ sym b.number), both.1)
  where
    both : (a.lines ≡ b.lines) × (rest ≡ tail)
    both =
        elim (meet a.lines b.lines rest tail (each_line a.lines a.are) (each_line b.lines b.are) (sym a.text_is ∙ b.text_is)) [
          | inl on ↦ no_further a.lines b.lines rest tail a.none b.are on
          | inr on ↦ let r = no_further b.lines a.lines tail rest b.none a.are on in (sym r.0, sym r.1)
        ]

pub stopped_once : (text : List ℕ) (one other : LinesFault) → IsWhyNoFront text one → IsWhyNoFront text other → one ≢ NoRoom → other ≢ NoRoom → one ≡ other
stopped_once text (Refused n) (Refused m) a b p q = ap Refused (one_stop text n m a.0 b.0 a.1 b.1).0
stopped_once text (Refused n) (Cut m) a b p q = absurd (false≢true (sym b.2 ∙ (ap has_line (sym (one_stop text n m a.0 b.0 a.1 b.1).1) ∙ a.2)))
stopped_once text (Cut n) (Refused m) a b p q = absurd (false≢true (sym a.2 ∙ (ap has_line (one_stop text n m a.0 b.0 a.1 b.1).1 ∙ b.2)))
stopped_once text (Cut n) (Cut m) a b p q = ap Cut (one_stop text n m a.0 b.0 a.1 b.1).0
stopped_once text NoRoom other a b p q = absurd (p refl)
stopped_once text (Refused n) NoRoom a b p q = absurd (q refl)
stopped_once text (Cut n) NoRoom a b p q = absurd (q refl)
