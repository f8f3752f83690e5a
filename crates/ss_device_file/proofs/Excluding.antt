-- Of the answers to a text at most one is possible.
use Rattle.std.proofs.Common.{◌≡◌, ◌≢◌, ◌⊎◌, ℕ, ◌+◌, true, false, List, [], ◌∷◌, ◌++◌, length, append_assoc, append-nil}
use Rattle.std.proofs.Common.{refl, sym, ap, subst, ◌∙◌, inl, inr}
use Rattle.std.proofs.lemmas.Bool.{false≢true}
use Rattle.ss_tree.specs.Entries.{tree}
use Rattle.ss_device.specs.Device.{DeviceView, IsSameDevice}
use Rattle.ss_device_file.specs.declared.lines.Line.{Line}
use Rattle.ss_device_file.specs.declared.lines.ItemLine.{ItemLine}
use Rattle.ss_device_file.specs.declared.faults.DeviceFault.{DeviceFault}
use Rattle.ss_device_file.specs.declared.faults.DeviceFault.TheVariants.{BadLine, BadTree, Memory}
use Rattle.ss_device_file.specs.Lines.{is_ended, text_of}
use Rattle.ss_device_file.specs.Places.{ArePlaced, IsAstray, IsShort, PlacedAfter, has_place, seats_left}
use Rattle.ss_device_file.specs.Files.{AreAll, IsBadLine, IsFileOf, IsWhyNoDevice, TellsDevice, HasUnseatedItem}
use Rattle.ss_device_file.specs.Files.{items_in}
use Rattle.ss_device_file.proofs.Unique.{LinesGoOn, each_line, meet, no_further, no_more}
use Rattle.ss_text.proofs.Basics.{some_same, none_some}

-- ---- the lines of a whole text

pub all_same : (text : List ℕ) (ls ms : List Line) → AreAll text ls → AreAll text ms → ls ≡ ms
all_same text ls ms a b =
    elim (meet ls ms [] [] (each_line ls a.lines) (each_line ms b.lines) (append-nil (text_of ls) ∙ (sym a.text_is ∙ (b.text_is ∙ sym (append-nil (text_of ms)))))) [
      | inl g ↦ no_more ls ms g
      | inr g ↦ sym (no_more ms ls g)
    ]

-- a text whose lines are all there has no bad line
pub none_bad : (text : List ℕ) (n : ℕ) (ms : List Line) → IsBadLine text n → AreAll text ms → ⊥
none_bad text n ms a b =
    elim (meet a.lines ms a.rest [] (each_line a.lines a.are) (each_line ms b.lines) (sym a.text_is ∙ (b.text_is ∙ sym (append-nil (text_of ms))))) [
      | inl g ↦ let r = no_further a.lines ms a.rest [] a.none b.lines g in a.more (ap is_ended r.0 ∙ b.ended) r.1
      | inr g ↦ back g
    ]
  where
    -- the lines in front of the bad one are all of them, and more of them than there are
    back : LinesGoOn ms a.lines [] a.rest → ⊥
    back g =
        let nil = front_nil (text_of g.more) a.rest g.text_is in
        let same : a.lines ≡ ms = sym (no_more ms a.lines (record { more = g.more; lines_are = g.lines_are; text_is = sym (append-nil (text_of g.more) ∙ nil.0) })) in
        a.more (ap is_ended same ∙ b.ended) nil.1
      where
        front_nil : (xs ys : List ℕ) → [] ≡ xs ++ ys → (xs ≡ []) × (ys ≡ [])
        front_nil [] ys q = (refl, sym q)
        front_nil (x ∷ xs) ys q = cc

-- the first bad line is one
pub one_bad : (text : List ℕ) (n m : ℕ) → IsBadLine text n → IsBadLine text m → n ≡ m
one_bad text n m a b =
    a.number ∙ (ap (λ ls. length ls + 1) same ∙ sym b.number)
  where
    same : a.lines ≡ b.lines
    same =
        elim (meet a.lines b.lines a.rest b.rest (each_line a.lines a.are) (each_line b.lines b.are) (sym a.text_is ∙ b.text_is)) [
          | inl g ↦ (no_further a.lines b.lines a.rest b.rest a.none b.are g).0
          | inr g ↦ sym (no_further b.lines a.lines b.rest a.rest b.none a.are g).0
        ]

-- ---- the first item that hasn't its place

placed_split : (front is : List ItemLine) (i : ItemLine) (js : List ItemLine) → PlacedAfter front (is ++ i ∷ js) → has_place (front ++ is) i ≡ true
placed_split front [] i js h = ap (λ f. has_place f i) (append-nil front) ∙ h.0
placed_split front (x ∷ is) i js h = ap (λ f. has_place f i) (sym (append_assoc front (x ∷ []) is)) ∙ placed_split (front ++ x ∷ []) is i js h.1

placed_at : (is : List ItemLine) (i : ItemLine) (js : List ItemLine) → ArePlaced (is ++ i ∷ js) → has_place is i ≡ true
unfolding ArePlaced
placed_at is i js h = placed_split [] is i js h

-- two places in a list are one, or one of them is in front
abbrev Splits : {A : Type 0} → List A → List A → A → A → Type 0
Splits {A} xs ys x y = ((xs ≡ ys) × (x ≡ y)) ⊎ (((zs : List A) × (ys ≡ xs ++ x ∷ zs)) ⊎ ((zs : List A) × (xs ≡ ys ++ y ∷ zs)))

splits : {A : Type 0} (xs ys : List A) (x y : A) (us vs : List A) → xs ++ x ∷ us ≡ ys ++ y ∷ vs → Splits xs ys x y
splits [] [] x y us vs e = inl (refl, cc)
splits [] (z ∷ ys) x y us vs e = let same : z ≡ x = cc in inr (inl (ys, ap (λ w. w ∷ ys) same))
splits (z ∷ xs) [] x y us vs e = let same : z ≡ y = cc in inr (inr (xs, ap (λ w. w ∷ xs) same))
splits {A} (z ∷ xs) (w ∷ ys) x y us vs e =
    let same : z ≡ w = cc in
    let rest : xs ++ x ∷ us ≡ ys ++ y ∷ vs = cc in
    elim (splits xs ys x y us vs rest) [
      | inl h ↦ inl ((λ i. same i ∷ h.0 i), h.1)
      | inr (inl h) ↦ inr (inl (h.0, (λ i. sym same i ∷ h.1 i)))
      | inr (inr h) ↦ inr (inr (h.0, (λ i. same i ∷ h.1 i)))
    ]

one_astray : (is : List ItemLine) (x y : List ℕ) → IsAstray is x → IsAstray is y → x ≡ y
one_astray is x y a b =
    elim (splits a.front b.front a.item b.item a.back b.back (sym a.split ∙ b.split)) [
      | inl h ↦ a.named ∙ (ap (λ (i : ItemLine). i.item.id) h.1 ∙ sym b.named)
      | inr (inl h) ↦ absurd (false≢true (sym a.wrong ∙ placed_at a.front a.item h.0 (subst ArePlaced h.1 b.placed)))
      | inr (inr h) ↦ absurd (false≢true (sym b.wrong ∙ placed_at b.front b.item h.0 (subst ArePlaced h.1 a.placed)))
    ]

none_astray : (is : List ItemLine) (x : List ℕ) → ArePlaced is → IsAstray is x → ⊥
none_astray is x p a = false≢true (sym a.wrong ∙ placed_at a.front a.item a.back (subst ArePlaced a.split p))

none_short : (is : List ItemLine) (x : List ℕ) → seats_left is ≡ [] → IsShort is x → ⊥
none_short is x none s = some_none (sym none ∙ s.left)
  where
    some_none : {X : Type 0} {y : X} {ys : List X} → [] ≡ y ∷ ys → ⊥
    some_none e = cc

-- ---- why items make no device

one_unseated : (ls : List Line) (x y : List ℕ) → HasUnseatedItem ls x → HasUnseatedItem ls y → x ≡ y
one_unseated ls x y (inl a) (inl b) = one_astray (items_in ls) x y a b
one_unseated ls x y (inl a) (inr (inl b)) = absurd (none_astray (items_in ls) x b.placed a)
one_unseated ls x y (inl a) (inr (inr b)) = absurd (none_astray (items_in ls) x b.0.placed a)
one_unseated ls x y (inr (inl a)) (inl b) = absurd (none_astray (items_in ls) y a.placed b)
one_unseated ls x y (inr (inl a)) (inr (inl b)) = a.named ∙ sym b.named
one_unseated ls x y (inr (inl a)) (inr (inr b)) = absurd (none_short (items_in ls) x b.0.left a)
one_unseated ls x y (inr (inr a)) (inl b) = absurd (none_astray (items_in ls) y a.0.placed b)
one_unseated ls x y (inr (inr a)) (inr (inl b)) = absurd (none_short (items_in ls) y a.0.left b)
one_unseated ls x y (inr (inr a)) (inr (inr b)) = some_same (sym a.1 ∙ b.1)

none_unseated : (ls : List Line) (d : DeviceView) (x : List ℕ) → TellsDevice ls d → HasUnseatedItem ls x → ⊥
none_unseated ls d x t (inl a) = none_astray (items_in ls) x t.whole.placed a
none_unseated ls d x t (inr (inl a)) = none_short (items_in ls) x t.whole.left a
none_unseated ls d x t (inr (inr a)) = none_some (sym t.found ∙ a.1)

-- ---- answers

pub not_refused : (text : List ℕ) (d : DeviceView) (fault : DeviceFault) → IsFileOf text d → IsWhyNoDevice text fault → fault ≡ Memory
not_refused text d (BadLine n) f r = absurd (none_bad text n f.lines r f.all)
not_refused text d (BadTree x) f r = absurd (none_unseated f.lines d x f.told (subst (λ ls. HasUnseatedItem ls x) (all_same text r.lines f.lines r.all f.all) r.unseated))
not_refused text d Memory f r = refl

pub refused_once : (text : List ℕ) (one other : DeviceFault) → IsWhyNoDevice text one → IsWhyNoDevice text other → one ≢ Memory → other ≢ Memory → one ≡ other
refused_once text (BadLine n) (BadLine m) a b p q = ap BadLine (one_bad text n m a b)
refused_once text (BadLine n) (BadTree y) a b p q = absurd (none_bad text n b.lines a b.all)
refused_once text (BadTree x) (BadLine m) a b p q = absurd (none_bad text m a.lines b a.all)
refused_once text (BadTree x) (BadTree y) a b p q = ap BadTree (one_unseated b.lines x y (subst (λ ls. HasUnseatedItem ls x) (all_same text a.lines b.lines a.all b.all) a.unseated) b.unseated)
refused_once text Memory other a b p q = absurd (p refl)
refused_once text (BadLine n) Memory a b p q = absurd (q refl)
refused_once text (BadTree x) Memory a b p q = absurd (q refl)

pub told_once : (text : List ℕ) (d e : DeviceView) → IsFileOf text d → IsFileOf text e → IsSameDevice d e
told_once text d e f g =
    let t : TellsDevice g.lines d = subst (λ ls. TellsDevice ls d) (all_same text f.lines g.lines f.all g.all) f.told in
    record {
      tree = λ x. t.tells.items x ∙ sym (g.told.tells.items x);
      dead = t.tells.dead ∙ sym g.told.tells.dead;
      mirror = t.tells.mirror ∙ sym g.told.tells.mirror;
      stamp = t.tells.stamp ∙ sym g.told.tells.stamp;
    }
