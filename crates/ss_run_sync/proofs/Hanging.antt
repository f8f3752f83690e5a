-- Links that were hung up, and what is told and counted of them.
use Rattle.std.proofs.Common.{◌≡◌, ◌≢◌, ℕ, ◌≤◌, List, [], ◌∷◌, ◌++◌, map, Option, Some, None, unwrap_or, refl, sym, ap}
use Rattle.std.proofs.Common.{◌∙◌, subst, append_assoc, inl, inr, arith}
use Rattle.std.proofs.lemmas.List.{append-nil}
use Rattle.std.proofs.lemmas.List.{map-append}
use Rattle.ss_outside.specs.Told.{Meanings, Takes, Writes}
use Rattle.ss_outside.specs.Causes.{Rose}
use Rattle.ss_links.specs.Links.{AreNone, IsUnusedLink}
use Rattle.ss_links.specs.Dials.{HungLink, Tells, HasHung, HangUpCounts}
use Rattle.ss_device.specs.Device.{DeviceView}
use Rattle.ss_run_sync.specs.Moves.{RaisesNoFault, Fails}
use Rattle.ss_outside.specs.Told.{Moves}
use Rattle.ss_run_sync.specs.Course.{Account}
use Rattle.ss_run_sync.specs.Talks.{TalkView, taken_of, written_of}
use Rattle.ss_run_sync.specs.Links.{UsedLink, hung_of, Hangs}

pub hangs_none : (account : Account) (d : DeviceView) (a b : Option (List HungLink)) → b ≡ a → Hangs account d [] a b
hangs_none account d a b e = λ y told. (y, sym e ∙ told, sym (append-nil y))

pub hangs_then : (account : Account) (d : DeviceView) (ks ls : List UsedLink) (a b c : Option (List HungLink)) → Hangs account d ks a b → Hangs account d ls b c → Hangs account d (ks ++ ls) a c
hangs_then account d ks ls a b c f g = λ y told.
    let n = g y told in
    let m = f n.0 n.1 in (
      m.0,
      m.1,
      n.2 ∙ ap (λ x. x ++ map (hung_of account d) ls) m.2 ∙ append_assoc m.0 (map (hung_of account d) ks) (map (hung_of account d) ls)
          ∙ ap (λ t. m.0 ++ t) (sym (map-append (hung_of account d) ks ls)),
    )

-- ---- one link

taken_is : (got : List ℕ) (old new : Option (List ℕ)) (all : List ℕ) → Takes got old new → AreNone old → new ≡ Some all → all ≡ got
taken_is got None new all t n e = absurd (none (sym t ∙ e))
  where
    none : None ≡ Some all → ⊥
    none q = cc
taken_is got (Some x) new all t n e =
    let same : x ++ got ≡ all = cc (t, e) in
    sym same ∙ ap (λ z. z ++ got) (n x refl)

written_is : (sent : List ℕ) (old new : Option (List ℕ)) (all : List ℕ) → Writes sent old new → AreNone old → new ≡ Some all → all ≡ sent
written_is sent old new all w n e =
    let h = w all e in
    h.2 ∙ ap (λ z. z ++ sent) (n h.0 h.1)

left_is : (o : Option (List ℕ)) (left : List ℕ) → o ≡ Some left → left ≡ unwrap_or o []
left_is o left e = sym (ap (λ p. unwrap_or p []) e)

hung_is : (account : Account) (d : DeviceView) (t : TalkView) (link link' : Meanings) (hung : HungLink) → IsUnusedLink link → Moves (taken_of t) (written_of account d t) link link' → Tells link' hung
    → hung ≡ hung_of account d (record { talked = t; tells = link' })
hung_is account d t link link' hung u m h =
    let p = taken_is (taken_of t) link.taken link'.taken hung.taken m.taken u.taken h.taken in
    let q = left_is link'.left hung.left h.left in
    let r = written_is (written_of account d t) link.written link'.written hung.written m.written u.written h.written in
    λ i. record { taken = p i; left = q i; written = r i }

pub hangs_one : (account : Account) (d : DeviceView) (t : TalkView) (link link' : Meanings) (a b : Option (List HungLink)) → IsUnusedLink link → Moves (taken_of t) (written_of account d t) link link' → HasHung link' a b
    → Hangs account d (record { talked = t; tells = link' } ∷ []) a b
hangs_one account d t link link' a b u m hh = λ y told.
    let h = hh y told in
    (h.0, h.2, h.4 ∙ ap (λ (z : HungLink). h.0 ++ z ∷ []) (hung_is account d t link link' h.1 u m h.3))

-- ---- counts

is_risen : (m n : ℕ) → m ≡ 0 → Rose m n → n ≢ 0
is_risen m n e r z = absurd (at (subst (λ x. Rose x n) e r))
  where
    at : Rose 0 n → ⊥
    at s = let one : 1 ≤ n = s.risen in omega arith

pub hung_failed : (text got sent : List ℕ) (link link' : Meanings) (f g : ℕ) → IsUnusedLink link → Fails text got sent link link' → HangUpCounts link' f g → Rose f g
hung_failed text got sent link link' f g u (inl h) c = c.failed (inr (is_risen link.write_faults link'.write_faults u.write_faults h.0))
hung_failed text got sent link link' f g u (inr h) c = c.failed (inl (is_risen link.read_faults link'.read_faults u.read_faults h.0))

pub hung_fine : (link link' : Meanings) (f g : ℕ) → IsUnusedLink link → RaisesNoFault link link' → HangUpCounts link' f g → g ≡ f
hung_fine link link' f g u h c = c.fine (h.reads ∙ u.read_faults) (h.writes ∙ u.write_faults)
