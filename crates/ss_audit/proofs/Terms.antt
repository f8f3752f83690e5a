-- The journals of an account's terms are sound logs.
use Rattle.std.specs.Prelude.{◌≡◌, ◌+◌, ◌<◌, ◌==◌, ℕ, Bool, true, false, nat_le, cond, List, length, take, get_or, Some}
use Rattle.std.specs.Prelude.{None, refl}
use Rattle.std.proofs.Common.{arith}
use Rattle.std.proofs.lemmas.Bool.Decides.{nat_tests}
use Rattle.ss_text.proofs.Basics.{neither_right}
use Rattle.ss_laws.specs.Journal.{Journal}
use Rattle.ss_booked.specs.Sizes.{full_of, is_full, journal_bytes, most_journal_bytes}
use Rattle.ss_audit.specs.Sound.{AreSound, AreWithin, closing_of}
use Rattle.ss_audit.specs.Terms.{AreOfTerms, IsOfTerm}
use Rattle.ss_audit.proofs.GoingOn.{same_goes_on}

none_of : {X : Type 0} (b : Bool) (x : X) → cond b (Some x) None ≡ None → b ≡ false
none_of true x e = cc
none_of false x e = refl

lighter : (bytes : ℕ) → nat_le most_journal_bytes bytes ≡ false → bytes < most_journal_bytes
lighter bytes e = grind (arith, nat_tests)

-- a journal that isn't full has fewer bytes than make it full
light : (journal : Journal) → full_of journal ≡ None → journal_bytes journal.entries < most_journal_bytes
light journal e =
    lighter (journal_bytes journal.entries) (neither_right (length journal.entries == journal.most) (nat_le most_journal_bytes (journal_bytes journal.entries)) (none_of (is_full journal) _ e))

within_term : (journal : Journal) → IsOfTerm journal → AreWithin journal.most journal.entries
within_term journal t = record {
  most = t.made.legal.within;
  few = omega (arith, t.made.legal.within, t.room);
  bytes = λ k lt. light (record journal { entries = take k journal.entries }) (t.made.had_room k lt);
}

pub terms_sound : (journals : List Journal) → AreOfTerms journals → AreSound journals
terms_sound journals t = record {
  each = λ k d lt.
      let term : IsOfTerm (get_or journals k d) = t.each k d lt in
      record { opening = term.made.legal.opening; tickets = term.made.legal.tickets; within = within_term (get_or journals k d) term };
  go_on = λ k d lt. same_goes_on (closing_of (get_or journals k d)) (get_or journals (k + 1) d).opening (t.go_on k d lt);
}
