-- One more report of a worker.
use Rattle.std.proofs.Common.{◌≡◌, inl, inr, ℕ, ◌<◌, List, [], ◌∷◌, ◌++◌, refl, sym, ap, ◌∙◌, subst, append_assoc}
use Rattle.std.proofs.Common.{Option, Bool}
use Rattle.ss_desk.specs.declared.pass.RawPass.{RawPass}
use Rattle.ss_desk.proofs.Lists.{at_end, append_nil}
use Rattle.ss_outside.specs.Told.{Meanings}
use Rattle.ss_laws.specs.declared.journal.Entry.{Entry}
use Rattle.ss_booked.specs.declared.booked.Terms.{Terms}
use Rattle.ss_route.specs.declared.manner.Manner.{Manner}
use Rattle.ss_connection.specs.Known.{KnownAccount, KnowsMore, SeeMore, known_by}
use Rattle.ss_connection.specs.Calls.{Enters, calls_to}
use Rattle.ss_connection.proofs.Later.{served_later}
use Rattle.ss_connection.proofs.Passing.{knows_more}
use Rattle.ss_serve.specs.declared.report.LinkReport.{LinkReport}
use Rattle.ss_serve.specs.Reports.{IsReport, AreReports, all_calls_to}
use Rattle.ss_serve.specs.Crew.{Works}

module _ {L : Type 0} where
  pub calls_end : (uid : ℕ) (rs : List (LinkReport L)) (r : LinkReport L) → all_calls_to uid (rs ++ r ∷ []) ≡ all_calls_to uid rs ++ calls_to uid r.turns.items
  calls_end uid [] r = append_nil (calls_to uid r.turns.items)
  calls_end uid (s ∷ rs) r = ap (λ (l : List ℕ). calls_to uid s.turns.items ++ l) (calls_end uid rs r) ∙ sym (append_assoc (calls_to uid s.turns.items) (all_calls_to uid rs) (calls_to uid r.turns.items))

  module _ (manner : Manner) (tells : L → Meanings) (closed : L → Bool) (uids : List ℕ) where
    -- what a report says stays true where more is known of the accounts
    report_later : (known known' : ℕ → KnownAccount) → KnowsMore known known' → (coming coming' : Option (List ℕ)) (r : LinkReport L)
        → IsReport manner tells closed uids known coming coming' r → IsReport manner tells closed uids known' coming coming' r
    report_later known known' more coming coming' r h = record {
      given = h.given;
      unused = h.unused;
      served = served_later manner uids known known' more r.end h.given (tells r.link) coming coming' r.turns.items h.served;
      is_closed = h.is_closed;
    }

    pub reports_later : (known known' : ℕ → KnownAccount) → KnowsMore known known' → (rs : List (LinkReport L)) (coming coming' : Option (List ℕ))
        → AreReports manner tells closed uids known rs coming coming' → AreReports manner tells closed uids known' rs coming coming'
    reports_later known known' more [] coming coming' h = h
    reports_later known known' more (r ∷ rs) coming coming' h =
        (h.0, report_later known known' more coming h.0 r h.1, reports_later known known' more rs h.0 coming' h.2)

    reports_push : (known : ℕ → KnownAccount) (rs : List (LinkReport L)) (r : LinkReport L) (first before after : Option (List ℕ))
        → AreReports manner tells closed uids known rs first before → IsReport manner tells closed uids known before after r → AreReports manner tells closed uids known (rs ++ r ∷ []) first after
    reports_push known [] r first before after h is = (after, subst (λ (x : Option (List ℕ)). IsReport manner tells closed uids known x after r) h is, refl)
    reports_push known (s ∷ rs) r first before after h is = (h.0, h.1, reports_push known rs r h.0 before after h.2 is)

    pub works_more : {T : Type 0} (number : ℕ) (ps qs : List (RawPass T Terms Entry)) (reports : List (LinkReport L)) (r : LinkReport L) (start before after : Option (List ℕ))
        → Works manner tells closed uids number ps reports start before → SeeMore ps qs → Enters uids ps qs r.turns.items → r.worker ≡ number
        → IsReport manner tells closed uids (known_by qs) before after r → Works manner tells closed uids number qs (reports ++ r ∷ []) start after
    works_more number ps qs reports r start before after h more enters by_is is = record {
      range = λ i lt. more.range i ∙ h.range i (subst (λ n. i < n) more.count lt);
      no_book = λ i. more.book i ∙ h.no_book i;
      told = reports_push (known_by qs) reports r start before after (reports_later (known_by ps) (known_by qs) (knows_more ps qs more) reports start before h.told) is;
      by = λ j x at. elim (at_end reports r x j at) [
        | inl old ↦ h.by j x old
        | inr new ↦ sym (ap (λ (y : LinkReport L). y.worker) new.1) ∙ by_is
      ];
      own = λ i uid at. enters i uid at ∙ (ap (λ (l : List ℕ). l ++ calls_to uid r.turns.items) (h.own i uid at) ∙ sym (calls_end uid reports r));
    }
