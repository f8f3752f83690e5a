-- The workers' passes come back in turn, the last worker's first.
use Rattle.std.proofs.Common.{◌≡◌, inl, ℕ, suc, ◌+◌, ◌<◌, ◌≤◌, List, [], ◌∷◌, ◌++◌, length, refl, sym, ap, ◌∙◌, subst}
use Rattle.std.proofs.Common.{append_assoc, length-append, arith, Option, Bool}
use mathlib.Core.Option.{some}
use lib.ListN.{get_elem?}
use mathlib.Core.Logic.{dite}
use native.Mathlib.Decide.{dec_lt}
use Rattle.ss_desk.specs.declared.journaled.Journaled.{Ghosts}
use Rattle.ss_desk.specs.declared.pass.RawPass.{RawPass}
use Rattle.ss_desk.specs.declared.view.View.{View}
use Rattle.ss_desk.specs.declared.view.Page.{Page}
use Rattle.ss_desk.specs.Passes.{view_at, Joins}
use Rattle.ss_desk.specs.Views.{Covers, CoversAll, InRange, joined_view, page_of}
use Rattle.ss_desk.proofs.Lists.{append_nil}
use Rattle.ss_desk.proofs.Covering.{covers_left, covers_right}
use Rattle.ss_outside.specs.Told.{Meanings}
use Rattle.ss_town.specs.Town.{passes_of}
use Rattle.ss_laws.specs.declared.journal.Entry.{Entry}
use Rattle.ss_booked.specs.declared.booked.Terms.{Terms}
use Rattle.ss_route.specs.declared.manner.Manner.{Manner}
use Rattle.ss_serve.specs.declared.report.LinkReport.{LinkReport}
use Rattle.ss_serve.specs.declared.worker.Worker.{Worker}
use Rattle.ss_serve.specs.Crew.{Works, IsWhole, count_reports}
use Rattle.ss_serve.specs.Gathering.{IsGathering, reports_in}
use Rattle.ss_serve.specs.Workers.{half}

middle_at : {X : Type 0} (xs ys : List X) (x : X) → get_elem? (xs ++ x ∷ ys) (length xs) ≡ some x
middle_at [] ys x = refl
middle_at (y ∷ xs) ys x = middle_at xs ys x

module _ {L C T A R : Type 0} {J : Ghosts T Terms Entry A R} where
  pub count_end : (ws : List (Worker L C T Terms Entry A R J)) (w : Worker L C T Terms Entry A R J) → count_reports (ws ++ w ∷ []) ≡ count_reports ws + length w.reports.items
  count_end [] w = omega arith
  count_end (x ∷ ws) w = let r = count_end ws w in omega arith

  pub gather_first : (places : ℕ) (opened : List (RawPass T Terms Entry)) (all : List (Worker L C T Terms Entry A R J)) (reports : List (LinkReport L)) (clocks : List C) → reports ≡ [] → clocks ≡ []
      → ((i : ℕ) → i < places → IsWhole (length all) (view_at opened i)) → IsGathering places opened all all opened reports clocks
  gather_first places opened all reports clocks none empty h = record {
    long = refl;
    tail = [];
    split = sym (append_nil all);
    range = λ i lt. (h i lt).range;
    fixed = λ i lt. refl;
    acted = λ i lt. (h i lt).not_acted;
    covers = λ i lt n low. inl (subst (InRange n) (sym (h i lt).range) (omega arith, low));
    book = λ i lt. (h i lt).no_book;
    reported = none;
    back = empty;
  }

  pub covers_all : (places : ℕ) (opened now : List (RawPass T Terms Entry)) (all : List (Worker L C T Terms Entry A R J)) (reports : List (LinkReport L)) (clocks : List C) → IsGathering places opened all [] now reports clocks
      → (i : ℕ) → i < places → CoversAll (view_at now i)
  covers_all places opened now all reports clocks g i lt n low = g.covers i lt n low

  count_in : (ws : List (Worker L C T Terms Entry A R J)) → length (reports_in ws) ≡ count_reports ws
  count_in [] = refl
  count_in (w ∷ ws) = let r = count_in ws in omega (arith, r, length-append (reports_in ws) w.reports.items)

  pub count_gathered : (places : ℕ) (opened now : List (RawPass T Terms Entry)) (all : List (Worker L C T Terms Entry A R J)) (reports : List (LinkReport L)) (clocks : List C) → IsGathering places opened all [] now reports clocks
      → length reports ≡ count_reports all
  count_gathered places opened now all reports clocks g = ap length g.reported ∙ (ap (λ (l : List (Worker L C T Terms Entry A R J)). length (reports_in l)) (sym g.split) ∙ count_in all)

  pub place_of : (places : ℕ) (opened now : List (RawPass T Terms Entry)) (all rest : List (Worker L C T Terms Entry A R J)) (x : Worker L C T Terms Entry A R J) (reports : List (LinkReport L)) (clocks : List C)
      → IsGathering places opened all (rest ++ x ∷ []) now reports clocks → get_elem? all (length rest) ≡ some x
  place_of places opened now all rest x reports clocks g = ap (λ (l : List (Worker L C T Terms Entry A R J)). get_elem? l (length rest)) (g.split ∙ append_assoc rest (x ∷ []) g.tail) ∙ middle_at rest g.tail x

  module _ (manner : Manner) (tells : L → Meanings) (closed : L → Bool) (uids : List ℕ) where
    pub gather_next : (places : ℕ) (opened now after : List (RawPass T Terms Entry)) (all rest : List (Worker L C T Terms Entry A R J)) (x : Worker L C T Terms Entry A R J) (reports reports' : List (LinkReport L)) (clocks clocks' : List C) (start coming : Option (List ℕ))
        → IsGathering places opened all (rest ++ x ∷ []) now reports clocks → Works manner tells closed uids (length rest) (passes_of x.passes) x.reports.items start coming → places ≡ length (passes_of x.passes)
        → Joins now (passes_of x.passes) after → reports' ≡ reports ++ x.reports.items → clocks' ≡ x.clock ∷ clocks → IsGathering places opened all rest after reports' clocks'
    gather_next places opened now after all rest x reports reports' clocks clocks' start coming g w long joins add more =
        let ps = passes_of x.passes in
        let long_end : length (rest ++ x ∷ []) ≡ suc (length rest) = length-append rest (x ∷ []) ∙ (let e : length rest + 1 ≡ suc (length rest) = omega arith in e) in
        let is : (i : ℕ) → i < places → view_at after i ≡ joined_view (view_at now i) (view_at ps i) = λ i lt. joins.1 i (omega (arith, long)) in record {
          long = joins.0 ∙ g.long;
          tail = x ∷ g.tail;
          split = g.split ∙ append_assoc rest (x ∷ []) g.tail;
          range = λ i lt. ap (λ (v : View Terms Entry). v.range) (is i lt) ∙ g.range i lt;
          fixed = λ i lt. ap (λ (v : View Terms Entry). v.fixed) (is i lt) ∙ g.fixed i lt;
          acted = λ i lt. ap (λ (v : View Terms Entry). v.acted) (is i lt) ∙ g.acted i lt;
          covers = λ i lt n low. subst (λ (v : View Terms Entry). Covers v n) (sym (is i lt)) (dite (dec_lt n (half (suc (length rest))))
              (λ less. covers_left (view_at now i) (view_at ps i) n (g.covers i lt n (subst (λ m. n < half m) (sym long_end) less)))
              (λ more. covers_right (view_at now i) (view_at ps i) n (inl (subst (InRange n) (sym (w.range i (omega (arith, long)))) (let m : half (suc (length rest)) ≤ n = omega arith in m, low)))));
          book = λ i lt. ap (λ (v : View Terms Entry). v.book) (is i lt)
              ∙ (ap (λ (l : List (Page Entry)). (view_at now i).book ++ page_of (view_at ps i) ∷ l) (w.no_book i) ∙ ap (λ (l : List (Page Entry)). l ++ page_of (view_at ps i) ∷ []) (g.book i lt));
          reported = add ∙ ap (λ (l : List (LinkReport L)). l ++ x.reports.items) g.reported;
          back = more ∙ ap (λ (l : List C). x.clock ∷ l) g.back;
        }
