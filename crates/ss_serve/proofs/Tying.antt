-- What ties the parts of a term together.
use Rattle.std.proofs.Common.{◌≡◌, ℕ, zero, suc, ◌+◌, ◌<◌, ◌≤◌, List, [], ◌∷◌, ◌++◌, length, length-append, map, set}
use Rattle.std.proofs.Common.{get_or, ne_eqb, cond, refl, sym, ap, ◌∙◌, subst, arith, Some, Option, All, Bool}
use mathlib.Core.Option.{some, some-injective, some-ne-none}
use lib.ListN.{get_elem?}
use mathlib.Core.Logic.{dite}
use native.Mathlib.Decide.{dec_lt}
use Rattle.ss_desk.specs.declared.desk.Desk.{Desk}
use Rattle.ss_desk.specs.declared.journaled.Journaled.{Ghosts}
use Rattle.ss_desk.specs.declared.pass.RawPass.{RawPass}
use Rattle.ss_desk.specs.declared.view.View.{View}
use Rattle.ss_desk.specs.Passes.{view_at}
use Rattle.ss_desk.proofs.Beside.{at_left, there_is}
use Rattle.ss_desk.proofs.Lists.{at_length}
use Rattle.ss_outside.specs.Told.{Meanings}
use Rattle.ss_town.specs.Opening.{IsTown, MayOpen}
use Rattle.ss_laws.specs.declared.journal.Entry.{Entry}
use Rattle.ss_booked.specs.declared.booked.Terms.{Terms}
use Rattle.ss_route.specs.declared.manner.Manner.{Manner}
use Rattle.ss_serve.specs.declared.report.LinkReport.{LinkReport}
use Rattle.ss_serve.specs.declared.report.TermStop.{TermStop}
use Rattle.ss_serve.specs.declared.report.TermStop.TheVariants as stop
use Rattle.ss_serve.specs.declared.worker.Worker.{Worker}
use Rattle.ss_serve.specs.Crew.{AreWorkerSigns, sign, fixed_at, IsWhole, IsStart, AreHalvedPasses, HasWorked, Have}
use Rattle.ss_serve.specs.Crew.{AreHandedBack}
use Rattle.ss_serve.specs.Crew.{count_reports}
use Rattle.ss_serve.specs.Fullness.{IsOpenStop, FullKind}
use Rattle.ss_serve.specs.Reports.{AreReports, reports_by}
use Rattle.ss_serve.specs.Terms.{AreServedAccounts, IsTerm, TermSays, FullSays, IsFull, Smallest, known_after, uids_in}
use Rattle.ss_serve.specs.Workers.{number_of}
use Rattle.ss_serve.proofs.Crews.{all_at, at_map}

module _ {L C T A R : Type 0} {J : Ghosts T Terms Entry A R} where
  pub count_first : (l : List (Worker L C T Terms Entry A R J)) (old y : Worker L C T Terms Entry A R J) → old ≡ get_or l 0 old → 0 < length l → count_reports (set l 0 y) + length old.reports.items ≡ count_reports l + length y.reports.items
  count_first [] old y is lt = absurd (omega arith)
  count_first (x ∷ xs) old y is lt = omega (arith, ap (λ (w : Worker L C T Terms Entry A R J). length w.reports.items) is)

  pub count_least : (l : List (Worker L C T Terms Entry A R J)) (old : Worker L C T Terms Entry A R J) → old ≡ get_or l 0 old → 0 < length l → length old.reports.items ≤ count_reports l
  count_least [] old is lt = absurd (omega arith)
  count_least (x ∷ xs) old is lt = omega (arith, ap (λ (w : Worker L C T Terms Entry A R J). length w.reports.items) is)

  pub by_place : {D S : Type 0} (tells : L → Meanings) (closed : L → Bool) (coming : C → Option (List ℕ)) (uids : List ℕ) (desks : List (Desk T Terms Entry D S)) (opened : List (RawPass T Terms Entry)) (least : ℕ) (manner : Manner) (crew : List (Worker L C T Terms Entry A R J))
      → All (λ w. HasWorked tells closed coming uids desks w) crew → AreWorkerSigns least (fixed_at opened) manner (map (sign coming) crew) → Have tells closed coming uids desks opened crew
  by_place tells closed coming uids desks opened least manner crew worked signed = record {
    each = λ k w at. let s = signed k (sign coming w) (at_map (sign coming) crew k w at) in (all_at (λ w. HasWorked tells closed coming uids desks w) crew k w worked at, s.0, s.2);
  }

  -- there are none
  pub have_none : {D S : Type 0} (tells : L → Meanings) (closed : L → Bool) (coming : C → Option (List ℕ)) (uids : List ℕ) (desks : List (Desk T Terms Entry D S)) (opened : List (RawPass T Terms Entry)) (crew : List (Worker L C T Terms Entry A R J))
      → crew ≡ [] → Have tells closed coming uids desks opened crew
  have_none tells closed coming uids desks opened crew none = subst (λ (l : List (Worker L C T Terms Entry A R J)). Have tells closed coming uids desks opened l) (sym none) (record { each = λ k w at. absurd (some-ne-none w (sym at)) })

  -- workers of the passes as they were opened are workers of those that are left
  pub have_left : {D S : Type 0} (tells : L → Meanings) (closed : L → Bool) (coming : C → Option (List ℕ)) (uids : List ℕ) (desks : List (Desk T Terms Entry D S)) (n : ℕ) (opened ps : List (RawPass T Terms Entry)) (crew : List (Worker L C T Terms Entry A R J))
      → AreHalvedPasses n opened ps → Have tells closed coming uids desks opened crew → Have tells closed coming uids desks ps crew
  have_left tells closed coming uids desks n opened ps crew left h = record { each = λ k w at. let e = h.each k w at in (e.0, e.1, e.2 ∙ sym left.fixed) }

module _ {T : Type 0} where
  pub whole_left : (n m places : ℕ) (opened ps : List (RawPass T Terms Entry)) → AreHalvedPasses n opened ps → places ≡ length ps → m ≡ n → (i : ℕ) → i < places → IsWhole m (view_at ps i)
  whole_left n m places opened ps h long is i lt = subst (λ k. IsWhole k (view_at ps i)) (sym is) (h.start i (omega (arith, long))).0

  pub left_next : (n m : ℕ) (opened ps qs : List (RawPass T Terms Entry)) → AreHalvedPasses n opened ps → length qs ≡ length ps → fixed_at qs ≡ fixed_at ps
      → ((i : ℕ) → i < length qs → IsStart m (view_at qs i)) → AreHalvedPasses m opened qs
  left_next n m opened ps qs h long same start = record { long = long ∙ h.long; start = start; fixed = same ∙ h.fixed }

  pub handed_from : {B : Type 0} (terms : B → Terms) (n : ℕ) (uids : List ℕ) (opened ps : List (RawPass T Terms Entry)) (handed : List (ℕ × B)) → AreHalvedPasses n opened ps → AreHandedBack terms uids ps handed → AreHandedBack terms uids opened handed
  handed_from terms n uids opened ps handed h t = record {
    count = t.count ∙ h.long;
    place = λ i uid b at. let p = t.place i uid b at in (p.0, (λ j. sym h.fixed j i) ∙ p.1);
    sorted = t.sorted;
  }

-- past the end of two lists of one length, both go on with the same
same_tail : {X : Type 0} (xs ys zs : List X) (k : ℕ) (x y : X) → length ys ≡ length xs → length xs ≤ k → get_elem? (xs ++ zs) k ≡ some x → get_elem? (ys ++ zs) k ≡ some y → y ≡ x
same_tail [] [] zs k x y long le a b = some-injective y x (sym b ∙ a)
same_tail [] (w ∷ ys) zs k x y long le a b = absurd (omega arith)
same_tail (v ∷ xs) [] zs k x y long le a b = absurd (omega arith)
same_tail (v ∷ xs) (w ∷ ys) zs zero x y long le a b = absurd (omega arith)
same_tail (v ∷ xs) (w ∷ ys) zs (suc k) x y long le a b = same_tail xs ys zs k x y (omega arith) (omega arith) a b

module _ {B L : Type 0} (terms : B → Terms) (entries : B → List Entry) (faults : B → ℕ) (manner : Manner) (tells : L → Meanings) (closed : L → Bool) where
  past : (k n : ℕ) (rs : List (LinkReport L)) → ((j : ℕ) (r : LinkReport L) → get_elem? rs j ≡ some r → r.worker < n) → n ≤ k → reports_by k rs ≡ []
  past k n [] all le = refl
  past k n (r ∷ rs) all le = let lt = all zero r refl in ap (λ b. cond b (r ∷ reports_by k rs) (reports_by k rs)) (ne_eqb r.worker k (λ e. omega (arith, e, lt))) ∙ past k n rs (λ i s at. all (suc i) s at) le

  -- clocks that no worker had come back as they were
  pub served_with : (handed : List (ℕ × B)) (reports : List (LinkReport L)) (coming coming' others : List (Option (List ℕ))) → AreServedAccounts terms entries faults manner tells closed handed reports coming coming'
      → AreServedAccounts terms entries faults manner tells closed handed reports (coming ++ others) (coming' ++ others)
  served_with handed reports coming coming' others h = record {
    lawful = h.lawful;
    kept = h.kept;
    tickets = h.tickets;
    clocks = length-append coming' others ∙ (ap (λ n. n + length others) h.clocks ∙ sym (length-append coming others));
    workers = λ j r at. let lt = h.workers j r at in omega (arith, lt, length-append coming others);
    reported = λ k before after first last. dite (dec_lt k (length coming))
        (λ less. let a = there_is coming k less in let b = there_is coming' k (omega (arith, h.clocks)) in
        let is : a.0 ≡ before = some-injective a.0 before (sym (at_left coming others k a.0 a.1) ∙ first) in
        let ends : b.0 ≡ after = some-injective b.0 after (sym (at_left coming' others k b.0 b.1) ∙ last) in
        subst (λ (x : Option (List ℕ)). AreReports manner tells closed (uids_in handed) (known_after terms entries (number_of k) handed) (reports_by k reports) x after) is
        (subst (λ (x : Option (List ℕ)). AreReports manner tells closed (uids_in handed) (known_after terms entries (number_of k) handed) (reports_by k reports) a.0 x) ends (h.reported k a.0 b.0 a.1 b.1)))
        (λ more. subst (λ (l : List (LinkReport L)). AreReports manner tells closed (uids_in handed) (known_after terms entries (number_of k) handed) l before after) (sym (past k (length coming) reports h.workers (omega arith)))
        (same_tail coming coming' others k before after h.clocks (omega arith) first last));
  }

  pub says_open : (ended : TermStop) (given handed : List (ℕ × B)) (reports : List (LinkReport L)) (coming coming' : List (Option (List ℕ))) → IsOpenStop ended
      → IsTerm terms entries faults manner tells closed given handed reports coming coming' → TermSays terms entries faults manner tells closed given handed reports coming coming' ended
  says_open stop.Connections given handed reports coming coming' o h = h
  says_open stop.PortEnded given handed reports coming coming' o h = h
  says_open stop.Rested given handed reports coming coming' o h = h
  says_open stop.Port given handed reports coming coming' o h = h
  says_open (stop.Full uid) given handed reports coming coming' o h = h
  says_open stop.Memory given handed reports coming coming' o h = h
  says_open (stop.Town fault) given handed reports coming coming' o h = absurd o

  pub term_of : {D S : Type 0} (given handed : List (ℕ × B)) (reports : List (LinkReport L)) (coming coming' : List (Option (List ℕ))) (uids : List ℕ) (desks : List (Desk B Terms Entry D S)) (ps : List (RawPass B Terms Entry))
      → MayOpen given → IsTown terms given uids desks ps → AreHandedBack terms uids ps handed → AreServedAccounts terms entries faults manner tells closed handed reports coming coming'
      → IsTerm terms entries faults manner tells closed given handed reports coming coming'
  term_of given handed reports coming coming' uids desks ps may town h served = record {
    may = may;
    order = town.order;
    moved = town.moved;
    count = h.count ∙ (town.opened.of.0 ∙ town.opened.count);
    back = λ i uid b at.
        let lt : i < length town.order = at_length town.order i (uid, b) at in
        let x = there_is handed i (omega (arith, h.count, town.opened.of.0, town.opened.count)) in
        let p = h.place i x.0.0 x.0.1 x.1 in
        let u : x.0.0 ≡ uid = some-injective x.0.0 uid (sym p.0 ∙ town.opened.uid i uid b at) in
        let same : Some (terms x.0.1) ≡ Some (terms b) = sym p.1 ∙ ap (λ (v : View Terms Entry). v.fixed) (town.opened.start i uid b at) in
        (x.0.1, x.1 ∙ ap (λ n. some (n, x.0.1)) u, (cc));
    sorted = h.sorted;
    served = served;
  }

module _ {B L : Type 0} (terms : B → Terms) (entries : B → List Entry) (handed : List (ℕ × B)) (reports : List (LinkReport L)) where
  Found : Option ℕ → Type 0
  Found full = Smallest (IsFull terms entries reports) handed (length handed) full

  pub full_says : (full : Option ℕ) (ended : TermStop) → FullKind full ended → Smallest (IsFull terms entries reports) handed (length handed) full → FullSays terms entries handed reports ended
  unfolding Found
  full_says full (stop.Full uid) k s = subst Found k s
  full_says full stop.Connections k s = subst Found k s
  full_says full stop.PortEnded k s = subst Found k s
  full_says full stop.Rested k s = subst Found k s
  full_says full stop.Port k s = tt
  full_says full (stop.Town x) k s = tt
  full_says full stop.Memory k s = tt

pub starts_left : {B D S : Type 0} (terms : B → Terms) (given : List (ℕ × B)) (uids : List ℕ) (desks : List (Desk B Terms Entry D S)) (ps : List (RawPass B Terms Entry)) → IsTown terms given uids desks ps → AreHalvedPasses 0 ps ps
starts_left terms given uids desks ps town = let o = town.opened in record {
  long = refl;
  start = λ i lt.
      let a = there_is town.order i (omega (arith, o.of.0, o.count)) in
      let is = o.start i a.0.0 a.0.1 a.1 in (
        record {
          range = ap (λ (v : View Terms Entry). v.range) is;
          no_book = ap (λ (v : View Terms Entry). v.book) is;
          not_acted = ap (λ (v : View Terms Entry). v.acted) is;
        },
        ap (λ (v : View Terms Entry). v.seen) is,
      );
  fixed = refl;
}
