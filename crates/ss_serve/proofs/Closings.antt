-- The town is closed, and what the reports say holds of the journals that are handed back.
use Rattle.std.proofs.Common.{Bool, cond, eq-eqb, ne_eqb, ◌≡◌, ◌≢◌, ◌⊎◌, inl, inr, ℕ, zero, suc, ◌+◌, ◌<◌, ◌≤◌, List}
use Rattle.std.proofs.Common.{[], ◌∷◌, ◌++◌, length, map, refl, sym, ap, ◌∙◌, subst, append_assoc, arith, Option, Some}
use Rattle.std.proofs.Common.{None, All}
use Rattle.std.specs.List.Sorted.{IsStrictlyIncreasing}
use mathlib.Core.Option.{some, some-ne-none, some-injective}
use lib.ListN.{get_elem?}
use mathlib.Core.Logic.{dite}
use native.Mathlib.Decide.{dec_lt}
use Rattle.ss_desk.specs.declared.desk.Desk.{Desk}
use Rattle.ss_desk.specs.declared.journaled.Journaled.{Ghosts}
use Rattle.ss_desk.specs.declared.pass.RawPass.{RawPass}
use Rattle.ss_desk.specs.declared.view.View.{View}
use Rattle.ss_desk.specs.declared.view.Page.{Page}
use Rattle.ss_desk.specs.declared.view.Range.{Range}
use Rattle.ss_desk.specs.Journal.{entries_of, Begins}
use Rattle.ss_desk.specs.Passes.{view_at}
use Rattle.ss_desk.specs.Views.{page_of}
use Rattle.ss_desk.specs.Calls.{IsValueAtClose}
use Rattle.ss_desk.proofs.Beside.{at_left, there_is}
use Rattle.ss_desk.proofs.Lists.{at_end, at_length, append_nil, either_part, entries_of-append, on_right}
use Rattle.ss_outside.specs.Told.{Meanings}
use Rattle.ss_town.specs.Places.{At, HandsBack}
use Rattle.ss_town.specs.Town.{passes_of}
use Rattle.ss_laws.specs.declared.journal.Entry.{Entry}
use Rattle.ss_booked.specs.declared.booked.Terms.{Terms}
use Rattle.ss_route.specs.declared.manner.Manner.{Manner}
use Rattle.ss_booked.specs.Sound.{RoseBy, keeper_marks}
use Rattle.ss_booked.specs.Turns.{IsLegalOn}
use Rattle.ss_connection.specs.Known.{KnownAccount, KnowsMore, known_by}
use Rattle.ss_connection.specs.Calls.{calls_to}
use Rattle.ss_serve.specs.declared.report.LinkReport.{LinkReport}
use Rattle.ss_serve.specs.declared.worker.Worker.{Worker}
use Rattle.ss_serve.specs.Crew.{Sign, Have, Works, AreHandedBack, sign, starts}
use Rattle.ss_serve.specs.Gathering.{IsGathering, pages, reports_in}
use Rattle.ss_serve.specs.Reports.{AreReports, all_calls_to, reports_by}
use Rattle.ss_serve.specs.Terms.{weigh, SameNumbers, AreServedAccounts, known_after, uids_in}
use Rattle.ss_serve.specs.Workers.{half, number_of}
use Rattle.ss_serve.proofs.Crews.{all_at, at_map, long_map, under}
use Rattle.ss_serve.proofs.Shares.{halves_pos, halves_drop, past_end}
use Rattle.ss_serve.proofs.Working.{reports_later}

-- the tickets of the entries that bear this number
abbrev mine : ℕ → List Entry → List ℕ
mine n log = map (λ (e : Entry). e.ticket) (entries_of (λ (e : Entry). e.pass) n log)

weigh_append : (h : ℕ → ℕ) (xs ys : List ℕ) → weigh h (xs ++ ys) ≡ weigh h xs + weigh h ys
weigh_append h [] ys = omega arith
weigh_append h (x ∷ xs) ys = let r = weigh_append h xs ys in omega arith

module _ {L : Type 0} where
  all_calls_append : (uid : ℕ) (rs ss : List (LinkReport L)) → all_calls_to uid (rs ++ ss) ≡ all_calls_to uid rs ++ all_calls_to uid ss
  all_calls_append uid [] ss = refl
  all_calls_append uid (r ∷ rs) ss = ap (λ (l : List ℕ). calls_to uid r.turns.items ++ l) (all_calls_append uid rs ss) ∙ sym (append_assoc (calls_to uid r.turns.items) (all_calls_to uid rs) (all_calls_to uid ss))

-- the entries of a journal, each weighed, by the numbers that they bear
abbrev by_numbers : (ℕ → ℕ) → List ℕ → List Entry → ℕ
by_numbers h [] log = 0
by_numbers h (n ∷ ns) log = weigh h (mine n log) + by_numbers h ns log

abbrev Has : List ℕ → ℕ → Type 0
Has [] n = ⊥
Has (m ∷ ms) n = (m ≡ n) ⊎ Has ms n

abbrev Apart : List ℕ → Type 0
Apart [] = Unit {0}
Apart (m ∷ ms) = (Has ms m → ⊥) × Apart ms

mine_yes : (h : ℕ → ℕ) (n : ℕ) (e : Entry) (log : List Entry) → e.pass ≡ n → weigh h (mine n (e ∷ log)) ≡ h e.ticket + weigh h (mine n log)
mine_yes h n e log is = ap (λ b. weigh h (map (λ (f : Entry). f.ticket) (cond b (e ∷ entries_of (λ (f : Entry). f.pass) n log) (entries_of (λ (f : Entry). f.pass) n log)))) (eq-eqb e.pass n is)

mine_no : (h : ℕ → ℕ) (n : ℕ) (e : Entry) (log : List Entry) → e.pass ≢ n → weigh h (mine n (e ∷ log)) ≡ weigh h (mine n log)
mine_no h n e log ne = ap (λ b. weigh h (map (λ (f : Entry). f.ticket) (cond b (e ∷ entries_of (λ (f : Entry). f.pass) n log) (entries_of (λ (f : Entry). f.pass) n log)))) (ne_eqb e.pass n ne)

none_here : (h : ℕ → ℕ) (ns : List ℕ) (e : Entry) (log : List Entry) → (Has ns e.pass → ⊥) → by_numbers h ns (e ∷ log) ≡ by_numbers h ns log
none_here h [] e log out = refl
none_here h (n ∷ ns) e log out = let a = mine_no h n e log (λ is. out (inl (sym is))) in let b = none_here h ns e log (λ k. out (inr k)) in omega (arith, a, b)

once_here : (h : ℕ → ℕ) (ns : List ℕ) (e : Entry) (log : List Entry) → Apart ns → Has ns e.pass → by_numbers h ns (e ∷ log) ≡ h e.ticket + by_numbers h ns log
once_here h [] e log apart has = absurd has
once_here h (n ∷ ns) e log apart (inl is) = let a = mine_yes h n e log (sym is) in let b = none_here h ns e log (λ k. apart.0 (subst (Has ns) (sym is) k)) in omega (arith, a, b)
once_here h (n ∷ ns) e log apart (inr has) = let a = mine_no h n e log (λ is. apart.0 (subst (Has ns) is has)) in let b = once_here h ns e log apart.1 has in omega (arith, a, b)

by_nothing : (h : ℕ → ℕ) (ns : List ℕ) → by_numbers h ns [] ≡ 0
by_nothing h [] = refl
by_nothing h (n ∷ ns) = let r = by_nothing h ns in omega arith

parted : (h : ℕ → ℕ) (ns : List ℕ) (log : List Entry) → Apart ns → ((k : ℕ) (e : Entry) → get_elem? log k ≡ some e → Has ns e.pass) → weigh h (map (λ (e : Entry). e.ticket) log) ≡ by_numbers h ns log
parted h ns [] apart all = sym (by_nothing h ns)
parted h ns (e ∷ log) apart all = let a = once_here h ns e log apart (all zero e refl) in let b = parted h ns log apart (λ k f at. all (suc k) f at) in omega (arith, a, b)

module _ {W : Type 0} where
  nums : ℕ → List W → List ℕ
  nums k [] = []
  nums k (w ∷ ws) = half (suc k) ∷ nums (suc k) ws

  has_place : (k : ℕ) (ws : List W) (n : ℕ) → Has (nums k ws) n → (j : ℕ) × (k ≤ j) × (j < k + length ws) × (half (suc j) ≡ n)
  unfolding nums
  has_place k [] n h = absurd h
  has_place k (w ∷ ws) n (inl e) = (k, omega arith, omega arith, e)
  has_place k (w ∷ ws) n (inr h) = let r = has_place (suc k) ws n h in (r.0, omega (arith, r.1), omega (arith, r.2), r.3)

  nums_apart : (k : ℕ) (ws : List W) → k + length ws ≤ 16 → Apart (nums k ws)
  unfolding nums
  nums_apart k [] le = tt
  nums_apart k (w ∷ ws) le = (
    (λ h. let r = has_place (suc k) ws (half (suc k)) h in let d = halves_drop (suc r.0) (suc k) (omega (arith, r.1)) (omega (arith, r.2)) in omega (arith, r.3)),
    nums_apart (suc k) ws (omega arith),
  )

  nums_has : (k : ℕ) (ws : List W) (j : ℕ) (w : W) → get_elem? ws j ≡ some w → Has (nums k ws) (half (suc (k + j)))
  unfolding nums
  nums_has k [] j w at = absurd (some-ne-none w (sym at))
  nums_has k (x ∷ ws) zero w at = inl (let e : k ≡ k + 0 = omega arith in ap (λ n. half (suc n)) e)
  nums_has k (x ∷ ws) (suc j) w at = inr (let e : suc k + j ≡ k + suc j = omega arith in subst (λ n. Has (nums (suc k) ws) (half (suc n))) e (nums_has (suc k) ws j w at))

  zero_apart : (ws : List W) → length ws ≤ 16 → Has (nums 0 ws) 0 → ⊥
  zero_apart ws le h = let r = has_place 0 ws 0 h in let p = halves_pos (suc r.0) (omega (arith, r.2)) in omega (arith, r.3)

-- the uids of accounts that stand at the places of these uids are these uids
pub same_uids : {B : Type 0} (uids : List ℕ) (bs : List (ℕ × B)) → length bs ≡ length uids → ((i u : ℕ) (b : B) → get_elem? bs i ≡ some (u, b) → At uids i u) → uids_in bs ≡ uids
same_uids [] [] long each = refl
same_uids (u ∷ uids) [] long each = absurd (omega arith)
same_uids [] (b ∷ bs) long each = absurd (omega arith)
same_uids (u ∷ uids) (b ∷ bs) long each =
    let first : u ≡ b.0 = some-injective u b.0 (each zero b.0 b.1 refl) in
    let rest = same_uids uids bs (omega arith) (λ i v x at. each (suc i) v x at) in
    ap (λ n. n ∷ uids_in bs) (sym first) ∙ ap (λ (l : List ℕ). u ∷ l) rest

module _ {B : Type 0} (terms : B → Terms) (entries : B → List Entry) where
  -- what is known of the account at a place, once all are handed back
  pub known_at : (number : ℕ) (bs : List (ℕ × B)) (i u : ℕ) (b : B) → get_elem? bs i ≡ some (u, b) → known_after terms entries number bs i ≡ record { number = number; fixed = Some (terms b); journal = entries b }
  known_at number [] i u b at = absurd (some-ne-none (u, b) (sym at))
  known_at number (a ∷ bs) zero u b at = ap (λ (x : ℕ × B). record { number = number; fixed = Some (terms x.1); journal = entries x.1 }) (some-injective a (u, b) at)
  known_at number (a ∷ bs) (suc i) u b at = known_at number bs i u b at

  known_past : (number : ℕ) (bs : List (ℕ × B)) (i : ℕ) → length bs ≤ i → known_after terms entries number bs i ≡ record { number = 0; fixed = None; journal = [] }
  known_past number [] i le = refl
  known_past number (a ∷ bs) zero le = absurd (omega arith)
  known_past number (a ∷ bs) (suc i) le = known_past number bs i (omega arith)

module _ {L : Type 0} where
  by_other : (k j : ℕ) (rs : List (LinkReport L)) → ((i : ℕ) (r : LinkReport L) → get_elem? rs i ≡ some r → r.worker ≡ j) → j ≢ k → reports_by k rs ≡ []
  by_other k j [] all ne = refl
  by_other k j (r ∷ rs) all ne = ap (λ b. cond b (r ∷ reports_by k rs) (reports_by k rs)) (ne_eqb r.worker k (λ e. ne (sym (all zero r refl) ∙ e))) ∙ by_other k j rs (λ i s at. all (suc i) s at) ne

  by_itself : (k : ℕ) (rs : List (LinkReport L)) → ((i : ℕ) (r : LinkReport L) → get_elem? rs i ≡ some r → r.worker ≡ k) → reports_by k rs ≡ rs
  by_itself k [] all = refl
  by_itself k (r ∷ rs) all = ap (λ b. cond b (r ∷ reports_by k rs) (reports_by k rs)) (eq-eqb r.worker k (all zero r refl)) ∙ ap (λ (l : List (LinkReport L)). r ∷ l) (by_itself k rs (λ i s at. all (suc i) s at))

module _ {L C T A R : Type 0} {J : Ghosts T Terms Entry A R} where
  in_pages : (i : ℕ) (ws : List (Worker L C T Terms Entry A R J)) (k : ℕ) (w : Worker L C T Terms Entry A R J) → get_elem? ws k ≡ some w → (n : ℕ) × (get_elem? (pages i ws) n ≡ some (page_of (view_at (passes_of w.passes) i)))
  in_pages i [] k w at = absurd (some-ne-none w (sym at))
  in_pages i (x ∷ ws) zero w at = let is : x ≡ w = some-injective x w at in
      subst (λ (z : Worker L C T Terms Entry A R J). (n : ℕ) × (get_elem? (pages i ws ++ page_of (view_at (passes_of x.passes) i) ∷ []) n ≡ some (page_of (view_at (passes_of z.passes) i)))) is
      (on_right (pages i ws) (page_of (view_at (passes_of x.passes) i) ∷ []) 0 (page_of (view_at (passes_of x.passes) i)) refl)
  in_pages i (x ∷ ws) (suc k) w at = let r = in_pages i ws k w at in (r.0, at_left (pages i ws) (page_of (view_at (passes_of x.passes) i) ∷ []) r.0 (page_of (view_at (passes_of w.passes) i)) r.1)

  from_pages : (i : ℕ) (ws : List (Worker L C T Terms Entry A R J)) (n : ℕ) (p : Page Entry) → get_elem? (pages i ws) n ≡ some p → (k : ℕ) × (w : Worker L C T Terms Entry A R J) × (get_elem? ws k ≡ some w) × (page_of (view_at (passes_of w.passes) i) ≡ p)
  from_pages i [] n p at = absurd (some-ne-none p (sym at))
  from_pages i (x ∷ ws) n p at = elim (at_end (pages i ws) (page_of (view_at (passes_of x.passes) i)) p n at) [
    | inl old ↦ let r = from_pages i ws n p old in (suc r.0, r.1, r.2, r.3)
    | inr new ↦ (zero, x, refl, new.1)
  ]

  from_reports : (ws : List (Worker L C T Terms Entry A R J)) (n : ℕ) (r : LinkReport L) → get_elem? (reports_in ws) n ≡ some r → (k : ℕ) × (w : Worker L C T Terms Entry A R J) × (j : ℕ) × (get_elem? ws k ≡ some w) × (get_elem? w.reports.items j ≡ some r)
  from_reports [] n r at = absurd (some-ne-none r (sym at))
  from_reports (x ∷ ws) n r at = elim (either_part (reports_in ws) x.reports.items n r at) [
    | inl old ↦ let q = from_reports ws old.0 r old.1 in (suc q.0, q.1, q.2, q.3, q.4)
    | inr new ↦ (zero, x, new.0, refl, new.1)
  ]

  -- the calls of the reports, worker by worker
  by_workers : (uid : ℕ) (log : List Entry) (h : ℕ → ℕ) (k : ℕ) (ws : List (Worker L C T Terms Entry A R J)) → ((j : ℕ) (w : Worker L C T Terms Entry A R J) → get_elem? ws j ≡ some w → mine (half (suc (k + j))) log ≡ all_calls_to uid w.reports.items)
      → by_numbers h (nums k ws) log ≡ weigh h (all_calls_to uid (reports_in ws))
  unfolding nums
  by_workers uid log h k [] each = refl
  by_workers uid log h k (w ∷ ws) each =
      let here : mine (half (suc k)) log ≡ all_calls_to uid w.reports.items = (let e : k + 0 ≡ k = omega arith in subst (λ n. mine (half (suc n)) log ≡ all_calls_to uid w.reports.items) e (each zero w refl)) in
      let rest = by_workers uid log h (suc k) ws (λ j x at. let e : k + suc j ≡ suc k + j = omega arith in subst (λ n. mine (half (suc n)) log ≡ all_calls_to uid x.reports.items) e (each (suc j) x at)) in
      let all = ap (weigh h) (all_calls_append uid (reports_in ws) w.reports.items) ∙ weigh_append h (all_calls_to uid (reports_in ws)) (all_calls_to uid w.reports.items) in
      omega (arith, ap (weigh h) here, rest, all)

  abbrev Placed : ℕ → List (Worker L C T Terms Entry A R J) → Type 0
  Placed o ws = (j : ℕ) (w : Worker L C T Terms Entry A R J) → get_elem? ws j ≡ some w → (i : ℕ) (r : LinkReport L) → get_elem? w.reports.items i ≡ some r → r.worker ≡ o + j

  placed_next : (o : ℕ) (x : Worker L C T Terms Entry A R J) (ws : List (Worker L C T Terms Entry A R J)) → Placed o (x ∷ ws) → Placed (suc o) ws
  placed_next o x ws each j w at i r here = let e : o + suc j ≡ suc o + j = omega arith in each (suc j) w at i r here ∙ e

  none_by : (o k : ℕ) (ws : List (Worker L C T Terms Entry A R J)) → Placed o ws → k < o → reports_by k (reports_in ws) ≡ []
  none_by o k [] each low = refl
  none_by o k (x ∷ ws) each low =
      let first : (i : ℕ) (r : LinkReport L) → get_elem? x.reports.items i ≡ some r → r.worker ≡ o = λ i r at. let e : o + 0 ≡ o = omega arith in each zero x refl i r at ∙ e in
      entries_of-append (λ (r : LinkReport L). r.worker) k (reports_in ws) x.reports.items
      ∙ (ap (λ (l : List (LinkReport L)). l ++ reports_by k x.reports.items) (none_by (suc o) k ws (placed_next o x ws each) (omega arith)) ∙ by_other k o x.reports.items first (λ e. omega (arith, e)))

  -- a worker's reports are those with its number
  theirs : (o : ℕ) (ws : List (Worker L C T Terms Entry A R J)) → Placed o ws → (j : ℕ) (w : Worker L C T Terms Entry A R J) → get_elem? ws j ≡ some w → reports_by (o + j) (reports_in ws) ≡ w.reports.items
  theirs o [] each j w at = absurd (some-ne-none w (sym at))
  theirs o (x ∷ ws) each zero w at =
      let is : x ≡ w = some-injective x w at in
      let first : (i : ℕ) (r : LinkReport L) → get_elem? x.reports.items i ≡ some r → r.worker ≡ o + 0 = λ i r here. each zero x refl i r here in
      subst (λ (z : Worker L C T Terms Entry A R J). reports_by (o + 0) (reports_in ws ++ x.reports.items) ≡ z.reports.items) is
      (entries_of-append (λ (r : LinkReport L). r.worker) (o + 0) (reports_in ws) x.reports.items
      ∙ (ap (λ (l : List (LinkReport L)). l ++ reports_by (o + 0) x.reports.items) (none_by (suc o) (o + 0) ws (placed_next o x ws each) (omega arith)) ∙ by_itself (o + 0) x.reports.items first))
  theirs o (x ∷ ws) each (suc j) w at =
      let e : suc o + j ≡ o + suc j = omega arith in
      let first : (i : ℕ) (r : LinkReport L) → get_elem? x.reports.items i ≡ some r → r.worker ≡ o = λ i r here. let z : o + 0 ≡ o = omega arith in each zero x refl i r here ∙ z in
      let rest : reports_by (o + suc j) (reports_in ws) ≡ w.reports.items = subst (λ n. reports_by n (reports_in ws) ≡ w.reports.items) e (theirs (suc o) ws (placed_next o x ws each) j w at) in
      entries_of-append (λ (r : LinkReport L). r.worker) (o + suc j) (reports_in ws) x.reports.items
      ∙ (ap (λ (l : List (LinkReport L)). l ++ reports_by (o + suc j) x.reports.items) rest
      ∙ (ap (λ (l : List (LinkReport L)). w.reports.items ++ l) (by_other (o + suc j) o x.reports.items first (λ q. omega (arith, q))) ∙ append_nil w.reports.items))

  module _ {B D S : Type 0} (terms : B → Terms) (entries : B → List Entry) (faults : B → ℕ) (tells : L → Meanings) (closed : L → Bool) (coming : C → Option (List ℕ)) (uids : List ℕ) (desks : List (Desk T Terms Entry D S))
      (opened now : List (RawPass T Terms Entry)) (all : List (Worker L C T Terms Entry A R J)) (out : List (LinkReport L)) (clocks : List C) (handed : List (ℕ × B))
      (g : IsGathering (length uids) opened all [] now out clocks) (same_length : length opened ≡ length uids) (few : length all ≤ 16) (desk_count : length desks ≡ length uids)
      (have : Have tells closed coming uids desks opened all)
      (closing : HandsBack (λ (e : Entry). e.ticket) (λ (e : Entry). e.pass) terms entries IsLegalOn uids now handed) where
    Fin : ℕ → B → Type 0
    Fin i b = IsValueAtClose (λ (e : Entry). e.ticket) (λ (e : Entry). e.pass) terms entries IsLegalOn (view_at now i) b

    whole : all ≡ g.tail
    whole = g.split

    placed : (i uid : ℕ) (b : B) → get_elem? handed i ≡ some (uid, b) → i < length uids
    placed i uid b at = let n : i < length handed = at_length handed i (uid, b) at in omega (arith, closing.0, g.long, same_length)

    abbrev Done : ℕ → Worker L C T Terms Entry A R J → Type 0
    Done k w = Works w.manner tells closed uids k (passes_of w.passes) w.reports.items (coming w.start.value) (coming w.clock)

    done : (k : ℕ) (w : Worker L C T Terms Entry A R J) → get_elem? all k ≡ some w → (length (passes_of w.passes) ≡ length uids) × Done k w
    done k w at = let h = have.each k w at in (h.0.of.0 ∙ desk_count, subst (λ n. Done n w) h.1 h.0.works)

    number_is : (k : ℕ) (w : Worker L C T Terms Entry A R J) → get_elem? all k ≡ some w → (i : ℕ) → i < length uids → (known_by (passes_of w.passes) i).number ≡ half (suc k)
    number_is k w at i lt = let h = done k w at in ap (λ (r : Range). r.first) (h.1.range i (omega (arith, h.0)))

    -- what a worker's pass had seen begins the journal, which has no other entries of it
    page_is : (i uid : ℕ) (b : B) → get_elem? handed i ≡ some (uid, b) → (k : ℕ) (w : Worker L C T Terms Entry A R J) → get_elem? all k ≡ some w
        → Begins (view_at (passes_of w.passes) i).seen (entries b)
        × (entries_of (λ (e : Entry). e.pass) (view_at (passes_of w.passes) i).range.first (entries b) ≡ entries_of (λ (e : Entry). e.pass) (view_at (passes_of w.passes) i).range.first (view_at (passes_of w.passes) i).seen)
    unfolding Fin
    page_is i uid b at k w here =
        let fin : Fin i b = (closing.1 i uid b at).1 in let lt = placed i uid b at in
        let p = in_pages i all k w here in
        let book : (view_at now i).book ≡ pages i all = g.book i lt ∙ ap (pages i) (sym whole) in
        fin.pages p.0 (page_of (view_at (passes_of w.passes) i)) (ap (λ (l : List (Page Entry)). get_elem? l p.0) book ∙ p.1)

    own_is : (i uid : ℕ) (b : B) → get_elem? handed i ≡ some (uid, b) → (k : ℕ) (w : Worker L C T Terms Entry A R J) → get_elem? all k ≡ some w → mine (half (suc k)) (entries b) ≡ all_calls_to uid w.reports.items
    own_is i uid b at k w here =
        let lt = placed i uid b at in let n = number_is k w here i lt in let p = page_is i uid b at k w here in let h = done k w here in
        subst (λ m. mine m (entries b) ≡ all_calls_to uid w.reports.items) n (ap (map (λ (e : Entry). e.ticket)) p.1 ∙ h.1.own i uid (closing.1 i uid b at).0)

    bears : (i uid : ℕ) (b : B) → get_elem? handed i ≡ some (uid, b) → (j : ℕ) (e : Entry) → get_elem? (entries b) j ≡ some e → Has (0 ∷ nums 0 all) e.pass
    unfolding Fin
    bears i uid b at j e here =
        let fin : Fin i b = (closing.1 i uid b at).1 in let lt = placed i uid b at in
        let book : (view_at now i).book ≡ pages i all = g.book i lt ∙ ap (pages i) (sym whole) in
        elim (fin.no_others j e here) [
          | inl own ↦ inl (sym (ap (λ (r : Range). r.first) (g.range i lt)) ∙ own.1)
          | inr page ↦
              let q = from_pages i all page.0 page.1 (sym (ap (λ (l : List (Page Entry)). get_elem? l page.0) book) ∙ page.2) in
              let is : half (suc q.0) ≡ e.pass = sym (number_is q.0 q.1 q.2 i lt) ∙ (ap (λ (p : Page Entry). p.number) q.3 ∙ page.3) in
              inr (subst (Has (nums 0 all)) is (let z : 0 + q.0 ≡ q.0 = omega arith in subst (λ n. Has (nums 0 all) (half (suc n))) z (nums_has 0 all q.0 q.1 q.2)))
        ]

    ticketed : (i uid : ℕ) (b : B) → get_elem? handed i ≡ some (uid, b) → SameNumbers (map (λ (e : Entry). e.ticket) (entries b)) (all_calls_to uid out)
    unfolding Fin
    ticketed i uid b at h =
        let fin : Fin i b = (closing.1 i uid b at).1 in let lt = placed i uid b at in
        let first : (view_at now i).range.first ≡ 0 = ap (λ (r : Range). r.first) (g.range i lt) in
        let none : entries_of (λ (e : Entry). e.pass) 0 (entries b) ≡ [] = subst (λ n. entries_of (λ (e : Entry). e.pass) n (entries b) ≡ []) first (fin.held ∙ ap (entries_of (λ (e : Entry). e.pass) (view_at now i).range.first) (g.acted i lt)) in
        let zero_mine : weigh h (mine 0 (entries b)) ≡ 0 = ap (λ (l : List Entry). weigh h (map (λ (e : Entry). e.ticket) l)) none in
        let parts = parted h (0 ∷ nums 0 all) (entries b) (zero_apart all few, nums_apart 0 all (omega arith)) (bears i uid b at) in
        let rest = by_workers uid (entries b) h 0 all (λ j w here. let z : j ≡ 0 + j = omega arith in subst (λ n. mine (half (suc n)) (entries b) ≡ all_calls_to uid w.reports.items) z (own_is i uid b at j w here)) in
        let reports : weigh h (all_calls_to uid (reports_in all)) ≡ weigh h (all_calls_to uid out) = ap (λ (l : List (LinkReport L)). weigh h (all_calls_to uid l)) (ap reports_in whole ∙ sym g.reported) in
        omega (arith, parts, rest, zero_mine, reports)

    each_placed : Placed 0 all
    each_placed j w at i r here = let h = done j w at in let z : j ≡ 0 + j = omega arith in h.1.by i r here ∙ z

    worker_in : (j : ℕ) (r : LinkReport L) → get_elem? out j ≡ some r → r.worker < length all
    worker_in j r at =
        let q = from_reports all j r (ap (λ (l : List (LinkReport L)). get_elem? l j) (ap reports_in whole ∙ sym g.reported) ∙ at) in
        let e = each_placed q.0 q.1 q.3 q.2 r q.4 in let lt : q.0 < length all = at_length all q.0 q.1 q.3 in omega (arith, e, lt)

    by_worker : (k : ℕ) (w : Worker L C T Terms Entry A R J) → get_elem? all k ≡ some w → reports_by k out ≡ w.reports.items
    by_worker k w at =
        let z : 0 + k ≡ k = omega arith in
        ap (reports_by k) (g.reported ∙ ap reports_in (sym whole)) ∙ subst (λ n. reports_by n (reports_in all) ≡ w.reports.items) z (theirs 0 all each_placed k w at)

    -- of each account a worker's passes know no more than is handed back
    knows : (k : ℕ) (w : Worker L C T Terms Entry A R J) → get_elem? all k ≡ some w → (i : ℕ) → let x = known_by (passes_of w.passes) i in let y = known_after terms entries (number_of k) handed i in
        (y.number ≡ x.number) × (y.fixed ≡ x.fixed) × Begins x.journal y.journal
    unfolding Fin
    knows k w here i = let ps = passes_of w.passes in let h = have.each k w here in
        dite (dec_lt i (length handed))
        (λ less.
        let at = there_is handed i less in let u = at.0.0 in let b = at.0.1 in let lt = placed i u b at.1 in let fin : Fin i b = (closing.1 i u b at.1).1 in
        let fixed : Some (terms b) ≡ (view_at ps i).fixed = sym fin.same ∙ (g.fixed i lt ∙ (λ j. sym h.2 j i)) in
        subst (λ (y : KnownAccount). (y.number ≡ (known_by ps i).number) × (y.fixed ≡ (known_by ps i).fixed) × Begins (known_by ps i).journal y.journal) (sym (known_at terms entries (number_of k) handed i u b at.1))
        (sym (number_is k w here i lt), fixed, (page_is i u b at.1 k w here).0))
        (λ more.
        let none = past_end ps i (let n = done k w here in omega (arith, n.0, closing.0, g.long, same_length)) in
        subst (λ (y : KnownAccount). (y.number ≡ (known_by ps i).number) × (y.fixed ≡ (known_by ps i).fixed) × Begins (known_by ps i).journal y.journal) (sym (known_past terms entries (number_of k) handed i (omega arith)))
        (ap (λ (v : View Terms Entry). v.range.first) (sym none), ap (λ (v : View Terms Entry). v.fixed) (sym none), ([], ap (λ (v : View Terms Entry). v.seen ++ []) (sym none))))

    knows_more : (k : ℕ) (w : Worker L C T Terms Entry A R J) → get_elem? all k ≡ some w → KnowsMore (known_by (passes_of w.passes)) (known_after terms entries (number_of k) handed)
    knows_more k w here = record { number = λ i. (knows k w here i).0; fixed = λ i. (knows k w here i).1; journal = λ i. (knows k w here i).2 }

    uids_are : uids_in handed ≡ uids
    uids_are = same_uids uids handed (closing.0 ∙ (g.long ∙ same_length)) (λ i u b at. (closing.1 i u b at).0)

    told : (k : ℕ) (w : Worker L C T Terms Entry A R J) → get_elem? all k ≡ some w → AreReports w.manner tells closed (uids_in handed) (known_after terms entries (number_of k) handed) (reports_by k out) (coming w.start.value) (coming w.clock)
    told k w here =
        subst (λ (l : List ℕ). AreReports w.manner tells closed l (known_after terms entries (number_of k) handed) (reports_by k out) (coming w.start.value) (coming w.clock)) (sym uids_are)
        (subst (λ (l : List (LinkReport L)). AreReports w.manner tells closed uids (known_after terms entries (number_of k) handed) l (coming w.start.value) (coming w.clock)) (sym (by_worker k w here))
        (reports_later w.manner tells closed uids (known_by (passes_of w.passes)) (known_after terms entries (number_of k) handed) (knows_more k w here) w.reports.items (coming w.start.value) (coming w.clock) (done k w here).1.told))

    clocks_are : clocks ≡ map (λ (w : Worker L C T Terms Entry A R J). w.clock) all
    clocks_are = g.back ∙ ap (map (λ (w : Worker L C T Terms Entry A R J). w.clock)) (sym whole)

    reported : (manner : Manner) → All (λ (w : Worker L C T Terms Entry A R J). w.manner ≡ manner) all → (k : ℕ) (before after : Option (List ℕ)) → get_elem? (starts (map (sign coming) all)) k ≡ some before → get_elem? (map coming clocks) k ≡ some after
        → AreReports manner tells closed (uids_in handed) (known_after terms entries (number_of k) handed) (reports_by k out) before after
    reported manner one k before after first last =
        let s = under (λ (s : Sign). s.start) (map (sign coming) all) k before first in
        let w = under (sign coming) all k s.0 s.1 in
        let begins : coming w.0.start.value ≡ before = ap (λ (s : Sign). s.start) w.2 ∙ s.2 in
        let ends : coming w.0.clock ≡ after = some-injective (coming w.0.clock) after
        (sym (at_map coming (map (λ (w : Worker L C T Terms Entry A R J). w.clock) all) k w.0.clock (at_map (λ (w : Worker L C T Terms Entry A R J). w.clock) all k w.0 w.1)) ∙ (ap (λ (l : List C). get_elem? (map coming l) k) (sym clocks_are) ∙ last)) in
        let so : w.0.manner ≡ manner = all_at (λ (w : Worker L C T Terms Entry A R J). w.manner ≡ manner) all k w.0 one w.1 in
        subst (λ (a : Option (List ℕ)). AreReports manner tells closed (uids_in handed) (known_after terms entries (number_of k) handed) (reports_by k out) a after) begins
        (subst (λ (z : Option (List ℕ)). AreReports manner tells closed (uids_in handed) (known_after terms entries (number_of k) handed) (reports_by k out) (coming w.0.start.value) z) ends
        (subst (λ (m : Manner). AreReports m tells closed (uids_in handed) (known_after terms entries (number_of k) handed) (reports_by k out) (coming w.0.start.value) (coming w.0.clock)) so (told k w.0 w.1)))

    pub clock_count : length clocks ≡ length all
    clock_count = ap length clocks_are ∙ long_map (λ (w : Worker L C T Terms Entry A R J). w.clock) all

    pub served : (manner : Manner) → All (λ (w : Worker L C T Terms Entry A R J). w.manner ≡ manner) all → ((i uid : ℕ) (b : B) → get_elem? handed i ≡ some (uid, b) → RoseBy (keeper_marks (entries b)) (terms b).faults (faults b))
        → AreServedAccounts terms entries faults manner tells closed handed out (starts (map (sign coming) all)) (map coming clocks)
    unfolding Fin
    served manner one kept =
        let count : length (starts (map (sign coming) all)) ≡ length all = long_map (λ (s : Sign). s.start) (map (sign coming) all) ∙ long_map (sign coming) all in record {
          lawful = λ i uid b at. let f : Fin i b = (closing.1 i uid b at).1 in (f.lawful, f.rises);
          kept = kept;
          tickets = ticketed;
          clocks = long_map coming clocks ∙ (clock_count ∙ sym count);
          workers = λ j r at. subst (λ n. r.worker < n) (sym count) (worker_in j r at);
          reported = reported manner one;
        }

    pub are_handed : IsStrictlyIncreasing (uids_in handed) → AreHandedBack terms uids opened handed
    unfolding Fin
    are_handed sorted = record {
      count = closing.0 ∙ g.long;
      place = λ i uid b at. let f : Fin i b = (closing.1 i uid b at).1 in ((closing.1 i uid b at).0, sym (g.fixed i (placed i uid b at)) ∙ f.same);
      sorted = sorted;
    }
