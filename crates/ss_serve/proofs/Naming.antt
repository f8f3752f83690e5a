-- A turn that says that an account was full with as many entries as it has says that it is full.
use Rattle.std.proofs.Common.{◌≡◌, ℕ, zero, suc, List, [], ◌∷◌, ◌++◌, length, length-append, cond, eq-eqb, ne_eqb, refl}
use Rattle.std.proofs.Common.{sym, ap, ◌∙◌, subst, arith, Bool, true, false, Some, None, Option, if◌then◌else◌}
use mathlib.Core.Option.{some, some-injective, some-ne-none}
use mathlib.Core.Logic.{dite}
use native.Mathlib.Decide.{ℕ_discrete}
use lib.ListN.{get_elem?}
use Rattle.ss_desk.specs.declared.journaled.Full.{Full}
use Rattle.ss_desk.proofs.Beside.{there_is}
use Rattle.ss_desk.proofs.Lists.{append_nil}
use Rattle.ss_outside.specs.Told.{Meanings}
use Rattle.ss_town.specs.Places.{At}
use Rattle.ss_town.proofs.Sorting.{one_place}
use Rattle.std.specs.List.Sorted.{IsStrictlyIncreasing}
use Rattle.ss_http.specs.declared.message.Message.{Message}
use Rattle.ss_laws.specs.declared.journal.Entry.{Entry}
use Rattle.ss_booked.specs.declared.booked.Terms.{Terms}
use Rattle.ss_route.specs.declared.manner.Manner.{Manner}
use Rattle.ss_booked.specs.Sizes.{is_full, journal_bytes}
use Rattle.ss_booked.specs.Turns.{full_on, journal_on}
use Rattle.ss_connection.specs.Known.{KnownAccount}
use Rattle.ss_connection.specs.Turns.{Exchange, SaysTurn, WasFull, closes}
use Rattle.ss_connection.specs.declared.notes.Turn.{Turn}
use Rattle.ss_connection.specs.declared.notes.Turn.TheVariants as turns
use Rattle.ss_connection.specs.declared.notes.TurnNote.{TurnNote}
use Rattle.ss_serve.specs.declared.report.LinkReport.{LinkReport}
use Rattle.ss_serve.specs.Fullness.{TurnNames, IsNamedFull}
use Rattle.ss_serve.specs.Reports.{IsReport, AreReports, reports_by}
use Rattle.ss_serve.specs.Terms.{AreServedAccounts, IsFull, TurnIsFull, known_after, uids_in}
use Rattle.ss_serve.specs.Workers.{number_of}
use Rattle.ss_serve.proofs.Closings.{known_at}
use Rattle.ss_serve.proofs.Crews.{at_map, under}

by_test : (b : Bool) (x full : Full) → (if b then Some x else None) ≡ Some full → x ≡ full
by_test true x full e = cc
by_test false x full e = absurd (cc)

full_entries : (terms : Terms) (es : List Entry) (full : Full) → full_on terms es ≡ Some full → full.entries ≡ length es
full_entries terms es full e = ap (λ (f : Full). f.entries) (sym (by_test (is_full (journal_on terms es)) (record { entries = length es; bytes = journal_bytes es }) full e))

pub no_more : {X : Type 0} (xs : List X) → length xs ≡ 0 → xs ≡ []
no_more [] e = refl
no_more (x ∷ xs) e = absurd (omega arith)

-- a beginning that is as long as the whole is the whole
all_begun : {X : Type 0} (xs ys rest : List X) → ys ≡ xs ++ rest → length xs ≡ length ys → xs ≡ ys
all_begun xs ys rest e long =
    let none : rest ≡ [] = no_more rest (omega (arith, ap length e, length-append xs rest)) in
    sym (e ∙ (ap (λ (l : List _). xs ++ l) none ∙ append_nil xs))

-- a turn that was refused for want of room says of which account, and with which numbers
pub record Told (uids : List ℕ) (known : ℕ → KnownAccount) (uid entries : ℕ) (turn : Turn) : Type 0 where
  pub full : Full
  pub place : ℕ
  pub listed : At uids place uid
  pub was_full : WasFull (known place) full
  pub count : full.entries ≡ entries
  pub says : TurnIsFull uid full turn

turn_tells : (manner : Manner) (uids : List ℕ) (known : ℕ → KnownAccount) (message : Message) (now : ℕ) (last : Bool) (turn : Turn) (bytes : List ℕ) (uid entries : ℕ)
    → SaysTurn manner uids known message now last turn bytes → TurnNames uid entries turn → Told uids known uid entries turn
turn_tells manner uids known message now last (turns.Full u count size) bytes uid entries says names = record {
  full = record { entries = count; bytes = size };
  place = says.asks.place;
  listed = subst (λ n. At uids says.asks.place n) names.0 says.asks.listed;
  was_full = says.was_full;
  count = names.1;
  says = (names.0, refl, refl);
}
turn_tells manner uids known message now last turns.Local bytes uid entries says names = absurd names
turn_tells manner uids known message now last (turns.Call u ticket) bytes uid entries says names = absurd names
turn_tells manner uids known message now last turns.Memory bytes uid entries says names = absurd names

turn_names : (uid entries : ℕ) (full : Full) (turn : Turn) → full.entries ≡ entries → TurnIsFull uid full turn → TurnNames uid entries turn
turn_names uid entries full (turns.Full u count size) e says = (says.0, says.1 ∙ e)
turn_names uid entries full turns.Local e says = absurd says
turn_names uid entries full (turns.Call u ticket) e says = absurd says
turn_names uid entries full turns.Memory e says = absurd says

module _ {L : Type 0} where
  in_by : (rs : List (LinkReport L)) (j : ℕ) (r : LinkReport L) → get_elem? rs j ≡ some r → (n : ℕ) × (get_elem? (reports_by r.worker rs) n ≡ some r)
  in_by [] j r at = absurd (some-ne-none r (sym at))
  in_by (s ∷ rs) zero r at =
      let e : s ≡ r = some-injective s r at in
      (0, ap (λ b. get_elem? (cond b (s ∷ reports_by r.worker rs) (reports_by r.worker rs)) 0) (eq-eqb s.worker r.worker (ap (λ (x : LinkReport L). x.worker) e)) ∙ ap some e)
  in_by (s ∷ rs) (suc j) r at = let q = in_by rs j r at in dite (ℕ_discrete s.worker r.worker)
      (λ e. (suc q.0, ap (λ b. get_elem? (cond b (s ∷ reports_by r.worker rs) (reports_by r.worker rs)) (suc q.0)) (eq-eqb s.worker r.worker e) ∙ q.1))
      (λ ne. (q.0, ap (λ b. get_elem? (cond b (s ∷ reports_by r.worker rs) (reports_by r.worker rs)) q.0) (ne_eqb s.worker r.worker ne) ∙ q.1))

  module _ (manner : Manner) (tells : L → Meanings) (closed : L → Bool) (uids : List ℕ) (known : ℕ → KnownAccount) where
    one_of : (rs : List (LinkReport L)) (before after : Option (List ℕ)) (n : ℕ) (r : LinkReport L) → AreReports manner tells closed uids known rs before after → get_elem? rs n ≡ some r
        → (a : Option (List ℕ)) × (b : Option (List ℕ)) × IsReport manner tells closed uids known a b r
    one_of [] before after n r h at = absurd (some-ne-none r (sym at))
    one_of (s ∷ rs) before after zero r h at = (before, h.0, subst (λ (x : LinkReport L). IsReport manner tells closed uids known before h.0 x) (some-injective s r at) h.1)
    one_of (s ∷ rs) before after (suc n) r h at = one_of rs h.0 after n r h.2 at

    report_tells : (a b : Option (List ℕ)) (r : LinkReport L) (k : ℕ) (note : TurnNote) (uid entries : ℕ) → IsReport manner tells closed uids known a b r → get_elem? r.turns.items k ≡ some note
        → TurnNames uid entries note.turn → Told uids known uid entries note.turn
    report_tells a b r k note uid entries h at names =
        let x = under (λ (x : Exchange). x.note) h.served.exchanges k note (ap (λ (l : List TurnNote). get_elem? l k) (sym h.served.noted) ∙ at) in
        let says = h.served.says k x.0 x.1 in
        turn_tells manner uids known x.0.message x.0.note.now (closes k x.0.message x.0.note.closed_by_gate) note.turn x.0.response uid entries
        (subst (λ (n : TurnNote). SaysTurn manner uids known x.0.message x.0.note.now (closes k x.0.message x.0.note.closed_by_gate) n.turn x.0.response) x.2 says) names

module _ {B L : Type 0} (terms : B → Terms) (entries : B → List Entry) (faults : B → ℕ) (manner : Manner) (tells : L → Meanings) (closed : L → Bool) (handed : List (ℕ × B)) (reports : List (LinkReport L)) (coming coming' : List (Option (List ℕ)))
    (h : AreServedAccounts terms entries faults manner tells closed handed reports coming coming') (sorted : IsStrictlyIncreasing (uids_in handed)) where
  named_full : (i : ℕ) (a : ℕ × B) → get_elem? handed i ≡ some a → IsNamedFull entries reports a → IsFull terms entries reports a
  named_full i a at named =
      let r = named.1 in let said = named.3 in let note = said.1 in let k = r.worker in
      let lt = h.workers named.0 r named.2 in
      let before = there_is coming k lt in let after = there_is coming' k (omega (arith, h.clocks)) in
      let here = in_by reports named.0 r named.2 in
      let known : ℕ → KnownAccount = known_after terms entries (number_of k) handed in
      let one = one_of manner tells closed (uids_in handed) known (reports_by k reports) before.0 after.0 here.0 r (h.reported k before.0 after.0 before.1 after.1) here.1 in
      let told = report_tells manner tells closed (uids_in handed) known one.0 one.1 r said.0 note a.0 (length (entries a.1)) one.2 said.2 said.3 in
      let same : told.place ≡ i = one_place (uids_in handed) sorted told.place i a.0 told.listed (at_map (λ (x : ℕ × B). x.0) handed i a at) in
      let is = known_at terms entries (number_of k) handed i a.0 a.1 at in
      let was = subst (λ (y : KnownAccount). WasFull y told.full) is (subst (λ n. WasFull (known n) told.full) same told.was_full) in
      let fixed : was.terms ≡ terms a.1 = (let e = was.fixed in cc) in
      let long : length was.before ≡ length (entries a.1) = sym (full_entries was.terms was.before told.full was.is_full) ∙ told.count in
      let whole : was.before ≡ entries a.1 = all_begun was.before (entries a.1) was.begins.0 was.begins.1 long in
      record {
        full = told.full;
        is_full = subst (λ (es : List Entry). full_on (terms a.1) es ≡ Some told.full) whole (subst (λ (t : Terms). full_on t was.before ≡ Some told.full) fixed was.is_full);
        said = (named.0, r, named.2, (said.0, note, said.2, told.says));
      }

  full_named : (a : ℕ × B) → IsFull terms entries reports a → IsNamedFull entries reports a
  full_named a f = let s = f.said in let t = s.3 in
      (s.0, s.1, s.2, (t.0, t.1, t.2, turn_names a.0 (length (entries a.1)) f.full t.1.turn (full_entries (terms a.1) (entries a.1) f.full f.is_full) t.3))

  pub named_same : (i : ℕ) (a : ℕ × B) → get_elem? handed i ≡ some a → (IsNamedFull entries reports a → IsFull terms entries reports a) × (IsFull terms entries reports a → IsNamedFull entries reports a)
  named_same i a at = (named_full i a at, full_named a)
