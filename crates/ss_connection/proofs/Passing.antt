-- Passes that have seen more, and what a call at a town makes of them.
use Rattle.std.proofs.Common.{nat_eq, ◌≡◌, ◌≢◌, ℕ, ◌-◌, Bool, true, false, List, [], ◌∷◌, ◌++◌, length, length-append}
use Rattle.std.proofs.Common.{map, Some, refl, ap, sym, ◌∙◌, subst, append_assoc, arith}
use Rattle.std.specs.Prelude.{if◌then◌else◌}
use Rattle.std.specs.List.Sorted.{IsStrictlyIncreasing}
use Rattle.std.proofs.lemmas.Bool.Decides.{nat_tests}
use Rattle.std.proofs.lemmas.List.{append-nil, map-append}
use Rattle.std.proofs.lemmas.Grind.{flat_map-append}
use mathlib.Core.Option.{some, some-injective}
use mathlib.Core.Logic.{dite}
use native.Mathlib.Decide.{ℕ_discrete}
use lib.ListN.{get_elem?}
use Rattle.ss_desk.specs.declared.journaled.Full.{Full}
use Rattle.ss_desk.specs.declared.pass.RawPass.{RawPass}
use Rattle.ss_desk.specs.declared.view.View.{View}
use Rattle.ss_desk.specs.Journal.{entries_of, Begins}
use Rattle.ss_desk.specs.Calls.{EntersCall, DeniesCall}
use Rattle.ss_desk.specs.Passes.{view_at, SameOthers}
use Rattle.ss_desk.proofs.Served.{begins_itself, begins_then, entered_own, entered_begins, denied_own, denied_begins}
use Rattle.ss_town.specs.Places.{At}
use Rattle.ss_town.proofs.Sorting.{one_place}
use Rattle.ss_laws.specs.declared.journal.Entry.{Entry}
use Rattle.ss_laws.specs.Journals.{reply_at}
use Rattle.ss_booked.specs.declared.booked.Answered.{Answered}
use Rattle.ss_booked.specs.declared.booked.Asked.{Asked}
use Rattle.ss_booked.specs.declared.booked.Terms.{Terms}
use Rattle.ss_booked.specs.Turns.{ask_of, full_on, journal_on, IsLegalOn, RepliesLast}
use Rattle.ss_connection.specs.Known.{KnowsMore, known_by, SeeMore}
use Rattle.ss_connection.specs.Turns.{IsCallInJournal, WasFull}
use Rattle.ss_connection.specs.Calls.{turns_added, call_to, calls_to, own_tickets, Enters}
use Rattle.ss_connection.specs.declared.notes.Turn.TheVariants as turns
use Rattle.ss_connection.specs.declared.notes.TurnNote.{TurnNote}
use Rattle.ss_connection.proofs.Exchanges.{added_push, added_nothing}

-- a call of an account that was entered, and one that found its journal full
abbrev pub IsEntered : View Terms Entry → View Terms Entry → ℕ → Asked → Answered → Type 0
IsEntered v w ticket asked answered = EntersCall (λ entry. entry.ticket) (λ entry. entry.pass) ask_of IsLegalOn RepliesLast full_on v w ticket asked answered

abbrev pub IsDenied : View Terms Entry → View Terms Entry → Full → Type 0
IsDenied v w full = DeniesCall (λ entry. entry.ticket) (λ entry. entry.pass) IsLegalOn full_on v w full

module _ {T : Type 0} where
  pub see_itself : (ps : List (RawPass T Terms Entry)) → SeeMore ps ps
  see_itself ps = record {
    count = refl;
    fixed = λ i. refl;
    range = λ i. refl;
    taken = λ i. refl;
    book = λ i. refl;
    seen = λ i. begins_itself (view_at ps i).seen;
  }

  pub see_then : (ps qs rs : List (RawPass T Terms Entry)) → SeeMore ps qs → SeeMore qs rs → SeeMore ps rs
  see_then ps qs rs a b = record {
    count = b.count ∙ a.count;
    fixed = λ i. b.fixed i ∙ a.fixed i;
    range = λ i. b.range i ∙ a.range i;
    taken = λ i. b.taken i ∙ a.taken i;
    book = λ i. b.book i ∙ a.book i;
    seen = λ i. begins_then (view_at ps i).seen (view_at qs i).seen (view_at rs i).seen (a.seen i) (b.seen i);
  }

  -- passes that have seen more know more
  pub knows_more : (ps qs : List (RawPass T Terms Entry)) → SeeMore ps qs → KnowsMore (known_by ps) (known_by qs)
  knows_more ps qs more = record { number = λ i. ap (λ range. range.first) (more.range i); fixed = more.fixed; journal = more.seen }

-- what a step of its own makes of a pass: it has seen more, and nothing else is changed
pub record Steps (v w : View Terms Entry) : Type 0 where
  pub fixed : w.fixed ≡ v.fixed
  pub range : w.range ≡ v.range
  pub taken : w.taken ≡ v.taken
  pub book : w.book ≡ v.book
  pub seen : Begins v.seen w.seen

steps_itself : (v : View Terms Entry) → Steps v v
steps_itself v = record { fixed = refl; range = refl; taken = refl; book = refl; seen = begins_itself v.seen }

pub entered_steps : (v w : View Terms Entry) (ticket : ℕ) (asked : Asked) (answered : Answered) → IsEntered v w ticket asked answered → Steps v w
entered_steps v w ticket asked answered e = record {
  fixed = ap (λ (u : View Terms Entry). u.fixed) e.view;
  range = ap (λ (u : View Terms Entry). u.range) e.view;
  taken = ap (λ (u : View Terms Entry). u.taken) e.view;
  book = ap (λ (u : View Terms Entry). u.book) e.view;
  seen = entered_begins (λ entry. entry.ticket) (λ entry. entry.pass) ask_of IsLegalOn RepliesLast full_on v w ticket asked answered e;
}

pub denied_steps : (v w : View Terms Entry) (full : Full) → IsDenied v w full → Steps v w
denied_steps v w full e = record {
  fixed = ap (λ (u : View Terms Entry). u.fixed) e.view;
  range = ap (λ (u : View Terms Entry). u.range) e.view;
  taken = ap (λ (u : View Terms Entry). u.taken) e.view;
  book = ap (λ (u : View Terms Entry). u.book) e.view;
  seen = denied_begins (λ entry. entry.ticket) (λ entry. entry.pass) IsLegalOn full_on v w full e;
}

module _ {T : Type 0} where
  -- one account's pass has made a step
  pub one_steps : (ps qs : List (RawPass T Terms Entry)) (i : ℕ) → SameOthers i ps qs → Steps (view_at ps i) (view_at qs i) → SeeMore ps qs
  one_steps ps qs i same steps =
      let each : (j : ℕ) → Steps (view_at ps j) (view_at qs j) = λ j. dite (ℕ_discrete j i)
      (λ e. subst (λ n. Steps (view_at ps n) (view_at qs n)) (sym e) steps)
      (λ ne. subst (λ v. Steps (view_at ps j) v) (sym (same.1 j ne)) (steps_itself (view_at ps j))) in
      record {
        count = same.0;
        fixed = λ j. (each j).fixed;
        range = λ j. (each j).range;
        taken = λ j. (each j).taken;
        book = λ j. (each j).book;
        seen = λ j. (each j).seen;
      }

  -- the place that a call was entered at
  pub called_by : (ps qs : List (RawPass T Terms Entry)) (i ticket : ℕ) (asked : Asked) (answered : Answered)
      → IsEntered (view_at ps i) (view_at qs i) ticket asked answered → IsCallInJournal (known_by qs i) ticket asked answered.reply
  called_by ps qs i ticket asked answered e =
      let v = view_at ps i in let w = view_at qs i in
      let seen : w.seen ≡ (v.seen ++ e.between) ++ e.entry ∷ [] = ap (λ (u : View Terms Entry). u.seen) e.view in
      let place : length w.seen - 1 ≡ length (v.seen ++ e.between) = omega (arith, ap length seen, length-append (v.seen ++ e.between) (e.entry ∷ [])) in
      record {
        terms = e.fix;
        fixed = ap (λ (u : View Terms Entry). u.fixed) e.view ∙ e.same;
        before = v.seen ++ e.between;
        entry = e.entry;
        after = [];
        place = seen;
        drawn = e.drawn;
        number = e.number ∙ sym (ap (λ (u : View Terms Entry). u.range.first) e.view);
        asked_is = e.asked;
        answered = subst (λ n. reply_at (journal_on e.fix w.seen) n ≡ Some answered.reply) place e.answered.0;
      }

  -- the journal that a call found full
  pub was_full_by : (ps qs : List (RawPass T Terms Entry)) (i : ℕ) (full : Full) → IsDenied (view_at ps i) (view_at qs i) full → WasFull (known_by qs i) full
  was_full_by ps qs i full e = record {
    terms = e.fix;
    fixed = ap (λ (u : View Terms Entry). u.fixed) e.view ∙ e.same;
    before = (view_at qs i).seen;
    begins = begins_itself (view_at qs i).seen;
    is_full = e.refused;
  }

-- the tickets of this pass's entries where a call was entered, and where none was
own_entered : (v w : View Terms Entry) (ticket : ℕ) (asked : Asked) (answered : Answered) → IsEntered v w ticket asked answered
    → map (λ (entry : Entry). entry.ticket) (entries_of (λ (entry : Entry). entry.pass) w.range.first w.seen)
    ≡ map (λ (entry : Entry). entry.ticket) (entries_of (λ (entry : Entry). entry.pass) v.range.first v.seen) ++ ticket ∷ []
own_entered v w ticket asked answered e =
    let first : w.range.first ≡ v.range.first = ap (λ (u : View Terms Entry). u.range.first) e.view in
    ap (λ n. map (λ (entry : Entry). entry.ticket) (entries_of (λ (entry : Entry). entry.pass) n w.seen)) first
    ∙ (ap (map (λ (entry : Entry). entry.ticket)) (entered_own (λ entry. entry.ticket) (λ entry. entry.pass) ask_of IsLegalOn RepliesLast full_on v w ticket asked answered e)
    ∙ (map-append (λ (entry : Entry). entry.ticket) (entries_of (λ (entry : Entry). entry.pass) v.range.first v.seen) (e.entry ∷ [])
    ∙ ap (λ t. map (λ (entry : Entry). entry.ticket) (entries_of (λ (entry : Entry). entry.pass) v.range.first v.seen) ++ t ∷ []) e.drawn))

own_denied : (v w : View Terms Entry) (full : Full) → IsDenied v w full
    → map (λ (entry : Entry). entry.ticket) (entries_of (λ (entry : Entry). entry.pass) w.range.first w.seen)
    ≡ map (λ (entry : Entry). entry.ticket) (entries_of (λ (entry : Entry). entry.pass) v.range.first v.seen) ++ []
own_denied v w full e =
    let first : w.range.first ≡ v.range.first = ap (λ (u : View Terms Entry). u.range.first) e.view in
    ap (λ n. map (λ (entry : Entry). entry.ticket) (entries_of (λ (entry : Entry). entry.pass) n w.seen)) first
    ∙ (ap (map (λ (entry : Entry). entry.ticket)) (denied_own (λ entry. entry.ticket) (λ entry. entry.pass) IsLegalOn full_on v w full e)
    ∙ sym (append-nil (map (λ (entry : Entry). entry.ticket) (entries_of (λ (entry : Entry). entry.pass) v.range.first v.seen))))

-- of the calls of one turn
called_here : (uid other ticket : ℕ) → other ≡ uid → call_to uid (turns.Call other ticket) ++ [] ≡ ticket ∷ []
called_here uid other ticket e = let t : nat_eq other uid ≡ true = grind (arith, nat_tests) in ap (λ (b : Bool). (if b then ticket ∷ [] else []) ++ []) t

called_else : (uid other ticket : ℕ) → other ≢ uid → call_to uid (turns.Call other ticket) ++ [] ≡ []
called_else uid other ticket ne = let t : nat_eq other uid ≡ false = grind (arith, nat_tests) in ap (λ (b : Bool). (if b then ticket ∷ [] else []) ++ []) t

module _ {T : Type 0} (uids : List ℕ) where
  -- where nothing was seen, or the own entries are as before, there is no call
  unseen : (ps qs : List (RawPass T Terms Entry)) (i : ℕ) (none : List ℕ) → none ≡ [] → view_at qs i ≡ view_at ps i → own_tickets (known_by qs i) ≡ own_tickets (known_by ps i) ++ none
  unseen ps qs i none empty e =
      ap (λ (v : View Terms Entry). map (λ (entry : Entry). entry.ticket) (entries_of (λ (entry : Entry). entry.pass) v.range.first v.seen)) e
      ∙ (sym (append-nil (own_tickets (known_by ps i))) ∙ ap (λ l. own_tickets (known_by ps i) ++ l) (sym empty))

  -- no account is asked
  pub enters_none : (ps : List (RawPass T Terms Entry)) (notes : List TurnNote) → ((uid : ℕ) → calls_to uid notes ≡ []) → Enters uids ps ps notes
  enters_none ps notes none = λ i uid at. unseen ps ps i (calls_to uid notes) (none uid) refl

  pub enters_call : IsStrictlyIncreasing uids → (ps qs : List (RawPass T Terms Entry)) (place uid ticket now : ℕ) (by_gate : Bool) (asked : Asked) (answered : Answered) → At uids place uid
      → SameOthers place ps qs → IsEntered (view_at ps place) (view_at qs place) ticket asked answered → Enters uids ps qs (record { now = now; closed_by_gate = by_gate; turn = turns.Call uid ticket } ∷ [])
  enters_call rise ps qs place uid ticket now by_gate asked answered at same e = λ i u here. dite (ℕ_discrete i place)
      (λ is.
      let one : uid ≡ u = some-injective uid u (sym at ∙ (ap (get_elem? uids) (sym is) ∙ here)) in
      subst (λ n. own_tickets (known_by qs n) ≡ own_tickets (known_by ps n) ++ calls_to u (record { now = now; closed_by_gate = by_gate; turn = turns.Call uid ticket } ∷ [])) (sym is)
      (own_entered (view_at ps place) (view_at qs place) ticket asked answered e
      ∙ ap (λ l. own_tickets (known_by ps place) ++ l) (sym (called_here u uid ticket one))))
      (λ ne.
      let other : uid ≢ u = λ is. ne (one_place uids rise i place u here (at ∙ ap some is)) in
      unseen ps qs i (calls_to u (record { now = now; closed_by_gate = by_gate; turn = turns.Call uid ticket } ∷ [])) (called_else u uid ticket other) (same.1 i ne))

  pub enters_full : (ps qs : List (RawPass T Terms Entry)) (place uid now : ℕ) (by_gate : Bool) (full : Full)
      → SameOthers place ps qs → IsDenied (view_at ps place) (view_at qs place) full
      → Enters uids ps qs (record { now = now; closed_by_gate = by_gate; turn = turns.Full uid full.entries full.bytes } ∷ [])
  enters_full ps qs place uid now by_gate full same e = λ i u here. dite (ℕ_discrete i place)
      (λ is. subst (λ n. own_tickets (known_by qs n) ≡ own_tickets (known_by ps n) ++ []) (sym is) (own_denied (view_at ps place) (view_at qs place) full e))
      (λ ne. unseen ps qs i [] refl (same.1 i ne))

  -- turns one after the other
  pub enters_then : (ps qs rs : List (RawPass T Terms Entry)) (notes more : List TurnNote) → Enters uids ps qs notes → Enters uids qs rs more → Enters uids ps rs (notes ++ more)
  enters_then ps qs rs notes more first next = λ i uid at.
      next i uid at ∙ (ap (λ l. l ++ calls_to uid more) (first i uid at)
      ∙ (append_assoc (own_tickets (known_by ps i)) (calls_to uid notes) (calls_to uid more)
      ∙ ap (λ l. own_tickets (known_by ps i) ++ l) (sym (flat_map-append (λ (note : TurnNote). call_to uid note.turn) notes more))))

  -- where no turn was added, and where one was
  pub enters_nothing : (ps : List (RawPass T Terms Entry)) (turns : List TurnNote) → Enters uids ps ps (turns_added turns turns)
  enters_nothing ps turns = enters_none ps (turns_added turns turns) (λ uid. ap (calls_to uid) (added_nothing turns))

  pub enters_push : (ps qs rs : List (RawPass T Terms Entry)) (turns turns' : List TurnNote) (note : TurnNote) → Begins turns turns'
      → Enters uids ps qs (turns_added turns turns') → Enters uids qs rs (note ∷ []) → Enters uids ps rs (turns_added turns (turns' ++ note ∷ []))
  enters_push ps qs rs turns turns' note begins first one =
      subst (λ notes. Enters uids ps rs notes) (sym (added_push turns turns' note begins)) (enters_then ps qs rs (turns_added turns turns') (note ∷ []) first one)
