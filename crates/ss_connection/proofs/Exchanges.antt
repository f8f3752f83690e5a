-- One message more that was answered.
use Rattle.std.proofs.Common.{◌≡◌, inl, inr, ℕ, ◌≤◌, Bool, List, [], ◌∷◌, ◌++◌, length, length-append, map, drop}
use Rattle.std.proofs.Common.{Option, refl, sym, ap, ◌∙◌, subst, append_assoc, arith}
use Rattle.std.specs.Prelude.{IsFalse}
use Rattle.std.proofs.lemmas.List.{append-nil, map-append, drop-append-le}
use Rattle.std.proofs.lemmas.List.Elements.{All-push}
use Rattle.std.proofs.lemmas.Grind.{flat_map-append}
use Rattle.std.proofs.Math.Seq.{drop-append_seam}
use Rattle.std.specs.List.{flat_map}
use mathlib.Core.Option.{some, some-ne-none}
use lib.ListN.{get_elem?}
use Rattle.ss_desk.proofs.Lists.{at_end}
use Rattle.ss_desk.specs.Journal.{Begins}
use Rattle.ss_outside.specs.Told.{TakesFirst}
use Rattle.ss_http.specs.declared.message.Message.{Message}
use Rattle.ss_http.specs.Messages.{Reads, ReadsMessage}
use Rattle.ss_http.proofs.MessageLemmas.{reads_append, reads_further}
use Rattle.ss_route.specs.declared.manner.Manner.{Manner}
use Rattle.ss_connection.specs.Known.{KnownAccount}
use Rattle.ss_connection.specs.Turns.{AreGatedTurns, Exchange, SaysEach, SaysTurn, closes}
use Rattle.ss_connection.specs.Calls.{turns_added}
use Rattle.ss_connection.specs.Ends.{ReadsExchanges, AreReadings, GoesOn}
use Rattle.ss_connection.specs.declared.notes.TurnNote.{TurnNote}

abbrev pub message_in : Exchange → Message
message_in x = x.message

abbrev pub note_in : Exchange → TurnNote
note_in x = x.note

abbrev pub now_in : Exchange → ℕ
now_in x = x.note.now

abbrev pub response_in : Exchange → List ℕ
response_in x = x.response

abbrev pub got_in : Exchange → List ℕ
got_in x = x.got

pub says_push : (manner : Manner) (uids : List ℕ) (known : ℕ → KnownAccount) (xs : List Exchange) (x : Exchange) → SaysEach manner uids known xs
    → SaysTurn manner uids known x.message x.note.now (closes (length xs) x.message x.note.closed_by_gate) x.note.turn x.response → SaysEach manner uids known (xs ++ x ∷ [])
says_push manner uids known xs x each one k y at = elim (at_end xs x y k at) [
  | inl old ↦ each k y old
  | inr new ↦
      let S : ℕ → Exchange → Type 0 = λ n z. SaysTurn manner uids known z.message z.note.now (closes n z.message z.note.closed_by_gate) z.note.turn z.response in
      subst (λ n. S n y) (sym new.0) (subst (λ z. S (length xs) z) new.1 one)
]

pub gated_push : (says : ℕ → Bool → Type 0) (notes : List TurnNote) (note : TurnNote) → AreGatedTurns says notes → says (length notes) note.closed_by_gate → AreGatedTurns says (notes ++ note ∷ [])
gated_push says notes note each one k y at = elim (at_end notes note y k at) [
  | inl old ↦ each k y old
  | inr new ↦ subst (λ n. says n y.closed_by_gate) (sym new.0) (subst (λ (z : TurnNote). says (length notes) z.closed_by_gate) new.1 one)
]

pub readings_push : (rs : List ℕ) (now : ℕ) (coming coming' coming2 : Option (List ℕ)) → AreReadings rs coming coming' → TakesFirst coming' coming2 now → AreReadings (rs ++ now ∷ []) coming coming2
readings_push [] now coming coming' coming2 are one = (coming2, (let P : Option (List ℕ) → Type 0 = λ c. TakesFirst c coming2 now in subst P are one), refl)
readings_push (r ∷ rs) now coming coming' coming2 are one = (are.0, are.1, readings_push rs now are.0 coming' coming2 are.2 one)

-- the readings of one connection after another's
pub readings_then : (rs qs : List ℕ) (coming coming' coming2 : Option (List ℕ)) → AreReadings rs coming coming' → AreReadings qs coming' coming2 → AreReadings (rs ++ qs) coming coming2
readings_then [] qs coming coming' coming2 are more = let P : Option (List ℕ) → Type 0 = λ c. AreReadings qs c coming2 in subst P are more
readings_then (r ∷ rs) qs coming coming' coming2 are more = (are.0, are.1, readings_then rs qs are.0 coming' coming2 are.2 more)

pub clock_push : (xs : List Exchange) (x : Exchange) (coming coming' coming2 : Option (List ℕ)) → AreReadings (map now_in xs) coming coming' → TakesFirst coming' coming2 x.note.now
    → AreReadings (map now_in (xs ++ x ∷ [])) coming coming2
clock_push xs x coming coming' coming2 are one =
    let P : List ℕ → Type 0 = λ rs. AreReadings rs coming coming2 in
    subst P (sym (map-append now_in xs (x ∷ []))) (readings_push (map now_in xs) x.note.now coming coming' coming2 are one)

pub split_push : (taken got : List ℕ) (xs : List Exchange) (x : Exchange) (kept kept' : List ℕ)
    → Reads taken (map message_in xs) kept → ReadsMessage (kept ++ got) x.message kept' → Reads (taken ++ got) (map message_in (xs ++ x ∷ [])) kept'
split_push taken got xs x kept kept' split reads =
    let P : List Message → Type 0 = λ ms. Reads (taken ++ got) ms kept' in
    subst P (sym (map-append message_in xs (x ∷ [])))
    (reads_further (taken ++ got) (map message_in xs) x.message (kept ++ got) kept' (reads_append taken got (map message_in xs) kept split) reads)

pub goes_push : (xs : List Exchange) (x : Exchange) → GoesOn xs → IsFalse x.message.last → IsFalse x.note.closed_by_gate → GoesOn (xs ++ x ∷ [])
goes_push xs x on asked gate = All-push (λ (y : Exchange). IsFalse y.message.last × IsFalse y.note.closed_by_gate) xs x on (asked, gate)

pub sends_push : (sent : List ℕ) (xs : List Exchange) (x : Exchange) → sent ≡ flat_map response_in xs → sent ++ x.response ≡ flat_map response_in (xs ++ x ∷ [])
sends_push sent xs x is =
    ap (λ l. l ++ x.response) is ∙ (ap (λ l. flat_map response_in xs ++ l) (sym (append-nil x.response)) ∙ sym (flat_map-append response_in xs (x ∷ [])))

pub gets_push : (taken : List ℕ) (xs : List Exchange) (x : Exchange) → taken ≡ flat_map got_in xs → taken ++ x.got ≡ flat_map got_in (xs ++ x ∷ [])
gets_push taken xs x is =
    ap (λ l. l ++ x.got) is ∙ (ap (λ l. flat_map got_in xs ++ l) (sym (append-nil x.got)) ∙ sym (flat_map-append got_in xs (x ∷ [])))

pub read_push : (kept : List ℕ) (xs : List Exchange) (x : Exchange) (mid kept' : List ℕ) → ReadsExchanges kept xs mid → ReadsMessage (mid ++ x.got) x.message kept'
    → ((m : Message) (rest : List ℕ) → ReadsMessage mid m rest → x.got ≡ []) → ReadsExchanges kept (xs ++ x ∷ []) kept'
read_push kept [] x mid kept' are reads spare =
    let R : List ℕ → Type 0 = λ k. ReadsMessage (k ++ x.got) x.message kept' in
    let S : List ℕ → Type 0 = λ k. (m : Message) (rest : List ℕ) → ReadsMessage k m rest → x.got ≡ [] in
    (kept', subst R (sym are) reads, subst S (sym are) spare, refl)
read_push kept (y ∷ xs) x mid kept' are reads spare = (are.0, are.1, are.2, read_push are.0 xs x mid kept' are.3 reads spare)

pub noted_push : (turns turns' : List TurnNote) (xs : List Exchange) (x : Exchange) → turns' ≡ turns ++ map note_in xs → turns' ++ x.note ∷ [] ≡ turns ++ map note_in (xs ++ x ∷ [])
noted_push turns turns' xs x is =
    ap (λ l. l ++ x.note ∷ []) is ∙ (append_assoc turns (map note_in xs) (x.note ∷ []) ∙ ap (λ l. turns ++ l) (sym (map-append note_in xs (x ∷ []))))

-- the turns that were added, after one more
pub added_push : (turns turns' : List TurnNote) (note : TurnNote) → Begins turns turns' → turns_added turns (turns' ++ note ∷ []) ≡ turns_added turns turns' ++ note ∷ []
added_push turns turns' note begins =
    let within : length turns ≤ length turns' = omega (arith, ap length begins.1, length-append turns begins.0) in
    drop-append-le (length turns) turns' (note ∷ []) within

-- where none was added
pub added_nothing : (turns : List TurnNote) → turns_added turns turns ≡ []
added_nothing turns = ap (drop (length turns)) (sym (append-nil turns)) ∙ drop-append_seam turns []

pub nothing_added : (turns : List TurnNote) (k : ℕ) (note : TurnNote) → get_elem? (turns_added turns turns) k ≡ some note → ⊥
nothing_added turns k note at = some-ne-none note (sym at ∙ ap (λ (ts : List TurnNote). get_elem? ts k) (added_nothing turns))

pub pushed_on : (new now old : List TurnNote) (note : TurnNote) → new ≡ now ++ note ∷ [] → now ≡ old → new ≡ old ++ note ∷ []
pushed_on new now old note is same = is ∙ ap (λ ts. ts ++ note ∷ []) same
