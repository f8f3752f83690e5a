-- Lists of entries, each of which has a ticket and the number of a pass.
use Rattle.std.specs.Prelude.{◌≡◌, ℕ, ◌<◌, List, [], ◌∷◌, ◌++◌, ◌==◌, if◌then◌else◌, nat_lt, length}
use mathlib.Core.Option.{some}
use lib.ListN.{get_elem?}

-- the entries that bear this pass's number, in their order
abbrev pub entries_of : {E : Type 0} → (E → ℕ) → ℕ → List E → List E
entries_of pass_of n [] = []
entries_of pass_of n (e ∷ es) = if pass_of e == n then e ∷ entries_of pass_of n es else entries_of pass_of n es

-- the journal begins with what was seen
abbrev pub Begins : {E : Type 0} → List E → List E → Type 0
Begins {E} seen journal = (rest : List E) × (journal ≡ seen ++ rest)

-- each ticket is below this one
abbrev pub Below : {E : Type 0} → (E → ℕ) → ℕ → List E → Type 0
Below {E} ticket_of t journal = (k : ℕ) (e : E) → get_elem? journal k ≡ some e → ticket_of e < t

-- the tickets rise strictly
abbrev pub Rises : {E : Type 0} → (E → ℕ) → List E → Type 0
Rises {E} ticket_of journal = (i j : ℕ) (e f : E) → get_elem? journal i ≡ some e → get_elem? journal j ≡ some f → i < j → ticket_of e < ticket_of f

-- the longer of two lists, the first where they are equally long; of two beginnings of one journal it begins with the other
abbrev pub longer : {E : Type 0} → List E → List E → List E
longer xs ys = if nat_lt (length xs) (length ys) then ys else xs

-- the journal after is the one before with one more entry, which has this ticket, this pass's number and this ask
abbrev pub AddsCall : {E A : Type 0} → (E → ℕ) → (E → ℕ) → (E → A) → List E → List E → ℕ → ℕ → A → Type 0
AddsCall {E} ticket_of pass_of ask_of before after ticket number ask = (e : E) × (after ≡ before ++ e ∷ []) × (ticket_of e ≡ ticket) × (pass_of e ≡ number) × (ask_of e ≡ ask)
