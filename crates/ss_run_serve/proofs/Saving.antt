-- The logs of terms that were saved, and those of one term more.
use Rattle.std.specs.Prelude.{◌≡◌, ◌≢◌, ◌<◌, ◌+◌, ℕ, zero, suc, Bool, true, false, cond, List, [], ◌∷◌, ◌++◌, length}
use Rattle.std.specs.Prelude.{get_or, map, take, drop, Option, Some, None, IfNone, IfSome, bytes_eq, refl}
use Rattle.std.specs.Option.{option_or}
use Rattle.std.specs.List.{flat_map}
use Rattle.std.proofs.Common.{sym, ap, subst, ◌∙◌, append_assoc, append-nil}
use Rattle.std.proofs.lemmas.Bool.{false≢true}
use Rattle.std.proofs.lemmas.List.{take_more}
use Rattle.ss_outside.specs.Plans.{raised_count}
use Rattle.ss_laws.specs.Journal.{Journal}
use Rattle.ss_links.specs.Stores.{Files, HasSaved}
use Rattle.ss_site.specs.Sites.{Counts, Term}
use Rattle.ss_words.specs.declared.commands.LogFolder.{LogFolder}
use Rattle.ss_run_serve.specs.declared.stop.Stop.{Stop}
use Rattle.ss_run_serve.specs.declared.stop.Stop.TheVariants as stops
use Rattle.ss_run_serve.specs.Logs.{NamedLog, saved_of, logs_of_term, logs_of, last_named, AreSavedLogs, ArePartlySaved}
use Rattle.ss_run_serve.specs.Logs.{AreLoggedUntil, AreLoggedAt, AreLoggedOnce, IsWhyUnsaved, HasCut}
use Rattle.ss_run_serve.specs.Once.{IsUntold}
use Rattle.ss_text.proofs.Basics.{same_text, bytes_eq-same}

-- ---- the last log with a name

or_none : {X : Type 0} (o : Option X) → option_or o None ≡ o
or_none None = refl
or_none (Some x) = refl

or_assoc : {X : Type 0} (o p q : Option X) → option_or (option_or o p) q ≡ option_or o (option_or p q)
or_assoc None p q = refl
or_assoc (Some x) p q = refl

last_append : (name : List ℕ) (xs ys : List NamedLog) → last_named name (xs ++ ys) ≡ option_or (last_named name ys) (last_named name xs)
last_append name [] ys = sym (or_none (last_named name ys))
last_append name (log ∷ xs) ys =
    ap (λ (o : Option (List ℕ)). option_or o (cond (bytes_eq log.0 name) (Some log.1) None)) (last_append name xs ys)
    ∙ or_assoc (last_named name ys) (last_named name xs) (cond (bytes_eq log.0 name) (Some log.1) None)

-- ---- saves one after the other

pub none_saved : (files : Option Files) → AreSavedLogs [] files files
none_saved None = refl
none_saved (Some files) = (files, refl, λ name. refl)

pub untold_saved : (logs : List NamedLog) → AreSavedLogs logs None None
untold_saved logs = refl

pub saved_then : (xs ys : List NamedLog) (old mid new : Option Files) → AreSavedLogs xs old mid → AreSavedLogs ys mid new → AreSavedLogs (xs ++ ys) old new
saved_then xs ys None mid new first then = subst (λ (m : Option Files). AreSavedLogs ys m new) first then
saved_then xs ys (Some old) mid new first then =
    let later : AreSavedLogs ys (Some first.0) new = subst (λ (m : Option Files). AreSavedLogs ys m new) first.1 then in (
      later.0,
      later.1,
      λ name. later.2 name ∙ ap (λ (o : Option (List ℕ)). option_or (last_named name ys) o) (first.2 name)
          ∙ sym (or_assoc (last_named name ys) (last_named name xs) (old name)) ∙ ap (λ (o : Option (List ℕ)). option_or o (old name)) (sym (last_append name xs ys)),
    )

one_there : (name bytes : List ℕ) (old files : Files) (other : List ℕ) (b : Bool) → bytes_eq name other ≡ b → files name ≡ Some bytes → (other ≢ name → files other ≡ old other)
    → files other ≡ option_or (cond b (Some bytes) None) (old other)
one_there name bytes old files other true is here others = ap files (sym (same_text name other is)) ∙ here
one_there name bytes old files other false is here others = others (λ same. false≢true (sym is ∙ bytes_eq-same name other (sym same)))

pub one_saved : (name bytes : List ℕ) (old new : Option Files) → HasSaved name bytes old new → AreSavedLogs ((name, bytes) ∷ []) old new
one_saved name bytes None new saved = saved
one_saved name bytes (Some old) new saved =
    (saved.0, saved.1, λ other. one_there name bytes old saved.0 other (bytes_eq name other) refl saved.2.0 (λ apart. saved.2.1 other apart))

-- ---- some of them

pub all_partly : (logs : List NamedLog) (old new : Option Files) → AreSavedLogs logs old new → ArePartlySaved logs old new
all_partly logs old new saved = record { saved = logs; rest = []; are = append-nil logs; files = saved }

pub none_partly : (logs : List NamedLog) (files : Option Files) → ArePartlySaved logs files files
none_partly logs files = record { saved = []; rest = logs; are = refl; files = none_saved files }

pub partly_then : (xs ys : List NamedLog) (old mid new : Option Files) → AreSavedLogs xs old mid → ArePartlySaved ys mid new → ArePartlySaved (xs ++ ys) old new
partly_then xs ys old mid new first then = record {
  saved = xs ++ then.saved;
  rest = then.rest;
  are = append_assoc xs then.saved then.rest ∙ ap (λ (logs : List NamedLog). xs ++ logs) then.are;
  files = saved_then xs then.saved old mid new first then.files;
}

-- those behind weren't
pub partly_more : (xs ys : List NamedLog) (old new : Option Files) → ArePartlySaved xs old new → ArePartlySaved (xs ++ ys) old new
partly_more xs ys old new partly = record {
  saved = partly.saved;
  rest = partly.rest ++ ys;
  are = sym (append_assoc partly.saved partly.rest ys) ∙ ap (λ (logs : List NamedLog). logs ++ ys) partly.are;
  files = partly.files;
}

-- ---- whatever the stop

pub logged_of : (stop : Stop) (logs : List NamedLog) (old new : Option Files) → AreSavedLogs logs old new → AreLoggedUntil stop logs old new
logged_of stops.PortEnded logs old new saved = saved
logged_of stops.Terms logs old new saved = saved
logged_of stops.Site logs old new saved = saved
logged_of (stops.Damaged uid) logs old new saved = saved
logged_of (stops.Keeper uid) logs old new saved = saved
logged_of stops.Port logs old new saved = saved
logged_of (stops.Account uid fault) logs old new saved = saved
logged_of stops.Memory logs old new saved = all_partly logs old new saved
logged_of stops.Logs logs old new saved = all_partly logs old new saved

pub logged_then : (stop : Stop) (xs ys : List NamedLog) (old mid new : Option Files) → AreSavedLogs xs old mid → AreLoggedUntil stop ys mid new → AreLoggedUntil stop (xs ++ ys) old new
logged_then stops.PortEnded xs ys old mid new first then = saved_then xs ys old mid new first then
logged_then stops.Terms xs ys old mid new first then = saved_then xs ys old mid new first then
logged_then stops.Site xs ys old mid new first then = saved_then xs ys old mid new first then
logged_then (stops.Damaged uid) xs ys old mid new first then = saved_then xs ys old mid new first then
logged_then (stops.Keeper uid) xs ys old mid new first then = saved_then xs ys old mid new first then
logged_then stops.Port xs ys old mid new first then = saved_then xs ys old mid new first then
logged_then (stops.Account uid fault) xs ys old mid new first then = saved_then xs ys old mid new first then
logged_then stops.Memory xs ys old mid new first then = partly_then xs ys old mid new first then
logged_then stops.Logs xs ys old mid new first then = partly_then xs ys old mid new first then

pub logged_once : (last : Option Stop) (logs : List NamedLog) (old new : Option Files) → AreSavedLogs logs old new → AreLoggedOnce last logs old new
logged_once None logs old new saved = saved
logged_once (Some stop) logs old new saved = logged_of stop logs old new saved

pub cut_logged : (faults : ℕ) (stop : Stop) (logs : List NamedLog) (old new : Option Files) → IsWhyUnsaved faults stop → ArePartlySaved logs old new → AreLoggedUntil stop logs old new
cut_logged faults stops.Logs logs old new cut partly = partly
cut_logged faults stops.Memory logs old new cut partly = partly
cut_logged faults stops.PortEnded logs old new cut partly = absurd cut
cut_logged faults stops.Terms logs old new cut partly = absurd cut
cut_logged faults stops.Site logs old new cut partly = absurd cut
cut_logged faults (stops.Damaged uid) logs old new cut partly = absurd cut
cut_logged faults (stops.Keeper uid) logs old new cut partly = absurd cut
cut_logged faults stops.Port logs old new cut partly = absurd cut
cut_logged faults (stops.Account uid fault) logs old new cut partly = absurd cut

pub cut_has : (faults : ℕ) (stop : Stop) → IsWhyUnsaved faults stop → HasCut faults stop
cut_has faults stops.Logs cut = cut
cut_has faults stops.Memory cut = tt
cut_has faults stops.PortEnded cut = absurd cut
cut_has faults stops.Terms cut = absurd cut
cut_has faults stops.Site cut = absurd cut
cut_has faults (stops.Damaged uid) cut = absurd cut
cut_has faults (stops.Keeper uid) cut = absurd cut
cut_has faults stops.Port cut = absurd cut
cut_has faults (stops.Account uid fault) cut = absurd cut

pub untold_has : (old new : Counts) (faults : ℕ) (stop : Stop) → IsUntold old new stop → HasCut faults stop
untold_has old new faults stops.Site why = tt
untold_has old new faults stops.Memory why = tt
untold_has old new faults stops.PortEnded why = absurd why
untold_has old new faults stops.Terms why = absurd why
untold_has old new faults stops.Port why = absurd why
untold_has old new faults (stops.Damaged uid) why = absurd why
untold_has old new faults (stops.Keeper uid) why = absurd why
untold_has old new faults (stops.Account uid fault) why = absurd why
untold_has old new faults stops.Logs why = absurd why

-- no terms were told
pub none_logged_at : (R : Type 0) (folder : Option LogFolder) (stop : Stop) (files : Option Files) → AreLoggedAt {R = R} folder stop [] files files
none_logged_at R None stop files = refl
none_logged_at R (Some folder) stop files = logged_of stop [] files files (none_saved files)

pub none_logged_still : (R : Type 0) (folder : Option LogFolder) (stop : Stop) (old new : Option Files) → new ≡ old → AreLoggedAt {R = R} folder stop [] old new
none_logged_still R folder stop old new same = subst (λ (l : Option Files). AreLoggedAt {R = R} folder stop [] old l) (sym same) (none_logged_at R folder stop old)

pub if_none : {X : Type 0} (o : Option X) (P : Type 0) → P → IfNone o P
if_none None P is = is
if_none (Some x) P is = tt

pub none_holds : {X : Type 0} {P : Type 0} (o : Option X) → o ≡ None → IfNone o P → P
none_holds {X} {P} o none is = (let Q : Option X → Type 0 = λ (x : Option X). IfNone x P in subst Q none is)

pub some_holds : {X : Type 0} (P : X → Type 0) (o : Option X) (x : X) → o ≡ Some x → IfSome o P → P x
some_holds {X} P o x some is = (let Q : Option X → Type 0 = λ (y : Option X). IfSome y P in subst Q some is)

-- ---- one term more

-- the number behind terms, the first of which has this one
abbrev pub number_after : {R : Type 0} → ℕ → List (Term R) → ℕ
number_after number [] = number
number_after number (term ∷ terms) = number_after (raised_count number) terms

pub number_more : {R : Type 0} (number : ℕ) (terms : List (Term R)) (term : Term R) → number_after number (terms ++ term ∷ []) ≡ raised_count (number_after number terms)
number_more number [] term = refl
number_more number (first ∷ terms) term = number_more (raised_count number) terms term

pub logs_more : {R : Type 0} (number : ℕ) (terms : List (Term R)) (term : Term R) → logs_of number (terms ++ term ∷ []) ≡ logs_of number terms ++ logs_of_term (number_after number terms) term.journals
logs_more number [] term = append-nil (logs_of_term number term.journals)
logs_more number (first ∷ terms) term =
    ap (λ (logs : List NamedLog). logs_of_term number first.journals ++ logs) (logs_more (raised_count number) terms term)
    ∙ sym (append_assoc (logs_of_term number first.journals) (logs_of (raised_count number) terms) (logs_of_term (number_after (raised_count number) terms) term.journals))

-- ---- the accounts of a term

-- the logs of those up to a place, and of those behind it
pub logs_split : {X : Type 0} (f : X → ℕ × Journal) (number : ℕ) (xs : List X) (i : ℕ)
    → logs_of_term number (map f (take i xs)) ++ logs_of_term number (map f (drop i xs)) ≡ logs_of_term number (map f xs)
logs_split f number xs zero = refl
logs_split f number [] (suc i) = refl
logs_split f number (x ∷ xs) (suc i) =
    append_assoc (saved_of number (f x)) (logs_of_term number (map f (take i xs))) (logs_of_term number (map f (drop i xs)))
    ∙ ap (λ (logs : List NamedLog). saved_of number (f x) ++ logs) (logs_split f number xs i)

-- one account more
pub logs_push : {X : Type 0} (f : X → ℕ × Journal) (number : ℕ) (xs : List X) (x : X) → logs_of_term number (map f (xs ++ x ∷ [])) ≡ logs_of_term number (map f xs) ++ saved_of number (f x)
logs_push f number [] x = append-nil (saved_of number (f x))
logs_push f number (y ∷ xs) x =
    ap (λ (logs : List NamedLog). saved_of number (f y) ++ logs) (logs_push f number xs x)
    ∙ sym (append_assoc (saved_of number (f y)) (logs_of_term number (map f xs)) (saved_of number (f x)))

pub saved_at : {X : Type 0} (f : X → ℕ × Journal) (number : ℕ) (xs : List X) (i : ℕ) (x : X) (old mid new : Option Files) → i < length xs → x ≡ get_or xs i x → AreSavedLogs (logs_of_term number (map f (take i xs))) old mid
    → AreSavedLogs (saved_of number (f x)) mid new → AreSavedLogs (logs_of_term number (map f (take (i + 1) xs))) old new
saved_at f number xs i x old mid new inside here first then =
    let more : take (i + 1) xs ≡ take i xs ++ x ∷ [] = take_more xs i x inside ∙ ap (λ (y : _). take i xs ++ y ∷ []) (sym here) in
    subst (λ (logs : List NamedLog). AreSavedLogs logs old new) (sym (logs_push f number (take i xs) x) ∙ ap (λ (ys : _). logs_of_term number (map f ys)) (sym more))
    (saved_then (logs_of_term number (map f (take i xs))) (saved_of number (f x)) old mid new first then)

-- some of the logs of the accounts up to a place
pub partly_at : {X : Type 0} (f : X → ℕ × Journal) (number : ℕ) (xs : List X) (i : ℕ) (old new : Option Files) → AreSavedLogs (logs_of_term number (map f (take i xs))) old new → ArePartlySaved (logs_of_term number (map f xs)) old new
partly_at f number xs i old new saved = record { saved = logs_of_term number (map f (take i xs)); rest = logs_of_term number (map f (drop i xs)); are = logs_split f number xs i; files = saved }
