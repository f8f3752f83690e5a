-- Rows that are seen one behind the other.
use Rattle.std.proofs.Common.{◌≡◌, ◌≢◌, ℕ, ◌+◌, ◌-◌, ◌≤◌, ◌<◌, List, [], ◌∷◌, ◌++◌, length, take, drop, inl}
use Rattle.std.proofs.Common.{append_assoc, append-nil, refl, sym, ap, ap₂, subst, ◌∙◌, arith, length-append}
use Rattle.std.proofs.Common.{length-drop}
use Rattle.std.specs.List.{AllByRecursion}
use Rattle.std.proofs.lemmas.List.{take-append-drop, take_all}
use Rattle.std.proofs.Math.Seq.{take-add}
use Rattle.ss_bso.specs.declared.rows.Row.{Row as Stored}
use Rattle.ss_record.specs.declared.readings.Sheet.{Sheet}
use Rattle.ss_device.specs.Writing.{row_line}
use Rattle.ss_flat.specs.declared.kinds.FlatKind.{FlatKind}
use Rattle.ss_flat.specs.States.{IsFlatState, State}
use Rattle.ss_run_flat.specs.declared.endings.Ending.{Ending}
use Rattle.ss_run_flat.specs.declared.endings.Ending.TheVariants as ending
use Rattle.ss_run_flat.specs.declared.files.Found.TheVariants as found
use Rattle.ss_run_flat.specs.declared.files.Seen.{Seen}
use Rattle.ss_run_flat.specs.Files.{BeginsWithFile, IsExcess, IsFile, IsNextFound, IsNoFile, IsRow, IsStateOfFile}
use Rattle.ss_run_flat.specs.Files.{IsWhyNoRows}
use Rattle.ss_run_flat.specs.Files.{IsStuck, IsStuckAt, IsStuckBy, row_lines, stored_row, stored_rows}

-- so many bytes of the text are the lines of rows, and the state is that of these
pub record AreSoFar (kind : FlatKind) (text : List ℕ) (flat : State) (line used : ℕ) : Type 0 where
  pub rows : List Sheet
  pub form : AllByRecursion IsRow rows
  pub inside : used ≤ length text
  pub text_is : take used text ≡ row_lines rows
  pub kind_is : flat.kind ≡ kind
  pub state : IsFlatState (stored_rows kind rows) flat
  pub number : line ≡ length rows + 1
  pub few : length rows ≤ used

pub none_yet : (kind : FlatKind) (text : List ℕ) (flat : State) → flat.kind ≡ kind → IsFlatState [] flat → AreSoFar kind text flat 1 0
none_yet kind text flat k s = record { rows = []; form = tt; inside = omega arith; text_is = refl; kind_is = k; state = s; number = refl; few = omega arith }

all_more : (rows : List Sheet) (r : Sheet) → AllByRecursion IsRow rows → IsRow r → AllByRecursion IsRow (rows ++ r ∷ [])
all_more [] r a h = (h, tt)
all_more (q ∷ rows) r a h = (a.0, all_more rows r a.1 h)

lines_more : (rows : List Sheet) (r : Sheet) → row_lines (rows ++ r ∷ []) ≡ row_lines rows ++ row_line r
lines_more [] r = append-nil (row_line r)
lines_more (q ∷ rows) r = ap (λ t. row_line q ++ t) (lines_more rows r) ∙ sym (append_assoc (row_line q) (row_lines rows) (row_line r))

stored_more : (kind : FlatKind) (rows : List Sheet) (r : Sheet) → stored_rows kind (rows ++ r ∷ []) ≡ stored_rows kind rows ++ stored_row kind r ∷ []
stored_more kind [] r = refl
stored_more kind (q ∷ rows) r = ap (λ (rs : List Stored). stored_row kind q ∷ rs) (stored_more kind rows r)

further : (text : List ℕ) (used long : ℕ) → used ≤ length text → long ≤ length (drop used text) → used + long ≤ length text
further text used long i l = let d : length (drop used text) ≡ length text - used = length-drop used text in omega arith

one_longer : (rows : List Sheet) (r : Sheet) → length (rows ++ r ∷ []) ≡ length rows + 1
one_longer rows r = length-append rows (r ∷ [])

pub one_more : (kind : FlatKind) (text : List ℕ) (flat new : State) (line used long : ℕ) (r : Sheet) → AreSoFar kind text flat line used → IsNextFound (drop used text) (found.Row r long)
    → new.kind ≡ flat.kind → ((rows : List Stored) → IsFlatState rows flat → IsFlatState (rows ++ stored_row flat.kind r ∷ []) new) → AreSoFar kind text new (line + 1) (used + long)
one_more kind text flat new line used long r h f k s =
    let one = one_longer h.rows r in
    let number = h.number in
    let few = h.few in
    let some = f.1 in
    record {
      rows = h.rows ++ r ∷ [];
      form = all_more h.rows r h.form f.0;
      inside = further text used long h.inside f.2;
      text_is = take-add used long text ∙ (ap₂ (λ a b. a ++ b) h.text_is f.3 ∙ sym (lines_more h.rows r));
      kind_is = k ∙ h.kind_is;
      state = subst (λ (rs : List Stored). IsFlatState rs new) (sym (stored_more kind h.rows r)) (subst (λ (q : FlatKind). IsFlatState (stored_rows kind h.rows ++ stored_row q r ∷ []) new) h.kind_is (s (stored_rows kind h.rows) h.state));
      number = omega arith;
      few = omega arith;
    }

pub all_seen : (kind : FlatKind) (text : List ℕ) (flat : State) (line used long : ℕ) → AreSoFar kind text flat line used → IsNextFound (drop used text) (found.End long)
    → BeginsWithFile kind text (record { flat = flat; line = line; used = used + long })
all_seen kind text flat line used long h f = record {
  rows = h.rows;
  inside = further text used long h.inside f.0;
  is_file = record { form = h.form; text_is = take-add used long text ∙ ap₂ (λ a b. a ++ b) h.text_is f.1 };
  kind_is = h.kind_is;
  state = h.state;
  number = h.number;
  few = (let few = h.few in omega arith);
}

stuck_at : (kind : FlatKind) (text : List ℕ) (flat : State) (line used n : ℕ) → AreSoFar kind text flat line used → n ≡ line → IsStuck (drop used text) → IsStuckAt text n (drop used text)
stuck_at kind text flat line used n h is s = record {
  rows = h.rows;
  form = h.form;
  text_is = sym (ap (λ t. t ++ drop used text) (sym h.text_is) ∙ take-append-drop used text);
  stuck = s;
  number = is ∙ h.number;
}

-- the text behind the rows so far goes on with nothing, for this reason
pub stops : (kind : FlatKind) (text : List ℕ) (flat : State) (line used : ℕ) (e : Ending) → AreSoFar kind text flat line used → IsStuckBy (drop used text) line e → IsWhyNoRows text e
stops kind text flat line used (ending.Cut n) h s = (drop used text, stuck_at kind text flat line used n h s.1 s.0, s.2)
stops kind text flat line used (ending.BadLine n) h s = (drop used text, stuck_at kind text flat line used n h s.1 s.0, s.2)
stops kind text flat line used ending.Memory h s = tt
stops kind text flat line used ending.Done h s = absurd s
stops kind text flat line used ending.Input h s = absurd s
stops kind text flat line used ending.Output h s = absurd s
stops kind text flat line used ending.TooLong h s = absurd s
stops kind text flat line used ending.OtherWords h s = absurd s

-- ---- the text as a whole

pub no_file : (text : List ℕ) (e : Ending) → IsWhyNoRows text e → IsNoFile text e
no_file text (ending.Cut n) s = s
no_file text (ending.BadLine n) s = inl s
no_file text ending.Memory s = tt
no_file text ending.Done s = absurd s
no_file text ending.Input s = absurd s
no_file text ending.Output s = absurd s
no_file text ending.TooLong s = absurd s
no_file text ending.OtherWords s = absurd s

some_behind : (text : List ℕ) (used : ℕ) → used < length text → drop used text ≢ []
some_behind text used less nil = let l : length text - used ≡ 0 = sym (length-drop used text) ∙ ap length nil in absurd (omega arith)

pub excess : (kind : FlatKind) (text : List ℕ) (s : Seen) → BeginsWithFile kind text s → s.used < length text → IsExcess text (s.line + 1)
excess kind text s h less =
    let number = h.number in
    record {
      rows = h.rows;
      file = take s.used text;
      rest = drop s.used text;
      is_file = h.is_file;
      text_is = sym (take-append-drop s.used text);
      more = some_behind text s.used less;
      number = omega arith;
    }

pub whole : (kind : FlatKind) (text : List ℕ) (s : Seen) → BeginsWithFile kind text s → length text ≤ s.used → IsStateOfFile kind text s.flat
whole kind text s h all = record {
  rows = h.rows;
  is_file = subst (λ t. IsFile t h.rows) (take_all s.used text all) h.is_file;
  kind_is = h.kind_is;
  state = h.state;
}
