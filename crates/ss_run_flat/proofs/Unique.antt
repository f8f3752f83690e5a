-- A text is a file of one list of rows, or no file for one reason.
use Rattle.std.proofs.Common.{◌≡◌, ◌≢◌, ℕ, ◌+◌, List, [], ◌∷◌, ◌++◌, length, inl, inr, append_assoc, append-nil, refl}
use Rattle.std.proofs.Common.{sym, ap, ap₂, ◌∙◌}
use Rattle.std.specs.List.{AllByRecursion}
use Rattle.std.proofs.lemmas.Bool.{false≢true}
use Rattle.ss_record.specs.declared.readings.Sheet.{Sheet}
use Rattle.ss_device.specs.Writing.{end_line, row_line}
use Rattle.ss_device_file.specs.declared.lines.Line.TheVariants.{Row, End}
use Rattle.ss_device_file.specs.Files.{has_line}
use Rattle.ss_device_file.proofs.Unique.{front_same}
use Rattle.ss_run_flat.specs.declared.endings.Ending.{Ending}
use Rattle.ss_run_flat.specs.declared.endings.Ending.TheVariants.{Done, OtherWords, Input, Output, Cut, BadLine}
use Rattle.ss_run_flat.specs.declared.endings.Ending.TheVariants.{TooLong, Memory}
use Rattle.ss_run_flat.proofs.Lines.{end_formed}
use Rattle.ss_run_flat.specs.Files.{IsExcess, IsFile, IsNoFile, IsRow, IsStuck, IsStuckAt, row_lines}

row_same : {q r : Sheet} → Row q ≡ Row r → q ≡ r
row_same e = cc

abbrev AreRows : List Sheet → Type 0
AreRows rows = AllByRecursion IsRow rows

-- rows, and what stands behind the end
one_reading : (rows others : List Sheet) (a b : List ℕ) → AreRows rows → AreRows others → row_lines rows ++ (end_line ++ a) ≡ row_lines others ++ (end_line ++ b) → (rows ≡ others) × (a ≡ b)
one_reading [] [] a b h k is = (refl, (front_same End End end_formed end_formed a b is).1)
one_reading [] (r ∷ others) a b h k is =
    let f = (front_same End (Row r) end_formed k.0 a (row_lines others ++ (end_line ++ b)) (is ∙ append_assoc (row_line r) (row_lines others) (end_line ++ b))).0 in cc
one_reading (q ∷ rows) [] a b h k is =
    let f = (front_same (Row q) End h.0 end_formed (row_lines rows ++ (end_line ++ a)) b (sym (append_assoc (row_line q) (row_lines rows) (end_line ++ a)) ∙ is)).0 in cc
one_reading (q ∷ rows) (r ∷ others) a b h k is =
    let f = front_same (Row q) (Row r) h.0 k.0 (row_lines rows ++ (end_line ++ a)) (row_lines others ++ (end_line ++ b))
    (sym (append_assoc (row_line q) (row_lines rows) (end_line ++ a)) ∙ (is ∙ append_assoc (row_line r) (row_lines others) (end_line ++ b))) in
    let more = one_reading rows others a b h.1 k.1 f.1 in
    (ap₂ (λ x xs. x ∷ xs) (row_same f.0) more.0, more.1)

behind_nothing : (rows : List Sheet) → row_lines rows ++ end_line ≡ row_lines rows ++ (end_line ++ [])
behind_nothing rows = ap (λ t. row_lines rows ++ t) (sym (append-nil end_line))

pub one_file : (text : List ℕ) (rows others : List Sheet) → IsFile text rows → IsFile text others → rows ≡ others
one_file text rows others h k = (one_reading rows others [] [] h.form k.form (sym (behind_nothing rows) ∙ (sym h.text_is ∙ (k.text_is ∙ behind_nothing others)))).0

-- a text that is stuck behind rows is no file, nor one with more behind it
never_stuck : (seen rows : List Sheet) (rest a : List ℕ) → AreRows seen → AreRows rows → row_lines seen ++ rest ≡ row_lines rows ++ (end_line ++ a) → IsStuck rest → ⊥
never_stuck [] [] rest a h k is s = s.no_end a is
never_stuck [] (r ∷ rows) rest a h k is s = s.no_row r (row_lines rows ++ (end_line ++ a)) k.0 (is ∙ append_assoc (row_line r) (row_lines rows) (end_line ++ a))
never_stuck (q ∷ seen) [] rest a h k is s =
    let f = (front_same (Row q) End h.0 end_formed (row_lines seen ++ rest) a (sym (append_assoc (row_line q) (row_lines seen) rest) ∙ is)).0 in cc
never_stuck (q ∷ seen) (r ∷ rows) rest a h k is s =
    let f = front_same (Row q) (Row r) h.0 k.0 (row_lines seen ++ rest) (row_lines rows ++ (end_line ++ a))
    (sym (append_assoc (row_line q) (row_lines seen) rest) ∙ (is ∙ append_assoc (row_line r) (row_lines rows) (end_line ++ a))) in
    never_stuck seen rows rest a h.1 k.1 f.1 s

-- a text is stuck in one place
one_stop : (rows others : List Sheet) (rest tail : List ℕ) → AreRows rows → AreRows others → row_lines rows ++ rest ≡ row_lines others ++ tail → IsStuck rest → IsStuck tail → (rows ≡ others) × (rest ≡ tail)
one_stop [] [] rest tail h k is s t = (refl, is)
one_stop [] (r ∷ others) rest tail h k is s t = absurd (s.no_row r (row_lines others ++ tail) k.0 (is ∙ append_assoc (row_line r) (row_lines others) tail))
one_stop (q ∷ rows) [] rest tail h k is s t = absurd (t.no_row q (row_lines rows ++ rest) h.0 (sym is ∙ append_assoc (row_line q) (row_lines rows) rest))
one_stop (q ∷ rows) (r ∷ others) rest tail h k is s t =
    let f = front_same (Row q) (Row r) h.0 k.0 (row_lines rows ++ rest) (row_lines others ++ tail)
    (sym (append_assoc (row_line q) (row_lines rows) rest) ∙ (is ∙ append_assoc (row_line r) (row_lines others) tail)) in
    let more = one_stop rows others rest tail h.1 k.1 f.1 s t in
    (ap₂ (λ x xs. x ∷ xs) (row_same f.0) more.0, more.1)

file_stuck : (text : List ℕ) (rows : List Sheet) (n : ℕ) (rest : List ℕ) → IsFile text rows → IsStuckAt text n rest → ⊥
file_stuck text rows n rest h s = never_stuck s.rows rows rest [] s.form h.form (sym s.text_is ∙ (h.text_is ∙ behind_nothing rows)) s.stuck

excess_text : (text : List ℕ) (n : ℕ) (x : IsExcess text n) → text ≡ row_lines x.rows ++ (end_line ++ x.rest)
excess_text text n x = x.text_is ∙ (ap (λ t. t ++ x.rest) x.is_file.text_is ∙ append_assoc (row_lines x.rows) end_line x.rest)

file_excess : (text : List ℕ) (rows : List Sheet) (n : ℕ) → IsFile text rows → IsExcess text n → ⊥
file_excess text rows n h x = x.more (sym (one_reading rows x.rows [] x.rest h.form x.is_file.form (sym (behind_nothing rows) ∙ (sym h.text_is ∙ excess_text text n x))).1)

pub unrefused : (text : List ℕ) (rows : List Sheet) (e : Ending) → IsFile text rows → IsNoFile text e → e ≡ Memory
unrefused text rows (Cut n) h s = absurd (file_stuck text rows n s.0 h s.1)
unrefused text rows (BadLine n) h s = elim s [ inl c ↦ absurd (file_stuck text rows n c.0 h c.1) | inr x ↦ absurd (file_excess text rows n h x) ]
unrefused text rows Memory h s = refl
unrefused text rows Done h s = absurd s
unrefused text rows Input h s = absurd s
unrefused text rows Output h s = absurd s
unrefused text rows TooLong h s = absurd s
unrefused text rows OtherWords h s = absurd s

-- ---- two refusals

two_stops : (text : List ℕ) (n m : ℕ) (rest tail : List ℕ) → IsStuckAt text n rest → IsStuckAt text m tail → (n ≡ m) × (rest ≡ tail)
two_stops text n m rest tail s t =
    let both = one_stop s.rows t.rows rest tail s.form t.form (sym s.text_is ∙ t.text_is) s.stuck t.stuck in
    (s.number ∙ (ap (λ (rs : List Sheet). length rs + 1) both.0 ∙ sym t.number), both.1)

stop_excess : (text : List ℕ) (n m : ℕ) (rest : List ℕ) → IsStuckAt text n rest → IsExcess text m → ⊥
stop_excess text n m rest s x = never_stuck s.rows x.rows rest x.rest s.form x.is_file.form (sym s.text_is ∙ excess_text text m x) s.stuck

two_excesses : (text : List ℕ) (n m : ℕ) → IsExcess text n → IsExcess text m → n ≡ m
two_excesses text n m x y =
    let both = one_reading x.rows y.rows x.rest y.rest x.is_file.form y.is_file.form (sym (excess_text text n x) ∙ excess_text text m y) in
    x.number ∙ (ap (λ (rs : List Sheet). length rs + 2) both.0 ∙ sym y.number)

-- it is cut, or has a further line, but not both
cut_or_bad : (text : List ℕ) (n m : ℕ) → IsNoFile text (Cut n) → IsNoFile text (BadLine m) → ⊥
cut_or_bad text n m s t =
    elim t [
      | inl b ↦ false≢true (sym s.2 ∙ (ap has_line (two_stops text n m s.0 b.0 s.1 b.1).1 ∙ b.2))
      | inr x ↦ stop_excess text n m s.0 s.1 x
    ]

two_bad : (text : List ℕ) (n m : ℕ) → IsNoFile text (BadLine n) → IsNoFile text (BadLine m) → n ≡ m
two_bad text n m s t =
    elim s [
      | inl a ↦ elim t [ inl b ↦ (two_stops text n m a.0 b.0 a.1 b.1).0 | inr y ↦ absurd (stop_excess text n m a.0 a.1 y) ]
      | inr x ↦ elim t [ inl b ↦ absurd (stop_excess text m n b.0 b.1 x) | inr y ↦ two_excesses text n m x y ]
    ]

pub one_refusal : (text : List ℕ) (one other : Ending) → IsNoFile text one → IsNoFile text other → one ≢ Memory → other ≢ Memory → one ≡ other
one_refusal text (Cut n) (Cut m) s t p q = ap Cut (two_stops text n m s.0 t.0 s.1 t.1).0
one_refusal text (Cut n) (BadLine m) s t p q = absurd (cut_or_bad text n m s t)
one_refusal text (BadLine n) (Cut m) s t p q = absurd (cut_or_bad text m n t s)
one_refusal text (BadLine n) (BadLine m) s t p q = ap BadLine (two_bad text n m s t)
one_refusal text Memory other s t p q = absurd (p refl)
one_refusal text (Cut n) Memory s t p q = absurd (q refl)
one_refusal text (BadLine n) Memory s t p q = absurd (q refl)
one_refusal text Done other s t p q = absurd s
one_refusal text Input other s t p q = absurd s
one_refusal text Output other s t p q = absurd s
one_refusal text TooLong other s t p q = absurd s
one_refusal text OtherWords other s t p q = absurd s
one_refusal text (Cut n) Done s t p q = absurd t
one_refusal text (Cut n) Input s t p q = absurd t
one_refusal text (Cut n) Output s t p q = absurd t
one_refusal text (Cut n) TooLong s t p q = absurd t
one_refusal text (Cut n) OtherWords s t p q = absurd t
one_refusal text (BadLine n) Done s t p q = absurd t
one_refusal text (BadLine n) Input s t p q = absurd t
one_refusal text (BadLine n) Output s t p q = absurd t
one_refusal text (BadLine n) TooLong s t p q = absurd t
one_refusal text (BadLine n) OtherWords s t p q = absurd t
