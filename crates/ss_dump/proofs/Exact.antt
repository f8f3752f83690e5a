-- A text tells one account, and a dump is not refused.
use Rattle.std.proofs.Common.{◌≡◌, ◌≢◌, ℕ, true, List, [], ◌∷◌, ◌++◌, Some, append_assoc, append-nil, refl, sym, ap}
use Rattle.std.proofs.Common.{ap₂, ◌∙◌}
use Rattle.std.specs.List.{AllByRecursion}
use Rattle.ss_text.proofs.Basics.{and_then_some, none_some, some_same}
use Rattle.ss_bso.specs.declared.changes.Kept.{Kept}
use Rattle.ss_lines.specs.Digests.{is_digest}
use Rattle.ss_lines.specs.Lines.{IsLine, line_text}
use Rattle.ss_lines.specs.declared.lines.Line.{Line}
use Rattle.ss_lines.specs.declared.lines.Line.TheVariants.{Digest, End}
use Rattle.ss_lines.proofs.Fronts.{some_text, told_apart}
use Rattle.ss_account.specs.Opening.{first_bad_batch, first_bad_collection, first_bad_row}
use Rattle.ss_dump.specs.declared.faults.DumpFault.{DumpFault}
use Rattle.ss_dump.specs.declared.faults.DumpFault.TheVariants.{BadLine, BadDigest, BadCollection, BadRow, BadBatch}
use Rattle.ss_dump.specs.declared.faults.DumpFault.TheVariants.{Memory}
use Rattle.ss_dump.specs.Dumps.{account_lines, body_text, closed_by, digest_of, dump_text, in_order, text_of}
use Rattle.ss_dump.specs.Telling.{IsToldWith, NoneComes, State, is_whole, next, nothing, state_of_lines, told_from}
use Rattle.ss_dump.specs.Telling.{whole}
use Rattle.ss_dump.specs.Undumped.{IsDumpOf, IsWhyNoDump, WouldBeDump}
use Rattle.ss_dump.proofs.Complete.{is_ordered, told_account}
use Rattle.ss_dump.proofs.Digests.{digest_form}
use Rattle.ss_dump.proofs.Told.{text_append}

-- ---- nothing follows the end

after_whole : (kept : Kept) (digest : List ℕ) (l : Line) (s : State) → next (whole kept digest) l ≡ Some s → ⊥
unfolding next
after_whole kept digest l s e = none_some e

whole_same : (k m : Kept) (d e : List ℕ) → whole k d ≡ whole m e → (k ≡ m) × (d ≡ e)
whole_same k m d e h = (cc, cc)

no_front : (l : Line) (rest : List ℕ) → line_text l ++ rest ≡ [] → ⊥
no_front l rest e = some_text l (nothing_front (line_text l) rest e)
  where
    nothing_front : (xs ys : List ℕ) → xs ++ ys ≡ [] → xs ≡ []
    nothing_front [] ys h = refl
    nothing_front (x ∷ xs) ys h = cc

-- ---- one text, one account

same_told : (state : State) (ls ms : List Line) (k m : Kept) (d e : List ℕ) → AllByRecursion IsLine ls → AllByRecursion IsLine ms → told_from state ls ≡ Some (whole k d) → told_from state ms ≡ Some (whole m e)
    → text_of ls ≡ text_of ms → (k ≡ m) × (d ≡ e)
same_told state [] [] k m d e f g a b t = whole_same k m d e (sym (some_same a) ∙ some_same b)
same_told state [] (y ∷ ys) k m d e f g a b t = absurd (no_front y (text_of ys) (sym t))
same_told state (x ∷ xs) [] k m d e f g a b t = absurd (no_front x (text_of xs) t)
same_told state (x ∷ xs) (y ∷ ys) k m d e f g a b t =
    let p = told_apart x y (text_of xs) (text_of ys) f.0 g.0 t in
    let r = and_then_some (λ s. told_from s xs) (next state x) (whole k d) a in
    let q = and_then_some (λ s. told_from s ys) (next state y) (whole m e) b in
    let same : r.0 ≡ q.0 = some_same (sym r.1 ∙ (ap (next state) p.0 ∙ q.1)) in
    same_told q.0 xs ys k m d e f.1 g.1 (ap (λ s. told_from s xs) (sym same) ∙ r.2) q.2 p.1

pub one_told : (text : List ℕ) (k m : Kept) (d e : List ℕ) → IsToldWith text k d → IsToldWith text m e → (k ≡ m) × (d ≡ e)
unfolding state_of_lines
one_told text k m d e h g = same_told nothing h.lines g.lines k m d e h.are g.are h.tell g.tell (sym h.text_is ∙ g.text_is)

-- ---- no line of such a text is bad

clash : (state : State) (ls ms : List Line) (st : State) (rest : List ℕ) (k : Kept) (d : List ℕ) → AllByRecursion IsLine ls → AllByRecursion IsLine ms → told_from state ls ≡ Some st → told_from state ms ≡ Some (whole k d)
    → text_of ls ++ rest ≡ text_of ms → NoneComes st rest → (is_whole st ≡ true → rest ≢ []) → ⊥
clash state [] [] st rest k d f g a b t none over = over (ap is_whole (sym (some_same a) ∙ some_same b)) t
clash state [] (y ∷ ys) st rest k d f g a b t none over =
    let q = and_then_some (λ s. told_from s ys) (next state y) (whole k d) b in
    none y (text_of ys) q.0 g.0 (ap (λ s. next s y) (sym (some_same a)) ∙ q.1) (sym t)
clash state (x ∷ xs) [] st rest k d f g a b t none over = no_front x (text_of xs ++ rest) (sym (append_assoc (line_text x) (text_of xs) rest) ∙ t)
clash state (x ∷ xs) (y ∷ ys) st rest k d f g a b t none over =
    let p = told_apart x y (text_of xs ++ rest) (text_of ys) f.0 g.0 (sym (append_assoc (line_text x) (text_of xs) rest) ∙ t) in
    let r = and_then_some (λ s. told_from s xs) (next state x) st a in
    let q = and_then_some (λ s. told_from s ys) (next state y) (whole k d) b in
    let same : r.0 ≡ q.0 = some_same (sym r.1 ∙ (ap (next state) p.0 ∙ q.1)) in
    clash q.0 xs ys st rest k d f.1 g.1 (ap (λ s. told_from s xs) (sym same) ∙ r.2) q.2 p.1 none over

-- ---- what is said of a text is that it tells an account

pub all_append : (xs ys : List Line) → AllByRecursion IsLine xs → AllByRecursion IsLine ys → AllByRecursion IsLine (xs ++ ys)
all_append [] ys h k = k
all_append (x ∷ xs) ys h k = (h.0, all_append xs ys h.1 k)

told_by : (text : List ℕ) (kept : Kept) (digest : List ℕ) → AllByRecursion IsLine (account_lines kept) → is_digest digest ≡ true → in_order kept ≡ kept → text ≡ closed_by digest (body_text kept)
    → IsToldWith text kept digest
unfolding body_text
told_by text kept digest f d o t =
    let tail : List Line = Digest digest ∷ End ∷ [] in
    let body : body_text kept ≡ text_of (account_lines kept) = ap (λ k. text_of (account_lines k)) o in
    record {
      lines = account_lines kept ++ tail;
      are = all_append (account_lines kept) tail f (d, (tt, tt));
      tell = told_account kept digest (is_ordered kept o);
      text_is = t ∙ (ap₂ (λ a b. a ++ (line_text (Digest digest) ++ b)) body (sym (append-nil (line_text End))) ∙ sym (text_append (account_lines kept) tail));
    }

pub dump_told : (text : List ℕ) (kept : Kept) → WouldBeDump text kept → IsToldWith text kept (digest_of (body_text kept))
unfolding dump_text
dump_told text kept h = told_by text kept (digest_of (body_text kept)) h.formed (digest_form (body_text kept)) h.ordered h.text_is

pub would : (text : List ℕ) (kept : Kept) → IsDumpOf text kept → WouldBeDump text kept
would text kept h = record { formed = h.formed; ordered = h.ordered; text_is = h.text_is }

pub one_dump : (text : List ℕ) (kept other : Kept) → IsDumpOf text kept → IsDumpOf text other → kept ≡ other
one_dump text kept other h g = (one_told text kept other _ _ (dump_told text kept (would text kept h)) (dump_told text other (would text other g))).0

same_would : (text : List ℕ) (kept other : Kept) → IsDumpOf text kept → WouldBeDump text other → other ≡ kept
same_would text kept other h g = (one_told text other kept _ _ (dump_told text other g) (dump_told text kept (would text kept h))).0

pub not_refused : (text : List ℕ) (kept : Kept) (fault : DumpFault) → IsDumpOf text kept → IsWhyNoDump text fault → fault ≡ Memory
unfolding state_of_lines
not_refused text kept (BadLine n) h r =
    let t = dump_told text kept (would text kept h) in
    absurd (clash nothing r.lines t.lines r.state r.rest kept (digest_of (body_text kept)) r.are t.are r.tell t.tell (sym r.text_is ∙ t.text_is) r.none r.over)
not_refused text kept (BadDigest stated found) h r =
    let g = r.1 in
    let s = one_told text r.0 kept stated (digest_of (body_text kept)) (told_by text r.0 stated g.formed g.stated_formed g.ordered g.text_is) (dump_told text kept (would text kept h)) in
    absurd (r.3 (s.1 ∙ (ap (λ k. digest_of (body_text k)) (sym s.0) ∙ sym r.2)))
not_refused text kept (BadCollection n) h r =
    let same = same_would text kept r.0 h r.1 in
    absurd (none_some (sym h.good.collections ∙ (ap first_bad_collection (sym same) ∙ r.2)))
not_refused text kept (BadRow n) h r =
    let same = same_would text kept r.0 h r.1 in
    absurd (none_some (sym h.good.rows ∙ (ap first_bad_row (sym same) ∙ r.2.1)))
not_refused text kept (BadBatch n) h r =
    let same = same_would text kept r.0 h r.1 in
    absurd (none_some (sym h.good.batches ∙ (ap first_bad_batch (sym same) ∙ r.2.2)))
not_refused text kept Memory h r = refl
