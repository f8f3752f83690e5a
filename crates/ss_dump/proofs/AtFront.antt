-- Dumps at the fronts of texts: their lines, which of them may follow which, and where a text doesn't begin with a dump.
use Rattle.std.proofs.Common.{◌≡◌, ℕ, ◌+◌, ◌<◌, ◌≤◌, Bool, true, false, List, [], ◌∷◌, ◌++◌, length, take, drop, Some}
use Rattle.std.proofs.Common.{append_assoc, append-nil, refl, sym, ap, ◌∙◌, subst, arith, length-append, bytes_eq}
use Rattle.std.proofs.lemmas.Bool.{false≢true}
use Rattle.std.proofs.lemmas.List.{length-take-le, take-append-drop}
use Rattle.std.specs.List.{AllByRecursion}
use Rattle.ss_text.proofs.Basics.{and_then_some, bytes_eq-same, no_way, same_text, some_same}
use Rattle.ss_bso.specs.declared.changes.Kept.{Kept}
use Rattle.ss_lines.specs.Lines.{IsLine, line_text}
use Rattle.ss_lines.specs.declared.lines.Line.{Line}
use Rattle.ss_lines.specs.declared.lines.Line.TheVariants.{Account, Times, Digest, End}
use Rattle.ss_lines.proofs.Fronts.{some_text, told_apart}
use Rattle.ss_dump.specs.declared.faults.LineFault.{LineFault}
use Rattle.ss_dump.specs.declared.faults.LineFault.TheVariants.{BadLine, Memory}
use Rattle.ss_dump.specs.Dumps.{account_lines, body_text, digest_of, dump_text, in_order, text_of}
use Rattle.ss_dump.specs.Fronts.{GoesOn, IsBadFront, IsDumpFront, IsFrontFault, IsFormedInOrder, dump_lines}
use Rattle.ss_dump.specs.Stages.{Comes, HasBody, IsReadTo, IsStop, IsStopBefore, IsStopOf, is_closed, states}
use Rattle.ss_dump.specs.Telling.{State, account, begun, closed, is_whole, next, nothing, kept_with_times}
use Rattle.ss_dump.specs.Telling.{state_of_lines}
use Rattle.ss_dump.specs.Telling.{told_from, whole}
use Rattle.ss_dump.proofs.ByLines.{closed_next, whole_next}
use Rattle.ss_dump.proofs.Complete.{account_told, is_ordered, told_account}
use Rattle.ss_dump.proofs.Digests.{digest_form}
use Rattle.ss_dump.proofs.Exact.{all_append}
use Rattle.ss_dump.proofs.Told.{AreOrdered, all_back, all_front, lines_of, ordered_is, text_append, text_more, to_whole}
use Rattle.ss_dump.proofs.Told.{told_lines}

-- ---- the lines of a dump

abbrev tail : Kept → List Line
tail kept = Digest (digest_of (body_text kept)) ∷ End ∷ []

-- they tell what is kept, with its digest, to the end
pub dump_told : (kept : Kept) → IsFormedInOrder kept → state_of_lines (dump_lines kept) ≡ Some (whole kept (digest_of (body_text kept)))
dump_told kept h =
    ap (λ k. state_of_lines (account_lines k ++ Digest (digest_of (body_text kept)) ∷ End ∷ [])) h.ordered ∙ told_account kept (digest_of (body_text kept)) (is_ordered kept h.ordered)

pub dump_formed : (kept : Kept) → IsFormedInOrder kept → AllByRecursion IsLine (dump_lines kept)
dump_formed kept h =
    all_append (account_lines (in_order kept)) (Digest (digest_of (body_text kept)) ∷ End ∷ [])
    (subst (λ k. AllByRecursion IsLine (account_lines k)) (sym h.ordered) h.formed) (digest_form (body_text kept), (tt, tt))

pub dump_text_is : (kept : Kept) → text_of (dump_lines kept) ≡ dump_text kept
unfolding dump_text body_text
dump_text_is kept =
    let digest : List ℕ = digest_of (text_of (account_lines (in_order kept))) in
    text_append (account_lines (in_order kept)) (Digest digest ∷ End ∷ [])
    ∙ ap (λ t. text_of (account_lines (in_order kept)) ++ (line_text (Digest digest) ++ t)) (append-nil (line_text End))

-- ---- what may follow what was told

told_split : (state : State) (xs ys : List Line) (m s : State) → told_from state xs ≡ Some m → told_from state (xs ++ ys) ≡ Some s → told_from m ys ≡ Some s
told_split state [] ys m s e h = ap (λ t. told_from t ys) (sym (some_same e)) ∙ h
told_split state (x ∷ xs) ys m s e h =
    let r = and_then_some (λ t. told_from t xs) (next state x) m e in
    let q = and_then_some (λ t. told_from t (xs ++ ys)) (next state x) s h in
    let same : r.0 ≡ q.0 = some_same (sym r.1 ∙ q.1) in
    told_split r.0 xs ys m s r.2 (ap (λ t. told_from t (xs ++ ys)) same ∙ q.2)

-- what a dump's next line makes of what is told, and that the lines behind it tell the rest
pub record MayCome (state : State) (l : Line) (behind : List Line) (kept : Kept) : Type 0 where
  pub formed : IsLine l
  pub then : State
  pub next : next state l ≡ Some then
  pub rest : told_from then behind ≡ Some (whole kept (digest_of (body_text kept)))

pub may_come : (lines : List Line) (l : Line) (state : State) → state_of_lines lines ≡ Some state → (g : GoesOn lines l) → MayCome state l g.behind g.kept
unfolding state_of_lines
may_come lines l state e g =
    let all : told_from nothing (lines ++ l ∷ g.behind) ≡ Some (whole g.kept (digest_of (body_text g.kept))) = ap (told_from nothing) (sym g.lines_are) ∙ dump_told g.kept g.told in
    let r = and_then_some (λ s. told_from s g.behind) (next state l) (whole g.kept (digest_of (body_text g.kept))) (told_split nothing lines (l ∷ g.behind) state _ e all) in
    let formed = all_back lines (l ∷ g.behind) (subst (AllByRecursion IsLine) g.lines_are (dump_formed g.kept g.told)) in
    record { formed = formed.0; then = r.0; next = r.1; rest = r.2 }

-- nothing follows a dump
pub whole_goes_on : (kept : Kept) (l : Line) → IsFormedInOrder kept → GoesOn (dump_lines kept) l → ⊥
whole_goes_on kept l h g =
    let m = may_come (dump_lines kept) l (whole kept (digest_of (body_text kept))) (dump_told kept h) g in
    whole_next kept (digest_of (body_text kept)) l m.then m.next

same_whole : (k m : Kept) (d e : List ℕ) → whole k d ≡ whole m e → (k ≡ m) × (d ≡ e)
same_whole k m d e h = (cc, cc)

-- lines are of one dump
pub one_dump_lines : (kept other : Kept) → IsFormedInOrder kept → IsFormedInOrder other → dump_lines kept ≡ dump_lines other → kept ≡ other
one_dump_lines kept other h g e =
    (same_whole kept other (digest_of (body_text kept)) (digest_of (body_text other))
    (some_same (sym (dump_told kept h) ∙ (ap state_of_lines e ∙ dump_told other g)))).0

whole_to : (k m : Kept) (d e : List ℕ) (ls : List Line) → told_from (whole k d) ls ≡ Some (whole m e) → (k ≡ m) × (d ≡ e)
whole_to k m d e [] h = same_whole k m d e (some_same h)
whole_to k m d e (l ∷ ls) h = let r = and_then_some (λ s. told_from s ls) (next (whole k d) l) (whole m e) h in absurd (whole_next k d l r.0 r.1)

closed_to : (k m : Kept) (d e : List ℕ) (ls : List Line) → told_from (closed k d) ls ≡ Some (whole m e) → (k ≡ m) × (d ≡ e)
closed_to k m d e [] h = let never : closed k d ≡ whole m e = some_same h in cc
closed_to k m d e (l ∷ ls) h =
    let r = and_then_some (λ s. told_from s ls) (next (closed k d) l) (whole m e) h in
    let n = closed_next k d l r.0 r.1 in
    whole_to k m d e ls (ap (λ s. told_from s ls) (sym n.0) ∙ r.2)

-- a digest that a dump goes on with is the one of the lines before it
digest_right : (kept : Kept) (d : List ℕ) → state_of_lines (account_lines kept) ≡ Some (account kept) → GoesOn (account_lines kept) (Digest d) → d ≡ digest_of (body_text kept)
unfolding next
digest_right kept d e g =
    let m = may_come (account_lines kept) (Digest d) (account kept) e g in
    let is : closed kept d ≡ m.then = some_same m.next in
    let r = closed_to kept g.kept d (digest_of (body_text g.kept)) g.behind (ap (λ s. told_from s g.behind) is ∙ m.rest) in
    r.1 ∙ ap (λ k. digest_of (body_text k)) (sym r.0)

-- ---- what was told goes on

abbrev IsRight : State → Type 0
IsRight nothing = Unit {0}
IsRight begun = Unit {0}
IsRight (account kept) = Unit {0}
IsRight (closed kept digest) = digest ≡ digest_of (body_text kept)
IsRight (whole kept digest) = Unit {0}

pub fresh_told : IsFormedInOrder (kept_with_times 0 0 0)
unfolding account_lines
fresh_told = record { formed = (tt, ((omega arith, omega arith, omega arith), tt)); ordered = refl }

begins : GoesOn [] Account
unfolding account_lines
begins = record { kept = kept_with_times 0 0 0; behind = Times 0 0 0 ∷ tail (kept_with_times 0 0 0); told = fresh_told; lines_are = refl }

goes_begun : GoesOn (Account ∷ []) (Times 0 0 0)
unfolding account_lines
goes_begun = record { kept = kept_with_times 0 0 0; behind = tail (kept_with_times 0 0 0); told = fresh_told; lines_are = refl }

goes_account : (kept : Kept) → IsFormedInOrder kept → GoesOn (account_lines kept) (Digest (digest_of (body_text kept)))
goes_account kept h = record {
  kept = kept;
  behind = End ∷ [];
  told = h;
  lines_are = ap (λ k. account_lines k ++ Digest (digest_of (body_text kept)) ∷ End ∷ []) h.ordered;
}

goes_closed : (kept : Kept) (d : List ℕ) → IsFormedInOrder kept → d ≡ digest_of (body_text kept) → GoesOn (account_lines kept ++ Digest d ∷ []) End
goes_closed kept d h e = record {
  kept = kept;
  behind = [];
  told = h;
  lines_are = ap (λ k. account_lines k ++ Digest (digest_of (body_text kept)) ∷ End ∷ []) h.ordered
      ∙ (ap (λ x. account_lines kept ++ Digest x ∷ End ∷ []) (sym e) ∙ sym (append_assoc (account_lines kept) (Digest d ∷ []) (End ∷ [])));
}

state_goes : (state : State) → AllByRecursion IsLine (lines_of state) → AreOrdered state → is_whole state ≡ false → IsRight state → (l : Line) × GoesOn (lines_of state) l
state_goes nothing f o w r = (Account, begins)
state_goes begun f o w r = (Times 0 0 0, goes_begun)
state_goes (account kept) f o w r = (Digest (digest_of (body_text kept)), goes_account kept (record { formed = f; ordered = ordered_is kept o }))
state_goes (closed kept d) f o w r = (End, goes_closed kept d (record { formed = all_front (account_lines kept) (Digest d ∷ []) f; ordered = ordered_is kept o }) r)
state_goes (whole kept d) f o w r = absurd (false≢true (sym w))

told_goes : (lines : List Line) (state : State) → AllByRecursion IsLine lines → state_of_lines lines ≡ Some state → is_whole state ≡ false → IsRight state → (l : Line) × GoesOn lines l
told_goes lines state f e w r =
    let t = told_lines lines state e in
    let g = state_goes state (subst (AllByRecursion IsLine) t.0 f) t.1 w r in
    (g.0, subst (λ ls. GoesOn ls g.0) (sym t.0) g.1)

-- ---- where a text doesn't begin with a dump

bad_of_stop : (text : List ℕ) (state : State) (n : ℕ) → IsStop text state n → is_whole state ≡ false → IsRight state → IsBadFront text n
bad_of_stop text state n h w r =
    let g = told_goes h.lines state h.are h.tell w r in
    record {
      lines = h.lines;
      rest = h.rest;
      awaited = g.0;
      going = g.1;
      text_is = h.text_is;
      none = λ l back on is. let m = may_come h.lines l state h.tell on in h.none l back m.then m.formed m.next is;
      number = h.number;
    }

right_before : (state : State) → is_closed state ≡ false → IsRight state
right_before nothing e = tt
right_before begun e = tt
right_before (account kept) e = tt
right_before (closed kept d) e = absurd (false≢true (sym e))
right_before (whole kept d) e = tt

pub fault_before : (text : List ℕ) (fault : LineFault) → IsStopBefore text fault → IsFrontFault text fault
fault_before text (BadLine n) h = bad_of_stop text h.0 n h.1 h.3 (right_before h.0 h.2)
fault_before text Memory h = tt

-- ---- the digest

-- the digest of the lines that were read
found_is : (text : List ℕ) (kept : Kept) (d found : List ℕ) (used body count : ℕ) → IsReadTo text (closed kept d) used body count → found ≡ digest_of (take body text) → found ≡ digest_of (body_text kept)
unfolding body_text
found_is text kept d found used body count h f =
    let t = told_lines h.lines (closed kept d) h.tell in
    f ∙ (ap digest_of (h.body_is.1) ∙ ap (λ k. digest_of (text_of (account_lines k))) (sym (ordered_is kept t.1)))

right_states : (text : List ℕ) (state : State) (found : List ℕ) (used body count : ℕ) → IsReadTo text state used body count → found ≡ digest_of (take body text) → states state found ≡ true → IsRight state
right_states text nothing found used body count h f e = tt
right_states text begun found used body count h f e = tt
right_states text (account kept) found used body count h f e = tt
right_states text (closed kept d) found used body count h f e = same_text d found e ∙ found_is text kept d found used body count h f
right_states text (whole kept d) found used body count h f e = tt

closed_going : (state : State) → is_closed state ≡ true → is_whole state ≡ false
closed_going nothing e = refl
closed_going begun e = refl
closed_going (account kept) e = refl
closed_going (closed kept d) e = refl
closed_going (whole kept d) e = absurd (false≢true e)

pub fault_at_end : (text : List ℕ) (state : State) (found : List ℕ) (used body count : ℕ) (fault : LineFault) → IsReadTo text state used body count → is_closed state ≡ true
    → found ≡ digest_of (take body text) → states state found ≡ true → IsStopOf text state fault → IsFrontFault text fault
fault_at_end text state found used body count (BadLine n) h c f e s = bad_of_stop text state n s (closed_going state c) (right_states text state found used body count h f e)
fault_at_end text state found used body count Memory h c f e s = tt

-- the lines of an account tell it
lines_told : (kept : Kept) → IsFormedInOrder kept → state_of_lines (account_lines kept) ≡ Some (account kept)
lines_told kept h = ap state_of_lines (sym (append-nil (account_lines kept))) ∙ account_told kept [] (is_ordered kept h.ordered)

wrong_digest : (text : List ℕ) (kept : Kept) (d found : List ℕ) (used body count : ℕ) → IsReadTo text (closed kept d) used body count → found ≡ digest_of (take body text) → bytes_eq d found ≡ false
    → IsBadFront text count
wrong_digest text kept d found used body count h f e =
    let t = told_lines h.lines (closed kept d) h.tell in
    let formed = subst (AllByRecursion IsLine) t.0 h.are in
    let is : IsFormedInOrder kept = record { formed = all_front (account_lines kept) (Digest d ∷ []) formed; ordered = ordered_is kept t.1 } in
    let digest_formed = (all_back (account_lines kept) (Digest d ∷ []) formed).0 in
    let front : take used text ≡ text_of (account_lines kept) ++ line_text (Digest d) = h.text_is ∙ (ap text_of t.0 ∙ text_more (account_lines kept) (Digest d)) in
    record {
      lines = account_lines kept;
      rest = line_text (Digest d) ++ drop used text;
      awaited = Digest (digest_of (body_text kept));
      going = goes_account kept is;
      text_is = sym (take-append-drop used text) ∙ (ap (λ x. x ++ drop used text) front ∙ append_assoc (text_of (account_lines kept)) (line_text (Digest d)) (drop used text));
      none = λ l back on at.
          let m = may_come (account_lines kept) l (account kept) (lines_told kept is) on in
          let same = told_apart l (Digest d) back (drop used text) m.formed digest_formed at in
          let right = digest_right kept d (lines_told kept is) (subst (GoesOn (account_lines kept)) same.0 on) in
          no_way (bytes_eq d found) (bytes_eq-same d found (right ∙ sym (found_is text kept d found used body count h f))) e;
      number = h.counted ∙ (ap length t.0 ∙ length-append (account_lines kept) (Digest d ∷ []));
    }

pub wrong_states : (text : List ℕ) (state : State) (found : List ℕ) (used body count : ℕ) → IsReadTo text state used body count → is_closed state ≡ true → found ≡ digest_of (take body text)
    → states state found ≡ false → IsBadFront text count
wrong_states text nothing found used body count h c f e = absurd (false≢true c)
wrong_states text begun found used body count h c f e = absurd (false≢true c)
wrong_states text (account kept) found used body count h c f e = absurd (false≢true c)
wrong_states text (closed kept d) found used body count h c f e = wrong_digest text kept d found used body count h f e
wrong_states text (whole kept d) found used body count h c f e = absurd (false≢true c)

-- ---- a dump at the front

-- so many bytes are inside the text
pub body_inside : (text : List ℕ) (state : State) (used body count : ℕ) → IsReadTo text state used body count → is_closed state ≡ true → body ≤ length text
body_inside text nothing used body count h c = absurd (false≢true c)
body_inside text begun used body count h c = absurd (false≢true c)
body_inside text (account kept) used body count h c = absurd (false≢true c)
body_inside text (closed kept d) used body count h c = h.body_is.0
body_inside text (whole kept d) used body count h c = absurd (false≢true c)

front_whole : (text : List ℕ) (kept : Kept) (d : List ℕ) (used body count : ℕ) → IsReadTo text (whole kept d) used body count → d ≡ digest_of (body_text kept) → IsDumpFront text kept used count
front_whole text kept d used body count h e =
    let t = told_lines h.lines (whole kept d) h.tell in
    let formed = subst (AllByRecursion IsLine) t.0 h.are in
    let ordered = ordered_is kept t.1 in
    let is : h.lines ≡ dump_lines kept = t.0 ∙ (ap (λ x. account_lines kept ++ Digest x ∷ End ∷ []) e ∙ ap (λ k. account_lines k ++ Digest (digest_of (body_text kept)) ∷ End ∷ []) (sym ordered)) in
    record {
      told = record { formed = all_front (account_lines kept) (Digest d ∷ End ∷ []) formed; ordered = ordered };
      inside = h.inside;
      text_is = h.text_is ∙ (ap text_of is ∙ dump_text_is kept);
      counted = h.counted ∙ ap length is;
    }

front_from : (text : List ℕ) (state s : State) (found : List ℕ) (kept : Kept) (d : List ℕ) (used body count used2 body2 count2 : ℕ) → IsReadTo text state used body count
    → found ≡ digest_of (take body text) → states state found ≡ true → Comes state s → IsReadTo text s used2 body2 count2 → s ≡ whole kept d → state ≡ closed kept d → IsDumpFront text kept used2 count2
front_from text state s found kept d used body count used2 body2 count2 h f e n g w c =
    let before : IsReadTo text (closed kept d) used body count = subst (λ t. IsReadTo text t used body count) c h in
    let right = right_states text (closed kept d) found used body count before f (ap (λ t. states t found) (sym c) ∙ e) in
    front_whole text kept d used2 body2 count2 (subst (λ t. IsReadTo text t used2 body2 count2) w g) right

pub front_is : (text : List ℕ) (state s : State) (found : List ℕ) (kept : Kept) (d : List ℕ) (used body count used2 body2 count2 : ℕ) → IsReadTo text state used body count
    → found ≡ digest_of (take body text) → states state found ≡ true → Comes state s → IsReadTo text s used2 body2 count2 → s ≡ whole kept d → IsDumpFront text kept used2 count2
front_is text state s found kept d used body count used2 body2 count2 h f e n g w =
    front_from text state s found kept d used body count used2 body2 count2 h f e n g w (to_whole state n.0 kept d (n.1 ∙ ap Some w)).0

-- ---- how many lines there are

lines_few : (ls : List Line) → length ls ≤ length (text_of ls)
lines_few [] = omega arith
lines_few (l ∷ ls) =
    let some : 0 < length (line_text l) = some_length (line_text l) (some_text l) in
    let rest = lines_few ls in
    let n : length (line_text l ++ text_of ls) ≡ length (line_text l) + length (text_of ls) = length-append (line_text l) (text_of ls) in
    omega arith
  where
    some_length : (xs : List ℕ) → (xs ≡ [] → ⊥) → 0 < length xs
    some_length [] h = absurd (h refl)
    some_length (x ∷ xs) h = omega arith

-- a dump has no more lines than bytes, and the number of a bad line is at most one more than the text's bytes
pub front_few : (text : List ℕ) (kept : Kept) (used lines : ℕ) → IsDumpFront text kept used lines → lines ≤ used
front_few text kept used lines h =
    let n : length (take used text) ≡ length (text_of (dump_lines kept)) = ap length (h.text_is ∙ sym (dump_text_is kept)) in
    let m : length (take used text) ≡ used = length-take-le used text h.inside in
    let few = lines_few (dump_lines kept) in
    let c : lines ≡ length (dump_lines kept) = h.counted in
    omega arith

pub bad_few : (text : List ℕ) (n : ℕ) → IsBadFront text n → n ≤ length text + 1
bad_few text n h =
    let few = lines_few h.lines in
    let t : length text ≡ length (text_of h.lines) + length h.rest = ap length h.text_is ∙ length-append (text_of h.lines) h.rest in
    let c : n ≡ length h.lines + 1 = h.number in
    omega arith
