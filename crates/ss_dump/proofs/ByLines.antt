-- Reading a text line by line.
use Rattle.std.proofs.Common.{◌≡◌, ℕ, ◌+◌, ◌-◌, ◌<◌, ◌≤◌, true, false, cond, List, [], ◌∷◌, ◌++◌, length, take, drop}
use Rattle.std.proofs.Common.{Some, None, refl, sym, ap, ap₂, ◌∙◌, subst, arith, length-append, length-drop}
use Rattle.std.proofs.lemmas.Bool.{false≢true, true≢false}
use Rattle.std.proofs.lemmas.List.{take_all, take-append-drop}
use Rattle.std.proofs.Math.Seq.{take-add}
use Rattle.ss_text.proofs.Basics.{none_some, some_same}
use Rattle.ss_bso.specs.declared.changes.Kept.{Kept}
use Rattle.ss_lines.specs.Lines.{IsFront, NoneBegins, line_text}
use Rattle.ss_lines.specs.declared.lines.Line.{Line}
use Rattle.ss_lines.specs.declared.lines.Line.TheVariants.{Account, Times, Collection, Row as RowLine, Batch}
use Rattle.ss_lines.specs.declared.lines.Line.TheVariants.{Part as PartLine, Digest, End}
use Rattle.ss_lines.proofs.Fronts.{told_apart}
use Rattle.ss_dump.specs.Dumps.{text_of}
use Rattle.ss_dump.specs.declared.faults.LineFault.{LineFault}
use Rattle.ss_dump.specs.declared.faults.LineFault.TheVariants.{BadLine, Memory}
use Rattle.ss_dump.specs.Stages.{HasBody, IsLineFault, IsReadTo, IsStop, IsStopBefore, IsStopOf, is_closed}
use Rattle.ss_dump.specs.Stages.{is_digest_line}
use Rattle.ss_dump.specs.Telling.{IsBadLine, IsToldWith, NoneComes, State, account, begun, closed, is_whole, next}
use Rattle.ss_dump.specs.Telling.{nothing, state_of_lines, whole}
use Rattle.ss_dump.proofs.Told.{all_more, lines_of, text_more, to_closed, to_whole, told_lines, told_more}

pub start : (text : List ℕ) → IsReadTo text nothing 0 0 0
unfolding state_of_lines
start text = record { lines = []; are = tt; tell = refl; inside = omega arith; text_is = refl; counted = refl; few = omega arith; body_is = tt }

-- where a digest comes, so many bytes are the account's lines
body_more : (text : List ℕ) (st s : State) (l : Line) (used body : ℕ) → next st l ≡ Some s → HasBody text body st → used ≤ length text → take used text ≡ text_of (lines_of st)
    → HasBody text (cond (is_digest_line l) used body) s
body_more text st nothing l used body e h i t = tt
body_more text st begun l used body e h i t = tt
body_more text st (account k) l used body e h i t = tt
body_more text st (closed k x) l used body e h i t =
    let r = to_closed st l k x e in
    subst (λ m. HasBody text (cond (is_digest_line m) used body) (closed k x)) (sym r.1) (i, t ∙ ap (λ z. text_of (lines_of z)) r.0)
body_more text st (whole k x) l used body e h i t =
    let r = to_whole st l k x e in
    subst (λ m. HasBody text (cond (is_digest_line m) used body) (whole k x)) (sym r.1) (subst (HasBody text body) r.0 h)

pub read_more : (text : List ℕ) (st s : State) (used body count : ℕ) (l : Line) (k : ℕ) → IsReadTo text st used body count → IsFront (drop used text) l k → next st l ≡ Some s
    → IsReadTo text s (used + k) (cond (is_digest_line l) used body) (count + 1)
unfolding state_of_lines
read_more text st s used body count l k h f e = record {
  lines = h.lines ++ l ∷ [];
  are = all_more h.lines l h.are f.line;
  tell = told_more nothing h.lines l st s h.tell e;
  inside = let d : length (drop used text) ≡ length text - used = length-drop used text in let i : k ≤ length (drop used text) = f.inside in let u : used ≤ length text = h.inside in omega arith;
  text_is = take-add used k text ∙ (ap₂ (λ a b. a ++ b) h.text_is f.text_is ∙ sym (text_more h.lines l));
  counted = ap (λ n. n + 1) h.counted ∙ sym (length-append h.lines (l ∷ []));
  few = let c : count ≤ used = h.few in let m : 0 < k = f.some in omega arith;
  body_is = body_more text st s l used body e h.body_is h.inside (h.text_is ∙ ap text_of (told_lines h.lines st h.tell).0);
}

pub nearer : (text : List ℕ) (used k : ℕ) (l : Line) → IsFront (drop used text) l k → used < used + k
nearer text used k l f = let m : 0 < k = f.some in omega arith

-- ---- what a line makes of what is told

pub closed_next : (kept : Kept) (x : List ℕ) (l : Line) (s : State) → next (closed kept x) l ≡ Some s → (s ≡ whole kept x) × (l ≡ End)
unfolding next
closed_next kept x Account s e = cc
closed_next kept x (Times a b n) s e = cc
closed_next kept x (Collection name time) s e = cc
closed_next kept x (RowLine row) s e = cc
closed_next kept x (Batch n name time) s e = cc
closed_next kept x (PartLine part) s e = cc
closed_next kept x (Digest d) s e = cc
closed_next kept x End s e = (sym (some_same e), refl)

pub whole_next : (kept : Kept) (x : List ℕ) (l : Line) (s : State) → next (whole kept x) l ≡ Some s → ⊥
unfolding next
whole_next kept x l s e = none_some e

not_whole : (s : State) → ((k : Kept) (x : List ℕ) → s ≡ whole k x → ⊥) → is_whole s ≡ false
not_whole nothing h = refl
not_whole begun h = refl
not_whole (account k) h = refl
not_whole (closed k x) h = refl
not_whole (whole k x) h = absurd (h k x refl)

-- the end is told exactly where the digest was
pub end_of : (st : State) (l : Line) (s : State) → next st l ≡ Some s → is_whole s ≡ is_closed st
end_of nothing l s e = not_whole s (λ k x q. let r : nothing ≡ closed k x = (to_whole nothing l k x (e ∙ ap Some q)).0 in cc)
end_of begun l s e = not_whole s (λ k x q. let r : begun ≡ closed k x = (to_whole begun l k x (e ∙ ap Some q)).0 in cc)
end_of (account a) l s e = not_whole s (λ k x q. let r : account a ≡ closed k x = (to_whole (account a) l k x (e ∙ ap Some q)).0 in cc)
end_of (closed a d) l s e = ap is_whole (closed_next a d l s e).0
end_of (whole a d) l s e = absurd (whole_next a d l s e)

-- ---- lines that may not come next

stop_next : (text : List ℕ) (st : State) (used body count : ℕ) → IsReadTo text st used body count → NoneComes st (drop used text) → IsStop text st (count + 1)
stop_next text st used body count h none = record {
  lines = h.lines;
  rest = drop used text;
  are = h.are;
  tell = h.tell;
  text_is = sym (ap (λ t. t ++ drop used text) (sym h.text_is) ∙ take-append-drop used text);
  none = none;
  number = ap (λ n. n + 1) h.counted;
}

pub none_there : (text : List ℕ) (st : State) (used body count : ℕ) → IsReadTo text st used body count → NoneBegins (drop used text) → IsStop text st (count + 1)
none_there text st used body count h none = stop_next text st used body count h (λ l back s f e is. none l back f is)

pub none_next : (text : List ℕ) (st : State) (used body count : ℕ) (l : Line) (k : ℕ) → IsReadTo text st used body count → IsFront (drop used text) l k → None ≡ next st l → IsStop text st (count + 1)
none_next text st used body count l k h f none =
    let rest : List ℕ = drop used text in
    let split : line_text l ++ drop k rest ≡ rest = ap (λ t. t ++ drop k rest) (sym f.text_is) ∙ take-append-drop k rest in
    stop_next text st used body count h (λ m back s form e is.
    let same = told_apart m l back (drop k rest) form f.line (is ∙ sym split) in
    none_some (none ∙ (ap (next st) (sym same.0) ∙ e)))

pub bad_of_stop : (text : List ℕ) (st : State) (n : ℕ) → IsStop text st n → is_whole st ≡ false → IsBadLine text n
bad_of_stop text st n h going = record {
  lines = h.lines;
  state = st;
  rest = h.rest;
  are = h.are;
  tell = h.tell;
  text_is = h.text_is;
  none = h.none;
  over = λ e. absurd (true≢false (sym e ∙ going));
  number = h.number;
}

pub closed_going : (st : State) → is_closed st ≡ true → is_whole st ≡ false
closed_going nothing e = refl
closed_going begun e = refl
closed_going (account k) e = refl
closed_going (closed k x) e = refl
closed_going (whole k x) e = absurd (false≢true e)

-- where a line stops the reading, it is bad
pub fault_before : (text : List ℕ) (fault : LineFault) → IsStopBefore text fault → IsLineFault text fault
fault_before text (BadLine n) h = bad_of_stop text h.0 n h.1 h.3
fault_before text Memory h = tt

pub fault_at_end : (text : List ℕ) (st : State) (fault : LineFault) → is_closed st ≡ true → IsStopOf text st fault → IsLineFault text fault
fault_at_end text st (BadLine n) e h = bad_of_stop text st n h (closed_going st e)
fault_at_end text st Memory e h = tt

pub stops_before : (text : List ℕ) (st : State) (fault : LineFault) → is_closed st ≡ false → is_whole st ≡ false → IsStopOf text st fault → IsStopBefore text fault
stops_before text st (BadLine n) e g h = (st, h, e, g)
stops_before text st Memory e g h = tt

some_left : (text : List ℕ) (used : ℕ) → used < length text → drop used text ≡ [] → ⊥
some_left text used lt e = let d : length (drop used text) ≡ length text - used = length-drop used text in let z : length (drop used text) ≡ 0 = ap length e in omega arith

over_read : (text : List ℕ) (kept : Kept) (x : List ℕ) (used body count : ℕ) → IsReadTo text (whole kept x) used body count → used < length text → IsBadLine text (count + 1)
unfolding next
over_read text kept x used body count h lt = record {
  lines = h.lines;
  state = whole kept x;
  rest = drop used text;
  are = h.are;
  tell = h.tell;
  text_is = sym (ap (λ t. t ++ drop used text) (sym h.text_is) ∙ take-append-drop used text);
  none = λ l back s f e is. none_some e;
  over = λ e. some_left text used lt;
  number = ap (λ n. n + 1) h.counted;
}

pub more_behind : (text : List ℕ) (st : State) (used body count : ℕ) → IsReadTo text st used body count → is_whole st ≡ true → used < length text → IsBadLine text (count + 1)
more_behind text nothing used body count h e lt = absurd (false≢true e)
more_behind text begun used body count h e lt = absurd (false≢true e)
more_behind text (account k) used body count h e lt = absurd (false≢true e)
more_behind text (closed k x) used body count h e lt = absurd (false≢true e)
more_behind text (whole k x) used body count h e lt = over_read text k x used body count h lt

-- ---- the end

pub all_read : (text : List ℕ) (kept : Kept) (x : List ℕ) (used body count : ℕ) → IsReadTo text (whole kept x) used body count → length text ≤ used → IsToldWith text kept x
all_read text kept x used body count h le = record { lines = h.lines; are = h.are; tell = h.tell; text_is = sym (take_all used text le) ∙ h.text_is }
