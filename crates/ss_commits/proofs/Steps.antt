-- Reading line by line what lines tell.
use Rattle.std.proofs.Common.{◌≡◌, ◌≢◌, ℕ, ◌+◌, ◌<◌, ◌≤◌, List, [], ◌∷◌, ◌++◌, length, drop, Option, Some, None}
use Rattle.std.proofs.Common.{option_map, refl, sym, ap, ◌∙◌, subst, arith, length-drop}
use Rattle.std.specs.List.{AllByRecursion}
use Rattle.std.specs.Option.{IfSome}
use Rattle.std.proofs.Math.Seq.{drop-append_seam}
use Rattle.std.proofs.lemmas.List.{drop-drop}
use Rattle.ss_text.proofs.Basics.{and_then_some, none_some, some_same}
use Rattle.ss_bso.specs.declared.changes.Changes.{Changes}
use Rattle.ss_commits.specs.declared.cutting.Front.{Front}
use Rattle.ss_commits.specs.declared.notes.Note.{Note}
use Rattle.ss_commits.specs.Commits.{HasFormedValues, IsNote, changes_notes, changes_text, note_text, text_of}
use Rattle.ss_commits.specs.Telling.{Tells, nothing, told_by, told_from}
use Rattle.ss_commits.proofs.Fronts.{some_note}
use Rattle.ss_commits.proofs.Told.{told_changes}

-- the text of a commit tells its changes
pub tells : (text : List ℕ) (c : Changes) → HasFormedValues c → changes_text c ≡ text → Tells text nothing c
unfolding changes_text
tells text c are is = record { notes = changes_notes c; are = are; text_is = is; tell = told_changes c }

-- the first line of a text that isn't over, and what the others tell behind it
pub record Comes (text : List ℕ) (told c : Changes) : Type 0 where
  pub note : Note
  pub back : List ℕ
  pub is : IsNote note
  pub text_is : note_text note ++ back ≡ text
  pub more : Changes
  pub made : told_by told note ≡ Some more
  pub tell : Tells back more c

pub comes : (text : List ℕ) (told c : Changes) → Tells text told c → text ≢ [] → Comes text told c
comes text told c t some = go t.notes t.are t.text_is t.tell
  where
    go : (ns : List Note) → AllByRecursion IsNote ns → text_of ns ≡ text → told_from told ns ≡ Some c → Comes text told c
    go [] are is tell = absurd (some (sym is))
    go (n ∷ ns) are is tell =
        let r = and_then_some (λ m. told_from m ns) (told_by told n) c tell in
        record {
          note = n;
          back = text_of ns;
          is = are.0;
          text_is = is;
          more = r.0;
          made = r.1;
          tell = record { notes = ns; are = are.1; text_is = refl; tell = r.2 };
        }

-- where a text is over all is told
pub over : (told c : Changes) → Tells [] told c → told ≡ c
over told c t = go t.notes t.text_is t.tell
  where
    nothing_front : (xs ys : List ℕ) → xs ++ ys ≡ [] → xs ≡ []
    nothing_front [] ys h = refl
    nothing_front (x ∷ xs) ys h = cc

    go : (ns : List Note) → text_of ns ≡ [] → told_from told ns ≡ Some c → told ≡ c
    go [] is tell = some_same tell
    go (n ∷ ns) is tell = absurd (some_note n (nothing_front (note_text n) (text_of ns) is))

-- ---- the loop over lines

some_left : (text : List ℕ) (used : ℕ) → used < length text → drop used text ≢ []
some_left text used lt is =
    let z : length (drop used text) ≡ 0 = ap length is in
    let d = length-drop used text in
    omega arith

-- what is found at the front of a text
abbrev pub IsFound : List ℕ → Option Front → Type 0
IsFound rest o = (n : Note) (back : List ℕ) → IsNote n → note_text n ++ back ≡ rest → o ≡ Some (record { note = n; used = length (note_text n) })

-- the loop as it begins
pub begun : (text : List ℕ) (told : Changes) → told ≡ nothing → (c : Changes) → Tells text nothing c → Tells text told c
begun text told e c t = subst (λ x. Tells text x c) (sym e) t

-- where a text goes on a line is found
pub none_found : (text : List ℕ) (used : ℕ) (told : Changes) (o : Option Front) → used < length text → IsFound (drop used text) o → ((f : Front) → o ≡ Some f → ⊥) → (c : Changes) → Tells (drop used text) told c → ⊥
none_found text used told o lt found none c t =
    let k = comes (drop used text) told c t (some_left text used lt) in
    none (record { note = k.note; used = length (note_text k.note) }) (found k.note k.back k.is k.text_is)

pub none_mapped : {X Y : Type 0} (f : X → Y) (o : Option X) → ((x : X) → o ≡ Some x → ⊥) → option_map f o ≡ None
none_mapped f None h = refl
none_mapped f (Some x) h = absurd (h x refl)

-- how far the loop comes
pub inside : (text : List ℕ) (used more : ℕ) → used < length text → more ≤ length (drop used text) → used + more ≤ length text
inside text used more lt le =
    let d = length-drop used text in
    omega arith

-- and it is one of a commit
pub none_more : (text : List ℕ) (used : ℕ) (told : Changes) (o : Option Front) (f : Front) → used < length text → IsFound (drop used text) o → o ≡ Some f → told_by told f.note ≡ None → (c : Changes) → Tells (drop used text) told c → ⊥
none_more text used told o f lt found is none c t =
    let k = comes (drop used text) told c t (some_left text used lt) in
    let same : f ≡ record { note = k.note; used = length (note_text k.note) } = some_same (sym is ∙ found k.note k.back k.is k.text_is) in
    none_some (sym none ∙ (ap (λ g. told_by told g.note) same ∙ k.made))

-- behind it the others tell the rest
pub stepped : (text : List ℕ) (used : ℕ) (told more : Changes) (o : Option Front) (f : Front) → used < length text → IsFound (drop used text) o → o ≡ Some f → told_by told f.note ≡ Some more
    → (c : Changes) → Tells (drop used text) told c → Tells (drop (used + f.used) text) more c
stepped text used told more o f lt found is made c t =
    let k = comes (drop used text) told c t (some_left text used lt) in
    let same : f ≡ record { note = k.note; used = length (note_text k.note) } = some_same (sym is ∙ found k.note k.back k.is k.text_is) in
    let told_same : more ≡ k.more = some_same (sym made ∙ (ap (λ g. told_by told g.note) same ∙ k.made)) in
    let text_same : drop (used + f.used) text ≡ k.back =
    ap (λ g. drop (used + g.used) text) same
    ∙ (sym (drop-drop (length (note_text k.note)) used text) ∙ (ap (drop (length (note_text k.note))) (sym k.text_is) ∙ drop-append_seam (note_text k.note) k.back)) in
    subst (λ x. Tells x more c) (sym text_same) (subst (λ m. Tells k.back m c) (sym told_same) k.tell)

pub present : {X : Type 0} (P : X → Type 0) (o : Option X) (x : X) → o ≡ Some x → IfSome o P → P x
present P o x e h = let there : IfSome (Some x) P = subst (λ z. IfSome z P) e h in there
