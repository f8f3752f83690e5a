-- Entries that are put into a state one after the other.
use Rattle.std.proofs.Common.{◌≡◌, ℕ, ◌+◌, ◌<◌, ◌≤◌, List, [], ◌∷◌, ◌++◌, length, Bool, true, false, cond, Some, refl}
use Rattle.std.proofs.Common.{sym, ap, subst, ◌∙◌, arith, bytes_eq, append_assoc, append-nil, length-append, IfSome}
use Rattle.std.specs.Map.{lookup}
use Rattle.std.specs.Ordering.{nat_cmp}
use Rattle.ss_text.proofs.Basics.{bytes_eq-flip, same_text}
use Rattle.ss_bso.proofs.Lists.{Each, Each-and, Each-imp, Pairs}
use Rattle.ss_flat.specs.Joining.{HasRoom, Joins, OtherKey, greater, heard_among, later}
use Rattle.ss_flat.specs.States.{IdView, RoomedId, State, face_cmp, heard_in, heard_of, held_of, nothing as unheard}
use Rattle.ss_flat.specs.States.{time_of}
use Rattle.ss_flat.proofs.Joined.{greater-none}
use Rattle.ss_flat.proofs.Keeping.{joins_nothing}

joins_through : (one mid more both : IdView) → Joins one unheard mid → Joins mid more both → Joins one more both
joins_through one mid more both a b = record {
  gone = b.gone ∙ ap (λ g. later g more.gone) (a.gone ∙ sym (greater-none nat_cmp one.gone));
  face = b.face ∙ ap (λ f. greater face_cmp f more.face) (a.face ∙ sym (greater-none face_cmp one.face));
  visits = λ v. b.visits v ∙ ap (λ t. later t (time_of v more.visits)) (a.visits v ∙ sym (greater-none nat_cmp (time_of v one.visits)));
  once = λ h. b.once (a.once h);
  skipped = b.skipped ∙ ap (λ s. cond s true more.skipped) (a.skipped ∙ unskipped one.skipped);
}
  where
    unskipped : (s : Bool) → cond s true false ≡ s
    unskipped true = refl
    unskipped false = refl

behind : {X : Type 0} (R : X → X → Type 0) (xs : List X) (x : X) (ys : List X) → Pairs R (xs ++ x ∷ ys) → Each (R x) ys
behind R [] x ys o = o.0
behind R (z ∷ xs) x ys o = behind R xs x ys o.1

at_end : {X : Type 0} (P : X → Type 0) (xs : List X) (x : X) (ys : List X) → Each P (xs ++ x ∷ ys) → P x
at_end P [] x ys e = e.0
at_end P (z ∷ xs) x ys e = at_end P xs x ys e.1

in_front : {X : Type 0} (R : X → X → Type 0) (xs : List X) (x : X) (ys : List X) → Pairs R (xs ++ x ∷ ys) → Each (λ y. R y x) xs
in_front R [] x ys o = tt
in_front R (z ∷ xs) x ys o = (at_end (R z) xs x ys o.0, in_front R xs x ys o.1)

front_each : {X : Type 0} (P : X → Type 0) (xs ys : List X) → Each P (xs ++ ys) → Each P xs
front_each P [] ys e = tt
front_each P (x ∷ xs) ys e = (e.0, front_each P xs ys e.1)

absent : (k : List ℕ) (es : List (List ℕ × RoomedId)) → Each (λ e. bytes_eq k e.0 ≡ false) es → heard_among k es ≡ unheard
absent k [] e = refl
absent k (e ∷ es) h = ap (λ b. heard_in (cond b (Some e.1) (lookup (bytes_eq k) es))) h.0 ∙ absent k es h.1

-- so many entries are put, and these are to come
pub record PutFrom (all more : List (List ℕ × RoomedId)) (old now : State) : Type 0 where
  pub done : List (List ℕ × RoomedId)
  pub split : all ≡ more ++ done
  pub kind : now.kind ≡ old.kind
  pub joined : (id : List ℕ) → Joins (heard_of id old) (heard_among id done) (heard_of id now)
  pub room : Each (λ e. HasRoom e.0 (length e.1.heard.visits) now) more
  pub spare : length more ≤ now.spare

pub put_none : (all : List (List ℕ × RoomedId)) (old : State) → Each (λ e. HasRoom e.0 (length e.1.heard.visits) old) all → length all ≤ old.spare → PutFrom all all old old
put_none all old room spare = record {
  done = [];
  split = sym (append-nil all);
  kind = refl;
  joined = λ id. joins_nothing (heard_of id old);
  room = room;
  spare = spare;
}

module _ {all more : List (List ℕ × RoomedId)} {old now : State} (p : PutFrom all more old now) (apart : Pairs OtherKey all) (rest : List (List ℕ × RoomedId)) (e : List ℕ × RoomedId) (is : more ≡ rest ++ e ∷ []) where
  whole : all ≡ rest ++ e ∷ p.done
  whole = p.split ∙ ap (λ l. l ++ p.done) is ∙ append_assoc rest (e ∷ []) p.done

  whole_apart : Pairs OtherKey (rest ++ e ∷ p.done)
  whole_apart = subst (λ l. Pairs OtherKey l) whole apart

  pub put_spare : 0 < now.spare
  put_spare = omega (arith, p.spare, ap (λ (l : List (List ℕ × RoomedId)). length l) is, length-append rest (e ∷ []))

  pub put_room : HasRoom e.0 (length e.1.heard.visits) now
  put_room = at_end (λ (f : List ℕ × RoomedId). HasRoom f.0 (length f.1.heard.visits) now) rest e [] (subst (λ l. Each (λ (f : List ℕ × RoomedId). HasRoom f.0 (length f.1.heard.visits) now) l) is p.room)

  module _ (after : State) (kind : after.kind ≡ now.kind) (joins : Joins (heard_of e.0 now) e.1.heard (heard_of e.0 after))
      (others : (other : List ℕ) → bytes_eq e.0 other ≡ false → held_of other after ≡ held_of other now) (spare : now.spare ≤ after.spare + 1) where
    joined_more : (id : List ℕ) → Joins (heard_of id old) (heard_among id (e ∷ p.done)) (heard_of id after)
    joined_more id = by (bytes_eq id e.0) refl
      where
        by : (b : Bool) → bytes_eq id e.0 ≡ b → Joins (heard_of id old) (heard_in (cond b (Some e.1) (lookup (bytes_eq id) p.done))) (heard_of id after)
        by true same =
            subst (λ i. Joins (heard_of i old) e.1.heard (heard_of i after)) (sym (same_text id e.0 same))
            (joins_through (heard_of e.0 old) (heard_of e.0 now) e.1.heard (heard_of e.0 after)
            (subst (λ h. Joins (heard_of e.0 old) h (heard_of e.0 now)) (absent e.0 p.done (behind OtherKey rest e p.done whole_apart)) (p.joined e.0)) joins)
        by false other = subst (λ h. Joins (heard_of id old) (heard_among id p.done) (heard_in h)) (sym (others id (bytes_eq-flip id e.0 other))) (p.joined id)

    room_more : Each (λ (f : List ℕ × RoomedId). HasRoom f.0 (length f.1.heard.visits) after) rest
    room_more =
        Each-imp (λ (f : List ℕ × RoomedId). (OtherKey f e) × HasRoom f.0 (length f.1.heard.visits) now) (λ (f : List ℕ × RoomedId). HasRoom f.0 (length f.1.heard.visits) after)
        (λ f h. subst (λ o. IfSome o (λ (held : RoomedId). length f.1.heard.visits ≤ held.room)) (sym (others f.0 (bytes_eq-flip f.0 e.0 h.0))) h.1) rest
        (Each-and (λ (f : List ℕ × RoomedId). OtherKey f e) (λ (f : List ℕ × RoomedId). HasRoom f.0 (length f.1.heard.visits) now) rest (in_front OtherKey rest e p.done whole_apart)
        (front_each (λ (f : List ℕ × RoomedId). HasRoom f.0 (length f.1.heard.visits) now) rest (e ∷ []) (subst (λ l. Each (λ (f : List ℕ × RoomedId). HasRoom f.0 (length f.1.heard.visits) now) l) is p.room)))

    pub put_more : PutFrom all rest old after
    put_more = record {
      done = e ∷ p.done;
      split = whole;
      kind = kind ∙ p.kind;
      joined = joined_more;
      room = room_more;
      spare = omega (arith, p.spare, spare, ap (λ (l : List (List ℕ × RoomedId)). length l) is, length-append rest (e ∷ []));
    }

pub put_done : {all more : List (List ℕ × RoomedId)} {old now : State} → PutFrom all more old now → more ≡ [] → (id : List ℕ) → Joins (heard_of id old) (heard_among id all) (heard_of id now)
put_done {old = old} {now = now} p none id = subst (λ l. Joins (heard_of id old) (heard_among id l) (heard_of id now)) (sym (p.split ∙ ap (λ l. l ++ p.done) none)) (p.joined id)
