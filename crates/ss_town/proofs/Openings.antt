-- What is opened, and what comes back where it is not.
use Rattle.std.proofs.Common.{◌≡◌, ◌≢◌, ℕ, zero, suc, ◌+◌, ◌<◌, ◌≤◌, List, [], ◌∷◌, ◌++◌, length, length-append, get_or}
use Rattle.std.proofs.Common.{refl, ap, sym, ◌∙◌, subst, inl, inr, arith, Some, Option}
use mathlib.Core.Option.{some, some-injective, some-ne-none}
use mathlib.Core.Logic.{dite}
use native.Mathlib.Decide.{ℕ_discrete, dec_lt}
use lib.ListN.{get_elem?}
use Rattle.ss_desk.specs.declared.desk.Desk.{Desk}
use Rattle.ss_desk.specs.declared.pass.RawPass.{RawPass}
use Rattle.ss_desk.specs.declared.view.View.{View}
use Rattle.ss_desk.specs.Desks.{view, IsPassOf}
use Rattle.ss_desk.specs.Journal.{entries_of}
use Rattle.ss_desk.specs.Views.{opening_view, Bears, CoversAll}
use Rattle.ss_desk.specs.Calls.{IsValueAtClose}
use Rattle.ss_desk.proofs.Lists.{at_end, at_length, at_get}
use Rattle.ss_desk.specs.Passes.{AreOf, view_at}
use Rattle.ss_desk.proofs.Beside.{last_long, view_left, view_last, at_left, at_last, there_is, are_more}
use Rattle.ss_desk.proofs.Served.{unserved}
use Rattle.ss_town.specs.Places.{At, HandsBack}
use Rattle.ss_town.specs.Opening.{HasUid, AreDistinct, DistinctBelow, FaultSays, RefusedSays, MayOpen, IsOpenedTown}
use Rattle.ss_town.specs.Opening.{AreBare, AreReturnedAccounts}
use Rattle.ss_town.specs.declared.opening.TownFault.{TownFault}
use Rattle.ss_town.specs.declared.opening.TownFault.TheVariants.{Empty, TooMany, Twice, Zero, Memory}

module _ {T : Type 0} where
  pub pair_at : (l : List (ℕ × T)) (i : ℕ) (d : ℕ × T) → i < length l → HasUid l i (get_or l i d).0
  pair_at l i d h = ((get_or l i d).1, at_get l i d h)

  pub one_uid : (l : List (ℕ × T)) (i u v : ℕ) → HasUid l i u → HasUid l i v → u ≡ v
  one_uid l i u v a b = ap (λ (x : ℕ × T). x.0) (some-injective (u, a.0) (v, b.0) (sym a.1 ∙ b.1))

  uid_in : (l : List (ℕ × T)) (i u : ℕ) → HasUid l i u → i < length l
  uid_in l i u h = at_length l i (u, h.0) h.1

  pub all_distinct : (l : List (ℕ × T)) (n : ℕ) → n ≡ length l → DistinctBelow n l → AreDistinct l
  all_distinct l n is below i j u a b = dite (ℕ_discrete i j) (λ e. e) (λ ne. dite (dec_lt i j)
      (λ less. absurd (below i j u less (omega (arith, is, uid_in l j u b)) a b))
      (λ more. absurd (below j i u (omega (arith, ne)) (omega (arith, is, uid_in l i u a)) b a)))

  pub one_more_distinct : (l : List (ℕ × T)) (n uid : ℕ) → DistinctBelow n l → HasUid l n uid → ((i u : ℕ) → i < n → HasUid l i u → u ≢ uid) → DistinctBelow (n + 1) l
  one_more_distinct l n uid below here none i j u lt in_all a b = dite (ℕ_discrete j n)
      (λ e. none i u (omega arith) a (one_uid l n u uid (subst (λ k. HasUid l k u) e b) here))
      (λ ne. below i j u lt (omega (arith, ne)) a b)

  pub one_more_other : (l : List (ℕ × T)) (n uid v : ℕ) → HasUid l n v → v ≢ uid → ((i u : ℕ) → i < n → HasUid l i u → u ≢ uid) → (i u : ℕ) → i < n + 1 → HasUid l i u → u ≢ uid
  one_more_other l n uid v here ne none i u lt a e = dite (ℕ_discrete i n)
      (λ is. ne (one_uid l n v u here (subst (λ k. HasUid l k u) is a) ∙ e))
      (λ no. none i u (omega (arith, no)) a e)

  pub one_more_nonzero : (l : List (ℕ × T)) (n v : ℕ) → HasUid l n v → v ≢ 0 → ((i : ℕ) → i < n → HasUid l i 0 → ⊥) → (i : ℕ) → i < n + 1 → HasUid l i 0 → ⊥
  one_more_nonzero l n v here ne none i lt a = dite (ℕ_discrete i n)
      (λ is. ne (one_uid l n v 0 here (subst (λ k. HasUid l k 0) is a)))
      (λ no. none i (omega (arith, no)) a)

  pub none_at_all : (l : List (ℕ × T)) (n : ℕ) → length l ≤ n → ((i : ℕ) → i < n → HasUid l i 0 → ⊥) → (i : ℕ) → HasUid l i 0 → ⊥
  none_at_all l n le none i a = none i (omega (arith, uid_in l i 0 a)) a

  pub refused : (l : List (ℕ × T)) (f : TownFault) → RefusedSays l f → FaultSays l f
  refused l Empty h = h
  refused l (TooMany n) h = h
  refused l (Twice u) h = h
  refused l Zero h = h
  refused l Memory h = tt

module _ {T F E A R : Type 0} (fixed : T → F) where
  pub opened_more : (accounts : List (ℕ × T)) (uids : List ℕ) (ds : List (Desk T F E A R)) (ps : List (RawPass T F E)) (u : ℕ) (x : T) (d : Desk T F E A R) (p : RawPass T F E)
      → IsOpenedTown fixed accounts uids ds ps → IsPassOf d p → view p ≡ opening_view (fixed x) → IsOpenedTown fixed (accounts ++ (u, x) ∷ []) (uids ++ u ∷ []) (ds ++ d ∷ []) (ps ++ p ∷ [])
  opened_more accounts uids ds ps u x d p o here start =
      let long : length ps ≡ length accounts = o.of.0 ∙ o.count in record {
        of = are_more ds d ps p o.of here;
        count = last_long ds d ∙ (ap (λ n. n + 1) o.count ∙ sym (last_long accounts (u, x)));
        uids_count = last_long uids u ∙ (ap (λ n. n + 1) o.uids_count ∙ sym (last_long accounts (u, x)));
        uid = λ i v y at. elim (at_end accounts (u, x) (v, y) i at) [
          | inl old ↦ at_left uids (u ∷ []) i v (o.uid i v y old)
          | inr new ↦ ap (get_elem? (uids ++ u ∷ [])) (new.0 ∙ sym o.uids_count) ∙ (at_last uids u ∙ ap (λ (z : ℕ × T). some z.0) new.1)
        ];
        start = λ i v y at. elim (at_end accounts (u, x) (v, y) i at) [
          | inl old ↦ view_left ps (p ∷ []) i (let n : i < length accounts = at_length accounts i (v, y) old in omega (arith, long)) ∙ o.start i v y old
          | inr new ↦ ap (view_at (ps ++ p ∷ [])) (new.0 ∙ sym long) ∙ (view_last ps [] p ∙ (start ∙ ap (λ (z : ℕ × T). opening_view (fixed z.1)) new.1))
        ];
      }

  pub opened_covers : (accounts : List (ℕ × T)) (uids : List ℕ) (ds : List (Desk T F E A R)) (ps : List (RawPass T F E)) → IsOpenedTown fixed accounts uids ds ps → (i : ℕ) → i < length ds → CoversAll (view_at ps i)
  opened_covers accounts uids ds ps o i lt n low = let a = there_is accounts i (omega (arith, o.count)) in
      subst (λ (v : View F E). CoversAll v) (sym (o.start i a.0.0 a.0.1 a.1)) (λ m less. inl (omega arith, less)) n low

  uid_has : (accounts : List (ℕ × T)) (uids : List ℕ) (ds : List (Desk T F E A R)) (ps : List (RawPass T F E)) → IsOpenedTown fixed accounts uids ds ps → (k u : ℕ) → At uids k u → HasUid accounts k u
  uid_has accounts uids ds ps o k u at = let x = there_is accounts k (omega (arith, o.uids_count, at_length uids k u at)) in
      let e : x.0.0 ≡ u = some-injective x.0.0 u (sym (o.uid k x.0.0 x.0.1 x.1) ∙ at) in (x.0.1, x.1 ∙ ap (λ v. some (v, x.0.1)) e)

  pub opened_distinct : (accounts : List (ℕ × T)) (uids : List ℕ) (ds : List (Desk T F E A R)) (ps : List (RawPass T F E)) → IsOpenedTown fixed accounts uids ds ps → AreDistinct accounts → (i j u : ℕ) → At uids i u → At uids j u → i ≡ j
  opened_distinct accounts uids ds ps o far i j u a b = far i j u (uid_has accounts uids ds ps o i u a) (uid_has accounts uids ds ps o j u b)

module _ {T F E : Type 0} (fixed : T → F) (entries : T → List E) where
  pub returned_more : (accounts back : List (ℕ × T)) (u : ℕ) (x y : T) → AreReturnedAccounts fixed entries accounts back → fixed y ≡ fixed x → entries y ≡ [] → AreReturnedAccounts fixed entries (accounts ++ (u, x) ∷ []) (back ++ (u, y) ∷ [])
  returned_more accounts back u x y r same none = record {
    count = last_long back (u, y) ∙ (ap (λ n. n + 1) r.count ∙ sym (last_long accounts (u, x)));
    each = λ i v z at. elim (at_end accounts (u, x) (v, z) i at) [
      | inl old ↦ let k = r.each i v z old in (k.0, at_left back ((u, y) ∷ []) i (v, k.0) k.1, k.2, k.3)
      | inr new ↦ (y, ap (get_elem? (back ++ (u, y) ∷ [])) (new.0 ∙ sym r.count) ∙ (at_last back (u, y) ∙ ap (λ (w : ℕ × T). some (w.0, y)) new.1), same ∙ ap (λ (w : ℕ × T). fixed w.1) new.1, none)
    ];
  }

  pub returned_all : (accounts : List (ℕ × T)) → AreBare entries accounts → AreReturnedAccounts fixed entries accounts accounts
  returned_all accounts bare = record { count = refl; each = λ i u x at. (x, at, refl, bare i u x at) }

  pub bare_but : (accounts : List (ℕ × T)) (u : ℕ) (x : T) → AreBare entries (accounts ++ (u, x) ∷ []) → AreBare entries accounts × (entries x ≡ [])
  bare_but accounts u x bare = (λ i v y at. bare i v y (at_left accounts ((u, x) ∷ []) i (v, y) at), bare (length accounts) u x (at_last accounts (u, x)))

  module _ (ticket_of pass_of : E → ℕ) (legal : F → List E → Type 0) where
    pub returned_closed : {A R : Type 0} (accounts : List (ℕ × T)) (uids : List ℕ) (ds : List (Desk T F E A R)) (ps : List (RawPass T F E)) (back : List (ℕ × T))
        → IsOpenedTown fixed accounts uids ds ps → HandsBack ticket_of pass_of fixed entries legal uids ps back → AreReturnedAccounts fixed entries accounts back
    returned_closed accounts uids ds ps back o h =
        let long : length back ≡ length accounts = h.0 ∙ (o.of.0 ∙ o.count) in record {
          count = long;
          each = λ i u x at.
              let b = there_is back i (omega (arith, long, at_length accounts i (u, x) at)) in
              let k = h.1 i b.0.0 b.0.1 b.1 in
              let e : b.0.0 ≡ u = some-injective b.0.0 u (sym k.0 ∙ o.uid i u x at) in
              let done = unserved ticket_of pass_of fixed entries legal (fixed x) b.0.1 (subst (λ (v : View F E). IsValueAtClose ticket_of pass_of fixed entries legal v b.0.1) (o.start i u x at) k.1) in
              (b.0.1, b.1 ∙ ap (λ v. some (v, b.0.1)) e, done.0, done.1);
        }

module _ {T E : Type 0} (entries : T → List E) where
  -- one account more without entries
  pub bare_more : (accounts : List (ℕ × T)) (u : ℕ) (x : T) → AreBare entries accounts → entries x ≡ [] → AreBare entries (accounts ++ (u, x) ∷ [])
  bare_more accounts u x bare none i v y at = elim (at_end accounts (u, x) (v, y) i at) [
    | inl old ↦ bare i v y old
    | inr new ↦ ap (λ (z : ℕ × T). entries z.1) (sym new.1) ∙ none
  ]
