-- Ids that come among the deleted.
use Rattle.std.proofs.Common.{◌≡◌, ℕ, ◌+◌, ◌<◌, List, [], ◌∷◌, ◌++◌, Bool, true, false, cond, ◌||◌, take, get_or}
use Rattle.std.proofs.Common.{length, refl, sym, ap, ap₂, ◌∙◌, Option, Some, None, is_some, bytes_eq}
use Rattle.std.specs.Map.{lookup}
use Rattle.std.specs.BTreeMap.{is_at}
use Rattle.std.proofs.lemmas.Bool.{false≢true}
use Rattle.std.proofs.lemmas.List.{take_more}
use Rattle.std.proofs.lemmas.Map.Text.{is_eq-slice_cmp}
use Rattle.ss_text.specs.Texts.{text_cmp}
use Rattle.ss_record.specs.Ids.{has}
use Rattle.ss_record.proofs.IdLists.{has-nil, has-cons, has-append}
use Rattle.ss_build.specs.Built.{or_else}
use Rattle.ss_device.specs.Device.{Dead}
use Rattle.ss_text.proofs.Basics.{or_false, bytes_eq-sym, same_text}

abbrev pub at : List ℕ → Dead → Option ℕ
at y m = lookup (is_at (text_cmp y)) m

pub none_yet : (new : Dead) (time : ℕ) → new ≡ [] → (y : List ℕ) → at y new ≡ cond (has y []) (Some time) None
none_yet new time e y = ap (at y) e ∙ sym (ap (λ b. cond b (Some time) None) (has-nil y))

pub one_more : (ids : List (List ℕ)) (i : ℕ) (x key : List ℕ) (time : ℕ) (old new : Dead) → i < length ids → x ≡ get_or ids i x → key ≡ x
    → ((q : List ℕ) → at q new ≡ cond (is_at (text_cmp key) q) (Some time) (at q old)) → ((q : List ℕ) → at q old ≡ cond (has q (take i ids)) (Some time) None) → (y : List ℕ) → at y new ≡ cond (has y (take (i + 1) ids)) (Some time) None
one_more ids i x key time old new lt is k put told y =
    put y
    ∙ (ap₂ (λ b o. cond b (Some time) o) (is_eq-slice_cmp key y ∙ (bytes_eq-sym key y ∙ ap (bytes_eq y) k)) (told y)
    ∙ (go (bytes_eq y x) (has y (take i ids))
    ∙ sym (ap (λ b. cond b (Some time) None) (ap (has y) (take_more ids i x lt ∙ ap (λ z. take i ids ++ z ∷ []) (sym is)) ∙ (has-append y (take i ids) (x ∷ []) ∙ ap (λ b. has y (take i ids) || b) (has-cons y x [] ∙ (ap (λ b. bytes_eq y x || b) (has-nil y) ∙ or_false (bytes_eq y x))))))))
  where
    go : (a b : Bool) → cond a (Some time) (cond b (Some time) None) ≡ cond (b || a) (Some time) None
    go true true = refl
    go true false = refl
    go false true = refl
    go false false = refl

-- an older one whose id isn't there, and one whose id is
pub older_put : (all : Option ℕ) (y k key : List ℕ) (v : ℕ) (graves new rest : Dead) → key ≡ k → is_some (at k graves) ≡ false → ((q : List ℕ) → at q new ≡ cond (is_at (text_cmp key) q) (Some v) (at q graves))
    → all ≡ or_else (at y graves) (at y ((k, v) ∷ rest)) → all ≡ or_else (at y new) (at y rest)
unfolding or_else
older_put all y k key v graves new rest is none put told =
    told ∙ (ap (λ b. or_else (at y graves) (cond b (Some v) (at y rest))) (is_eq-slice_cmp y k)
    ∙ (go (bytes_eq y k) refl (at y graves) refl
    ∙ sym (ap (λ o. or_else o (at y rest)) (put y ∙ ap (λ b. cond b (Some v) (at y graves)) (is_eq-slice_cmp key y ∙ (ap (λ z. bytes_eq z y) is ∙ bytes_eq-sym k y))))))
  where
    go : (b : Bool) → bytes_eq y k ≡ b → (g : Option ℕ) → at y graves ≡ g → or_else g (cond b (Some v) (at y rest)) ≡ or_else (cond b (Some v) g) (at y rest)
    go false q g h = refl
    go true q None h = refl
    go true q (Some w) h = absurd (false≢true (sym none ∙ ap is_some (ap (λ z. at z graves) (sym (same_text y k q)) ∙ h)))

pub older_left : (all : Option ℕ) (y k : List ℕ) (v : ℕ) (graves rest : Dead) → is_some (at k graves) ≡ true → all ≡ or_else (at y graves) (at y ((k, v) ∷ rest)) → all ≡ or_else (at y graves) (at y rest)
unfolding or_else
older_left all y k v graves rest some told =
    told ∙ (ap (λ b. or_else (at y graves) (cond b (Some v) (at y rest))) (is_eq-slice_cmp y k) ∙ go (bytes_eq y k) refl (at y graves) refl)
  where
    go : (b : Bool) → bytes_eq y k ≡ b → (g : Option ℕ) → at y graves ≡ g → or_else g (cond b (Some v) (at y rest)) ≡ or_else g (at y rest)
    go false q g h = refl
    go true q (Some w) h = refl
    go true q None h = absurd (false≢true (sym (ap is_some (ap (λ z. at z graves) (sym (same_text y k q)) ∙ h)) ∙ some))

pub all_met : (all : Option ℕ) (y : List ℕ) (graves rest : Dead) → rest ≡ [] → all ≡ or_else (at y graves) (at y rest) → at y graves ≡ all
unfolding or_else
all_met all y graves rest e told = go (at y graves) ∙ sym (told ∙ ap (λ r. or_else (at y graves) (at y r)) e)
  where
    go : (o : Option ℕ) → o ≡ or_else o None
    go None = refl
    go (Some x) = refl

pub graves_first : (b : Bool) (time : ℕ) (o : Option ℕ) → or_else (cond b (Some time) None) o ≡ cond b (Some time) o
unfolding or_else
graves_first true time o = refl
graves_first false time o = refl
