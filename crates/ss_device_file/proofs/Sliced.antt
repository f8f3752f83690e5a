-- The pieces of an item's line.
use Rattle.std.proofs.Common.{◌≡◌, ℕ, suc, ◌+◌, ◌-◌, ◌<◌, ◌≤◌, ◌==◌, ◌||◌, not, nat_lt, Bool, true, false, cond, List}
use Rattle.std.proofs.Common.{[], ◌∷◌, ◌++◌, length, take, drop, Some, None, append_assoc, refl, sym, ap, ap₂, subst}
use Rattle.std.proofs.Common.{◌∙◌, arith, lt-ltb, length-append, position}
use Rattle.std.specs.List.{prefix_len, list_any}
use Rattle.std.proofs.lemmas.Bool.{false≢true}
use Rattle.std.proofs.Math.Seq.{take-append_seam, drop-append-add, drop-append_seam}
use Rattle.std.proofs.lemmas.List.{take_rest}
use Rattle.ss_device_file.specs.Cuts.{NoComma, item_front, item_pieces, begins_as_item}
use Rattle.ss_text.proofs.Basics.{some_same}

before_comma : (digits rest : List ℕ) → NoComma digits → prefix_len (λ b. not (b == 44)) (digits ++ 44 ∷ rest) ≡ length digits
before_comma [] rest h = refl
before_comma (d ∷ ds) rest h = go (d == 44) h (before_comma ds rest)
  where
    go : (b : Bool) → (b || list_any (λ c. c == 44) ds) ≡ false → (NoComma ds → prefix_len (λ c. not (c == 44)) (ds ++ 44 ∷ rest) ≡ length ds)
        → cond (not b) (1 + prefix_len (λ c. not (c == 44)) (ds ++ 44 ∷ rest)) 0 ≡ suc (length ds)
    go true e ih = absurd (false≢true (sym e))
    go false e ih = let q = ih e in omega arith

pub record IsCutOf (digits text inner : List ℕ) : Type 0 where
  pub at : position (λ b. b == 44) inner ≡ Some (length digits)
  pub inside : length digits < length inner
  pub front : take (length digits) inner ≡ digits
  pub rest : drop (length digits + 1) inner ≡ text ++ 93 ∷ 10 ∷ []
  pub long : length (drop (length digits + 1) inner) ≡ length text + 2
  pub text_is : take (length text) (text ++ 93 ∷ 10 ∷ []) ≡ text

pub cut_is : (digits text inner : List ℕ) → NoComma digits → digits ++ 44 ∷ [] ++ text ++ 93 ∷ 10 ∷ [] ≡ inner → IsCutOf digits text inner
cut_is digits text inner h is = subst (IsCutOf digits text) (sym shape ∙ is) there
  where
    shape : digits ++ 44 ∷ [] ++ text ++ 93 ∷ 10 ∷ [] ≡ digits ++ 44 ∷ (text ++ 93 ∷ 10 ∷ [])
    shape = simp append_assoc

    tail : List ℕ
    tail = text ++ 93 ∷ 10 ∷ []

    there : IsCutOf digits text (digits ++ 44 ∷ (text ++ 93 ∷ 10 ∷ []))
    there =
        let p : prefix_len (λ b. not (b == 44)) (digits ++ 44 ∷ (text ++ 93 ∷ 10 ∷ [])) ≡ length digits = before_comma digits (text ++ 93 ∷ 10 ∷ []) h in
        let l : length (digits ++ 44 ∷ (text ++ 93 ∷ 10 ∷ [])) ≡ length digits + suc (length (text ++ 93 ∷ 10 ∷ [])) = length-append digits (44 ∷ (text ++ 93 ∷ 10 ∷ [])) in
        let n : length (text ++ 93 ∷ 10 ∷ []) ≡ length text + 2 = length-append text (93 ∷ 10 ∷ []) in
        let r : drop (length digits + 1) (digits ++ 44 ∷ (text ++ 93 ∷ 10 ∷ [])) ≡ text ++ 93 ∷ 10 ∷ [] = drop-append-add digits (44 ∷ (text ++ 93 ∷ 10 ∷ [])) 1 in
        record {
          at = ap₂ (λ k b. cond b (Some k) None) p (ap (λ k. nat_lt k (length (digits ++ 44 ∷ (text ++ 93 ∷ 10 ∷ [])))) p ∙ lt-ltb _ _ (omega arith));
          inside = omega arith;
          front = take-append_seam digits (44 ∷ (text ++ 93 ∷ 10 ∷ []));
          rest = r;
          long = ap length r ∙ n;
          text_is = take-append_seam text (93 ∷ 10 ∷ []);
        }

-- the whole line
pub front_then : (digits text : List ℕ) → item_pieces digits text ≡ item_front ++ (digits ++ 44 ∷ [] ++ text ++ 93 ∷ 10 ∷ [])
unfolding item_pieces
front_then digits text = simp append_assoc

pub front_long : length item_front ≡ 8
unfolding item_front
front_long = refl

pub begins_so : (xs : List ℕ) → begins_as_item (item_front ++ xs) ≡ true
unfolding item_front
begins_so xs = refl

-- what stands behind the comma
abbrev pub behind : ℕ → List ℕ → List ℕ
behind k inner = take (length inner - (k + 1)) (drop (k + 1) inner)

pub record IsSliced (digits text inner : List ℕ) (k : ℕ) : Type 0 where
  pub front : take k inner ≡ digits
  pub long : 2 ≤ length (behind k inner)
  pub back : take (length (behind k inner) - 2) (behind k inner) ≡ text

pub sliced : (digits text inner : List ℕ) (k : ℕ) → NoComma digits → digits ++ 44 ∷ [] ++ text ++ 93 ∷ 10 ∷ [] ≡ inner → Some k ≡ position (λ b. b == 44) inner → IsSliced digits text inner k
sliced digits text inner k h is at =
    let c = cut_is digits text inner h is in
    let same : k ≡ length digits = some_same (at ∙ c.at) in
    subst (IsSliced digits text inner) (sym same) (here c)
  where
    here : IsCutOf digits text inner → IsSliced digits text inner (length digits)
    here c =
        let b : behind (length digits) inner ≡ text ++ 93 ∷ 10 ∷ [] = take_rest inner (length digits + 1) ∙ c.rest in
        let n : length (behind (length digits) inner) ≡ length text + 2 = ap length b ∙ length-append text (93 ∷ 10 ∷ []) in
        let m : length (behind (length digits) inner) - 2 ≡ length text = omega arith in
        record { front = c.front; long = omega arith; back = ap₂ take m b ∙ c.text_is }

pub not_sliced : (digits text inner : List ℕ) → NoComma digits → digits ++ 44 ∷ [] ++ text ++ 93 ∷ 10 ∷ [] ≡ inner → None ≡ position (λ b. b == 44) inner → ⊥
not_sliced digits text inner h is at = let c = cut_is digits text inner h is in none_is_some (at ∙ c.at)
  where
    none_is_some : {X : Type 0} {x : X} → None ≡ Some x → ⊥
    none_is_some e = cc

pub behind_front : (digits text line : List ℕ) → item_pieces digits text ≡ line → (8 ≤ length line) × (digits ++ 44 ∷ [] ++ text ++ 93 ∷ 10 ∷ [] ≡ take (length line - 8) (drop 8 line))
behind_front digits text line is = subst (λ (l : List ℕ). (8 ≤ length l) × (inner ≡ take (length l - 8) (drop 8 l))) (sym (front_then digits text) ∙ is) here
  where
    inner : List ℕ
    inner = digits ++ 44 ∷ [] ++ text ++ 93 ∷ 10 ∷ []

    here : (8 ≤ length (item_front ++ inner)) × (inner ≡ take (length (item_front ++ inner) - 8) (drop 8 (item_front ++ inner)))
    here =
        let l : length (item_front ++ inner) ≡ length item_front + length inner = length-append item_front inner in
        let f = front_long in
        (omega arith, sym (take_rest (item_front ++ inner) 8 ∙ (ap (λ n. drop n (item_front ++ inner)) (sym f) ∙ drop-append_seam item_front inner)))
