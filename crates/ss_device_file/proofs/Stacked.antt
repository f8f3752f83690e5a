-- The stack of the ids that are to come.
use Rattle.std.proofs.Common.{◌≡◌, ℕ, suc, ◌+◌, ◌-◌, ◌<◌, ◌≤◌, ◌&&◌, Bool, true, not, List, [], ◌∷◌, ◌++◌, length, drop}
use Rattle.std.proofs.Common.{get_or, map, bytes_eq, sym, ap, ap₂, ◌∙◌, arith}
use Rattle.std.proofs.lemmas.List.{reverse-append}
use Rattle.std.proofs.Math.ListN.{drop_of_length-le}
use Rattle.std.proofs.Math.Seq.{drop-cons}
use Rattle.std.specs.List.{list_any}
use Rattle.ss_record.specs.Ids.{has}
use Rattle.ss_device_file.specs.declared.lines.ItemLine.{ItemLine}
use Rattle.ss_device_file.specs.declared.walk.Waiting.{Waiting}
use Rattle.ss_device_file.specs.Places.{Seat}
use Rattle.ss_device_file.specs.Walking.{comes_next, seat_of, seats_on}

pub on_top : (ws : List Waiting) (w : Waiting) → seats_on (ws ++ w ∷ []) ≡ seat_of w ∷ seats_on ws
on_top ws w = ap (map seat_of) (reverse-append ws (w ∷ []))

abbrev pub seats_from : List ℕ → List (List ℕ) → List Seat
seats_from parent xs = map (λ x. (x, parent)) xs

pub more_on : (parent : List ℕ) (children : List (List ℕ)) (k : ℕ) (ws new : List Waiting) (before : List Seat) (w : Waiting) → k < length children
    → seats_on ws ≡ seats_from parent (drop (length children - k) children) ++ before → new ≡ ws ++ w ∷ [] → w.id ≡ get_or children (length children - 1 - k) w.id → w.parent ≡ parent
    → seats_on new ≡ seats_from parent (drop (length children - (k + 1)) children) ++ before
more_on parent children k ws new before w lt is n i p =
    let at : length children - (k + 1) ≡ length children - 1 - k = omega arith in
    let next : suc (length children - 1 - k) ≡ length children - k = omega arith in
    let there : drop (length children - (k + 1)) children ≡ get_or children (length children - 1 - k) w.id ∷ drop (length children - k) children =
    ap (λ j. drop j children) at ∙ (drop-cons children (length children - 1 - k) w.id (omega arith) ∙ ap (λ j. get_or children (length children - 1 - k) w.id ∷ drop j children) next) in
    ap seats_on n ∙ (on_top ws w ∙ (ap₂ (λ s ss. s ∷ ss) (ap₂ (λ x y. (x, y)) i p) is ∙ sym (ap (λ d. seats_from parent d ++ before) there)))

pub none_on : (parent : List ℕ) (children : List (List ℕ)) (ws : List Waiting) → seats_on ws ≡ seats_from parent (drop (length children - 0) children) ++ seats_on ws
none_on parent children ws = sym (ap (λ d. seats_from parent d ++ seats_on ws) (drop_of_length-le children (let n : length children - 0 ≡ length children = omega arith in omega arith)))

pub all_on : (parent : List ℕ) (children : List (List ℕ)) (k : ℕ) (ws : List Waiting) (before : List Seat) → length children ≤ k
    → seats_on ws ≡ seats_from parent (drop (length children - k) children) ++ before → seats_on ws ≡ seats_from parent children ++ before
all_on parent children k ws before le is =
    let none : length children - k ≡ 0 = omega arith in
    is ∙ ap (λ j. seats_from parent (drop j children) ++ before) none

pub comes_if : (old rest : List Waiting) (w : Waiting) (i : ItemLine) (met : List (List ℕ)) (x : List ℕ) (new : Bool) → old ≡ rest ++ w ∷ [] → bytes_eq w.id i.item.id ≡ true → bytes_eq w.parent i.parent ≡ true
    → x ≡ i.item.id → new ≡ not (list_any (bytes_eq x) met) → new ≡ comes_next (seats_on old) met i
unfolding has
comes_if old rest w i met x new is a b same added =
    added ∙ (ap (λ y. not (list_any (bytes_eq y) met)) same
    ∙ sym (ap (λ ss. comes_next ss met i) (ap seats_on is ∙ on_top rest w) ∙ ap₂ (λ p q. (p && q) && not (list_any (bytes_eq i.item.id) met)) a b))
