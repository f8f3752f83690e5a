-- Of items that have their places: what is to come stands under items that have come.
use Rattle.std.proofs.Common.{◌≡◌, ◌≢◌, ℕ, ◌||◌, Bool, true, false, not, cond, if◌then◌else◌, List, [], ◌∷◌, ◌++◌, map}
use Rattle.std.proofs.Common.{filter, find, bytes_eq, append_assoc, append-nil, refl, sym, ap, ap₂, subst, ◌∙◌, Option}
use Rattle.std.proofs.Common.{Some, None, option_map, unwrap_or}
use Rattle.std.proofs.lemmas.Bool.{and_parts, false≢true, not-true}
use Rattle.std.specs.Option.{is_some, option_or}
use Rattle.std.specs.List.{list_any}
use Rattle.std.proofs.lemmas.List.{map-append}
use Rattle.std.proofs.lemmas.List.Elements.{filter-append}
use Rattle.std.proofs.lemmas.List.Folds.{find-append}
use Rattle.ss_record.specs.Ids.{has, places, roots}
use Rattle.ss_record.proofs.IdLists.{bytes_eq-refl, has-append, has-cons, has-head, has-nil, has-tail}
use Rattle.ss_device_file.specs.declared.lines.ItemLine.{ItemLine}
use Rattle.ss_device_file.specs.Growing.{come_under, line_of}
use Rattle.ss_device_file.specs.Lines.{IsItemLine}
use Rattle.ss_device_file.specs.Places.{Seat, child_seats, has_place, is_next, item_ids, root_seats, seats_behind}
use Rattle.ss_device_file.specs.Places.{seats_left}
use Rattle.ss_device_file.proofs.Walked.{ids_more, left_more}
use Rattle.ss_record.proofs.Fit.{differ}
use Rattle.ss_text.proofs.Basics.{same_text, is_none}

-- `places`, or an item that has come
abbrev pub knows : List ItemLine → List ℕ → Bool
knows is y = bytes_eq y places || has y (item_ids is)

-- the ids of these seats that stand under y
abbrev pub seated : List ℕ → List Seat → List (List ℕ)
seated y seats = map (λ (s : Seat). s.0) (filter (λ (s : Seat). bytes_eq y s.1) seats)

-- the children that the line of y names
unfoldable pub kids_told : List ItemLine → List ℕ → List (List ℕ)
kids_told is y = if bytes_eq y places then roots else unwrap_or (option_map (λ (i : ItemLine). i.children) (line_of y is)) []

abbrev pub AllSeats : (Seat → Type 0) → List Seat → Type 0
AllSeats P [] = Unit {0}
AllSeats P (s ∷ ss) = P s × AllSeats P ss

abbrev pub AllLines : (ItemLine → Type 0) → List ItemLine → Type 0
AllLines P [] = Unit {0}
AllLines P (i ∷ is) = P i × AllLines P is

-- a seat under `places` is a root's, and each stands under what has come
pub record IsGoodSeat (is : List ItemLine) (s : Seat) : Type 0 where
  pub root : s.1 ≡ places → has s.0 roots ≡ true
  pub known : knows is s.1 ≡ true

pub record IsSound (is : List ItemLine) : Type 0 where
  pub seats : AllSeats (IsGoodSeat is) (seats_left is)
  pub lines : AllLines (λ i. knows is i.parent ≡ true) is
  pub kids : (y : List ℕ) → knows is y ≡ true → come_under is y ++ seated y (seats_left is) ≡ kids_told is y

-- ---- what one more item changes

pub come_more : (is : List ItemLine) (i : ItemLine) (y : List ℕ) → come_under (is ++ i ∷ []) y ≡ come_under is y ++ cond (bytes_eq y i.parent) (i.item.id ∷ []) []
unfolding come_under
come_more is i y =
    ap (map (λ (h : ItemLine). h.item.id)) (filter-append (λ (h : ItemLine). bytes_eq y h.parent) is (i ∷ []))
    ∙ (map-append (λ (h : ItemLine). h.item.id) (filter (λ (h : ItemLine). bytes_eq y h.parent) is) (filter (λ (h : ItemLine). bytes_eq y h.parent) (i ∷ []))
    ∙ ap (λ t. map (λ (h : ItemLine). h.item.id) (filter (λ (h : ItemLine). bytes_eq y h.parent) is) ++ t) (go (bytes_eq y i.parent)))
  where
    go : (b : Bool) → map (λ (h : ItemLine). h.item.id) (cond b (i ∷ []) []) ≡ cond b (i.item.id ∷ []) []
    go true = refl
    go false = refl

seated_more : (y : List ℕ) (ss ts : List Seat) → seated y (ss ++ ts) ≡ seated y ss ++ seated y ts
seated_more y ss ts =
    ap (map (λ (s : Seat). s.0)) (filter-append (λ (s : Seat). bytes_eq y s.1) ss ts)
    ∙ map-append (λ (s : Seat). s.0) (filter (λ (s : Seat). bytes_eq y s.1) ss) (filter (λ (s : Seat). bytes_eq y s.1) ts)

seated_of : (y p : List ℕ) (xs : List (List ℕ)) → seated y (map (λ x. (x, p)) xs) ≡ cond (bytes_eq y p) xs []
seated_of y p xs = go (bytes_eq y p) refl xs
  where
    go : (b : Bool) → bytes_eq y p ≡ b → (zs : List (List ℕ)) → seated y (map (λ x. (x, p)) zs) ≡ cond b zs []
    go true e [] = refl
    go true e (z ∷ zs) = ap (λ c. map (λ (s : Seat). s.0) (cond c ((z, p) ∷ filter (λ (s : Seat). bytes_eq y s.1) (map (λ x. (x, p)) zs)) (filter (λ (s : Seat). bytes_eq y s.1) (map (λ x. (x, p)) zs)))) e ∙ ap (λ t. z ∷ t) (go true e zs)
    go false e [] = refl
    go false e (z ∷ zs) = ap (λ c. map (λ (s : Seat). s.0) (cond c ((z, p) ∷ filter (λ (s : Seat). bytes_eq y s.1) (map (λ x. (x, p)) zs)) (filter (λ (s : Seat). bytes_eq y s.1) (map (λ x. (x, p)) zs)))) e ∙ go false e zs

pub line_more : (is : List ItemLine) (i : ItemLine) (y : List ℕ) → line_of y (is ++ i ∷ []) ≡ option_or (line_of y is) (cond (bytes_eq y i.item.id) (Some i) None)
unfolding line_of
line_more is i y = find-append (λ (h : ItemLine). bytes_eq y h.item.id) is (i ∷ [])

pub line_there : (is : List ItemLine) (y : List ℕ) → is_some (line_of y is) ≡ has y (item_ids is)
unfolding line_of item_ids has
line_there [] y = refl
line_there (i ∷ is) y = go (bytes_eq y i.item.id) (line_there is y)
  where
    go : (b : Bool) → is_some (find (λ (h : ItemLine). bytes_eq y h.item.id) is) ≡ list_any (bytes_eq y) (map (λ (h : ItemLine). h.item.id) is)
        → is_some (cond b (Some i) (find (λ (h : ItemLine). bytes_eq y h.item.id) is)) ≡ (b || list_any (bytes_eq y) (map (λ (h : ItemLine). h.item.id) is))
    go true ih = refl
    go false ih = ih

pub no_line : (is : List ItemLine) (y : List ℕ) → has y (item_ids is) ≡ false → line_of y is ≡ None
no_line is y h = is_none (line_of y is) (line_there is y ∙ h)

pub knows_more : (is : List ItemLine) (i : ItemLine) (y : List ℕ) → knows (is ++ i ∷ []) y ≡ (knows is y || bytes_eq y i.item.id)
knows_more is i y =
    ap (λ ks. bytes_eq y places || has y ks) (ids_more is i)
    ∙ (ap (λ b. bytes_eq y places || b) (has-append y (item_ids is) (i.item.id ∷ []) ∙ ap (λ b. has y (item_ids is) || b) (has-cons y i.item.id [] ∙ (ap (λ b. bytes_eq y i.item.id || b) (has-nil y) ∙ or_off (bytes_eq y i.item.id))))
    ∙ or_shift (bytes_eq y places) (has y (item_ids is)) (bytes_eq y i.item.id))
  where
    or_off : (b : Bool) → (b || false) ≡ b
    or_off true = refl
    or_off false = refl

    or_shift : (a b c : Bool) → (a || (b || c)) ≡ ((a || b) || c)
    or_shift true b c = refl
    or_shift false b c = refl

pub knows_still : (is : List ItemLine) (i : ItemLine) (y : List ℕ) → knows is y ≡ true → knows (is ++ i ∷ []) y ≡ true
knows_still is i y h = knows_more is i y ∙ ap (λ b. b || bytes_eq y i.item.id) h

-- ---- the one that comes

pub record IsHere (is : List ItemLine) (i : ItemLine) : Type 0 where
  pub others : List Seat
  pub seats_are : seats_left is ≡ (i.item.id, i.parent) ∷ others
  pub fresh : has i.item.id (item_ids is) ≡ false

pub is_here : (is : List ItemLine) (i : ItemLine) → has_place is i ≡ true → IsHere is i
unfolding has_place
is_here is i h =
    let p = and_parts (is_next (seats_left is) i) (not (has i.item.id (item_ids is))) h in
    go (seats_left is) refl p.0 (not-true (has i.item.id (item_ids is)) p.1)
  where
    go : (ss : List Seat) → seats_left is ≡ ss → is_next ss i ≡ true → has i.item.id (item_ids is) ≡ false → IsHere is i
    go [] e n f = absurd (false≢true n)
    go (s ∷ ss) e n f =
        let q = and_parts (bytes_eq s.0 i.item.id) (bytes_eq s.1 i.parent) n in
        record { others = ss; seats_are = e ∙ ap (λ t. t ∷ ss) (ap₂ (λ a b. (a, b)) (same_text s.0 i.item.id q.0) (same_text s.1 i.parent q.1)); fresh = f }

-- ---- nothing stands under what is not known

pub unknown_come : (is : List ItemLine) (y : List ℕ) (js : List ItemLine) → knows is y ≡ false → AllLines (λ j. knows is j.parent ≡ true) js → come_under js y ≡ []
unfolding come_under
unknown_come is y [] u a = refl
unknown_come is y (j ∷ js) u a = go (bytes_eq y j.parent) refl (unknown_come is y js u a.1)
  where
    go : (b : Bool) → bytes_eq y j.parent ≡ b → map (λ (h : ItemLine). h.item.id) (filter (λ (h : ItemLine). bytes_eq y h.parent) js) ≡ []
        → map (λ (h : ItemLine). h.item.id) (cond b (j ∷ filter (λ (h : ItemLine). bytes_eq y h.parent) js) (filter (λ (h : ItemLine). bytes_eq y h.parent) js)) ≡ []
    go true e ih = absurd (false≢true (sym u ∙ (ap (knows is) (same_text y j.parent e) ∙ a.0)))
    go false e ih = ih

unknown_seats : (is : List ItemLine) (y : List ℕ) (ss : List Seat) → knows is y ≡ false → AllSeats (IsGoodSeat is) ss → seated y ss ≡ []
unknown_seats is y [] u a = refl
unknown_seats is y (s ∷ ss) u a = go (bytes_eq y s.1) refl (unknown_seats is y ss u a.1)
  where
    go : (b : Bool) → bytes_eq y s.1 ≡ b → seated y ss ≡ [] → map (λ (t : Seat). t.0) (cond b (s ∷ filter (λ (t : Seat). bytes_eq y t.1) ss) (filter (λ (t : Seat). bytes_eq y t.1) ss)) ≡ []
    go true e ih = absurd (false≢true (sym u ∙ (ap (knows is) (same_text y s.1 e) ∙ a.0.known)))
    go false e ih = ih

-- ---- from the first item on

root_good : (is : List ItemLine) (rs : List (List ℕ)) → ((r : List ℕ) → has r rs ≡ true → has r roots ≡ true) → AllSeats (IsGoodSeat is) (map (λ r. (r, places)) rs)
root_good is [] h = tt
root_good is (r ∷ rs) h =
    (record { root = λ e. h r (has-head r rs); known = ap (λ b. b || has places (item_ids is)) (bytes_eq-refl places) }, root_good is rs (λ x k. h x (has-tail x r rs k)))

pub sound_none : IsSound []
unfolding seats_left item_ids come_under kids_told
sound_none = record {
  seats = root_good [] roots (λ r h. h);
  lines = tt;
  kids = λ y h. go y (bytes_eq y places) refl h;
}
  where
    go : (y : List ℕ) (b : Bool) → bytes_eq y places ≡ b → (b || has y []) ≡ true → seated y root_seats ≡ cond b roots (unwrap_or (option_map (λ (i : ItemLine). i.children) (line_of y [])) [])
    go y true e h = seated_of y places roots ∙ ap (λ c. cond c roots []) e
    go y false e h = absurd (false≢true (sym (has-nil y) ∙ h))

seats_still : (is : List ItemLine) (i : ItemLine) (ss : List Seat) → AllSeats (IsGoodSeat is) ss → AllSeats (IsGoodSeat (is ++ i ∷ [])) ss
seats_still is i [] a = tt
seats_still is i (s ∷ ss) a = (record { root = a.0.root; known = knows_still is i s.1 a.0.known }, seats_still is i ss a.1)

seats_join : (P : Seat → Type 0) (ss ts : List Seat) → AllSeats P ss → AllSeats P ts → AllSeats P (ss ++ ts)
seats_join P [] ts a b = b
seats_join P (s ∷ ss) ts a b = (a.0, seats_join P ss ts a.1 b)

lines_still : (is js : List ItemLine) (i : ItemLine) → AllLines (λ j. knows is j.parent ≡ true) js → knows is i.parent ≡ true → AllLines (λ j. knows (is ++ i ∷ []) j.parent ≡ true) (js ++ i ∷ [])
lines_still is [] i a p = (knows_still is i i.parent p, tt)
lines_still is (j ∷ js) i a p = (knows_still is i j.parent a.0, lines_still is js i a.1 p)

child_good : (is : List ItemLine) (i : ItemLine) (xs : List (List ℕ)) → bytes_eq i.item.id places ≡ false → AllSeats (IsGoodSeat (is ++ i ∷ [])) (map (λ x. (x, i.item.id)) xs)
child_good is i [] h = tt
child_good is i (x ∷ xs) h = (record { root = λ e. absurd (differ i.item.id places h e); known = knows_more is i i.item.id ∙ (ap (λ b. knows is i.item.id || b) (bytes_eq-refl i.item.id) ∙ or_last (knows is i.item.id)) }, child_good is i xs h)
  where
    or_last : (b : Bool) → (b || true) ≡ true
    or_last true = refl
    or_last false = refl

pub unknown_new : (is : List ItemLine) (i : ItemLine) → IsHere is i → IsItemLine i → knows is i.item.id ≡ false
unknown_new is i here form = ap₂ (λ a b. a || b) form.inner here.fresh

pub known_parent : (is : List ItemLine) (i : ItemLine) → IsSound is → IsHere is i → knows is i.parent ≡ true
known_parent is i s here = (subst (AllSeats (IsGoodSeat is)) here.seats_are s.seats).0.known

pub root_only : (is : List ItemLine) (i : ItemLine) → IsSound is → IsHere is i → i.parent ≡ places → has i.item.id roots ≡ true
root_only is i s here e = (subst (AllSeats (IsGoodSeat is)) here.seats_are s.seats).0.root e

-- the new item has its children to come
new_kids : (is : List ItemLine) (i : ItemLine) → IsSound is → (here : IsHere is i) → IsItemLine i → (y : List ℕ) → bytes_eq y i.item.id ≡ true
    → come_under (is ++ i ∷ []) y ++ seated y (child_seats i ++ here.others) ≡ kids_told (is ++ i ∷ []) y
unfolding kids_told
new_kids is i s here form y e =
    let same : y ≡ i.item.id = same_text y i.item.id e in
    let u : knows is y ≡ false = ap (knows is) same ∙ unknown_new is i here form in
    let rest : AllSeats (IsGoodSeat is) here.others = (subst (AllSeats (IsGoodSeat is)) here.seats_are s.seats).1 in
    let inner : bytes_eq y places ≡ false = ap (λ x. bytes_eq x places) same ∙ form.inner in
    let apart : bytes_eq y i.parent ≡ false = unknown_apart is y i.parent u (known_parent is i s here) in
    let come : come_under (is ++ i ∷ []) y ≡ [] = come_more is i y ∙ ap₂ (λ a b. a ++ cond b (i.item.id ∷ []) []) (unknown_come is y is u s.lines) apart in
    let seats : seated y (child_seats i ++ here.others) ≡ i.children ++ [] = seated_more y (child_seats i) here.others ∙ ap₂ (λ a b. a ++ b) (seated_of y i.item.id i.children ∙ ap (λ b. cond b i.children []) e) (unknown_seats is y here.others u rest) in
    let line : line_of y (is ++ i ∷ []) ≡ Some i = line_more is i y ∙ ap₂ (λ a b. option_or a (cond b (Some i) None)) (no_line is y (ap (λ x. has x (item_ids is)) same ∙ here.fresh)) e in
    ap₂ (λ a b. a ++ b) come seats ∙ (append-nil i.children ∙ sym (ap₂ (λ b o. cond b roots (unwrap_or (option_map (λ (h : ItemLine). h.children) o) [])) inner line))
  where
    unknown_apart : (js : List ItemLine) (x p : List ℕ) → knows js x ≡ false → knows js p ≡ true → bytes_eq x p ≡ false
    unknown_apart js x p u k = go (bytes_eq x p) refl
      where
        go : (b : Bool) → bytes_eq x p ≡ b → b ≡ false
        go true q = absurd (false≢true (sym u ∙ (ap (knows js) (same_text x p q) ∙ k)))
        go false q = refl

-- an older one has one child more, or none
old_kids : (is : List ItemLine) (i : ItemLine) → IsSound is → (here : IsHere is i) → (y : List ℕ) → bytes_eq y i.item.id ≡ false → knows is y ≡ true
    → come_under (is ++ i ∷ []) y ++ seated y (child_seats i ++ here.others) ≡ kids_told (is ++ i ∷ []) y
unfolding kids_told
old_kids is i s here y e k =
    let before : come_under is y ++ seated y ((i.item.id, i.parent) ∷ here.others) ≡ kids_told is y = ap (λ ss. come_under is y ++ seated y ss) (sym here.seats_are) ∙ s.kids y k in
    let line : line_of y (is ++ i ∷ []) ≡ line_of y is = line_more is i y ∙ (ap (λ b. option_or (line_of y is) (cond b (Some i) None)) e ∙ or_none (line_of y is)) in
    let seats : seated y (child_seats i ++ here.others) ≡ seated y here.others = seated_more y (child_seats i) here.others ∙ ap (λ b. b ++ seated y here.others) (seated_of y i.item.id i.children ∙ ap (λ b. cond b i.children []) e) in
    ap₂ (λ a b. a ++ b) (come_more is i y) seats
    ∙ (append_assoc (come_under is y) (cond (bytes_eq y i.parent) (i.item.id ∷ []) []) (seated y here.others)
    ∙ (ap (λ t. come_under is y ++ t) (go (bytes_eq y i.parent)) ∙ (before ∙ sym (ap (λ o. cond (bytes_eq y places) roots (unwrap_or (option_map (λ (h : ItemLine). h.children) o) [])) line))))
  where
    or_none : {X : Type 0} (o : Option X) → option_or o None ≡ o
    or_none None = refl
    or_none (Some x) = refl

    go : (b : Bool) → cond b (i.item.id ∷ []) [] ++ map (λ (t : Seat). t.0) (filter (λ (t : Seat). bytes_eq y t.1) here.others)
        ≡ map (λ (t : Seat). t.0) (cond b ((i.item.id, i.parent) ∷ filter (λ (t : Seat). bytes_eq y t.1) here.others) (filter (λ (t : Seat). bytes_eq y t.1) here.others))
    go true = refl
    go false = refl

kids_step : (is : List ItemLine) (i : ItemLine) → IsSound is → (here : IsHere is i) → IsItemLine i → (y : List ℕ) → knows (is ++ i ∷ []) y ≡ true
    → come_under (is ++ i ∷ []) y ++ seated y (child_seats i ++ here.others) ≡ kids_told (is ++ i ∷ []) y
kids_step is i s here form y h = go (bytes_eq y i.item.id) refl
  where
    go : (b : Bool) → bytes_eq y i.item.id ≡ b → come_under (is ++ i ∷ []) y ++ seated y (child_seats i ++ here.others) ≡ kids_told (is ++ i ∷ []) y
    go true e = new_kids is i s here form y e
    go false e = old_kids is i s here y e (off (knows is y) (ap (λ b. knows is y || b) (sym e) ∙ (sym (knows_more is i y) ∙ h)))
      where
        off : (b : Bool) → (b || false) ≡ true → b ≡ true
        off true q = refl
        off false q = absurd (false≢true q)

pub sound_more : (is : List ItemLine) (i : ItemLine) → IsSound is → has_place is i ≡ true → IsItemLine i → IsSound (is ++ i ∷ [])
sound_more is i s place form =
    let here = is_here is i place in
    let left : seats_left (is ++ i ∷ []) ≡ child_seats i ++ here.others = left_more is i ∙ ap (λ ss. seats_behind ss i) here.seats_are in
    let rest : AllSeats (IsGoodSeat is) here.others = (subst (AllSeats (IsGoodSeat is)) here.seats_are s.seats).1 in
    record {
      seats = subst (AllSeats (IsGoodSeat (is ++ i ∷ []))) (sym left) (seats_join (IsGoodSeat (is ++ i ∷ [])) (child_seats i) here.others (child_good is i i.children form.inner) (seats_still is i here.others rest));
      lines = lines_still is is i s.lines (known_parent is i s here);
      kids = λ y h. ap (λ ss. come_under (is ++ i ∷ []) y ++ seated y ss) left ∙ kids_step is i s here form y h;
    }
