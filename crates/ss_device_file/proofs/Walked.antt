-- Items that have their places, one behind the other.
use Rattle.std.proofs.Common.{◌≡◌, inl, inr, ℕ, suc, ◌+◌, ◌<◌, ◌≤◌, ◌&&◌, Bool, true, false, not, List, [], ◌∷◌, ◌++◌}
use Rattle.std.proofs.Common.{length, take, drop, get_or, reverse, ◌==◌, append_assoc, append-nil, refl, sym, ap, ap₂}
use Rattle.std.proofs.Common.{subst, ◌∙◌, arith}
use Rattle.std.proofs.lemmas.List.{length-map, length-reverse, take_more, take_all, take-append-drop, map-append}
use Rattle.std.proofs.Math.Seq.{drop-cons}
use Rattle.ss_record.specs.Ids.{has}
use Rattle.ss_device_file.specs.declared.lines.ItemLine.{ItemLine}
use Rattle.ss_device_file.specs.declared.faults.DeviceFault.TheVariants.{BadTree}
use Rattle.ss_device_file.specs.Files.{IsFaultOfPlace}
use Rattle.ss_device_file.specs.Places.{ArePlaced, IsWhole, PlacedAfter, Seat, has_place, is_next, item_ids, last_id}
use Rattle.ss_device_file.specs.Places.{root_seats, seats_after, seats_behind, seats_left}
use Rattle.ss_device_file.specs.declared.walk.Waiting.{Waiting}
use Rattle.ss_device_file.specs.Walking.{comes_next, seat_of, seats_on}
use Rattle.std.specs.Bool.{OnTrue}
use Rattle.std.proofs.lemmas.Bool.{false≢true}

after_more : (seats : List Seat) (is : List ItemLine) (i : ItemLine) → seats_after seats (is ++ i ∷ []) ≡ seats_behind (seats_after seats is) i
after_more seats [] i = refl
after_more seats (h ∷ is) i = after_more (seats_behind seats h) is i

pub left_more : (is : List ItemLine) (i : ItemLine) → seats_left (is ++ i ∷ []) ≡ seats_behind (seats_left is) i
unfolding seats_left
left_more is i = after_more root_seats is i

pub ids_more : (is : List ItemLine) (i : ItemLine) → item_ids (is ++ i ∷ []) ≡ item_ids is ++ i.item.id ∷ []
unfolding item_ids
ids_more is i = map-append (λ (h : ItemLine). h.item.id) is (i ∷ [])

placed_after_more : (front is : List ItemLine) (i : ItemLine) → PlacedAfter front is → has_place (front ++ is) i ≡ true → PlacedAfter front (is ++ i ∷ [])
placed_after_more front [] i h m = (ap (λ f. has_place f i) (sym (append-nil front)) ∙ m, tt)
placed_after_more front (x ∷ is) i h m = (h.0, placed_after_more (front ++ x ∷ []) is i h.1 (ap (λ f. has_place f i) (append_assoc front (x ∷ []) is) ∙ m))

pub placed_more : (is : List ItemLine) (i : ItemLine) → ArePlaced is → has_place is i ≡ true → ArePlaced (is ++ i ∷ [])
unfolding ArePlaced
placed_more is i h m = placed_after_more [] is i h m

-- ---- the first items have their places

pub record IsWalked (items : List ItemLine) (k : ℕ) (seats : List Seat) (met : List (List ℕ)) : Type 0 where
  pub placed : ArePlaced (take k items)
  pub seats_are : seats ≡ seats_left (take k items)
  pub met_are : met ≡ item_ids (take k items)

pub none_walked : (items : List ItemLine) (seats : List Seat) (met : List (List ℕ)) → seats ≡ root_seats → met ≡ [] → IsWalked items 0 seats met
unfolding ArePlaced seats_left item_ids
none_walked items seats met s m = record { placed = tt; seats_are = s; met_are = m }

place_is : (front : List ItemLine) (i : ItemLine) (seats : List Seat) (met : List (List ℕ)) → seats ≡ seats_left front → met ≡ item_ids front → comes_next seats met i ≡ has_place front i
unfolding has_place
place_is front i seats met s m = ap₂ (λ ss ks. is_next ss i && not (has i.item.id ks)) s m

pub walked_on : (items : List ItemLine) (k : ℕ) (seats new : List Seat) (met ids : List (List ℕ)) (i : ItemLine) (right : Bool) → k < length items → i ≡ get_or items k i → right ≡ comes_next seats met i → right ≡ true
    → new ≡ seats_behind seats i → ids ≡ met ++ i.item.id ∷ [] → IsWalked items k seats met → IsWalked items (k + 1) new ids
walked_on items k seats new met ids i right lt at r t n m h =
    let more : take (k + 1) items ≡ take k items ++ i ∷ [] = take_more items k i lt ∙ ap (λ x. take k items ++ x ∷ []) (sym at) in
    record {
      placed = subst ArePlaced (sym more) (placed_more (take k items) i h.placed (sym (place_is (take k items) i seats met h.seats_are h.met_are) ∙ (sym r ∙ t)));
      seats_are = n ∙ (ap (λ ss. seats_behind ss i) h.seats_are ∙ (sym (left_more (take k items) i) ∙ ap seats_left (sym more)));
      met_are = m ∙ (ap (λ ks. ks ++ i.item.id ∷ []) h.met_are ∙ (sym (ids_more (take k items) i) ∙ ap item_ids (sym more)));
    }

pub astray : (items : List ItemLine) (k : ℕ) (seats : List Seat) (met : List (List ℕ)) (i : ItemLine) (right : Bool) (id : List ℕ) → k < length items → i ≡ get_or items k i → right ≡ comes_next seats met i → right ≡ false
    → IsWalked items k seats met → id ≡ i.item.id → IsFaultOfPlace items (BadTree id)
astray items k seats met i right id lt at r f h is = inl (record {
  front = take k items;
  item = i;
  back = drop (suc k) items;
  split = sym (take-append-drop k items) ∙ ap (λ d. take k items ++ d) (drop-cons items k i lt ∙ ap (λ x. x ∷ drop (suc k) items) (sym at));
  placed = h.placed;
  wrong = sym (place_is (take k items) i seats met h.seats_are h.met_are) ∙ (sym r ∙ f);
  named = is;
})

all_walked : (items : List ItemLine) (k : ℕ) (seats : List Seat) (met : List (List ℕ)) → length items ≤ k → IsWalked items k seats met → ArePlaced items × (seats ≡ seats_left items)
all_walked items k seats met le h = (subst ArePlaced (take_all k items le) h.placed, h.seats_are ∙ ap seats_left (take_all k items le))

some_seat : (seats : List Seat) → (0 < length seats) → (s : Seat) × (ss : List Seat) × (seats ≡ s ∷ ss)
some_seat [] lt = absurd (omega arith)
some_seat (s ∷ ss) lt = (s, ss, refl)

pub short : (items : List ItemLine) (k : ℕ) (seats : List Seat) (met : List (List ℕ)) (id : List ℕ) → length items ≤ k → IsWalked items k seats met → 0 < length seats → id ≡ last_id items → IsFaultOfPlace items (BadTree id)
short items k seats met id le h lt is =
    let a = all_walked items k seats met le h in
    let s = some_seat seats lt in
    inr (record { placed = a.0; seat = s.0; seats = s.1; left = sym a.1 ∙ s.2; named = is })

pub whole : (items : List ItemLine) (k : ℕ) (seats : List Seat) (met : List (List ℕ)) → length items ≤ k → IsWalked items k seats met → seats ≡ [] → IsWhole items
whole items k seats met le h none = let a = all_walked items k seats met le h in record { placed = a.0; left = sym a.1 ∙ none }

pub on_true : (b : Bool) (P : Type 0) → OnTrue b P → b ≡ true → P
on_true true P h e = h
on_true false P h e = absurd (false≢true e)

pub some_seats : (ws : List Waiting) (b : Bool) → b ≡ (length ws == 0) → b ≡ false → 0 < length (seats_on ws)
some_seats [] b e f = absurd (false≢true (sym f ∙ e))
some_seats (w ∷ ws) b e f =
    let m : length (seats_on (w ∷ ws)) ≡ length (reverse (w ∷ ws)) = length-map (reverse (w ∷ ws)) seat_of in
    let r : length (reverse (w ∷ ws)) ≡ length (w ∷ ws) = length-reverse (w ∷ ws) in
    omega arith
