-- What went over the links of a run, joined in order.
use Rattle.std.proofs.Common.{◌≡◌, ℕ, List, [], ◌∷◌, ◌++◌, map, Option, Some, None, refl, sym, ap, ap₂, ◌∙◌, subst}
use Rattle.std.proofs.Common.{append_assoc, inl, inr, arith}
use Rattle.std.specs.List.{All, flat_map}
use Rattle.std.proofs.lemmas.List.{append-nil}
use Rattle.std.proofs.lemmas.Grind.{flat_map-append}
use Rattle.std.proofs.lemmas.List.Folds.{flat_map-map}
use Rattle.std.proofs.lemmas.List.Elements.{All-tail}
use Rattle.ss_outside.specs.Told.{Meanings}
use Rattle.ss_links.specs.Dials.{Address, HungLink}
use Rattle.ss_device.specs.Device.{DeviceView}
use Rattle.ss_client.specs.Runs.{MachineView}
use Rattle.ss_client.specs.Machine.{Next}
use Rattle.ss_run_sync.specs.Moves.{IsFront}
use Rattle.ss_run_sync.specs.Course.{Account, Exchange, request_at, request_next}
use Rattle.ss_run_sync.specs.declared.endings.Ending.{Ending}
use Rattle.ss_run_sync.specs.declared.linking.Came.{Came}
use Rattle.ss_run_sync.specs.declared.linking.Came.TheVariants as came
use Rattle.ss_run_sync.specs.Links.{UsedLink, hung_of, exchanges_of, IsLeftLink, link_in_list, EndsOnLink, Comes}
use Rattle.ss_run_sync.specs.Links.{IsRunOverLinks}
use Rattle.ss_run_sync.specs.Syncs.{Outside, undialled, dialled, account_of, address_of, machine_of}
use Rattle.ss_run_sync.specs.Joined.{AreJoinedLinks, HangsJoinedLinks}
use Rattle.ss_run_sync.specs.Runs.{Runs, syncs, asks_nothing, out_of_memory}

-- where nothing stands behind the pieces of each, all joined are the pieces of all
pub whole_pieces : {X E : Type 0} (of : X → List E) (f : E → List ℕ) (p : X → List ℕ) (xs : List X) → All (λ x. p x ≡ []) xs
    → flat_map (λ x. flat_map f (of x) ++ p x) xs ≡ flat_map f (flat_map of xs)
whole_pieces of f p [] all = refl
whole_pieces of f p (x ∷ xs) all =
    ap₂ (λ a b. a ++ b) (ap (λ q. flat_map f (of x) ++ q) (all 0 x (omega arith)) ∙ append-nil (flat_map f (of x))) (whole_pieces of f p xs (All-tail (λ y. p y ≡ []) x xs all))
    ∙ sym (flat_map-append f (of x) (flat_map of xs))

-- the same, where something may stand behind the last one's
pub pieces_then : {X E : Type 0} (of : X → List E) (f : E → List ℕ) (p : X → List ℕ) (xs : List X) (x : X) → All (λ y. p y ≡ []) xs
    → flat_map (λ y. flat_map f (of y) ++ p y) (xs ++ x ∷ []) ≡ flat_map f (flat_map of (xs ++ x ∷ [])) ++ p x
pieces_then of f p xs x all =
    flat_map-append (λ y. flat_map f (of y) ++ p y) xs (x ∷ [])
    ∙ ap₂ (λ a b. a ++ b) (whole_pieces of f p xs all) (append-nil (flat_map f (of x) ++ p x))
    ∙ sym (append_assoc (flat_map f (flat_map of xs)) (flat_map f (of x)) (p x))
    ∙ ap (λ q. q ++ p x) (sym (flat_map-append f (flat_map of xs) (of x)))
    ∙ ap (λ q. flat_map f q ++ p x) (ap (λ q. flat_map of xs ++ q) (sym (append-nil (of x))) ∙ sym (flat_map-append of xs (x ∷ [])))

-- ---- links

abbrev more_of : Option UsedLink → List ℕ
more_of None = []
more_of (Some used) = used.talked.more

abbrev part_of : Option UsedLink → List ℕ
part_of None = []
part_of (Some used) = used.talked.part

no_more : (links : List UsedLink) → All IsLeftLink links → All (λ u. u.talked.more ≡ []) links
no_more links all = λ k d h. (all k d h).whole.more

no_part : (links : List UsedLink) → All IsLeftLink links → All (λ u. u.talked.part ≡ []) links
no_part links all = λ k d h. (all k d h).whole.part

-- the bytes of one kind, over all links
joined_pieces : (f : Exchange → List ℕ) (p : UsedLink → List ℕ) (behind : Option UsedLink → List ℕ) → behind None ≡ [] → ((used : UsedLink) → behind (Some used) ≡ p used) → (before : List UsedLink) (last : Option UsedLink)
    → All (λ u. p u ≡ []) before → flat_map (λ u. flat_map f u.talked.exchanges ++ p u) (before ++ link_in_list last) ≡ flat_map f (exchanges_of (before ++ link_in_list last)) ++ behind last
joined_pieces f p behind none some before None all =
    ap (flat_map (λ u. flat_map f u.talked.exchanges ++ p u)) (append-nil before) ∙ whole_pieces (λ u. u.talked.exchanges) f p before all
    ∙ ap (λ ls. flat_map f (exchanges_of ls)) (sym (append-nil before)) ∙ sym (append-nil (flat_map f (exchanges_of (before ++ []))))
    ∙ ap (λ q. flat_map f (exchanges_of (before ++ [])) ++ q) (sym none)
joined_pieces f p behind none some before (Some used) all =
    pieces_then (λ u. u.talked.exchanges) f p before used all ∙ ap (λ q. flat_map f (exchanges_of (before ++ used ∷ [])) ++ q) (sym (some used))

-- ---- what stands behind the exchanges

front_none : (text : List ℕ) → IsFront [] text
front_none text = (text, refl)

front_whole : (text : List ℕ) → IsFront text text
front_whole text = ([], sym (append-nil text))

at_end : (last : Option UsedLink) → EndsOnLink last → part_of last ≡ []
at_end last e = ap part_of e.is_last ∙ e.whole.part

front_of : (account : Account) (d : DeviceView) (last : Option UsedLink) (next : Next) (f f' : ℕ) (what : Came) → Comes account d last next f f' what → IsFront (part_of last) (request_next account d next)
front_of account d last next f f' (came.Done device summary) c = subst (λ p. IsFront p (request_next account d next)) (sym (at_end last c.1)) (front_none (request_next account d next))
front_of account d last next f f' (came.Stop fault) (inl c, same) = subst (λ p. IsFront p (request_next account d next)) (sym (at_end last c.1)) (front_none (request_next account d next))
front_of account d last next f f' (came.Stop fault) (inr c, same) =
    subst (λ p. IsFront p (request_next account d next)) (sym (ap part_of c.is_last ∙ c.bad.asked)) (front_whole (request_next account d next))
front_of account d None next f f' came.Wire c = front_none (request_next account d next)
front_of account d (Some used) next f f' came.Wire c = c.0.written.1
front_of account d None next f f' came.Memory c = front_none (request_next account d next)
front_of account d (Some used) next f f' came.Memory c = c.0.written.1

-- ---- a run, and a sync

pub run_joined : (account : Account) (m : MachineView) (what : Came) (f f' : ℕ) (a b : Option (List HungLink)) (address : Address) (p q : Option (List Address)) → IsRunOverLinks account m what f f' a b address p q
    → (y : List HungLink) → b ≡ Some y → (x : List HungLink) × (links : List HungLink) × (a ≡ Some x) × (y ≡ x ++ links) × AreJoinedLinks account m links
run_joined account m what f f' a b address p q r y told =
    let d = m.device in
    let all = r.before ++ link_in_list r.last in
    let h = r.hangs y told in (
      h.0,
      map (hung_of account d) all,
      h.1,
      h.2,
      record {
        exchanges = exchanges_of all;
        next = r.next;
        part = part_of r.last;
        more = more_of r.last;
        course = r.course;
        written = flat_map-map (λ h. h.written) (hung_of account d) all ∙ joined_pieces (λ x. request_at account d x.run x.stage) (λ u. u.talked.part) part_of refl (λ u. refl) r.before r.last (no_part r.before r.left);
        taken = flat_map-map (λ h. h.taken) (hung_of account d) all ∙ joined_pieces (λ x. x.bytes) (λ u. u.talked.more) more_of refl (λ u. refl) r.before r.last (no_more r.before r.left);
        front = front_of account d r.last r.next f f' what r.comes;
      },
    )

nothing : (words : List (List ℕ)) (old new : Outside) → new.hung ≡ old.hung → HangsJoinedLinks words old new
nothing words old new e y told = (y, [], sym e ∙ told, sym (append-nil y), inl refl)

pub joined_of : (words : List (List ℕ)) (result : Ending) (old new : Outside) (a b : Meanings) → Runs words result old new a b → HangsJoinedLinks words old new
joined_of words result old new a b (syncs command ending asks (undialled what e l i h f) p) = nothing words old new h
joined_of words result old new a b (syncs command ending asks (dialled d what s r c) p) = λ y told.
    let j = run_joined (account_of command) (machine_of command d) what old.dial_faults new.dial_faults old.hung new.hung (address_of command) old.asked new.asked r y told in
    (j.0, j.1, j.2, j.3, inr (command, d, asks, s, j.4))
joined_of words result old new a b (asks_nothing asks e same w) = nothing words old new (ap (λ (o : Outside). o.hung) same)
joined_of words result old new a b (out_of_memory same p) = nothing words old new (ap (λ (o : Outside). o.hung) same)
