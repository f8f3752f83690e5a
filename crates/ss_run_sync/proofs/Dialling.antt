-- What a dial was asked for, one link after the other.
use Rattle.std.proofs.Common.{◌≡◌, ℕ, List, [], ◌∷◌, ◌++◌, map, Option, None, Err, sym, ap, ◌∙◌, subst, append_assoc}
use Rattle.std.proofs.lemmas.List.{append-nil}
use Rattle.std.proofs.lemmas.List.{map-append}
use Rattle.ss_links.specs.Dials.{Address, IsBehind, HasAsked}
use Rattle.ss_links.specs.declared.dial.DialFault.{DialFault}
use Rattle.ss_links.specs.declared.dial.DialFault.TheVariants.{Fault, Memory}
use Rattle.ss_run_sync.specs.Links.{UsedLink, Dials, missed_address, came_of}

pub dials_none : (address : Address) (a b : Option (List Address)) → b ≡ a → Dials address [] [] a b
dials_none address a b e = λ y told. (y, sym e ∙ told, sym (append-nil y))

-- one link, with nothing dialled behind it
pub dials_one : (address : Address) (used : UsedLink) (a b c : Option (List Address)) → IsBehind address a b → c ≡ b → Dials address (used ∷ []) [] a c
dials_one address used a b c h same = λ y told. h y (sym same ∙ told)

-- no link
dials_missed : (L : Type 0) (address : Address) (fault : DialFault) (a b : Option (List Address)) → HasAsked {L = L} address (Err fault) a b → Dials address [] (missed_address address None (came_of fault)) a b
dials_missed L address Fault a b h = h
dials_missed L address Memory a b h = dials_none address a b h

-- the same, where it was dialled under another name of the same host
pub dials_failed : (L : Type 0) (host named : List ℕ) (port : ℕ) (fault : DialFault) (a b : Option (List Address)) → named ≡ host
    → HasAsked {L = L} (record { host = named; port = port }) (Err fault) a b → Dials (record { host = host; port = port }) [] (missed_address (record { host = host; port = port }) None (came_of fault)) a b
dials_failed L host named port fault a b e h =
    dials_missed L (record { host = host; port = port }) fault a b (subst (λ x. HasAsked {L = L} (record { host = x; port = port }) (Err fault) a b) e h)

joined : (address : Address) (x : List Address) (ks ls : List UsedLink) (more : List Address)
    → (x ++ (map (λ used. address) ks ++ [])) ++ (map (λ used. address) ls ++ more) ≡ x ++ (map (λ used. address) (ks ++ ls) ++ more)
joined address x ks ls more =
    let f : UsedLink → Address = λ used. address in
    append_assoc x (map f ks ++ []) (map f ls ++ more)
    ∙ ap (λ q. x ++ q) (ap (λ q. q ++ (map f ls ++ more)) (append-nil (map f ks)) ∙ sym (append_assoc (map f ks) (map f ls) more) ∙ ap (λ q. q ++ more) (sym (map-append f ks ls)))

pub dials_then : (address : Address) (ks ls : List UsedLink) (more : List Address) (a b c : Option (List Address)) → Dials address ks [] a b → Dials address ls more b c → Dials address (ks ++ ls) more a c
dials_then address ks ls more a b c f g = λ y told.
    let n = g y told in
    let m = f n.0 n.1 in
    (m.0, m.1, n.2 ∙ ap (λ q. q ++ (map (λ used. address) ls ++ more)) m.2 ∙ joined address m.0 ks ls more)
