-- Keepers that a site gave.
use Rattle.std.specs.Prelude.{◌≡◌, ◌<◌, ◌⊎◌, ◌+◌, ℕ, zero, suc, List, [], ◌∷◌, ◌++◌, length, map, take, get_or, All}
use Rattle.std.specs.Prelude.{Contains, refl}
use Rattle.std.specs.List.Sorted.{IsPermutation}
use Rattle.std.proofs.Common.{sym, ap, subst, ◌∙◌, inl, inr, arith}
use Rattle.std.proofs.lemmas.List.{append_assoc, map-append, take_more}
use Rattle.std.proofs.lemmas.List.Elements.{All-cons, All-nil, All-weaker, Contains-append_left, Contains-append_right}
use Rattle.std.proofs.lemmas.List.Elements.{Contains-push}
use Rattle.std.proofs.lemmas.List.Sorted.{Contains-permutation, IsPermutation-refl, IsPermutation-sym}
use Rattle.ss_run_serve.specs.Hosted.{HostedAccount}
use Rattle.ss_run_serve.specs.Lending.{keepers_at}
use Rattle.ss_run_serve.specs.Retiring.{uids_in}

-- a keeper that was given last
pub was_given : (old new : List (List ℕ × ℕ)) (folder : List ℕ) (uid : ℕ) → new ≡ old ++ (folder, uid) ∷ [] → Contains new (folder, uid)
was_given old new folder uid pushed = subst (λ (ks : List (List ℕ × ℕ)). Contains ks (folder, uid)) (sym pushed) (Contains-push old (folder, uid))

-- the keepers with these uids of a folder
at_uid : (folder : List ℕ) (uids : List ℕ) (uid : ℕ) → Contains uids uid → Contains (keepers_at folder uids) (folder, uid)
at_uid folder [] uid there = absurd (omega (arith, there.1))
at_uid folder (first ∷ uids) uid (zero, inside, is) = (0, omega arith, ap (λ (u : ℕ). (folder, u)) is)
at_uid folder (first ∷ uids) uid (suc k, inside, is) =
    let rest = at_uid folder uids uid (k, omega (arith, inside), is) in
    (suc rest.0, omega (arith, rest.1), rest.2)

each_in : (accounts : List (ℕ × HostedAccount)) → All (λ (a : ℕ × HostedAccount). Contains (uids_in accounts) a.0) accounts
each_in [] = All-nil (λ (a : ℕ × HostedAccount). Contains [] a.0)
each_in (a ∷ accounts) =
    All-cons (λ (b : ℕ × HostedAccount). Contains (a.0 ∷ uids_in accounts) b.0) a accounts (0, omega arith, refl)
    (All-weaker (λ (b : ℕ × HostedAccount). Contains (uids_in accounts) b.0) (λ (b : ℕ × HostedAccount). Contains (a.0 ∷ uids_in accounts) b.0) (λ b there. (suc there.0, omega (arith, there.1), there.2)) accounts (each_in accounts))

pub contains_map : {X Y : Type 0} (f : X → Y) (xs : List X) (x : X) → Contains xs x → Contains (map f xs) (f x)
contains_map f [] x there = absurd (omega (arith, there.1))
contains_map f (first ∷ xs) x (zero, inside, is) = (0, omega arith, ap f is)
contains_map f (first ∷ xs) x (suc k, inside, is) =
    let rest = contains_map f xs x (k, omega (arith, inside), is) in
    (suc rest.0, omega (arith, rest.1), rest.2)

-- where keepers with the uids of accounts were given, in whatever order, the keeper of each account was
pub are_given : (folder : List ℕ) (accounts : List (ℕ × HostedAccount)) (uids : List ℕ) (before keepers : List (List ℕ × ℕ)) → IsPermutation uids (uids_in accounts) → keepers ≡ before ++ keepers_at folder uids
    → All (λ (a : ℕ × HostedAccount). Contains keepers (folder, a.0)) accounts
are_given folder accounts uids before keepers moved given =
    All-weaker (λ (a : ℕ × HostedAccount). Contains (uids_in accounts) a.0) (λ (a : ℕ × HostedAccount). Contains keepers (folder, a.0))
    (λ a there. subst (λ (ks : List (List ℕ × ℕ)). Contains ks (folder, a.0)) (sym given)
    (Contains-append_right before (keepers_at folder uids) (folder, a.0) (at_uid folder uids a.0 (Contains-permutation (uids_in accounts) uids a.0 (IsPermutation-sym uids (uids_in accounts) moved) there))))
    accounts (each_in accounts)

pub hosted_uids : {B : Type 0} (view : B → HostedAccount) (xs : List (ℕ × B)) → uids_in (map (λ (a : ℕ × B). (a.0, view a.1)) xs) ≡ map (λ (a : ℕ × B). a.0) xs
hosted_uids view [] = refl
hosted_uids view (x ∷ xs) = ap (λ (us : List ℕ). x.0 ∷ us) (hosted_uids view xs)

-- the same, where one more may have been given since
pub given_still : (folder : List ℕ) (accounts : List (ℕ × HostedAccount)) (uid : ℕ) (before mid new : List (List ℕ × ℕ)) → mid ≡ before ++ keepers_at folder (uids_in accounts) → ((new ≡ mid) ⊎ (new ≡ mid ++ (folder, uid) ∷ []))
    → All (λ (a : ℕ × HostedAccount). Contains new (folder, a.0)) accounts
given_still folder accounts uid before mid new given more =
    All-weaker (λ (a : ℕ × HostedAccount). Contains mid (folder, a.0)) (λ (a : ℕ × HostedAccount). Contains new (folder, a.0)) (λ a there. still a there more) accounts
    (are_given folder accounts (uids_in accounts) before mid (IsPermutation-refl (uids_in accounts)) given)
  where
    still : (a : ℕ × HostedAccount) → Contains mid (folder, a.0) → ((new ≡ mid) ⊎ (new ≡ mid ++ (folder, uid) ∷ [])) → Contains new (folder, a.0)
    still a there (inl same) = subst (λ (ks : List (List ℕ × ℕ)). Contains ks (folder, a.0)) (sym same) there
    still a there (inr pushed) = subst (λ (ks : List (List ℕ × ℕ)). Contains ks (folder, a.0)) (sym pushed) (Contains-append_left mid ((folder, uid) ∷ []) (folder, a.0) there)

-- one keeper more was given, that of the next uid
pub keepers_more : (folder uids : List ℕ) (i : ℕ) → i < length uids → (before mid new : List (List ℕ × ℕ)) → mid ≡ before ++ keepers_at folder (take i uids) → new ≡ mid ++ (folder, get_or uids i 0) ∷ []
    → new ≡ before ++ keepers_at folder (take (i + 1) uids)
keepers_more folder uids i inside before mid new given pushed =
    pushed ∙ ap (λ (ks : List (List ℕ × ℕ)). ks ++ (folder, get_or uids i 0) ∷ []) given ∙ append_assoc before (keepers_at folder (take i uids)) ((folder, get_or uids i 0) ∷ [])
    ∙ ap (λ (ks : List (List ℕ × ℕ)). before ++ ks) (sym (map-append (λ (u : ℕ). (folder, u)) (take i uids) (get_or uids i 0 ∷ [])) ∙ ap (λ (us : List ℕ). keepers_at folder us) (sym (take_more uids i 0 inside)))

pub opened_so_far : (folder uids : List ℕ) (i : ℕ) → i < length uids → (before mid new : List (List ℕ × ℕ)) → mid ≡ before ++ keepers_at folder (take i uids) → ((new ≡ mid) ⊎ (new ≡ mid ++ (folder, get_or uids i 0) ∷ []))
    → (n : ℕ) × (new ≡ before ++ keepers_at folder (take n uids))
opened_so_far folder uids i inside before mid new given (inl same) = (i, same ∙ given)
opened_so_far folder uids i inside before mid new given (inr pushed) = (i + 1, keepers_more folder uids i inside before mid new given pushed)
