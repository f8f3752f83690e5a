-- Accounts that begin anew, and accounts that are kept.
use Rattle.std.specs.Prelude.{◌≡◌, ◌≤◌, ℕ, suc, List, [], ◌∷◌, filter, All, Contains, IfSome, Option, Some, None, refl}
use Rattle.std.specs.List.{AllZip}
use Rattle.std.specs.List.Sorted.{IsPermutation}
use Rattle.std.proofs.Common.{sym, ap, subst, ◌∙◌, arith}
use Rattle.std.proofs.lemmas.List.Elements.{All-cons, All-contains, All-contains_itself, All-head, All-nil, All-tail}
use Rattle.std.proofs.lemmas.List.Elements.{All-weaker}
use Rattle.std.proofs.lemmas.List.Sorted.{Contains-permutation, IsPermutation-sym}
use Rattle.ss_laws.specs.declared.journal.Entry.{Entry}
use Rattle.ss_laws.specs.Journals.{account_after}
use Rattle.ss_text.specs.Texts.IsReordering.{chain}
use Rattle.ss_bso.specs.declared.account.Plain.{Plain}
use Rattle.ss_bso.specs.declared.changes.Kept.{Kept}
use Rattle.ss_bso.specs.Account.{is_alive, is_open}
use Rattle.ss_bso.specs.Validity.{SameAccount}
use Rattle.ss_bso.proofs.Reordering.{reordered-filter, same-through, same-self}
use Rattle.ss_account.specs.Keeping.{IsKeptAccount}
use Rattle.ss_run_serve.specs.Hosted.{HostedAccount, HasEmptyJournal, left_by}
use Rattle.ss_run_serve.specs.Terms.{BeginsAnew, IsOneLeft}

begins_itself : (account : ℕ × HostedAccount) → HasEmptyJournal account.1 → BeginsAnew account account
begins_itself account begun = record {
  uid = refl;
  own = refl;
  opening = subst (λ (entries : List Entry). SameAccount (account_after account.1.fixed.opening entries) account.1.fixed.opening) (sym begun.entries) (same-self account.1.fixed.opening);
  begun = begun;
  most = refl;
  faults = refl;
}

pub begin_themselves : (accounts : List (ℕ × HostedAccount)) → All (λ (a : ℕ × HostedAccount). HasEmptyJournal a.1) accounts → AllZip BeginsAnew accounts accounts
begin_themselves [] begun = tt
begin_themselves (a ∷ accounts) begun = (begins_itself a (All-head (λ (a : ℕ × HostedAccount). HasEmptyJournal a.1) a accounts begun), begin_themselves accounts (All-tail (λ (a : ℕ × HostedAccount). HasEmptyJournal a.1) a accounts begun))

-- an account that begins anew is the one that was left
pub left_anew : (left anew : ℕ × HostedAccount) → BeginsAnew left anew → SameAccount (left_by left.1) (left_by anew.1)
left_anew left anew is = subst (λ (entries : List Entry). SameAccount (left_by left.1) (account_after anew.1.fixed.opening entries)) (sym is.begun.entries) is.opening

left_later : (x : ℕ × HostedAccount) (xs : List (ℕ × HostedAccount)) (a : ℕ × HostedAccount) → IsOneLeft xs a → IsOneLeft (x ∷ xs) a
left_later x xs a is = (suc is.0, is.1, omega (arith, is.2), is.3, is.4)

-- accounts that are, each at its place, those that were left
pub left_zip : (R : ℕ × HostedAccount → ℕ × HostedAccount → Type 0) → ((x y : ℕ × HostedAccount) → R x y → (y.0 ≡ x.0) × SameAccount (left_by x.1) (left_by y.1)) → (left accounts : List (ℕ × HostedAccount)) → AllZip R left accounts
    → All (IsOneLeft left) accounts
left_zip R says [] [] zip = All-nil (IsOneLeft [])
left_zip R says [] (y ∷ ys) zip = absurd zip
left_zip R says (x ∷ xs) [] zip = absurd zip
left_zip R says (x ∷ xs) (y ∷ ys) zip =
    let is = says x y zip.0 in
    All-cons (IsOneLeft (x ∷ xs)) y ys (0, x, omega arith, refl, (sym is.0, is.1)) (All-weaker (IsOneLeft xs) (IsOneLeft (x ∷ xs)) (left_later x xs) ys (left_zip R says xs ys zip.1))

pub left_themselves : (accounts : List (ℕ × HostedAccount)) → All (IsOneLeft accounts) accounts
left_themselves accounts = All-weaker (Contains accounts) (IsOneLeft accounts) (λ a there. (there.0, a, there.1, there.2, (refl, same-self (left_by a.1)))) accounts (All-contains_itself accounts)

pub left_through : (one two three : List (ℕ × HostedAccount)) → All (IsOneLeft one) two → All (IsOneLeft two) three → All (IsOneLeft one) three
left_through one two three first then = All-weaker (IsOneLeft two) (IsOneLeft one) (λ a is. through a is) three then
  where
    through : (a : ℕ × HostedAccount) → IsOneLeft two a → IsOneLeft one a
    through a is =
        let at = All-contains (IsOneLeft one) two is.1 first (is.0, is.2, is.3) in
        (at.0, at.1, at.2, at.3, (at.4.0 ∙ is.4.0, same-through (left_by at.1.1) (left_by is.1.1) (left_by a.1) at.4.1 is.4.1))

-- the same where those that were left stood in another order
pub left_moved : (one other accounts : List (ℕ × HostedAccount)) → IsPermutation one other → All (IsOneLeft other) accounts → All (IsOneLeft one) accounts
left_moved one other accounts moved left = All-weaker (IsOneLeft other) (IsOneLeft one) (λ a is. there a is) accounts left
  where
    there : (a : ℕ × HostedAccount) → IsOneLeft other a → IsOneLeft one a
    there a is =
        let at = Contains-permutation other one is.1 (IsPermutation-sym one other moved) (is.0, is.2, is.3) in
        (at.0, is.1, at.1, at.2, is.4)

-- what keeps an account keeps the same one in another order
pub kept_same : (kept : Kept) (one other : Plain) → SameAccount one other → IsKeptAccount kept other → IsKeptAccount kept one
kept_same kept one other same is = record {
  rows = λ moment later. chain (reordered-filter (is_alive moment) same.rows) (is.rows moment (subst (λ (m : ℕ). m ≤ moment) same.moment later));
  batches = λ moment later. chain (reordered-filter (is_open moment) same.batches) (is.batches moment (subst (λ (m : ℕ). m ≤ moment) same.moment later));
  collections = chain same.collections is.collections;
  store = same.store ∙ is.store;
  last_delete = same.last_delete ∙ is.last_delete;
  counter = same.counter ∙ is.counter;
}
