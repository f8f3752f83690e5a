-- Accounts that were opened, and accounts whose journals were folded.
use Rattle.std.specs.Prelude.{◌≡◌, ◌<◌, ◌≤◌, ℕ, zero, suc, List, [], ◌∷◌, ◌++◌, length, map, set, take, drop, get_or}
use Rattle.std.specs.Prelude.{Option, Some, Result, Ok, Err, IfOk, OnOk, OnErr, All, refl}
use Rattle.std.specs.List.{AllZip}
use Rattle.std.proofs.Common.{sym, ap, subst, ◌∙◌, arith}
use Rattle.std.proofs.lemmas.List.{length-map}
use Rattle.std.proofs.Math.Seq.{take-append_seam}
use Rattle.ss_keeper.specs.declared.keeper.Keeper.{Ghosts}
use Rattle.ss_bso.specs.declared.changes.Kept.{Kept}
use Rattle.ss_bso.specs.declared.account.Plain.{Plain}
use Rattle.ss_bso.specs.Changes.{account_at_opening}
use Rattle.ss_bso.specs.Validity.{SameAccount}
use Rattle.ss_bso.proofs.Reordering.{same-through, same-self}
use Rattle.ss_laws.specs.Journal.{Journal}
use Rattle.ss_laws.specs.Journals.{account_after, empty_journal}
use Rattle.ss_account.specs.Held.{AccountWithKeeper}
use Rattle.ss_booked.specs.declared.booked.Booked.{Booked}
use Rattle.ss_booked.specs.Booked.{uid_of, account_of, journal_of, keeper_before}
use Rattle.ss_booked.specs.Sizes.{most_entries}
use Rattle.ss_site.specs.Sites.{Entries, IsEntry}
use Rattle.ss_run_serve.specs.Hosted.{HostedAccount, HasEmptyJournal, hosted_account, hosted_at, left_by}
use Rattle.ss_run_serve.specs.Opening.{OpensAccount}
use Rattle.ss_run_serve.specs.Terms.{BeginsAnew}
use Rattle.ss_run_serve.specs.Course.{SameKeeper}
use Rattle.ss_run_serve.proofs.Anew.{left_anew}

module _ {K : Type 0} {G : Ghosts K} (told : K → Option Kept) (faults : K → ℕ) where
  pub opened_account : {E : Type 0} (folder : List ℕ) (uid : ℕ) (kept kept' : Option Entries) (account : AccountWithKeeper K) (r : Result (Booked K G) E) → kept' ≡ kept
      → ((entries : Entries) → kept' ≡ Some entries → SameAccount (account_at_opening (entries folder uid)) account.plain) → IsEntry folder uid (told account.keeper) kept' → faults account.keeper ≡ 0
      → IfOk r (λ b. uid_of b ≡ uid) → IfOk r (λ b. account_of b ≡ account) → IfOk r (λ b. SameAccount account.plain (journal_of b).opening) → IfOk r (λ b. HasEmptyJournal (hosted_account told faults b))
      → IfOk r (λ b. (journal_of b).most ≡ most_entries)
      → IfOk r (λ b. OpensAccount folder kept (uid, hosted_account told faults b))
  opened_account folder uid kept kept' account (Err e) same opens entry fresh own is opening begun most = is
  opened_account folder uid kept kept' account (Ok b) same opens entry fresh own is opening begun most = record {
    own = own;
    opening = λ entries there. same-through (account_at_opening (entries folder uid)) account.plain (journal_of b).opening (opens entries (same ∙ there)) opening;
    entry = subst (λ (k : Option Entries). IsEntry folder uid (told (account_of b).keeper) k) same (subst (λ (a : AccountWithKeeper K). IsEntry folder uid (told a.keeper) kept') (sym is) entry);
    begun = begun;
    most = most;
    faults = ap (λ (a : AccountWithKeeper K). faults a.keeper) is ∙ fresh;
  }

  pub folded_anew : {E : Type 0} (uid : ℕ) (old new : Booked K G) (r : Result (Unit {0}) E) → uid_of new ≡ uid_of old → account_of new ≡ account_of old
      → OnOk r (SameAccount (account_after (journal_of old).opening (journal_of old).entries) (journal_of new).opening)
      → OnOk r (journal_of new ≡ empty_journal (journal_of new).opening (journal_of old).most) → OnOk r (keeper_before new ≡ (account_of old).keeper)
      → OnOk r (BeginsAnew (hosted_at told faults (uid, old)) (hosted_at told faults (uid, new)))
  folded_anew uid old new (Err e) own same follows is before = follows
  folded_anew uid old new (Ok done) own same follows is before = record {
    uid = refl;
    own = own;
    opening = follows;
    begun = record {
      entries = ap (λ (j : Journal). j.entries) is;
      counted = ap faults before ∙ sym (ap (λ (a : AccountWithKeeper K). faults a.keeper) same);
    };
    most = ap (λ (j : Journal). j.most) is;
    faults = ap (λ (a : AccountWithKeeper K). faults a.keeper) same;
  }

  -- the account itself, folded or not
  pub folded_same : {E : Type 0} (uid : ℕ) (old new : Booked K G) (r : Result (Unit {0}) E) → account_of new ≡ account_of old → OnOk r (BeginsAnew (hosted_at told faults (uid, old)) (hosted_at told faults (uid, new)))
      → OnErr r (journal_of new ≡ journal_of old) → SameKeeper (hosted_at told faults (uid, old)) (hosted_at told faults (uid, new))
  folded_same uid old new (Ok done) same anew unfolded = record { uid = refl; faults = anew.faults; left = left_anew (hosted_at told faults (uid, old)) (hosted_at told faults (uid, new)) anew }
  folded_same uid old new (Err e) same anew unfolded = record {
    uid = refl;
    faults = ap (λ (a : AccountWithKeeper K). faults a.keeper) same;
    left = subst (λ (j : Journal). SameAccount (account_after (journal_of old).opening (journal_of old).entries) (account_after j.opening j.entries)) (sym unfolded) (same-self (account_after (journal_of old).opening (journal_of old).entries));
  }

pub take_whole : {X : Type 0} (xs : List X) (n : ℕ) → length xs ≤ n → take n xs ≡ xs
take_whole [] zero long = refl
take_whole [] (suc n) long = refl
take_whole (x ∷ xs) zero long = absurd (omega (arith, long))
take_whole (x ∷ xs) (suc n) long = ap (λ (ys : List _). x ∷ ys) (take_whole xs n (omega (arith, long)))

-- the first i elements of a list were changed so, and the others stand
unfoldable pub Done : {X : Type 0} → (X → X → Type 0) → ℕ → List X → List X → Type 0
Done R zero xs ys = ys ≡ xs
Done R (suc i) [] ys = ⊥
Done R (suc i) (x ∷ xs) [] = ⊥
Done R (suc i) (x ∷ xs) (y ∷ ys) = R x y × Done R i xs ys

module _ {X : Type 0} (R : X → X → Type 0) where
  pub done_more : (i : ℕ) (xs ys : List X) (x v : X) → Done R i xs ys → i < length ys → x ≡ get_or ys i x → R x v → Done R (suc i) xs (set ys i v)
  unfolding Done
  done_more zero xs [] x v done inside here is = absurd (omega (arith, inside))
  done_more zero [] (y ∷ ys) x v done inside here is = absurd cc
  done_more zero (a ∷ xs) (y ∷ ys) x v done inside here is =
      let first : y ≡ a = cc in
      let rest : ys ≡ xs = cc in
      (subst (λ (b : X). R b v) (here ∙ first) is, rest)
  done_more (suc i) [] ys x v done inside here is = absurd done
  done_more (suc i) (a ∷ xs) [] x v done inside here is = absurd done
  done_more (suc i) (a ∷ xs) (y ∷ ys) x v done inside here is = (done.0, done_more i xs ys x v done.1 (omega (arith, inside)) here is)

  pub done_all : (xs ys : List X) → Done R (length ys) xs ys → AllZip R xs ys
  unfolding Done
  done_all [] [] done = tt
  done_all (a ∷ xs) [] done = absurd cc
  done_all [] (y ∷ ys) done = absurd done
  done_all (a ∷ xs) (y ∷ ys) done = (done.0, done_all xs ys done.1)

-- one element more was changed in another way that all changes are of
pub done_partly : {X : Type 0} (R S : X → X → Type 0) → ((x y : X) → R x y → S x y) → ((x : X) → S x x) → (i : ℕ) (xs ys : List X) (x v : X) → Done R i xs ys → i < length ys → x ≡ get_or ys i x → S x v → AllZip S xs (set ys i v)
unfolding Done
done_partly R S weaker same zero xs [] x v done inside here is = absurd (omega (arith, inside))
done_partly R S weaker same zero [] (y ∷ ys) x v done inside here is = absurd cc
done_partly R S weaker same zero (a ∷ xs) (y ∷ ys) x v done inside here is =
    let first : y ≡ a = cc in
    let rest : ys ≡ xs = cc in
    (subst (λ (b : _). S b v) (here ∙ first) is, subst (λ (zs : List _). AllZip S xs zs) (sym rest) (all_same xs))
  where
    all_same : (zs : List _) → AllZip S zs zs
    all_same [] = tt
    all_same (z ∷ zs) = (same z, all_same zs)
done_partly R S weaker same (suc i) [] ys x v done inside here is = absurd done
done_partly R S weaker same (suc i) (a ∷ xs) [] x v done inside here is = absurd done
done_partly R S weaker same (suc i) (a ∷ xs) (y ∷ ys) x v done inside here is = (weaker a y done.0, done_partly R S weaker same i xs ys x v done.1 (omega (arith, inside)) here is)

pub zip_map : {X Y : Type 0} (R : Y → Y → Type 0) (f : X → Y) (xs ys : List X) → AllZip (λ (x y : X). R (f x) (f y)) xs ys → AllZip R (map f xs) (map f ys)
zip_map R f [] [] zip = tt
zip_map R f [] (y ∷ ys) zip = absurd zip
zip_map R f (x ∷ xs) [] zip = absurd zip
zip_map R f (x ∷ xs) (y ∷ ys) zip = (zip.0, zip_map R f xs ys zip.1)

pub zip_weaker : {X Y : Type 0} (R S : X → Y → Type 0) → ((x : X) (y : Y) → R x y → S x y) → (xs : List X) (ys : List Y) → AllZip R xs ys → AllZip S xs ys
zip_weaker R S weaker [] [] zip = tt
zip_weaker R S weaker [] (y ∷ ys) zip = absurd zip
zip_weaker R S weaker (x ∷ xs) [] zip = absurd zip
zip_weaker R S weaker (x ∷ xs) (y ∷ ys) zip = (weaker x y zip.0, zip_weaker R S weaker xs ys zip.1)

pub keeper_anew : (before after : ℕ × HostedAccount) → BeginsAnew before after → SameKeeper before after
keeper_anew before after anew = record { uid = anew.uid; faults = anew.faults; left = left_anew before after anew }

pub keeper_self : (account : ℕ × HostedAccount) → SameKeeper account account
keeper_self account = record { uid = refl; faults = refl; left = same-self (left_by account.1) }

zip_long : {X Y : Type 0} (R : X → Y → Type 0) (xs : List X) (ys : List Y) → AllZip R xs ys → length ys ≡ length xs
zip_long R [] [] zip = refl
zip_long R [] (y ∷ ys) zip = absurd zip
zip_long R (x ∷ xs) [] zip = absurd zip
zip_long R (x ∷ xs) (y ∷ ys) zip = ap suc (zip_long R xs ys zip.1)

-- what was made of the elements of a slice is what the list has that lent it
pub zip_written : {X Y : Type 0} (R : Y → Y → Type 0) (f : X → Y) (n : ℕ) (old slice new : List X) → length slice ≡ n → slice ≡ old → AllZip R (map f slice) (map f new)
    → AllZip R (map f old) (map f (take n (new ++ drop (length new) old)))
zip_written {X} R f n old slice new long is zip =
    let count : n ≡ length new = omega (arith, long, zip_long R (map f slice) (map f new) zip, length-map slice f, length-map new f) in
    let written : take n (new ++ drop (length new) old) ≡ new = subst (λ (k : ℕ). take k (new ++ drop (length new) old) ≡ new) (sym count) (take-append_seam new (drop (length new) old)) in
    subst (λ (ys : List X). AllZip R (map f old) (map f ys)) (sym written) (subst (λ (xs : List X). AllZip R (map f xs) (map f new)) is zip)
