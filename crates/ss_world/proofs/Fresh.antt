-- A fresh account meets the premises of a world.
use Rattle.std.proofs.Common.{◌≡◌, ℕ, ◌≤◌, List, [], ◌∷◌, length, slice_get, Option, Some, None, unwrap_or, Bool, refl}
use Rattle.std.proofs.Common.{sym, subst, arith, inl, inr}
use Rattle.std.proofs.lemmas.Option.{none-some}
use Rattle.ss_text.specs.Texts.{IsReordering}
use Rattle.ss_tree.specs.Trees.{IsValidTree, empty_tree}
use Rattle.ss_tree.specs.Entries.{new_entries}
use Rattle.ss_tree.proofs.Valid.{valid_tree}
use Rattle.ss_tree.proofs.Kept.{new_same, new_tree}
use Rattle.ss_build.specs.Rows.{rows_of}
use Rattle.ss_build.specs.Stand.{row, StandFor}
use Rattle.ss_bso.specs.declared.rows.Row.{Row}
use Rattle.ss_bso.specs.Lists.{Each}
use Rattle.ss_bso.specs.Account.{time_of}
use Rattle.ss_bso.specs.Changes.{fresh_kept, account_at_opening}
use Rattle.ss_bso.specs.Validity.{SameAccount}
use Rattle.ss_bso.proofs.Reordering.{length-reordered}
use Rattle.ss_device.specs.Device.{DeviceView}
use Rattle.ss_serving.specs.Bookmarks.{bookmarks, sheets_of}
use Rattle.ss_serving.specs.Good.{Lasts}
use Rattle.ss_world.specs.Worlds.{Idle, WorldView}
use Rattle.ss_world.specs.Promises.{StandsForOne}
use Rattle.ss_world.specs.Reaching.{IsOpenable}

empty : {X : Type 0} (xs : List X) → 0 ≡ length xs → [] ≡ xs
empty [] e = refl
empty (x ∷ xs) e = let never : ⊥ = omega arith in absurd never

nothing_in : {X : Type 0} (xs : List X) → IsReordering [] xs → [] ≡ xs
nothing_in xs r = empty xs (length-reordered r)

empty_valid : IsValidTree empty_tree
empty_valid = subst IsValidTree new_same (valid_tree new_entries new_tree)

empty_stands : StandFor empty_tree (rows_of [])
unfolding row
empty_stands = inr (record { none = λ x r e. absurd (none-some r e); empty = λ x. refl })

nothing_stands : StandsForOne []
nothing_stands = record { tree = empty_tree; valid = empty_valid; stands = empty_stands }

no_time : (times : List (List ℕ × ℕ)) → [] ≡ times → time_of bookmarks times ≡ None
no_time times e = subst (λ (t : List (List ℕ × ℕ)). time_of bookmarks t ≡ None) e refl

pub fresh_openable : (trusts : ℕ → Bool) (w : WorldView) → SameAccount (account_at_opening fresh_kept) w.server.account
    → ((n : ℕ) (d : DeviceView) → slice_get w.seats n ≡ Some (Idle d) → d.stamp ≡ 0) → IsOpenable trusts w
fresh_openable trusts w same new =
    let rows = nothing_in w.server.account.rows same.rows in
    let times = nothing_in w.server.account.collections same.collections in
    record {
      lasts = subst (Each Lasts) rows tt;
      below = subst (λ (t : Option ℕ). unwrap_or t w.server.account.last_delete ≤ w.server.account.store) (sym (no_time w.server.account.collections times)) (omega (arith, same.last_delete));
      stands = subst (λ (r : List Row). StandsForOne (sheets_of r)) rows nothing_stands;
      faithful = λ n d e t. inl (new n d e);
    }
