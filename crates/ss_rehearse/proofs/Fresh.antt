-- The opening of a rehearsal.
use Rattle.std.proofs.Common.{◌≡◌, ◌⊎◌, ℕ, zero, suc, List, [], ◌∷◌, length, slice_get, Some, sym, ap}
use Rattle.std.proofs.Common.{subst, ◌∙◌, inl, inr}
use Rattle.std.proofs.lemmas.Option.{none-some, same_Some}
use Rattle.ss_bso.specs.Changes.{fresh_kept, account_at_opening}
use Rattle.ss_bso.specs.Validity.{SameAccount}
use Rattle.ss_tree.specs.Entries.{IsTree}
use Rattle.ss_device.specs.Device.{DeviceView, IsNew}
use Rattle.ss_world.specs.Reaching.{IsOpenable}
use Rattle.ss_world.specs.Worlds.{WorldView}
use Rattle.ss_world.specs.declared.seats.Seat.{Seat}
use Rattle.ss_world.specs.declared.seats.Seat.TheVariants.{Idle}
use Rattle.ss_world.proofs.Fresh.{fresh_openable}
use Rattle.ss_rehearse.specs.Rehearsals.{IsFresh, all_trusted}
use Rattle.ss_rehearse.specs.Syncing.{AreIdle}

pub fresh_is : (w : WorldView) (a b : DeviceView) → SameAccount (account_at_opening fresh_kept) w.server.account → w.server.kept ≡ fresh_kept → w.seats ≡ Idle a ∷ Idle b ∷ [] → IsNew a → IsNew b → IsTree a.tree → IsTree b.tree → IsFresh w
fresh_is w a b same kept seats x y t u = record { account = same; kept = kept; first = a; second = b; first_new = x; second_new = y; first_tree = t; second_tree = u; seats = seats }

seat_of : (a b : DeviceView) (n : ℕ) (s : Seat) → slice_get (Idle a ∷ Idle b ∷ []) n ≡ Some s → (s ≡ Idle a) ⊎ (s ≡ Idle b)
seat_of a b zero s e = inl (sym (same_Some (Idle a) s e))
seat_of a b (suc zero) s e = inr (sym (same_Some (Idle b) s e))
seat_of a b (suc (suc n)) s e = absurd (none-some s e)

pub fresh_idle : (w : WorldView) → IsFresh w → AreIdle w
fresh_idle w f = record {
  two = ap length f.seats;
  idle = λ n s e. elim (seat_of f.first f.second n s (subst (λ (xs : List Seat). slice_get xs n ≡ Some s) f.seats e)) [ inl q ↦ (f.first, q) | inr q ↦ (f.second, q) ];
}

idle_same : (a b : DeviceView) → Idle a ≡ Idle b → a ≡ b
idle_same a b e = cc

pub openable : (w : WorldView) → IsFresh w → IsOpenable all_trusted w
openable w f = fresh_openable all_trusted w f.account (λ n d e. elim (seat_of f.first f.second n (Idle d) (subst (λ (xs : List Seat). slice_get xs n ≡ Some (Idle d)) f.seats e)) [
  | inl q ↦ ap (λ (x : DeviceView). x.stamp) (idle_same d f.first q) ∙ f.first_new.stamp
  | inr q ↦ ap (λ (x : DeviceView). x.stamp) (idle_same d f.second q) ∙ f.second_new.stamp
])
