-- Two rows are apart whichever stands first.
use Rattle.std.specs.Prelude.{◌≡◌, true, false, bytes_eq, refl}
use Rattle.std.proofs.Common.{sym, ◌∙◌}
use Rattle.ss_bso.specs.declared.rows.Row.{Row}
use Rattle.ss_bso.specs.Account.{is_at}
use Rattle.ss_bso.specs.Lists.{Apart}
use Rattle.ss_text.proofs.Basics.{both_left, both_right, same_text, bytes_eq-same}
use Rattle.std.proofs.lemmas.Bool.{and_from}

-- being apart goes both ways
pub apart_flip : (x y : Row) → Apart x y → Apart y x
apart_flip x y e =
    elim (is_at y.collection y.id x) as (λ v. is_at y.collection y.id x ≡ v → v ≡ false) [
      | true ↦ (λ t.
          let first : y.collection ≡ x.collection = sym (same_text x.collection y.collection (both_left (bytes_eq x.collection y.collection) (bytes_eq x.id y.id) t)) in
          let second : y.id ≡ x.id = sym (same_text x.id y.id (both_right (bytes_eq x.collection y.collection) (bytes_eq x.id y.id) t)) in
          sym (and_from (bytes_eq y.collection x.collection) (bytes_eq y.id x.id) (bytes_eq-same y.collection x.collection first) (bytes_eq-same y.id x.id second)) ∙ e)
      | false ↦ (λ t. refl)
    ] refl
