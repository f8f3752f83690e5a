-- Drawers without rows that are taken out.
use Rattle.std.specs.Prelude.{◌≡◌, ℕ, ◌==◌, Bool, true, false, not, cond, List, [], ◌∷◌, ◌++◌, length, filter, bytes_eq}
use Rattle.std.specs.Prelude.{IsFalse, refl}
use Rattle.std.proofs.Common.{sym, ap, subst, ◌∙◌, arith}
use Rattle.std.proofs.lemmas.Bool.Decides.{Decides-eqb}
use Rattle.std.specs.Map.{keys_of, values_of}
use Rattle.ss_bso.specs.declared.rows.Row.{Row}
use Rattle.ss_bso.specs.Lists.{Each}
use Rattle.ss_bso.specs.Limits.{row_bytes}
use Rattle.ss_bso.proofs.Lists.{Each-filter}
use Rattle.ss_index.specs.Held.{HeldRows, some_rows, HasCountablePayload}
use Rattle.ss_index.specs.Shelved.{rows_in, has_rows, NamesApart, IsShelf}
use Rattle.ss_index.specs.Sweep.{Outlives}

no_rows : (rows : List Row) → some_rows rows ≡ false → rows ≡ []
no_rows [] e = refl
no_rows (row ∷ rows) e = cc

-- the test of a chain without nodes
pub some_nodes : (nodes : List (ℕ × Row)) → not (length nodes == 0) ≡ some_rows (values_of nodes)
some_nodes [] = refl
some_nodes (node ∷ nodes) =
    elim (length (node ∷ nodes) == 0) as (λ v. (length (node ∷ nodes) == 0) ≡ v → not v ≡ true) [
      | true ↦ (λ e. let zero_long : length (node ∷ nodes) ≡ 0 = (Decides-eqb (length (node ∷ nodes)) 0).0 e in absurd (omega arith))
      | false ↦ (λ e. refl)
    ] refl

-- no row is lost
pub rows_in-tidied : (drawers : List (List ℕ × HeldRows)) → rows_in (filter has_rows drawers) ≡ rows_in drawers
rows_in-tidied [] = refl
rows_in-tidied (drawer ∷ drawers) =
    elim (has_rows drawer) as (λ v. has_rows drawer ≡ v → rows_in (cond v (drawer ∷ filter has_rows drawers) (filter has_rows drawers)) ≡ drawer.1.rows ++ rows_in drawers) [
      | true ↦ (λ e. ap (λ l. drawer.1.rows ++ l) (rows_in-tidied drawers))
      | false ↦ (λ e. rows_in-tidied drawers ∙ ap (λ l. l ++ rows_in drawers) (sym (no_rows drawer.1.rows e)))
    ] refl

keys-each : (P : List ℕ → Type 0) (p : List ℕ × HeldRows → Bool) (drawers : List (List ℕ × HeldRows)) → Each P (keys_of drawers) → Each P (keys_of (filter p drawers))
keys-each P p [] e = tt
keys-each P p (drawer ∷ drawers) e =
    elim (p drawer) as (λ v. Each P (keys_of (cond v (drawer ∷ filter p drawers) (filter p drawers)))) [ true ↦ (e.0, keys-each P p drawers e.1) | false ↦ keys-each P p drawers e.1 ]

keys-apart : (p : List ℕ × HeldRows → Bool) (drawers : List (List ℕ × HeldRows)) → NamesApart (keys_of drawers) → NamesApart (keys_of (filter p drawers))
keys-apart p [] e = tt
keys-apart p (drawer ∷ drawers) e =
    elim (p drawer) as (λ v. NamesApart (keys_of (cond v (drawer ∷ filter p drawers) (filter p drawers)))) [
      | true ↦ (keys-each (λ (other : List ℕ). IsFalse (bytes_eq other drawer.0)) p drawers e.0, keys-apart p drawers e.1)
      | false ↦ keys-apart p drawers e.1
    ]

pub tidied : {drawers : List (List ℕ × HeldRows)} {len total ends : ℕ} (shelf : IsShelf drawers len total ends) → IsShelf (filter has_rows drawers) len total ends
tidied {drawers} {len} {total} {ends} shelf = record {
  named = Each-filter (λ (drawer : List ℕ × HeldRows). Each (λ (row : Row). row.collection ≡ drawer.0) drawer.1.rows) has_rows drawers shelf.named;
  names = keys-apart has_rows drawers shelf.names;
  len_counts = shelf.len_counts ∙ ap (λ l. length l) (sym (rows_in-tidied drawers));
  total_counts = shelf.total_counts ∙ ap (λ l. row_bytes l) (sym (rows_in-tidied drawers));
  sizes = subst (λ l. Each HasCountablePayload l) (sym (rows_in-tidied drawers)) shelf.sizes;
  outlive = subst (λ l. Each (Outlives ends) l) (sym (rows_in-tidied drawers)) shelf.outlive;
}
