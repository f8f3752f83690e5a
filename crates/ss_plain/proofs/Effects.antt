-- What a POST leaves, by whether it writes.
use Rattle.std.specs.Prelude.{◌≡◌, ℕ, Bool, true, false, not, cond, List, ◌++◌, filter_map, refl}
use Rattle.std.proofs.Common.{sym, ap, ◌∙◌}
use Rattle.ss_text.specs.declared.stamps.Cond.{Cond}
use Rattle.ss_bso.specs.declared.account.Plain.{Plain}
use Rattle.ss_bso.specs.declared.parts.Part.{Part}
use Rattle.ss_bso.specs.declared.parts.Records.{Records}
use Rattle.ss_bso.specs.declared.rows.Row.{Row}
use Rattle.ss_bso.specs.Account.{row_at}
use Rattle.ss_bso.specs.Batches.{batches_without}
use Rattle.ss_bso.specs.Write.{ids_of, parts_of, put_all, rows_without, account_after_write, write}
use Rattle.ss_query.specs.declared.requests.Request.TheVariants.{Post}
use Rattle.ss_query.specs.declared.requests.Mode.TheVariants.{Commit}
use Rattle.ss_query.specs.Refused.{staged_parts}
use Rattle.ss_query.specs.Effect.{effect, is_empty, is_over, is_write, stamp_in}
use Rattle.ss_plain.specs.Steps.{within}

module _ (account : Plain) (collection : List ℕ) (records : Records) (condition : Cond) where
  pub effect-commit : (number : ℕ) → is_write account (Post collection records (Commit number) condition) ≡ true
      → effect account (Post collection records (Commit number) condition)
      ≡ record (write account collection (staged_parts account collection number ++ records.parts) (stamp_in account)) { batches = batches_without number account.batches }
  effect-commit number e = by (is_empty (staged_parts account collection number ++ records.parts)) e
    where
      by : (b : Bool) → not b ≡ true
          → record (cond b account (write account collection (staged_parts account collection number ++ records.parts) (stamp_in account))) { batches = batches_without number account.batches; counter = account.counter }
          ≡ record (write account collection (staged_parts account collection number ++ records.parts) (stamp_in account)) { batches = batches_without number account.batches }
      by true h = cc
      by false h = refl

-- what a write of parts leaves, from what was computed of it
pub written : (account : Plain) (collection : List ℕ) (all given : List Part) (rows : List Row) (gone ids : List (List ℕ)) (made : List Row) (stamp : ℕ)
    → given ≡ all → stamp ≡ stamp_in account → rows ≡ account.rows → gone ≡ ids_of all → ids ≡ ids_of all
    → made ≡ filter_map (λ id. put_all collection (parts_of id given) stamp (row_at collection id rows)) ids
    → account_after_write account collection stamp (rows_without collection gone account.rows ++ made) ≡ write account collection all (stamp_in account)
written account collection all given rows gone ids made stamp g s r h i m =
    let rows_made : made ≡ filter_map (λ id. put_all collection (parts_of id all) (stamp_in account) (row_at collection id account.rows)) (ids_of all) =
    m ∙ (λ j. filter_map (λ id. put_all collection (parts_of id (g j)) (s j) (row_at collection id (r j))) (i j)) in
    λ j. account_after_write account collection (s j) (rows_without collection (h j) account.rows ++ rows_made j)

-- a write that keeps the limits, and one that would pass them
pub within-kept : (before after : Plain) (over : Bool) → over ≡ is_over after → over ≡ false → after ≡ within before after
within-kept before after over e f = sym (ap (λ b. cond b before after) (sym e ∙ f))

pub within-passed : (before after : Plain) (over : Bool) → over ≡ is_over after → over ≡ true → before ≡ within before after
within-passed before after over e f = sym (ap (λ b. cond b before after) (sym e ∙ f))
