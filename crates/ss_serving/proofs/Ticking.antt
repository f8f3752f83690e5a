-- The clock leaves what is shown, but for batches that end.
use Rattle.std.specs.Prelude.{◌≡◌, ℕ, ◌≤◌, true, List, Option, Some, None, option_map, bytes_eq, nat_lt, refl}
use Rattle.std.specs.Option.{option_map_or}
use Rattle.std.proofs.Common.{ap, subst, ◌∙◌, inl, arith}
use Rattle.ss_text.specs.Time.{after}
use Rattle.ss_bso.specs.declared.rows.Row.{Row}
use Rattle.ss_bso.specs.declared.parts.Part.{Part}
use Rattle.ss_bso.specs.declared.account.Plain.{Plain}
use Rattle.ss_bso.specs.declared.account.Staged.{Staged}
use Rattle.ss_bso.specs.Account.{tick, is_alive, is_open}
use Rattle.ss_bso.specs.Batches.{batch_in}
use Rattle.ss_bso.specs.Limits.{rows_of}
use Rattle.ss_bso.specs.Lists.{Apart}
use Rattle.ss_bso.proofs.Lists.{Each-imp, Each-filter, Pairs-filter}
use Rattle.ss_plan.specs.Written.{sheet}
use Rattle.ss_serving.specs.Bookmarks.{bookmarks, sheets_of, ShownAccount, shown_account}
use Rattle.ss_serving.specs.Good.{Lasts, OtherNumber, IsGoodBatch, IsGood}
use Rattle.ss_serving.specs.Serving.{IsQuiet, Ages}
use Rattle.ss_serving.proofs.Lists.{filter_within}
use Rattle.ss_serving.proofs.Seen.{sheets_same}
use Rattle.ss_serving.proofs.Batches.{parts_in, found_before}
use Rattle.ss_text.proofs.Basics.{length-filter_le}

-- what is staged among fewer batches was staged
pub staged_before : (o before : Option Staged) → ((batch : Staged) → o ≡ Some batch → before ≡ Some batch) → (parts : List Part) → option_map parts_in o ≡ Some parts → option_map parts_in before ≡ Some parts
staged_before None before h parts e = cc
staged_before (Some batch) before h parts e = ap (option_map parts_in) (h batch refl) ∙ e

-- the same rows leave the same store's time or a later one
pub ages_same : (a b : ShownAccount) → b.rows ≡ a.rows → a.store ≤ b.store → Ages a b
ages_same a b e later = record { store = later; rows = λ x s h. inl (subst (λ rows. sheet x rows ≡ Some s) e h) }

-- rows that last are alive
pub alive_bookmarks : (moment : ℕ) (row : Row) → Lasts row → bytes_eq row.collection bookmarks ≡ true → is_alive moment row ≡ true
alive_bookmarks moment row lasts here = ap (λ (o : Option ℕ). option_map_or (λ expiry. nat_lt moment expiry) o true) (lasts here)

module _ {first : ℕ} (account : Plain) (good : IsGood first account) where
  pub bookmarks_ticked : (now : ℕ) → rows_of bookmarks (tick account now).rows ≡ rows_of bookmarks account.rows
  bookmarks_ticked now =
      filter_within (λ row. bytes_eq row.collection bookmarks) (is_alive (after account.moment now)) account.rows
      (Each-imp Lasts (λ (row : Row). bytes_eq row.collection bookmarks ≡ true → is_alive (after account.moment now) row ≡ true) (λ row lasts here. alive_bookmarks (after account.moment now) row lasts here) account.rows good.lasting)

  pub rows_ticked : (now : ℕ) → sheets_of (tick account now).rows ≡ sheets_of account.rows
  rows_ticked now = sheets_same (tick account now).rows account.rows (bookmarks_ticked now)

  pub ticks_quiet : (now : ℕ) → IsQuiet (shown_account account) (shown_account (tick account now))
  ticks_quiet now = record {
    rows = rows_ticked now;
    target = omega arith;
    counter = omega arith;
    staged = λ n parts e. staged_before (batch_in bookmarks n (tick account now).batches) (batch_in bookmarks n account.batches)
        (λ batch h. found_before bookmarks n (is_open (after account.moment now)) account.batches good.numbers batch h) parts e;
  }

  pub ticks_ages : (now : ℕ) → Ages (shown_account account) (shown_account (tick account now))
  ticks_ages now = ages_same (shown_account account) (shown_account (tick account now)) (rows_ticked now) (omega arith)

  pub good_ticked : (now : ℕ) → IsGood first (tick account now)
  good_ticked now = record {
    places = Pairs-filter Apart (is_alive (after account.moment now)) account.rows good.places;
    number = omega (arith, length-filter_le (is_alive (after account.moment now)) account.rows, good.number);
    lasting = Each-filter Lasts (is_alive (after account.moment now)) account.rows good.lasting;
    below = good.below;
    since = good.since;
    numbers = Pairs-filter OtherNumber (is_open (after account.moment now)) account.batches good.numbers;
    batches = Each-filter (IsGoodBatch first account.counter) (is_open (after account.moment now)) account.batches good.batches;
  }
