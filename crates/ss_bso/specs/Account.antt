-- The account as plain data: its rows and collections by name, its clock, and what a reading of the clock makes of it.
use Rattle.std.specs.Prelude.{ℕ, ◌+◌, nat_lt, Bool, true, ◌&&◌, List, [], filter, find, bytes_eq, Option, option_map}
use Rattle.std.specs.Option.{option_map_or}
use Rattle.ss_text.specs.Time.{after}
use Rattle.ss_bso.specs.declared.rows.Row.{Row}
use Rattle.ss_bso.specs.declared.account.Plain.{Plain}
use Rattle.ss_bso.specs.declared.account.Staged.{Staged}

-- how long a batch lives, in hundredths of a second of account time: two hours (this project)
abbrev pub batch_life : ℕ
batch_life = 720000

-- an account that nothing was asked of
abbrev pub fresh : Plain
fresh = record { rows = []; collections = []; store = 0; last_delete = 0; moment = 0; counter = 0; batches = [] }

-- whether a row has this collection and id
abbrev pub is_at : List ℕ → List ℕ → Row → Bool
is_at collection id row = bytes_eq row.collection collection && bytes_eq row.id id

-- the row of a collection and id, where it is there
abbrev pub row_at : List ℕ → List ℕ → List Row → Option Row
row_at collection id rows = find (is_at collection id) rows

-- the time of a collection, where it is there
abbrev pub time_of : List ℕ → List (List ℕ × ℕ) → Option ℕ
time_of collection times = option_map (λ entry. entry.1) (find (λ entry. bytes_eq entry.0 collection) times)

-- whether a row is alive at a moment: it has no expiry, or a later one
abbrev pub is_alive : ℕ → Row → Bool
is_alive moment row = option_map_or (λ expiry. nat_lt moment expiry) row.expires true

-- whether a batch is still there at a moment
abbrev pub is_open : ℕ → Staged → Bool
is_open moment batch = nat_lt moment (batch.begun + batch_life)

-- tick: a reading of the clock moves the moment, and what has then ended goes
abbrev pub tick : Plain → ℕ → Plain
tick account reading =
    let moment = after account.moment reading in
    record account {
      moment = moment;
      rows = filter (is_alive moment) account.rows;
      batches = filter (is_open moment) account.batches;
    }
