-- The condition that the fields of a message set (SyncStorage API 1.5).
use Rattle.std.specs.Prelude.{ℕ, ◌==◌, Bool, ◌&&◌, nat_le, List, length, Option, Some, None, ok_or, Result, Ok, Err}
use Rattle.std.specs.Prelude.{if◌then◌else◌, codes}
use Rattle.std.specs.Char.{is_ascii_digit}
use Rattle.std.specs.List.{list_all}
use Rattle.ss_text.specs.declared.stamps.Cond.{Cond}
use Rattle.ss_text.specs.declared.stamps.Cond.TheVariants.{Free, IfModified, IfUnmodified, IfAbsent}
use Rattle.ss_text.specs.Time.{last_stamp, stamp_of}
use Rattle.ss_bso.specs.Members.{◌>>=◌}
use Rattle.ss_query.specs.declared.replies.Said.TheVariants as words
use Rattle.ss_route.specs.declared.manner.Manner.{Manner}
use Rattle.ss_route.specs.declared.manner.Manner.TheVariants.{Profile, Browser}
use Rattle.ss_route.specs.declared.routed.Local.{Local}
use Rattle.ss_http.specs.Fields.{first_named}
use Rattle.ss_route.specs.Refusals.{local_with_word}

-- 11 to 18 digits: seconds beyond the last stamp, as browsers send that take thousandths for seconds
abbrev pub is_beyond_stamps : List ℕ → Bool
is_beyond_stamps value = nat_le 11 (length value) && nat_le (length value) 18 && list_all is_ascii_digit value

-- the time that a value says: in the browser's manner it may be beyond the last stamp, and is that one then
abbrev pub stamp_said : Manner → List ℕ → Option ℕ
stamp_said Profile value = stamp_of value
stamp_said Browser value = if is_beyond_stamps value then Some last_stamp else stamp_of value

-- a value must be a time
abbrev pub time_in : Manner → List ℕ → Result ℕ Local
time_in manner value = ok_or (stamp_said manner value) (local_with_word 400 words.Condition)

-- what a condition means: in the browser's manner, that nothing has changed since 0 is that the target isn't there
abbrev pub cond_meant : Manner → Cond → Cond
cond_meant Browser (IfUnmodified since) = if since == 0 then IfAbsent else IfUnmodified since
cond_meant Browser Free = Free
cond_meant Browser (IfModified since) = IfModified since
cond_meant Browser IfAbsent = IfAbsent
cond_meant Profile cond = cond

-- the condition of these two values: not both; the first counts with a GET alone, but must be a time with each method
abbrev pub condition_of : Manner → Bool → Option (List ℕ) → Option (List ℕ) → Result Cond Local
condition_of manner gets None None = Ok Free
condition_of manner gets None (Some unmodified) = do
  time ← time_in manner unmodified
  Ok (cond_meant manner (IfUnmodified time))
condition_of manner gets (Some modified) None = do
  time ← time_in manner modified
  Ok (if gets then IfModified time else Free)
condition_of manner gets (Some modified) (Some unmodified) = Err (local_with_word 400 words.Condition)

-- the condition of a message
unfoldable pub condition_in : Manner → Bool → List (List ℕ × List ℕ) → Result Cond Local
condition_in manner gets fields =
    condition_of manner gets (first_named (codes "X-If-Modified-Since") fields) (first_named (codes "X-If-Unmodified-Since") fields)
