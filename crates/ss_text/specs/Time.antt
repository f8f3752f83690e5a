-- Times, in hundredths of a second, and conditions on them.
use Rattle.std.specs.Prelude.{ℕ, ◌+◌, ◌-◌, ◌*◌, ◌/◌, ◌%◌, min, max, Bool, ◌&&◌, ◌==◌, nat_le, nat_lt, List, [], ◌∷◌}
use Rattle.std.specs.Prelude.{◌++◌, length, Option, Some, None, if◌then◌else◌, decimal}
use Rattle.std.specs.Char.{is_ascii_digit}
use Rattle.std.specs.List.{list_all}
use Rattle.std.specs.Str.Parse.{digits_value}
use Rattle.ss_text.specs.declared.stamps.Cond.{Cond}
use Rattle.ss_text.specs.declared.stamps.Cond.TheVariants.{Free, IfModified, IfUnmodified, IfAbsent}

-- the last time that there is
abbrev pub last_stamp : ℕ
last_stamp = 999999999999

-- account time: what a reading of the clock makes of a moment, which never falls and ends at the last stamp
abbrev pub after : ℕ → ℕ → ℕ
after moment reading = max moment (min reading last_stamp)

-- the stamp of a write: the moment, or just after the time of the last write
abbrev pub write_stamp : ℕ → ℕ → ℕ
write_stamp moment store = max moment (store + 1)

-- two decimal digits
abbrev pub two_digits : ℕ → List ℕ
two_digits n = (0x30 + n / 10) ∷ (0x30 + n % 10) ∷ []

-- a time as text: seconds, a point and two digits
unfoldable pub stamp_text : ℕ → List ℕ
stamp_text time = decimal (time / 100) ++ 0x2e ∷ two_digits (time % 100)

-- the bytes before the first point, and those after it where there is one
abbrev pub split_point : List ℕ → List ℕ × Option (List ℕ)
split_point [] = ([], None)
split_point (x ∷ xs) = if x == 0x2e then ([], Some xs) else (x ∷ (split_point xs).0, (split_point xs).1)

-- one digit counts as tens, and those after the second are dropped
abbrev pub hundredths : List ℕ → ℕ
hundredths [] = 0
hundredths (d ∷ []) = 10 * (d - 0x30)
hundredths (d ∷ e ∷ ds) = 10 * (d - 0x30) + (e - 0x30)

-- seconds with what follows the point: at least one digit
abbrev pub with_fraction : ℕ → Option (List ℕ) → Option ℕ
with_fraction seconds None = Some (100 * seconds)
with_fraction seconds (Some ds) = if nat_le 1 (length ds) && list_all is_ascii_digit ds then Some (100 * seconds + hundredths ds) else None

-- 1 to 10 digits
abbrev pub is_seconds : List ℕ → Bool
is_seconds text = nat_le 1 (length text) && nat_le (length text) 10 && list_all is_ascii_digit text

-- the time that a text says: 1 to 10 digits, and perhaps a point and at least one digit; any other text says none
unfoldable pub stamp_of : List ℕ → Option ℕ
stamp_of text = if is_seconds (split_point text).0 then with_fraction (digits_value 10 (split_point text).0) (split_point text).1 else None

-- the status with which a condition stops a request whose target is there or isn't, and has this time
abbrev pub stops : Cond → Bool → ℕ → Option ℕ
stops Free there time = None
stops (IfModified since) there time = if nat_le time since then Some 304 else None
stops (IfUnmodified since) there time = if nat_lt since time then Some 412 else None
stops IfAbsent there time = if there then Some 412 else None

-- a reading of the clock as a time: the lesser of it and the last one
abbrev pub clamped_reading : ℕ → ℕ
clamped_reading now = min now last_stamp
