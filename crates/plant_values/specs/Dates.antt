-- Due dates: civil dates of the years 2000 to 2099, written as ISO 8601 writes a calendar date.
use Rattle.std.specs.Prelude.{ℕ, ◌+◌, ◌-◌, ◌*◌, Bool, false, ◌&&◌, ◌||◌, ◌==◌, nat_le, List, length, slice_index, Option, Some, None, pos, if◌then◌else◌}
use Rattle.std.specs.List.{list_all}
use Rattle.plant_values.specs.Options.{◌>>=◌}
use Rattle.jiff.specs.Words.{days_in_month}
use Rattle.plant_values.specs.Values.{is_digit}

-- the number that two digits spell
unfoldable pub two_of : ℕ → ℕ → Option ℕ
two_of a b = if is_digit a && is_digit b then Some ((a - 48) * 10 + (b - 48)) else None

-- the civil calendar has the day
abbrev pub is_civil : ℕ → ℕ → ℕ → Bool
is_civil year month day = nat_le 1 month && nat_le month 12 && nat_le 1 day && nat_le day (days_in_month (pos year) month)

-- a civil date of a year 20YY
unfoldable pub is_due_day : ℕ → ℕ → ℕ → ℕ → Bool
is_due_day century year month day = (century == 20) && nat_le year 99 && is_civil (2000 + year) month day

-- what the digits of `YYYY-MM-DD` say of the calendar, and none where they aren't digits
unfoldable pub due_day_of : List ℕ → Option Bool
due_day_of bytes =
    if (length bytes == 10) && (slice_index bytes 4 == 45) && (slice_index bytes 7 == 45)
    then (do
      century ← two_of (slice_index bytes 0) (slice_index bytes 1)
      year ← two_of (slice_index bytes 2) (slice_index bytes 3)
      month ← two_of (slice_index bytes 5) (slice_index bytes 6)
      day ← two_of (slice_index bytes 8) (slice_index bytes 9)
      Some (is_due_day century year month day))
    else None

abbrev pub is_yes : Option Bool → Bool
is_yes None = false
is_yes (Some b) = b

-- a digit or a dash
abbrev pub is_due_byte : ℕ → Bool
is_due_byte b = is_digit b || b == 45

-- `YYYY-MM-DD`, a civil date of the years 2000 to 2099
abbrev pub is_due : List ℕ → Bool
is_due bytes = (length bytes == 10) && list_all is_due_byte bytes && is_yes (due_day_of bytes)
