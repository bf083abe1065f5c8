-- When a page is read ahead.
use Rattle.std.specs.Prelude.{ℕ, ◌+◌, ◌-◌, ◌*◌, ◌^◌, ◌==◌, Bool, not, ◌&&◌, ◌||◌, if◌then◌else◌, min, nat_le}
use Rattle.plant_questions.specs.declared.policy.PrefetchPolicy.{PrefetchPolicy}

-- a page that answered so many lots was worth its time
abbrev pub worth : ℕ
worth = 32

-- so many lots are looked up before a page is read, where nothing speaks for one
abbrev pub first_pause : ℕ
first_pause = 128

-- so many lots in a row that are each near the one before speak for a first page
abbrev pub in_a_row : ℕ
in_a_row = 4

-- a count, as far as it fits
abbrev pub count_up_to : ℕ → ℕ
count_up_to n = min n (2 ^ 32 - 1)

-- how many lots in a row are each near the one before, with a lot that is near or isn't
abbrev pub row_with : Bool → ℕ → ℕ
row_with is_near row = if is_near then count_up_to (row + 1) else 0

abbrev pub was_worth : PrefetchPolicy → Bool
was_worth p = nat_le worth p.hits

-- A page is due for a lot that the last one doesn't answer: where that one was worth its time, where none was read and enough in a row are
-- near, or where no more lots are to be looked up before it.
abbrev pub is_due : ℕ → Bool → PrefetchPolicy → Bool
is_due row is_read p = was_worth p || not is_read && nat_le in_a_row row || p.wait == 0

-- how many lots are looked up after this page, where it answers few: twice as many as after the last, where that one was not worth its time
abbrev pub next_pause : PrefetchPolicy → ℕ
next_pause p = if was_worth p then first_pause else count_up_to (p.pause * 2)

-- ---- what is counted

-- at first; the first page is due at once, or after so many lots
abbrev pub first_policy : Bool → PrefetchPolicy
first_policy at_once = record { wait = if at_once then 0 else first_pause; pause = first_pause; row = 0; hits = 0 }

-- the last page answers a lot
abbrev pub after_hit : PrefetchPolicy → PrefetchPolicy
after_hit p = record p { hits = count_up_to (p.hits + 1) }

-- a page is read
abbrev pub after_page : ℕ → PrefetchPolicy → PrefetchPolicy
after_page row p = record { wait = next_pause p; pause = next_pause p; row = row; hits = 0 }

-- a lot is looked up
abbrev pub after_lookup : ℕ → PrefetchPolicy → PrefetchPolicy
after_lookup row p = record p { wait = p.wait - 1; row = row }

-- one of the two, for a lot that the last page doesn't answer
abbrev pub after_miss : ℕ → Bool → PrefetchPolicy → PrefetchPolicy
after_miss row is_due p = if is_due then after_page row p else after_lookup row p
