-- How many answers a server has given.
use Rattle.std.specs.Prelude.{ℕ, ◌+◌, ◌==◌, min, if◌then◌else◌}
use Rattle.plant_http_requests.specs.declared.figures.StatusCount.{StatusCount}

-- one more where it is of this status, and as it was where it is of another; no more than a number of 64 bits can say
abbrev pub with_one_more : ℕ → StatusCount → StatusCount
with_one_more status c = if c.status == status then record c { count = min (c.count + 1) 18446744073709551615 } else c
