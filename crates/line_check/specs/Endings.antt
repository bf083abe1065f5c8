-- How a check of lines ends.
use Rattle.std.specs.Prelude.{ℕ, Bool, true, false, Result, Ok, Err}
use Rattle.desk_cli.specs.{fault_status, CheckFault}

-- the exit status, of a check that reported all: whether some line is bad
abbrev pub status_of : Result Bool CheckFault → ℕ
status_of (Ok false) = 0
status_of (Ok true) = 1
status_of (Err fault) = fault_status fault
