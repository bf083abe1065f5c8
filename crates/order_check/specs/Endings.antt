-- How a check of an order file ends.
use Rattle.std.specs.Prelude.{ℕ, Bool, true, false, Result, Ok, Err}
use Rattle.plant_orders.specs.{OrdersFault}
use Rattle.plant_orders.specs.declared.source.OrdersFault.TheVariants as orders
use Rattle.desk_cli.specs.{fault_status, CheckFault}
use Rattle.desk_cli.specs.declared.check_fault.CheckFault.TheVariants as fault

-- a verdict that couldn't be written isn't returned
abbrev pub end_of : Bool → Bool → Result Bool CheckFault
end_of good true = Ok good
end_of good false = Err fault.Write

-- the exit status
abbrev pub status_of : Result Bool CheckFault → ℕ
status_of (Ok true) = 0
status_of (Ok false) = 1
status_of (Err f) = fault_status f
