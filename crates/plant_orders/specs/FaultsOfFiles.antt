-- How the fault of an order file is reported.
use Rattle.std.specs.Prelude.{◌≡◌, ◌≢◌, ℕ, ◌++◌, List, codes, decimal, Result, Ok, Err, ⊤}
use Rattle.std.specs.IoError.{error_kind}
use Rattle.std.specs.declared.io.Error.{Error}
use Rattle.std.specs.declared.io.ErrorKind.{ErrorKind}
use Rattle.std.specs.declared.io.ErrorKind.TheVariants as io
use Rattle.plant_base.specs.{OrderRow}
use Rattle.plant_orders.specs.Orders.{kind_name}
use Rattle.plant_orders.specs.declared.fault.CsvFault.{CsvFault}
use Rattle.plant_orders.specs.declared.fault.CsvKind.TheVariants as kind
use Rattle.plant_orders.specs.declared.source.OrdersFault.{OrdersFault}
use Rattle.plant_orders.specs.declared.source.OrdersFault.TheVariants as fault

-- the first fault of a file in words
abbrev pub csv_text : CsvFault → List ℕ
csv_text e = codes "csv row " ++ (decimal e.row ++ (codes " " ++ kind_name e.kind))

-- what the fault says of a file that says this: its first fault, which is never want of memory; a read that failed and
-- want of memory say nothing of it
abbrev pub FaultOfFile : OrdersFault → Result (List OrderRow) CsvFault → Type 0
FaultOfFile (fault.Csv e) says = (says ≡ Err e) × (e.kind ≢ kind.Memory)
FaultOfFile fault.Read says = ⊤
FaultOfFile fault.Memory says = ⊤

-- an error of a reading for want of memory is reported as that, and every other as a read that failed
abbrev pub fault_of_kind : ErrorKind → OrdersFault
fault_of_kind io.OutOfMemory = fault.Memory
fault_of_kind _ = fault.Read

-- how many bytes a reading gave, or how its error is reported
abbrev pub read_count : Result ℕ Error → Result ℕ OrdersFault
read_count (Ok n) = Ok n
read_count (Err error) = Err (fault_of_kind (error_kind error))
