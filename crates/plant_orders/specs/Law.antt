-- The law of order files.
use Rattle.std.specs.Prelude.{◌≡◌, ℕ, List, [], ◌∷◌, map, Result, Ok, Err}
use Rattle.plant_base.specs.{OrderRow}
use Rattle.plant_orders.specs.Orders.{orders_of}
use Rattle.plant_orders.specs.EveryFault.{faults_of, numbered_orders_of}
use Rattle.plant_orders.specs.declared.examining.NumberedOrder.{NumberedOrder}
use Rattle.plant_orders.specs.declared.examining.RecordFault.{RecordFault}
use Rattle.plant_orders.specs.declared.fault.CsvFault.{CsvFault}

-- the orders where there is no fault, and else the first fault
abbrev pub orders_or_fault : List RecordFault → List NumberedOrder → Result (List OrderRow) CsvFault
orders_or_fault [] orders = Ok (map (λ o. o.order) orders)
orders_or_fault (f ∷ faults) orders = Err f.fault

-- an import reads a file exactly where its examination finds no fault, with the orders that this finds, and else reports the first of these faults
abbrev pub AnImportAgreesWithTheExamination : Type 0
AnImportAgreesWithTheExamination = (text : List ℕ) → orders_of text ≡ orders_or_fault (faults_of text) (numbered_orders_of text)
