-- The verdict on an order file.
use Rattle.std.specs.Prelude.{ℕ, Bool, List, [], ◌∷◌, ◌++◌, length, codes, decimal, Option, None, Some, find, ◌&&◌, ◌==◌, if◌then◌else◌}
use Rattle.plant_base.specs.{same}
use Rattle.plant_orders.specs.{faults_of, numbered_orders_of, csv_text, CsvFault, CsvKind, NumberedOrder}
use Rattle.plant_orders.specs.declared.fault.CsvKind.TheVariants as kind
use Rattle.plant_rules_production.specs.{is_same_order}
use Rattle.plant_json_in.specs.{shape_error_text}
use Rattle.plant_json_in.specs.declared.members.Member.TheVariants as member
use Rattle.plant_json_in.specs.declared.format_errors.ShapeError.TheVariants as shape_error
use Rattle.order_check.specs.declared.reason.CsvReason.{CsvReason}
use Rattle.order_check.specs.declared.reason.CsvReason.TheVariants as reason
use Rattle.order_check.specs.declared.conflicts.Conflict.{Conflict}
use Rattle.order_check.specs.declared.verdict.FileVerdict.{FileVerdict}

-- ---- conflicts

-- the first order of an id
abbrev pub first_of : List NumberedOrder → List ℕ → Option NumberedOrder
first_of orders id = find (λ o. same o.order.order id) orders

-- the conflict of an order with the first of its id, where they differ in some field
abbrev pub conflict_with : NumberedOrder → Option NumberedOrder → List Conflict
conflict_with o None = []
conflict_with o (Some first) = if is_same_order first.order o.order then [] else record { row = o.row; first = first.row } ∷ []

abbrev pub conflict_in : List NumberedOrder → NumberedOrder → List Conflict
conflict_in orders o = conflict_with o (first_of orders o.order.order)

-- the conflicts of these with all orders of the file
abbrev pub conflicts_among : List NumberedOrder → List NumberedOrder → List Conflict
conflicts_among orders [] = []
conflicts_among orders (o ∷ os) = conflict_in orders o ++ conflicts_among orders os

-- the orders whose id is that of an earlier row, with another value in some field
abbrev pub conflicts_of : List NumberedOrder → List Conflict
conflicts_of orders = conflicts_among orders orders

-- ---- the verdict

-- every fault of the file, each order that conflicts with an earlier one, and how many orders there are
abbrev pub verdict_of : List ℕ → FileVerdict
verdict_of text = record { faults = faults_of text; conflicts = conflicts_of (numbered_orders_of text); orders = length (numbered_orders_of text) }

-- whether it is an order file that an import takes, whatever is in the desk
abbrev pub is_good : FileVerdict → Bool
is_good v = (length v.faults == 0) && (length v.conflicts == 0)

-- ---- texts

-- why a file has a fault of this kind
abbrev pub reason_of : CsvKind → CsvReason
reason_of kind.TooLong = reason.TooLong
reason_of kind.Header = reason.Header
reason_of kind.Shape = reason.Shape
reason_of kind.Order = reason.Field (shape_error.Breaks member.Order)
reason_of kind.Recipe = reason.Field (shape_error.Breaks member.Recipe)
reason_of kind.Version = reason.Field (shape_error.Breaks member.Version)
reason_of kind.Size = reason.Field (shape_error.Breaks member.Size)
reason_of kind.Due = reason.Field (shape_error.Breaks member.Due)
reason_of kind.Priority = reason.Field (shape_error.Breaks member.Priority)
reason_of kind.TooManyRows = reason.TooManyRows
reason_of kind.Memory = reason.Memory

abbrev pub reason_text : CsvReason → List ℕ
reason_text reason.TooLong = codes "the file is longer than 262144 bytes"
reason_text reason.Header = codes "the first line isn't order,recipe,version,size,due,priority in UTF-8, with commas between and neither semicolons nor tabs"
reason_text reason.Shape = codes "the row hasn't six fields with commas between"
reason_text (reason.Field f) = shape_error_text f
reason_text reason.TooManyRows = codes "the file has more than 1000 orders"
reason_text reason.Memory = codes "memory was refused"

-- the text of a fault, before that of its field
abbrev pub fault_text : CsvFault → List ℕ
fault_text fault = csv_text fault ++ (codes ": " ++ reason_text (reason_of fault.kind))

abbrev pub conflict_text : Conflict → List ℕ
conflict_text c =
    codes "csv row " ++ (decimal c.row ++ (codes " OrderConflict: row " ++ (decimal c.first ++ codes " has the same order with other values")))

abbrev pub count_text : ℕ → List ℕ
count_text count = decimal count ++ codes " orders"
