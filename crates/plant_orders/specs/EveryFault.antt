-- Every fault of an order file, and the orders among its rows.
use Rattle.std.specs.Prelude.{◌≡◌, ℕ, ◌+◌, Bool, true, ◌==◌, nat_lt, List, [], ◌∷◌, ◌++◌, length, Option, Some, None, is_some, option_and_then, Result, Ok, Err, if◌then◌else◌}
use Rattle.csv.specs.Records.{field_at}
use Rattle.csv.specs.Reading.{default_config, strip_bom, records_from}
use Rattle.csv.specs.declared.parser.State.TheVariants as st
use Rattle.plant_base.specs.{greatest_amount, greatest_version, greatest_priority, OrderRow}
use Rattle.plant_orders.specs.Numbers.{bounded}
use Rattle.plant_orders.specs.Orders.{fault, id_of, due_of, order_of, is_header}
use Rattle.plant_orders.specs.declared.fault.CsvKind.{CsvKind}
use Rattle.plant_orders.specs.declared.fault.CsvKind.TheVariants as kind
use Rattle.plant_orders.specs.declared.examining.Examined.{Examined}
use Rattle.plant_orders.specs.declared.examining.RecordFault.{RecordFault}
use Rattle.plant_orders.specs.declared.examining.NumberedOrder.{NumberedOrder}

-- ---- a row

-- the kinds of fault that a field can have, in the order of the fields
abbrev pub field_kinds : List CsvKind
field_kinds = kind.Order ∷ kind.Recipe ∷ kind.Version ∷ kind.Size ∷ kind.Due ∷ kind.Priority ∷ []

-- the position of the field that a kind of fault is about; a fault of a row or of the file is about none
abbrev pub place_of : CsvKind → ℕ
place_of kind.Order = 0
place_of kind.Recipe = 1
place_of kind.Version = 2
place_of kind.Size = 3
place_of kind.Due = 4
place_of kind.Priority = 5
place_of _ = 6

-- whether that field keeps its rule
abbrev pub is_valid : List (List ℕ) → CsvKind → Bool
is_valid fields kind.Order = is_some (option_and_then id_of (field_at fields 0))
is_valid fields kind.Recipe = is_some (option_and_then id_of (field_at fields 1))
is_valid fields kind.Version = is_some (option_and_then (bounded greatest_version) (field_at fields 2))
is_valid fields kind.Size = is_some (option_and_then (bounded greatest_amount) (field_at fields 3))
is_valid fields kind.Due = is_some (option_and_then due_of (field_at fields 4))
is_valid fields kind.Priority = is_some (option_and_then (bounded greatest_priority) (field_at fields 5))
is_valid fields _ = true

abbrev pub text_or_none : Option (List ℕ) → List ℕ
text_or_none None = []
text_or_none (Some text) = text

-- a fault of a row or of the file, of no field
abbrev pub whole_fault : ℕ → CsvKind → RecordFault
whole_fault n k = record { fault = fault n k; found = [] }

-- the fault of a field, with its text, where it breaks its rule
abbrev pub field_fault : ℕ → List (List ℕ) → CsvKind → List RecordFault
field_fault n fields k = if is_valid fields k then [] else record { fault = fault n k; found = text_or_none (field_at fields (place_of k)) } ∷ []

abbrev pub field_faults : ℕ → List (List ℕ) → List CsvKind → List RecordFault
field_faults n fields [] = []
field_faults n fields (k ∷ ks) = field_fault n fields k ++ field_faults n fields ks

-- what is wrong with a row: that it hasn't six fields, or each field that breaks its rule
unfoldable pub row_faults : ℕ → List (List ℕ) → List RecordFault
row_faults n fields = if length fields == 6 then field_faults n fields field_kinds else whole_fault n kind.Shape ∷ []

abbrev pub order_in : ℕ → Result OrderRow CsvKind → List NumberedOrder
order_in n (Ok order) = record { row = n; order = order } ∷ []
order_in n (Err k) = []

-- the order that a row is, where it is one
abbrev pub row_orders : ℕ → List (List ℕ) → List NumberedOrder
row_orders n fields = order_in n (order_of fields)

-- ---- a file

-- what is wrong with the records after the first n rows; there are at most 1,000 rows
abbrev pub faults_from : ℕ → List (List (List ℕ)) → List RecordFault
faults_from n [] = []
faults_from n (fields ∷ records) =
    if n == 1000 then whole_fault 1001 kind.TooManyRows ∷ []
    else row_faults (n + 1) fields ++ faults_from (n + 1) records

-- the orders among them
abbrev pub orders_from : ℕ → List (List (List ℕ)) → List NumberedOrder
orders_from n [] = []
orders_from n (fields ∷ records) = if n == 1000 then [] else row_orders (n + 1) fields ++ orders_from (n + 1) records

abbrev pub faults_in : List (List (List ℕ)) → List RecordFault
faults_in [] = whole_fault 0 kind.Header ∷ []
faults_in (header ∷ records) = if is_header header then faults_from 0 records else whole_fault 0 kind.Header ∷ []

abbrev pub orders_in : List (List (List ℕ)) → List NumberedOrder
orders_in [] = []
orders_in (header ∷ records) = if is_header header then orders_from 0 records else []

-- every fault of a file, and the orders among its rows
unfoldable pub faults_of : List ℕ → List RecordFault
faults_of text =
    if nat_lt 262144 (length text) then whole_fault 0 kind.TooLong ∷ []
    else faults_in (records_from default_config 1002 st.StartRecord (strip_bom text))

unfoldable pub numbered_orders_of : List ℕ → List NumberedOrder
numbered_orders_of text =
    if nat_lt 262144 (length text) then []
    else orders_in (records_from default_config 1002 st.StartRecord (strip_bom text))

-- what was examined is all of a file
pub record IsExaminedOf (text : List ℕ) (e : Examined) : Type 0 where
  pub faults : e.faults ≡ faults_of text
  pub orders : e.orders ≡ numbered_orders_of text
