-- What an order file says: the records of its text, the header first.
use Rattle.std.specs.Prelude.{ℕ, ◌+◌, Bool, false, ◌&&◌, ◌==◌, nat_lt, List, [], ◌∷◌, length, codes, Option, Some, None, option_and_then, ok_or, Result, Ok, Err, if◌then◌else◌, ◌≡◌, bytes_eq}
use Rattle.csv.specs.Records.{field_at}
use Rattle.csv.specs.Reading.{default_config, strip_bom, records_from, stops_reader}
use Rattle.csv.specs.declared.error.ErrorKind.{ErrorKind}
use Rattle.csv.specs.declared.parser.State.TheVariants as st
use Rattle.plant_base.specs.{is_id, greatest_amount, greatest_version, greatest_priority, is_due, OrderRow}
use Rattle.plant_orders.specs.Numbers.{bounded}
use Rattle.plant_orders.specs.declared.fault.CsvKind.{CsvKind}
use Rattle.plant_orders.specs.declared.fault.CsvKind.TheVariants as kind
use Rattle.plant_orders.specs.declared.fault.CsvFault.{CsvFault}

infixl 10 ◌>>=◌
abbrev pub ◌>>=◌ : {A B E : Type 0} → Result A E → (A → Result B E) → Result B E
(Ok x) >>= f = f x
(Err e) >>= f = Err e

abbrev pub kind_name : CsvKind → List ℕ
kind_name kind.TooLong = codes "TooLong"
kind_name kind.Header = codes "Header"
kind_name kind.Shape = codes "Shape"
kind_name kind.Order = codes "Order"
kind_name kind.Recipe = codes "Recipe"
kind_name kind.Version = codes "Version"
kind_name kind.Size = codes "Size"
kind_name kind.Due = codes "Due"
kind_name kind.Priority = codes "Priority"
kind_name kind.TooManyRows = codes "TooManyRows"
kind_name kind.Memory = codes "Memory"

abbrev pub fault : ℕ → CsvKind → CsvFault
fault row kind = record { row = row; kind = kind }

-- ---- fields

abbrev pub id_of : List ℕ → Option (List ℕ)
id_of text = if is_id text then Some text else None

abbrev pub due_of : List ℕ → Option (List ℕ)
due_of text = if is_due text then Some text else None

-- the field is there and is this text
abbrev pub field_is : Option (List ℕ) → List ℕ → Bool
field_is None text = false
field_is (Some field) text = bytes_eq field text

-- ---- records

-- the first record
abbrev pub is_header : List (List ℕ) → Bool
is_header fields =
    (length fields == 6) && field_is (field_at fields 0) (codes "order") && field_is (field_at fields 1) (codes "recipe")
    && field_is (field_at fields 2) (codes "version") && field_is (field_at fields 3) (codes "size")
    && field_is (field_at fields 4) (codes "due") && field_is (field_at fields 5) (codes "priority")

-- the order that a record is; the first field that breaks its rule is the fault
unfoldable pub order_of : List (List ℕ) → Result OrderRow CsvKind
order_of fields =
    if length fields == 6
    then (do
      order ← ok_or (option_and_then id_of (field_at fields 0)) kind.Order
      recipe ← ok_or (option_and_then id_of (field_at fields 1)) kind.Recipe
      version ← ok_or (option_and_then (bounded greatest_version) (field_at fields 2)) kind.Version
      size ← ok_or (option_and_then (bounded greatest_amount) (field_at fields 3)) kind.Size
      due ← ok_or (option_and_then due_of (field_at fields 4)) kind.Due
      priority ← ok_or (option_and_then (bounded greatest_priority) (field_at fields 5)) kind.Priority
      Ok (record { order = order; recipe = recipe; version = version; size = size; due = due; priority = priority }))
    else Err kind.Shape

-- ---- files

-- the fault of a row
abbrev pub in_row : {A : Type 0} → ℕ → Result A CsvKind → Result A CsvFault
in_row n (Ok x) = Ok x
in_row n (Err k) = Err (fault n k)

-- the orders of the records after the first n rows; there are at most 1,000
abbrev pub rows_of : ℕ → List (List (List ℕ)) → Result (List OrderRow) CsvFault
rows_of n [] = Ok []
rows_of n (fields ∷ records) =
    if n == 1000 then Err (fault 1001 kind.TooManyRows)
    else (in_row (n + 1) (order_of fields) >>= λ row. rows_of (n + 1) records >>= λ rows. Ok (row ∷ rows))

-- a file is its header and its rows
abbrev pub file_of : List (List (List ℕ)) → Result (List OrderRow) CsvFault
file_of [] = Err (fault 0 kind.Header)
file_of (header ∷ records) = if is_header header then rows_of 0 records else Err (fault 0 kind.Header)

-- what a text says, of which no record after the 1,002nd counts
unfoldable pub orders_of : List ℕ → Result (List OrderRow) CsvFault
orders_of text =
    if nat_lt 262144 (length text) then Err (fault 0 kind.TooLong)
    else file_of (records_from default_config 1002 st.StartRecord (strip_bom text))

-- ---- readings

-- the fault that an error of the reader is: of its source or of memory, or else of a record
abbrev pub read_fault : ErrorKind → CsvFault
read_fault e = if stops_reader e then fault 0 kind.Memory else fault 0 kind.Shape

-- want of memory is no row's, and says nothing of the text
abbrev pub FailsAs : {Y : Type 0} → CsvKind → CsvFault → Result Y CsvFault → Type 0
FailsAs kind.Memory e read = e.row ≡ 0
FailsAs _ e read = read ≡ Err e

-- the result is what the text says, want of memory aside
abbrev pub Gives : {Y : Type 0} → Result Y CsvFault → Result Y CsvFault → Type 0
Gives (Ok x) read = read ≡ Ok x
Gives (Err e) read = FailsAs e.kind e read
