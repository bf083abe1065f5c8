-- An import says of a file what its examination finds.
use Rattle.std.proofs.Common.{◌≡◌, ◌∙◌, ℕ, ◌+◌, Bool, true, false, ◌==◌, nat_lt, List, [], ◌∷◌, ◌++◌, length, Option, Some, None, is_some, option_and_then, ok_or, Result, Ok, if◌then◌else◌, refl, ap}
use Rattle.csv.specs.Records.{field_at}
use Rattle.csv.specs.Reading.{default_config, strip_bom, records_from}
use Rattle.csv.specs.declared.parser.State.TheVariants as st
use Rattle.plant_base.specs.{greatest_amount, greatest_version, greatest_priority, OrderRow}
use Rattle.plant_orders.specs.Numbers.{bounded}
use Rattle.plant_orders.specs.Orders.{◌>>=◌, due_of, fault, file_of, id_of, in_row, is_header, order_of, orders_of, rows_of}
use Rattle.plant_orders.specs.EveryFault.{faults_from, faults_in, faults_of, numbered_orders_of, order_in, orders_from, orders_in, place_of, row_faults, row_orders, text_or_none}
use Rattle.plant_orders.specs.Law.{orders_or_fault}
use Rattle.plant_orders.specs.declared.examining.NumberedOrder.{NumberedOrder}
use Rattle.plant_orders.specs.declared.examining.RecordFault.{RecordFault}
use Rattle.plant_orders.specs.declared.fault.CsvKind.{CsvKind}
use Rattle.plant_orders.specs.declared.fault.CsvKind.TheVariants as kind

-- ---- a row

-- a good row before others
before_others : (n : ℕ) (order : OrderRow) (faults : List RecordFault) (orders : List NumberedOrder)
    → (orders_or_fault faults orders >>= λ rows. Ok (order ∷ rows)) ≡ orders_or_fault faults (record { row = n; order = order } ∷ orders)
before_others n order [] orders = refl
before_others n order (f ∷ faults) orders = refl

-- the order of six fields, of which each keeps its rule or doesn't
abbrev order_by : (order recipe : Option (List ℕ)) (version size : Option ℕ) (due : Option (List ℕ)) (priority : Option ℕ) → Result OrderRow CsvKind
order_by a b c d e f =
    ok_or a kind.Order >>= λ order. ok_or b kind.Recipe >>= λ recipe. ok_or c kind.Version >>= λ version. ok_or d kind.Size >>= λ size.
    ok_or e kind.Due >>= λ due. ok_or f kind.Priority >>= λ priority.
    Ok (record { order = order; recipe = recipe; version = version; size = size; due = due; priority = priority })

abbrev fault_by : ℕ → CsvKind → List ℕ → Bool → List RecordFault
fault_by n k text holds = if holds then [] else record { fault = fault n k; found = text } ∷ []

abbrev faults_by : ℕ → (CsvKind → List ℕ) → (order recipe : Option (List ℕ)) (version size : Option ℕ) (due : Option (List ℕ)) (priority : Option ℕ) → List RecordFault
faults_by n text a b c d e f =
    fault_by n kind.Order (text kind.Order) (is_some a) ++ (fault_by n kind.Recipe (text kind.Recipe) (is_some b) ++ (fault_by n kind.Version (text kind.Version) (is_some c)
    ++ (fault_by n kind.Size (text kind.Size) (is_some d) ++ (fault_by n kind.Due (text kind.Due) (is_some e) ++ (fault_by n kind.Priority (text kind.Priority) (is_some f) ++ [])))))

by_fields : (n : ℕ) (text : CsvKind → List ℕ) (a b : Option (List ℕ)) (c d : Option ℕ) (e : Option (List ℕ)) (f : Option ℕ) (faults : List RecordFault) (orders : List NumberedOrder)
    → (in_row n (order_by a b c d e f) >>= λ row. orders_or_fault faults orders >>= λ rows. Ok (row ∷ rows))
    ≡ orders_or_fault (faults_by n text a b c d e f ++ faults) (order_in n (order_by a b c d e f) ++ orders)
by_fields n text None b c d e f faults orders = refl
by_fields n text (Some a) None c d e f faults orders = refl
by_fields n text (Some a) (Some b) None d e f faults orders = refl
by_fields n text (Some a) (Some b) (Some c) None e f faults orders = refl
by_fields n text (Some a) (Some b) (Some c) (Some d) None f faults orders = refl
by_fields n text (Some a) (Some b) (Some c) (Some d) (Some e) None faults orders = refl
by_fields n text (Some a) (Some b) (Some c) (Some d) (Some e) (Some f) faults orders = before_others n _ faults orders

module _ (n : ℕ) (fields : List (List ℕ)) (faults : List RecordFault) (orders : List NumberedOrder) where
  shape_by : (b : Bool) → (length fields == 6) ≡ b
      → (in_row n (order_of fields) >>= λ row. orders_or_fault faults orders >>= λ rows. Ok (row ∷ rows)) ≡ orders_or_fault (row_faults n fields ++ faults) (row_orders n fields ++ orders)
  unfolding order_of row_faults
  shape_by true e =
      rw e (by_fields n (λ k. text_or_none (field_at fields (place_of k))) (option_and_then id_of (field_at fields 0)) (option_and_then id_of (field_at fields 1))
      (option_and_then (bounded greatest_version) (field_at fields 2)) (option_and_then (bounded greatest_amount) (field_at fields 3))
      (option_and_then due_of (field_at fields 4)) (option_and_then (bounded greatest_priority) (field_at fields 5)) faults orders)
  shape_by false e = rw e refl

  -- a row adds its order, or its first fault, to what the others say
  row_agrees : (in_row n (order_of fields) >>= λ row. orders_or_fault faults orders >>= λ rows. Ok (row ∷ rows)) ≡ orders_or_fault (row_faults n fields ++ faults) (row_orders n fields ++ orders)
  row_agrees = shape_by (length fields == 6) refl

-- ---- a file

more_by : (n : ℕ) (fields : List (List ℕ)) (records : List (List (List ℕ))) → rows_of (n + 1) records ≡ orders_or_fault (faults_from (n + 1) records) (orders_from (n + 1) records)
    → (b : Bool) → (n == 1000) ≡ b → rows_of n (fields ∷ records) ≡ orders_or_fault (faults_from n (fields ∷ records)) (orders_from n (fields ∷ records))
more_by n fields records more true e = rw e refl
more_by n fields records more false e =
    rw e (ap (λ r. in_row (n + 1) (order_of fields) >>= λ row. r >>= λ rows. Ok (row ∷ rows)) more
    ∙ row_agrees (n + 1) fields (faults_from (n + 1) records) (orders_from (n + 1) records))

rows_agree : (n : ℕ) (records : List (List (List ℕ))) → rows_of n records ≡ orders_or_fault (faults_from n records) (orders_from n records)
rows_agree n [] = refl
rows_agree n (fields ∷ records) = more_by n fields records (rows_agree (n + 1) records) (n == 1000) refl

header_by : (header : List (List ℕ)) (records : List (List (List ℕ))) (b : Bool) → is_header header ≡ b
    → file_of (header ∷ records) ≡ orders_or_fault (faults_in (header ∷ records)) (orders_in (header ∷ records))
header_by header records true e = rw e (rows_agree 0 records)
header_by header records false e = rw e refl

file_agrees : (records : List (List (List ℕ))) → file_of records ≡ orders_or_fault (faults_in records) (orders_in records)
file_agrees [] = refl
file_agrees (header ∷ records) = header_by header records (is_header header) refl

length_by : (text : List ℕ) (b : Bool) → nat_lt 262144 (length text) ≡ b → orders_of text ≡ orders_or_fault (faults_of text) (numbered_orders_of text)
unfolding orders_of faults_of numbered_orders_of
length_by text true e = rw e refl
length_by text false e = rw e (file_agrees (records_from default_config 1002 st.StartRecord (strip_bom text)))

pub import_agrees : (text : List ℕ) → orders_of text ≡ orders_or_fault (faults_of text) (numbered_orders_of text)
import_agrees text = length_by text (nat_lt 262144 (length text)) refl
