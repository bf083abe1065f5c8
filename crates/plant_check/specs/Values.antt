-- Stored rows of which a value breaks its rule.
use Rattle.std.specs.Prelude.{◌≡◌, ℕ, ◌+◌, false, List, [], ◌∷◌, Option, Some, None, unwrap_or, if◌then◌else◌}
use Rattle.sqlite.specs.Order.{Row, column}
use Rattle.plant_tables.specs.{contents_loaded, Loaded}
use Rattle.plant_requirements.specs.{all_tables, as_a_whole, in_column, or_fault, Column, RowKey, RowFault, Table}
use Rattle.plant_check.specs.StoredKeys.{found_in}
use Rattle.plant_check.specs.TableRules.{is_read, key_in, rules_of}
use Rattle.plant_check.specs.ValueRules.{obeys}
use Rattle.plant_check.specs.declared.values.BadValue.{BadValue}
use Rattle.plant_requirements.specs.declared.value_rule.ValueRule.{ValueRule}
use Rattle.plant_requirements.specs.declared.fault.RowKey.TheVariants as key
use Rattle.plant_requirements.specs.declared.fault.Wanted.TheVariants as wanted

-- the key of a row, or where it can't be read, its position in the order of the key, which is given
abbrev pub key_or_place : Table → ℕ → Row → RowKey
key_or_place t place row = unwrap_or (key_in t row) (key.Place place)

-- the value of the column of this index, which breaks the rule of the column
abbrev pub bad_value : Column × ValueRule → Row → ℕ → BadValue
bad_value r row at = record { column = r.0; found = found_in (column row at); rule = r.1 }

-- the value of the first column that breaks its rule, the first of these columns having this index
abbrev pub first_bad_value : List (Column × ValueRule) → ℕ → Row → Option BadValue
first_bad_value [] at row = None
first_bad_value (r ∷ rs) at row = if obeys r.1 (column row at) then first_bad_value rs (at + 1) row else Some (bad_value r row at)

-- the row of this table and key, where this value breaks its rule; as a whole, where each value alone obeys its rule
abbrev pub fault_of_values : Table × RowKey → Option BadValue → RowFault
fault_of_values place None = as_a_whole place wanted.Values
fault_of_values place (Some bad) = in_column place bad.column bad.found (wanted.Value bad.rule)

-- the fault of a row of the table that can't be decoded and has this position in the order of the key
unfoldable pub unread_fault : Table → ℕ → Row → RowFault
unread_fault t place row = fault_of_values (t, key_or_place t place row) (first_bad_value (rules_of t) 0 row)

-- the first row of the table that can't be decoded, the first of these having this position in the order of the key
abbrev pub first_unread : Table → ℕ → List Row → Option RowFault
first_unread t place [] = None
first_unread t place (x ∷ xs) = if is_read t x then first_unread t (place + 1) xs else Some (unread_fault t place x)

-- the first row that can't be decoded, of these tables, the first of which was loaded at this index
abbrev pub first_unread_of : Loaded → ℕ → List Table → Option RowFault
first_unread_of x at [] = None
first_unread_of x at (t ∷ ts) = or_fault (first_unread t 1 (contents_loaded x at)) (first_unread_of x (at + 1) ts)

-- the first stored row that can't be decoded, of all tables but meta: which row has which key, and which value breaks its rule
abbrev pub value_fault_in : Loaded → Option RowFault
value_fault_in x = first_unread_of x 1 all_tables

-- no row of a table is read of which a value breaks the rule of its column
abbrev pub AreUnreadIfBad : Type 0
AreUnreadIfBad = (t : Table) (row : Row) (bad : BadValue) → first_bad_value (rules_of t) 0 row ≡ Some bad → is_read t row ≡ false
