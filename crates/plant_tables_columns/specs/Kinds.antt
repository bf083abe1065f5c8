-- Each kind of value that a column holds.
use Rattle.std.specs.Prelude.{ℕ, pos, Bool, true, false, List, Option, Some, None}
use Rattle.sqlite.specs.declared.types.Value.{Value}
use Rattle.sqlite.specs.declared.types.Value.TheVariants.{Null, Int, Text}
use Rattle.plant_base.specs.{recipe_state_name, job_state_name, batch_state_name, greatest_amount, greatest_moment, greatest_seq, greatest_sublot, edge_kind_number, mark_kind_number, BatchState, EdgeKind, JobState, MarkKind, RecipeState}
use Rattle.sql_tables.specs.{integer, text, integer_or_null, text_or_null}
use Rattle.plant_tables_columns.specs.Reading.{id_from, text_from, unit_from, due_from, content_from, number_from, one_from, line_number_from, flag_from, id_or_null, sublot_or_null, moment_or_null, readable_or_null}
use Rattle.plant_tables_columns.specs.Naming.{recipe_state_from, job_state_from, batch_state_from, recall_state_name, recall_state_from, movement_kind_number, movement_kind_from, edge_kind_from, mark_kind_from}
use Rattle.plant_tables_columns.specs.Columns.{Kind}
use Rattle.plant_tables_columns.specs.declared.booked.MovementKindCode.{MovementKindCode}
use Rattle.plant_tables_columns.specs.declared.recalls.RecallState.{RecallState}

-- ---- values

abbrev pub number : ℕ → Value
number n = Int (pos n)

-- 1 for true, 0 for false
abbrev pub flag : Bool → Value
flag true = number 1
flag false = number 0

-- NULL for none
abbrev pub null_or : {A : Type 0} → (A → Value) → Option A → Value
null_or stored None = Null
null_or stored (Some a) = stored a

-- ---- texts

abbrev pub ids : Kind (List ℕ)
ids = record { declared = text; stored = Text; read = id_from }

abbrev pub texts : Kind (List ℕ)
texts = record { declared = text; stored = Text; read = text_from }

abbrev pub units : Kind (List ℕ)
units = record { declared = text; stored = Text; read = unit_from }

abbrev pub dues : Kind (List ℕ)
dues = record { declared = text; stored = Text; read = due_from }

-- what commands said
abbrev pub contents : Kind (List ℕ)
contents = record { declared = text; stored = Text; read = content_from }

-- ---- numbers

-- those from low to high
abbrev pub numbers : ℕ → ℕ → Kind ℕ
numbers low high = record { declared = integer; stored = number; read = number_from low high }

abbrev pub amounts : Kind ℕ
amounts = numbers 1 greatest_amount

abbrev pub stocks : Kind ℕ
stocks = numbers 0 greatest_amount

abbrev pub moments : Kind ℕ
moments = numbers 0 greatest_moment

abbrev pub seqs : Kind ℕ
seqs = numbers 0 greatest_seq

abbrev pub sublot_numbers : Kind ℕ
sublot_numbers = numbers 0 greatest_sublot

abbrev pub line_numbers : Kind ℕ
line_numbers = record { declared = integer; stored = number; read = line_number_from }

-- the number 1, which says nothing
abbrev pub always_one : Kind (Unit {0})
always_one = record { declared = integer; stored = λ _. number 1; read = one_from }

abbrev pub flags : Kind Bool
flags = record { declared = integer; stored = flag; read = flag_from }

-- ---- states and sorts

abbrev pub recipe_states : Kind RecipeState
recipe_states = record { declared = text; stored = λ s. Text (recipe_state_name s); read = recipe_state_from }

abbrev pub job_states : Kind JobState
job_states = record { declared = text; stored = λ s. Text (job_state_name s); read = job_state_from }

abbrev pub batch_states : Kind BatchState
batch_states = record { declared = text; stored = λ s. Text (batch_state_name s); read = batch_state_from }

abbrev pub recall_states : Kind RecallState
recall_states = record { declared = text; stored = λ s. Text (recall_state_name s); read = recall_state_from }

abbrev pub movement_kind_codes : Kind MovementKindCode
movement_kind_codes = record { declared = integer; stored = λ s. number (movement_kind_number s); read = movement_kind_from }

abbrev pub edge_kinds : Kind EdgeKind
edge_kinds = record { declared = integer; stored = λ k. number (edge_kind_number k); read = edge_kind_from }

abbrev pub mark_kinds : Kind MarkKind
mark_kinds = record { declared = integer; stored = λ k. number (mark_kind_number k); read = mark_kind_from }

-- ---- what may be left out

abbrev pub ids_or_none : Kind (Option (List ℕ))
ids_or_none = record { declared = text_or_null; stored = null_or Text; read = id_or_null }

abbrev pub sublot_numbers_or_none : Kind (Option ℕ)
sublot_numbers_or_none = record { declared = integer_or_null; stored = null_or number; read = sublot_or_null }

abbrev pub moments_or_none : Kind (Option ℕ)
moments_or_none = record { declared = integer_or_null; stored = null_or number; read = moment_or_null }

abbrev pub texts_or_none : Kind (Option (List ℕ))
texts_or_none = record { declared = text_or_null; stored = null_or Text; read = readable_or_null }
