-- Lists inside commands: the rows of each, and what their values make.
use Rattle.std.specs.Prelude.{ℕ, ◌+◌, List, [], ◌∷◌, codes, if◌then◌else◌, Option, Some, None, option_and_then, is_some, Result, Ok, Err}
use Rattle.serde_json.specs.Data.{Data, Items, no_items, item}
use Rattle.serde_json.specs.Find.{get, as_str, as_array, as_object}
use Rattle.plant_base.specs.{OrderRow, Part, RecipeLine}
use Rattle.plant_base.specs.declared.rows.RecipeLine.TheVariants as line
use Rattle.plant_json_in.specs.declared.fields.Field.{Field}
use Rattle.plant_json_in.specs.declared.format_errors.FormatError.{FormatError}
use Rattle.plant_json_in.specs.declared.members.Member.{Member}
use Rattle.plant_json_in.specs.declared.words.RowKind.{RowKind}
use Rattle.plant_json_in.specs.declared.format_errors.ShapeError.{ShapeError}
use Rattle.plant_json_in.specs.Members.{name_of}
use Rattle.plant_json_in.specs.Words.{line_kind}
use Rattle.plant_json_in.specs.Tables.{row_own}
use Rattle.plant_json_in.specs.FormatErrors.{◌>>=◌, or_malformed}
use Rattle.plant_json_in.specs.Fields.{fields_of, exactly}
use Rattle.plant_json_in.specs.declared.members.Member.TheVariants as m
use Rattle.plant_json_in.specs.declared.words.RowKind.TheVariants as row
use Rattle.plant_json_in.specs.declared.fields.Field.TheVariants as field
use Rattle.plant_json_in.specs.declared.format_errors.ShapeError.TheVariants as shape_error
use Rattle.plant_json_in.specs.declared.format_errors.FormatError.TheVariants as format_error

-- ---- what the values of a row make

abbrev pub part_of : RowKind → List Field → Option Part
part_of row.Part (field.Id lot ∷ field.Number sub ∷ field.Amount amount ∷ []) = Some (record { lot = lot; sub = sub; amount = amount })
part_of _ _ = None

abbrev pub order_of : RowKind → List Field → Option OrderRow
order_of row.Order (field.Id order ∷ field.Id recipe ∷ field.Number version ∷ field.Amount size ∷ field.Due due ∷ field.Small priority ∷ []) =
    Some (record { order = order; recipe = recipe; version = version; size = size; due = due; priority = priority })
order_of _ _ = None

abbrev pub line_of : RowKind → List Field → Option RecipeLine
line_of row.In (field.Chosen ∷ field.Id def ∷ field.Amount qty ∷ []) = Some (line.In def qty)
line_of row.Out (field.Chosen ∷ field.Id def ∷ field.Amount qty ∷ []) = Some (line.Out def qty)
line_of row.Parameter (field.Chosen ∷ field.Id name ∷ field.Text value ∷ []) = Some (line.Parameter name value)
line_of row.Phase (field.Chosen ∷ field.Id unit ∷ field.Id oper ∷ field.Id phase ∷ []) = Some (line.Phase unit oper phase)
line_of _ _ = None

-- which line of a recipe an object is
abbrev pub line_row : Data → Option RowKind
line_row d = option_and_then line_kind (option_and_then as_str (get (codes "kind") d))

-- ---- rows and lists, by which row an object is and what its values make

-- an object of no kind has at least that flaw
abbrev pub item_by : {T : Type 0} → (RowKind → List Field → Option T) → Option RowKind → Data → Result T ShapeError
item_by make None d = fields_of (m.Kind ∷ []) d >>= (λ fs. Err shape_error.Malformed)
item_by make (Some r) d = exactly (row_own r) d >>= (λ fs. or_malformed (make r fs))

abbrev pub item_of : {T : Type 0} → (RowKind → List Field → Option T) → (Data → Option RowKind) → Data → Result T ShapeError
item_of make row_at d = if is_some (as_object d) then item_by make (row_at d) d else Err shape_error.NoObject

abbrev pub numbered : {T : Type 0} → Member → ℕ → Result T ShapeError → Result T FormatError
numbered list n (Ok x) = Ok x
numbered list n (Err f) = Err (format_error.Item list n f)

-- the items, or the problem of the first that has one; they are counted, here from n on
abbrev pub items_from : {T : Type 0} → (RowKind → List Field → Option T) → (Data → Option RowKind) → Member → ℕ → Items → Result (List T) FormatError
items_from make row_at list n no_items = Ok []
items_from make row_at list n (item d ds) = numbered list n (item_of make row_at d) >>= (λ x. items_from make row_at list (n + 1) ds >>= (λ xs. Ok (x ∷ xs)))

abbrev pub items_where : {T : Type 0} → (RowKind → List Field → Option T) → (Data → Option RowKind) → Member → Option Items → Result (List T) FormatError
items_where make row_at list None = Err (format_error.Object (shape_error.Breaks list))
items_where make row_at list (Some ds) = items_from make row_at list 1 ds

-- the items of the list under a member
abbrev pub items_at : {T : Type 0} → (RowKind → List Field → Option T) → (Data → Option RowKind) → Member → Data → Result (List T) FormatError
items_at make row_at list d = items_where make row_at list (option_and_then as_array (get (name_of list) d))
