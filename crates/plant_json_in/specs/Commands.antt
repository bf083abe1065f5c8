-- Which objects are commands, and what is wrong with the others.
use Rattle.std.specs.Prelude.{ℕ, List, [], ◌∷◌, codes, Option, Some, None, option_map, option_and_then, Result, Err}
use Rattle.std.specs.Option.{option_or}
use Rattle.serde_json.specs.Data.{Data}
use Rattle.serde_json.specs.Find.{get, as_str}
use Rattle.plant_base.specs.{Command, Envelope}
use Rattle.plant_json_in.specs.declared.command_tables.CommandKind.{CommandKind}
use Rattle.plant_json_in.specs.declared.fields.Field.{Field}
use Rattle.plant_json_in.specs.declared.format_errors.FormatError.{FormatError}
use Rattle.plant_json_in.specs.CommandTables.{command_kind}
use Rattle.plant_json_in.specs.Tables.{shared_members}
use Rattle.plant_json_in.specs.CommandTables.{own_of}
use Rattle.plant_json_in.specs.FormatErrors.{◌>>=◌, object, or_malformed}
use Rattle.plant_json_in.specs.Fields.{fields_of, none_other}
use Rattle.plant_json_in.specs.declared.command_tables.CommandKind.TheVariants as c
use Rattle.plant_json_in.specs.declared.fields.Field.TheVariants as field
use Rattle.plant_json_in.specs.declared.format_errors.ShapeError.TheVariants as shape_error
use Rattle.plant_json_in.specs.declared.format_errors.FormatError.TheVariants as format_error
use Rattle.plant_json_in.specs.Plain.{goods_of, blocks_of, plans_of, batches_of}
use Rattle.plant_json_in.specs.Listing.{merge_of, add_recipe_of, import_orders_of}

-- the command that the values make, where they alone make one
abbrev pub plain_of : CommandKind → List Field → Option Command
plain_of kind fs = option_or (option_or (option_or (goods_of kind fs) (blocks_of kind fs)) (plans_of kind fs)) (batches_of kind fs)

-- the command that the values make, with its list
abbrev pub body_of : CommandKind → List Field → Data → Result Command FormatError
body_of c.Merge fs d = merge_of fs d
body_of c.AddRecipe fs d = add_recipe_of fs d
body_of c.ImportOrders fs d = import_orders_of fs d
body_of kind fs d = object (or_malformed (plain_of kind fs))

-- a text that may be left out, and is empty then
abbrev pub text_or_empty : Field → Option (List ℕ)
text_or_empty (field.Text text) = Some text
text_or_empty field.Absent = Some (codes "")
text_or_empty _ = None

-- an id that may be left out, and is none then
abbrev pub id_or_none : Field → Option (Option (List ℕ))
id_or_none (field.Id id) = Some (Some id)
id_or_none field.Absent = Some None
id_or_none _ = None

-- the envelope of a command, of the values that each command has
abbrev pub envelope_with : List Field → Command → Option Envelope
envelope_with (field.Moment at ∷ field.Text by ∷ note ∷ reference ∷ field.Chosen ∷ []) body =
    option_and_then (λ n. option_map (λ r. record { at = at; by = by; note = n; reference = r; body = body }) (id_or_none reference)) (text_or_empty note)
envelope_with _ body = None

abbrev pub kind_at : Data → Option CommandKind
kind_at d = option_and_then command_kind (option_and_then as_str (get (codes "do") d))

-- first the members that it has of its own, then its list, then a member that doesn't belong there; an object of no kind has a flaw in
-- `do`, which is reported before
abbrev pub command_by : Option CommandKind → List Field → Data → Result Envelope FormatError
command_by None shared d = Err (format_error.Object shape_error.Malformed)
command_by (Some kind) shared d =
    object (fields_of (own_of kind) d) >>= (λ own. body_of kind own d >>= (λ body.
    object (none_other shared_members (own_of kind) d) >>= (λ u. object (or_malformed (envelope_with shared body)))))

-- the command that the object is, or its first problem, beginning with the members that each command has
abbrev pub command_of : Data → Result Envelope FormatError
command_of d = object (fields_of shared_members d) >>= (λ shared. command_by (kind_at d) shared d)
