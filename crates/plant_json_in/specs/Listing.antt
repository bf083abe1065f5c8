-- Commands that have a list.
use Rattle.std.specs.Prelude.{List, [], ◌∷◌, Some, Result, Ok, Err}
use Rattle.serde_json.specs.Data.{Data}
use Rattle.plant_base.specs.{Command}
use Rattle.plant_base.specs.declared.commands.Command.TheVariants as body
use Rattle.plant_json_in.specs.declared.members.Member.TheVariants as m
use Rattle.plant_json_in.specs.declared.words.RowKind.TheVariants as row
use Rattle.plant_json_in.specs.declared.fields.Field.{Field}
use Rattle.plant_json_in.specs.declared.format_errors.FormatError.{FormatError}
use Rattle.plant_json_in.specs.FormatErrors.{◌>>=◌}
use Rattle.plant_json_in.specs.declared.fields.Field.TheVariants as field
use Rattle.plant_json_in.specs.declared.format_errors.ShapeError.TheVariants as shape_error
use Rattle.plant_json_in.specs.declared.format_errors.FormatError.TheVariants as format_error
use Rattle.plant_json_in.specs.Lists.{items_at, part_of, line_of, line_row, order_of}

abbrev pub merge_of : List Field → Data → Result Command FormatError
merge_of (field.Id new ∷ field.Text place ∷ field.List ∷ []) d =
    items_at part_of (λ d. Some row.Part) m.Parts d >>= (λ parts. Ok (body.Merge (record { new = new; place = place; parts = parts })))
merge_of _ d = Err (format_error.Object shape_error.Malformed)

abbrev pub add_recipe_of : List Field → Data → Result Command FormatError
add_recipe_of (field.Id recipe ∷ field.Number version ∷ field.Id product ∷ field.Amount base ∷ field.Amount least ∷ field.Amount greatest ∷ field.Text title ∷ field.List ∷ []) d =
    items_at line_of line_row m.Lines d >>= (λ lines. Ok (body.AddRecipe (record { header = record { recipe = recipe; version = version; product = product; base = base; least = least; greatest = greatest; title = title }; lines = lines })))
add_recipe_of _ d = Err (format_error.Object shape_error.Malformed)

abbrev pub import_orders_of : List Field → Data → Result Command FormatError
import_orders_of (field.List ∷ []) d =
    items_at order_of (λ d. Some row.Order) m.Orders d >>= (λ orders. Ok (body.ImportOrders (record { orders = orders })))
import_orders_of _ d = Err (format_error.Object shape_error.Malformed)
