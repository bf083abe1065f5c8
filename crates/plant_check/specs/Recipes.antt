-- Recipes and their lines that break a rule.
use Rattle.std.specs.Prelude.{List, map, Option}
use Rattle.plant_base.specs.{Definition, Header, MasterLine, Recipe, RecipeLine}
use Rattle.plant_base.specs.declared.rows.RecipeLine.TheVariants as line
use Rattle.plant_recipe.specs.{is_well_formed}
use Rattle.plant_view.specs.{is_defined, is_known, rows_among, lines_among}
use Rattle.plant_requirements.specs.{are_numbered, is_recipe_among}
use Rattle.plant_requirements.specs.{recipe_key, recipe_line_key}
use Rattle.plant_requirements.specs.{Found, RowFault, in_column, names_none, as_a_whole, fault_unless, or_fault, first_reported}
use Rattle.plant_requirements.specs.declared.table_names.Table.TheVariants as table
use Rattle.plant_requirements.specs.declared.fault.Column.TheVariants as column
use Rattle.plant_requirements.specs.declared.fault.Found.TheVariants as found
use Rattle.plant_requirements.specs.declared.fault.Wanted.TheVariants as wanted

-- the definition that a line names, where it names one
abbrev pub definition_found : RecipeLine → Found
definition_found (line.In def amount) = found.Id def
definition_found (line.Out def amount) = found.Id def
definition_found (line.Parameter name value) = found.Row
definition_found (line.Phase unit_procedure operation phase) = found.Row

-- the line, where the definition that it names isn't there
abbrev pub line_fault : List Definition → MasterLine → Option RowFault
line_fault definitions l = fault_unless (is_known definitions l.line) (in_column (table.RecipeLine, recipe_line_key l) column.Def (definition_found l.line) (wanted.Key table.Definition))

-- the recipe with these rows of lines, where it isn't well formed, they aren't numbered from 1 on, or what it names isn't there
abbrev pub ill_formed_fault : List Definition → Header → List MasterLine → List RecipeLine → Option RowFault
ill_formed_fault definitions h rows lines =
    or_fault (fault_unless (is_well_formed h lines) (as_a_whole (table.Recipe, recipe_key h) wanted.WellFormed))
    (or_fault (fault_unless (are_numbered 1 (map (λ l. l.number) rows)) (as_a_whole (table.Recipe, recipe_key h) (wanted.NumberedFrom table.RecipeLine 1)))
    (or_fault (fault_unless (is_defined definitions h.product) (names_none (table.Recipe, recipe_key h) column.Product h.product table.Definition))
    (first_reported (line_fault definitions) rows)))

abbrev pub recipe_fault : List Definition → List MasterLine → Recipe → Option RowFault
recipe_fault definitions rows r = ill_formed_fault definitions r.header (rows_among rows r.header.recipe r.header.version) (lines_among rows r.header.recipe r.header.version)

-- the line, where its recipe isn't there
abbrev pub stray_line_fault : List Recipe → MasterLine → Option RowFault
stray_line_fault recipes l = fault_unless (is_recipe_among recipes l.recipe l.version) (names_none (table.RecipeLine, recipe_line_key l) column.Recipe l.recipe table.Recipe)

abbrev pub recipe_fault_in : List Definition → List Recipe → List MasterLine → Option RowFault
recipe_fault_in definitions recipes rows = or_fault (first_reported (recipe_fault definitions rows) recipes) (first_reported (stray_line_fault recipes) rows)
