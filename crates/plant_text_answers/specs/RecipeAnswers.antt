-- The JSON trees of answers about definitions, recipes and the control recipes of batches.
use Rattle.std.specs.Prelude.{ℕ, List, Option, codes}
use Rattle.serde_json.specs.Data.{Data, string, object, member, no_members}
use Rattle.plant_base.specs.{recipe_state_name, Definition, RecipeLine}
use Rattle.plant_base.specs.declared.rows.RecipeLine.TheVariants as line
use Rattle.plant_questions.specs.{BatchLines, BookedLine, RecipeAnswer, RecipeLineAnswer}
use Rattle.plant_text_answers.specs.ListAnswers.{rows_data}
use Rattle.plant_text_answers.specs.Natural.{natural}
use Rattle.plant_text_answers.specs.Parts.{unit_or_null}

abbrev pub definition_data : Definition → Data
definition_data d = object (member (codes "class") (string d.class) (member (codes "def") (string d.id) (member (codes "name") (string d.name)
    (member (codes "unit") (string d.unit) no_members))))

-- ---- lines

-- an input or an output of a recipe, by the word of its kind
abbrev pub material_data : List ℕ → List ℕ → ℕ → Option (List ℕ) → Data
material_data kind def amount unit = object (member (codes "def") (string def) (member (codes "kind") (string kind) (member (codes "qty") (natural amount)
    (member (codes "unit") (unit_or_null unit) no_members))))

-- the same of a control recipe, with what was booked of it
abbrev pub booked_data : List ℕ → List ℕ → ℕ → BookedLine → Data
booked_data kind def asked b = object (member (codes "asked") (natural asked) (member (codes "booked") (natural b.booked) (member (codes "def") (string def)
    (member (codes "kind") (string kind) (member (codes "unit") (unit_or_null b.measured.unit) no_members)))))

abbrev pub parameter_data : List ℕ → List ℕ → Data
parameter_data name value = object (member (codes "kind") (string (codes "par")) (member (codes "name") (string name) (member (codes "value") (string value) no_members)))

abbrev pub phase_data : List ℕ → List ℕ → List ℕ → Data
phase_data unit_procedure operation phase = object (member (codes "kind") (string (codes "phase")) (member (codes "oper") (string operation) (member (codes "phase") (string phase)
    (member (codes "unit") (string unit_procedure) no_members))))

abbrev pub recipe_line_data : RecipeLine → Option (List ℕ) → Data
recipe_line_data (line.In def amount) unit = material_data (codes "in") def amount unit
recipe_line_data (line.Out def amount) unit = material_data (codes "out") def amount unit
recipe_line_data (line.Parameter name value) unit = parameter_data name value
recipe_line_data (line.Phase unit_procedure operation phase) unit = phase_data unit_procedure operation phase

abbrev pub recipe_line_item : RecipeLineAnswer → Data
recipe_line_item a = recipe_line_data a.line a.unit

abbrev pub booked_line_data : RecipeLine → BookedLine → Data
booked_line_data (line.In def amount) b = booked_data (codes "in") def amount b
booked_line_data (line.Out def amount) b = booked_data (codes "out") def amount b
booked_line_data (line.Parameter name value) b = parameter_data name value
booked_line_data (line.Phase unit_procedure operation phase) b = phase_data unit_procedure operation phase

abbrev pub booked_line_item : BookedLine → Data
booked_line_item b = booked_line_data b.measured.line.line b

-- ---- answers

abbrev pub recipe_data : RecipeAnswer → Data
recipe_data a = object (member (codes "base") (natural a.recipe.header.base) (member (codes "lines") (rows_data recipe_line_item a.lines) (member (codes "max") (natural a.recipe.header.greatest)
    (member (codes "min") (natural a.recipe.header.least) (member (codes "product") (string a.recipe.header.product) (member (codes "recipe") (string a.recipe.header.recipe)
    (member (codes "state") (string (recipe_state_name a.recipe.state)) (member (codes "title") (string a.recipe.header.title) (member (codes "unit") (unit_or_null a.unit)
    (member (codes "version") (natural a.recipe.header.version) no_members))))))))))

abbrev pub batch_lines_data : BatchLines → Data
batch_lines_data a = object (member (codes "batch") (string a.batch) (member (codes "lines") (rows_data booked_line_item a.lines) no_members))
