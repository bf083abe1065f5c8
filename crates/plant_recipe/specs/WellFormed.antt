-- Which recipes are well formed.
use Rattle.std.specs.Prelude.{ℕ, ◌≤◌, IsTrue, count_by, Bool, true, false, ◌&&◌, not, nat_le, List, [], ◌∷◌, length}
use Rattle.std.specs.List.{list_any, list_all}
use Rattle.plant_base.specs.{greatest_amount, same, Header, RecipeLine}
use Rattle.plant_base.specs.declared.rows.RecipeLine.TheVariants.{In, Out, Parameter, Phase}
use Rattle.plant_recipe.specs.Progress.{greatest_phases}
use Rattle.plant_recipe.specs.Scaling.{scaled_of}

-- a master recipe: its header and its lines
pub record WholeRecipe : Type 0 where
  pub header : Header
  pub lines : List RecipeLine

abbrev pub greatest_lines : ℕ
greatest_lines = 128

-- ---- kinds of lines

-- an input of the definition
abbrev pub is_in_of : List ℕ → RecipeLine → Bool
is_in_of wanted (In def amount) = same def wanted
is_in_of wanted _ = false

-- an output of the definition
abbrev pub is_out_of : List ℕ → RecipeLine → Bool
is_out_of wanted (Out def amount) = same def wanted
is_out_of wanted _ = false

-- a parameter of the name
abbrev pub is_parameter_of : List ℕ → RecipeLine → Bool
is_parameter_of wanted (Parameter name value) = same name wanted
is_parameter_of wanted _ = false

abbrev pub is_phase : RecipeLine → Bool
is_phase (Phase unit_procedure operation phase) = true
is_phase _ = false

-- how many phases the procedure has
abbrev pub phases_of : List RecipeLine → ℕ
phases_of lines = count_by is_phase lines

-- ---- rules

-- 1 to 128 lines
abbrev pub has_allowed_length : List RecipeLine → Bool
has_allowed_length lines = nat_le 1 (length lines) && nat_le (length lines) greatest_lines

-- the least size isn't above the greatest
abbrev pub has_size_range : Header → Bool
has_size_range header = nat_le header.least header.greatest

-- there is a phase
abbrev pub has_phase : List RecipeLine → Bool
has_phase lines = list_any is_phase lines

-- the product is among the outputs, and so there is an output
abbrev pub has_product : List ℕ → List RecipeLine → Bool
has_product product lines = list_any (is_out_of product) lines

-- both are inputs of one definition, outputs of one definition or parameters of one name
abbrev pub repeats : RecipeLine → RecipeLine → Bool
repeats (In def amount) line = is_in_of def line
repeats (Out def amount) line = is_out_of def line
repeats (Parameter name value) line = is_parameter_of name line
repeats (Phase unit_procedure operation phase) line = false

-- a definition is at most once among the inputs and at most once among the outputs, and names of parameters are distinct
abbrev pub has_no_repeats : List RecipeLine → Bool
has_no_repeats [] = true
has_no_repeats (line ∷ lines) = not (list_any (repeats line) lines) && has_no_repeats lines

-- an input or output that is scaled to the size is no more than the greatest amount
abbrev pub fits : ℕ → ℕ → RecipeLine → Bool
fits base size (In def amount) = nat_le (scaled_of amount size base) greatest_amount
fits base size (Out def amount) = nat_le (scaled_of amount size base) greatest_amount
fits base size _ = true

-- every input and output does so at the size
abbrev pub all_fit : ℕ → ℕ → List RecipeLine → Bool
all_fit base size lines = list_all (fits base size) lines

abbrev pub is_well_formed : Header → List RecipeLine → Bool
is_well_formed header lines =
    has_allowed_length lines
    && has_size_range header
    && has_phase lines
    && has_product header.product lines
    && has_no_repeats lines
    && all_fit header.base header.greatest lines

-- ---- laws

-- how often a definition or a name is in the lines
pub record OccursOnce (lines : List RecipeLine) : Type 0 where
  pub inputs : (def : List ℕ) → count_by (is_in_of def) lines ≤ 1
  pub outputs : (def : List ℕ) → count_by (is_out_of def) lines ≤ 1
  pub parameters : (name : List ℕ) → count_by (is_parameter_of name) lines ≤ 1

-- in a well-formed recipe a definition is at most one input and one output, and a name that of at most one parameter
abbrev pub OccursOnceIfWellFormed : Type 0
OccursOnceIfWellFormed = (header : Header) (lines : List RecipeLine) → IsTrue (is_well_formed header lines) → OccursOnce lines

-- a well-formed recipe has 1 to 127 phases, which is all that a progress counts
abbrev pub HasPhasesIfWellFormed : Type 0
HasPhasesIfWellFormed = (header : Header) (lines : List RecipeLine) → IsTrue (is_well_formed header lines) → (1 ≤ phases_of lines) × (phases_of lines ≤ greatest_phases)
