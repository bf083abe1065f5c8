-- Control recipes: copies of master recipes, scaled to a size.
use Rattle.std.specs.Prelude.{◌≡◌, ℕ, length, Bool, false, ◌&&◌, ◌==◌, nat_le, if◌then◌else◌, List, map, Option, Some, None}
use Rattle.std.specs.List.{list_any}
use Rattle.plant_base.specs.{Header, RecipeLine}
use Rattle.plant_base.specs.declared.rows.RecipeLine.TheVariants.{In, Out, Parameter, Phase}
use Rattle.plant_recipe.specs.WellFormed.{phases_of}
use Rattle.plant_recipe.specs.Scaling.{scaled_of}

-- the size is one of the recipe's
abbrev pub is_size_of : Header → ℕ → Bool
is_size_of header size = nat_le header.least size && nat_le size header.greatest

-- inputs and outputs are scaled, and the others copied
abbrev pub line_scaled : ℕ → ℕ → RecipeLine → RecipeLine
line_scaled base size (In def amount) = In def (scaled_of amount size base)
line_scaled base size (Out def amount) = Out def (scaled_of amount size base)
line_scaled base size (Parameter name value) = Parameter name value
line_scaled base size (Phase unit_procedure operation phase) = Phase unit_procedure operation phase

-- an input or output becomes 0
abbrev pub scales_to_nothing : ℕ → ℕ → RecipeLine → Bool
scales_to_nothing base size (In def amount) = scaled_of amount size base == 0
scales_to_nothing base size (Out def amount) = scaled_of amount size base == 0
scales_to_nothing base size _ = false

-- the lines in their order, scaled from the base to the size, and none where some amount becomes 0
abbrev pub lines_scaled : ℕ → ℕ → List RecipeLine → Option (List RecipeLine)
lines_scaled base size lines = if list_any (scales_to_nothing base size) lines then None else Some (map (line_scaled base size) lines)

-- the control recipe of a master recipe for a size
abbrev pub control_of : Header → List RecipeLine → ℕ → Option (List RecipeLine)
control_of header lines size = lines_scaled header.base size lines

-- ---- laws

-- a control recipe has the lines and the phases of its master recipe
abbrev pub KeepsProcedure : Type 0
KeepsProcedure = (header : Header) (lines control : List RecipeLine) (size : ℕ) → control_of header lines size ≡ Some control → (length control ≡ length lines) × (phases_of control ≡ phases_of lines)
