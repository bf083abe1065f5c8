-- Why a command is refused whatever the desk's state, though each of its members keeps its rule.
use Rattle.std.specs.Prelude.{ℕ, ◌+◌, ◌&&◌, List, [], ◌∷◌, ◌++◌, length, Bool, not, nat_le, if◌then◌else◌, codes, decimal, Option, Some, None}
use Rattle.plant_base.specs.{greatest_amount, is_well_formed_command, is_same_sublot, Command, Header, OrderRow, Part, RecipeLine}
use Rattle.plant_base.specs.declared.commands.Command.TheVariants as body
use Rattle.plant_recipe.specs.{has_allowed_length, has_size_range, has_phase, has_product, repeats, fits}
use Rattle.plant_text_checks.specs.declared.command_errors.CommandError.{CommandError}
use Rattle.plant_text_checks.specs.declared.command_errors.CommandError.TheVariants as command_error

-- ---- positions in a list

abbrev pub one_more : Option ℕ → Option ℕ
one_more None = None
one_more (Some n) = Some (n + 1)

-- how many items come before the first that passes
abbrev pub index_of : {A : Type 0} → (A → Bool) → List A → Option ℕ
index_of p [] = None
index_of p (x ∷ xs) = if p x then Some 0 else one_more (index_of p xs)

abbrev pub pair_with : Option ℕ → Option (ℕ × ℕ) → Option (ℕ × ℕ)
pair_with (Some n) later = Some (0, n + 1)
pair_with None (Some p) = Some (p.0 + 1, p.1 + 1)
pair_with None None = None

-- an item and the first after it that repeats it, by how many come before each
abbrev pub pair_of : {A : Type 0} → (A → A → Bool) → List A → Option (ℕ × ℕ)
pair_of again [] = None
pair_of again (x ∷ xs) = pair_with (index_of (again x) xs) (pair_of again xs)

-- ---- what is wrong

-- this, where that doesn't hold
abbrev pub unless : {A : Type 0} → Bool → A → Option A → Option A
unless holds wrong other = if holds then other else Some wrong

-- the first of the two that is there
abbrev pub first_of : {A : Type 0} → Option A → Option A → Option A
first_of (Some x) other = Some x
first_of None other = other

abbrev pub parts_again : Option (ℕ × ℕ) → Option CommandError
parts_again None = None
parts_again (Some p) = Some (command_error.SamePart (p.0 + 1) (p.1 + 1))

abbrev pub lines_again : Option (ℕ × ℕ) → Option CommandError
lines_again None = None
lines_again (Some p) = Some (command_error.SameLine (p.0 + 1) (p.1 + 1))

abbrev pub too_much : Option ℕ → Option CommandError
too_much None = None
too_much (Some n) = Some (command_error.TooMuch (n + 1))

-- a merge has 1 to 16 parts, of distinct sublots
abbrev pub parts_error : List Part → Option CommandError
parts_error ps =
    unless (nat_le 1 (length ps) && nat_le (length ps) 16) (command_error.Parts (length ps))
    (parts_again (pair_of is_same_sublot ps))

-- an import has at most 1,000 orders
abbrev pub orders_error : List OrderRow → Option CommandError
orders_error orders = unless (nat_le (length orders) 1000) (command_error.Orders (length orders)) None

-- the first condition on what the lines are for that doesn't hold
abbrev pub lines_error : List ℕ → List RecipeLine → Option CommandError
lines_error product ls =
    unless (has_phase ls) command_error.NoPhase
    (unless (has_product product ls) (command_error.NoProduct product)
    (lines_again (pair_of repeats ls)))

-- the first line whose amount doesn't fit at the greatest size
abbrev pub amounts_error : Header → List RecipeLine → Option CommandError
amounts_error h ls = too_much (index_of (λ line. not (fits h.base h.greatest line)) ls)

-- the first condition of a well-formed recipe that doesn't hold
abbrev pub recipe_error : Header → List RecipeLine → Option CommandError
recipe_error h ls =
    unless (has_allowed_length ls) (command_error.Lines (length ls))
    (unless (has_size_range h) command_error.Sizes
    (first_of (lines_error h.product ls) (amounts_error h ls)))

abbrev pub list_error : Command → Option CommandError
list_error (body.Merge c) = parts_error c.parts
list_error (body.AddRecipe c) = recipe_error c.header c.lines
list_error (body.ImportOrders c) = orders_error c.orders
list_error _ = None

-- what is wrong with a list or a recipe goes before a number out of its range
abbrev pub command_error_of : Command → Option CommandError
command_error_of c = first_of (list_error c) (unless (is_well_formed_command c) command_error.Number None)

-- ---- texts

abbrev pub command_error_text : CommandError → List ℕ
command_error_text (command_error.Parts count) = codes "parts has " ++ decimal count ++ codes " items, and a merge takes 1 to 16"
command_error_text (command_error.SamePart first second) = codes "parts " ++ (decimal second ++ (codes ": the sublot of parts " ++ (decimal first ++ codes " once more")))
command_error_text (command_error.Orders count) = codes "orders has " ++ decimal count ++ codes " items, and an import at most 1000"
command_error_text (command_error.Lines count) = codes "lines has " ++ decimal count ++ codes " items, and a recipe 1 to 128"
command_error_text command_error.Sizes = codes "min is above max"
command_error_text command_error.NoPhase = codes "no line is a phase"
command_error_text (command_error.NoProduct product) = codes "no line has the product " ++ product ++ codes " as an output"
command_error_text (command_error.SameLine first second) = codes "lines " ++ (decimal second ++ (codes ": what lines " ++ (decimal first ++ codes " is for, once more")))
command_error_text (command_error.TooMuch number) = codes "lines " ++ decimal number ++ codes ": qty scaled from base to max is above " ++ decimal greatest_amount
command_error_text command_error.Number = codes "a number is out of its range"
