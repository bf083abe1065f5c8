-- The phases of a batch.
use Rattle.std.specs.Prelude.{ℕ, List, count_by}
use Rattle.plant_recipe.specs.{is_phase}
use Rattle.plant_questions.specs.declared.question.MeasuredLine.{MeasuredLine}

-- how many phases a control recipe has
abbrev pub phases_in : List MeasuredLine → ℕ
phases_in lines = count_by (λ l. is_phase l.line.line) lines
