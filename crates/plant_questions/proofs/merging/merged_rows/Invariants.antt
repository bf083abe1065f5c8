use Rattle.std.proofs.Common.{◌≡◌, ◌++◌, ◌+◌, true, length}
use Rattle.std.specs.Set.{sorted_merge}
use Rattle.plant_questions.proofs.merging.merged_rows.Given as goal

abbrev pub invariant-loop-row : goal.invariant-loop-row
invariant-loop-row g l = (l.rows.items ++ sorted_merge g.R.HasKeyOrder.order true l.first_left l.second_left) ≡ sorted_merge g.R.HasKeyOrder.order true l.fn.first l.fn.second

abbrev pub decreases-loop-row : goal.decreases-loop-row
decreases-loop-row g l = length l.first_left + length l.second_left
