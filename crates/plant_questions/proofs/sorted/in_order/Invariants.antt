use Rattle.std.proofs.Common.{◌≡◌, ◌+◌, ◌≤◌, length, vec_len, vec_capacity}
use Rattle.plant_questions.specs.Sorting.{in_order}
use Rattle.plant_questions.proofs.InsertionFromEnd.{put_each}
use Rattle.plant_questions.proofs.sorted.in_order.Given as goal

-- what is left, put into what is sorted, is all in order; and there is room for it
abbrev pub invariant-loop-row : goal.invariant-loop-row
invariant-loop-row g l = record {
  rows : put_each g.R.HasKey.order l.left.items l.sorted.items ≡ in_order g.R.HasKey.order l.fn.rows.items;
  room : length l.left.items + vec_len l.sorted ≤ vec_capacity l.sorted;
}

abbrev pub decreases-loop-row : goal.decreases-loop-row
decreases-loop-row g l = length l.left.items
