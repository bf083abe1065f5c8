use Rattle.plant_questions.proofs.PutSplitsList.{SplitsAt}
use Rattle.plant_questions.proofs.sorted.place_of.Given as goal

abbrev pub invariant-loop-i : goal.invariant-loop-i
invariant-loop-i g l = SplitsAt g.R.HasKey.order l.row l.rows l.i
