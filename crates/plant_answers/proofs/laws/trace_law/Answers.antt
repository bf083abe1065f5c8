use Rattle.std.proofs.Common.{ap}
use Rattle.plant_view.specs.{edges_of}
use Rattle.plant_answers.specs.{answer}
use Rattle.plant_answers_genealogy.specs.{trace_of, answer_trace}
use Rattle.plant_answers_genealogy.proofs.ReachedIsTrace.{trace_lists}
use Rattle.plant_answers.proofs.laws.trace_law.Goals as goal

pub returns : goal.returns
unfolding answer
returns c k s direction start there =
    (trace_of s direction start, ap (answer_trace s direction start) there, trace_lists (edges_of s) direction start)
