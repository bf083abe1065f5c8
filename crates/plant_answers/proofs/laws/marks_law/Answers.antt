use Rattle.plant_view.specs.{edges_of}
use Rattle.plant_view.proofs.MarkChanges.{are_the_pairs}
use Rattle.plant_answers.proofs.laws.marks_law.Goals as goal

pub returns : goal.returns
returns c s = are_the_pairs s.recalls (edges_of s)
