use Rattle.std.proofs.Common.{ap}
use Rattle.plant_answers_genealogy.specs.{lots_standing, answer_stands}
use Rattle.plant_answers.specs.{answer}
use Rattle.plant_answers_genealogy.proofs.GoodsAreReached.{standing_sorted, standing_only, standing_all}
use Rattle.plant_answers.proofs.laws.stands_law.Goals as goal

pub returns : goal.returns
unfolding answer
returns c k s start there =
    (lots_standing s start, ap (answer_stands s start) there, standing_sorted s start, λ a. (standing_only s start a, standing_all s start a))
