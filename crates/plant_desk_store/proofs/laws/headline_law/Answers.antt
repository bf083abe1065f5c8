use Rattle.plant_desk_store.proofs.HeadlineByInduction.{headline}
use Rattle.plant_desk_store.proofs.RunsAreOutcomes.{runs_are_outcomes}
use Rattle.plant_desk_store.proofs.laws.headline_law.Goals as goal

pub returns-clause-run : goal.returns-clause-run
returns-clause-run g c = headline g.S.Store

pub returns-clause-outcomes : goal.returns-clause-outcomes
returns-clause-outcomes g c = runs_are_outcomes
