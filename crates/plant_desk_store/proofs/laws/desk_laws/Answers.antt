use Rattle.plant_desk_store.proofs.ValidTablesAreAdopted.{unrefused}
use Rattle.plant_desk_store.proofs.MarksAreReached.{marks_reached}
use Rattle.plant_desk_store.proofs.CrashStatesReopen.{reopened, adopted_again, opening_adopted, foreign_tables_kept}
use Rattle.plant_desk_store.proofs.laws.desk_laws.Goals as goal

pub returns-clause-reopened : goal.returns-clause-reopened
returns-clause-reopened c = reopened

pub returns-clause-unrefused : goal.returns-clause-unrefused
returns-clause-unrefused c = unrefused

pub returns-clause-marks : goal.returns-clause-marks
returns-clause-marks c = marks_reached

pub returns-clause-adopted_again : goal.returns-clause-adopted_again
returns-clause-adopted_again c = adopted_again

pub returns-clause-opening_adopted : goal.returns-clause-opening_adopted
returns-clause-opening_adopted c = opening_adopted

pub returns-clause-foreign_tables_kept : goal.returns-clause-foreign_tables_kept
returns-clause-foreign_tables_kept c = foreign_tables_kept
