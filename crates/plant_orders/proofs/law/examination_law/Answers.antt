use Rattle.plant_orders.proofs.ImportAgreesWithExamination.{import_agrees}
use Rattle.plant_orders.proofs.law.examination_law.Goals as goal

pub returns : goal.returns
returns c = import_agrees
