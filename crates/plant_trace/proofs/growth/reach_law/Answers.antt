use Rattle.plant_trace.proofs.LeadsIsReach.{leads_where_reached}
use Rattle.plant_trace.proofs.growth.reach_law.Goals as goal

pub returns : goal.returns
returns c = leads_where_reached
