use Rattle.plant_trace.proofs.RecallReaches.{recalled_where_reached, stays_where_unreached, grows_by_new}
use Rattle.plant_trace.proofs.recalls.recall_law.Goals as goal

pub returns : goal.returns
returns c = record { test = recalled_where_reached; stays = stays_where_unreached; grows = grows_by_new }
