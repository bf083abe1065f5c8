use Rattle.plant_desk_store.proofs.ExecutionsApplyOnce.{executions_are_sendings, executions_apply_once, executions_apply_in_order, stores_apply_once}
use Rattle.plant_desk_store.proofs.laws.resend_law.Goals as goal

pub returns-clause-sendings : goal.returns-clause-sendings
returns-clause-sendings g c = executions_are_sendings

pub returns-clause-once : goal.returns-clause-once
returns-clause-once g c = executions_apply_once

pub returns-clause-in_order : goal.returns-clause-in_order
returns-clause-in_order g c = executions_apply_in_order

pub returns-clause-stores : goal.returns-clause-stores
returns-clause-stores g c = stores_apply_once g.S.Store
