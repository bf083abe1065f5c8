use Rattle.plant_desk_store.proofs.ReplicasAreAtOneState.{replicas_agree, replicas_answer_alike, replicas_reply_alike}
use Rattle.plant_desk_store.proofs.laws.replicas_law.Goals as goal

pub returns-clause-agree : goal.returns-clause-agree
returns-clause-agree g c = replicas_agree g.S.Store g.T.Store

pub returns-clause-replies : goal.returns-clause-replies
returns-clause-replies g c = replicas_reply_alike g.S.Store

pub returns-clause-alike : goal.returns-clause-alike
returns-clause-alike g c = replicas_answer_alike g.S.Store g.T.Store
