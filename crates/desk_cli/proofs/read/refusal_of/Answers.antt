use Rattle.desk_cli.proofs.RefusalKinds.{reported_fault}
use Rattle.desk_cli.proofs.read.refusal_of.Goals as goal

pub returns-in-Ok : goal.returns-in-Ok
returns-in-Ok c = rw (← c.kind-kind.ensures) (reported_fault _ _ _ _ c.fault_as.ensures (λ is. is) (λ is. is))
