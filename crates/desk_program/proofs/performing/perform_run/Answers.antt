use Rattle.std.proofs.Common.{inl, inr}
use Rattle.desk_program.proofs.performing.perform_run.Goals as goal

pub returns-in-Ok-clause-gives : goal.returns-in-Ok-clause-gives
returns-in-Ok-clause-gives g c =
    let session = c.in-Ok.session in
    rw c.close.ensures (inl (session.end, c.outcome_of.ensures, (session.desk.is_shut, c.in-Ok.ensures.ends)))

pub returns-in-Ok-clause-honest : goal.returns-in-Ok-clause-honest
returns-in-Ok-clause-honest g c = rw c.close.ensures c.in-Ok.ensures.honest

pub returns-in-Err-clause-gives : goal.returns-in-Err-clause-gives
returns-in-Err-clause-gives g c = inr (
  (c.in-Err.stopped.fault, c.performed_of.ensures.outcome, rw c.performed_of.ensures.store c.in-Err.ensures.refused),
  c.in-Err.ensures.unread,
  c.in-Err.ensures.write_error,
)

pub returns-in-Err-clause-honest : goal.returns-in-Err-clause-honest
returns-in-Err-clause-honest g c = rw c.performed_of.ensures.store c.in-Err.ensures.honest
